-- Of which tree a lasso is read, that tree spells it.
use Rattle.std.proofs.Common.{◌≡◌, true, Ok, arith}
use Rattle.lv_tree.specs.declared.tree.Tree.{Tree}
use Rattle.lv_system.specs.declared.parts.Parts.{Parts}
use Rattle.lv_system.specs.Fits.{fits_parts}
use Rattle.lv_system.specs.Vocabularies.{own_vocabulary}
use Rattle.lv_replay.specs.declared.lasso.Lasso.{Lasso}
use Rattle.lv_lasso.specs.Lassos.{SpellsLasso}
use Rattle.lv_lasso.specs.Reading.{lasso_in}
use Rattle.lv_lasso.proofs.OwnWords.{own_sound}
use Rattle.lv_lasso.proofs.StepsFound.{lasso_found}
use Rattle.lv_spelled.proofs.Read.{read_is_spelled}

pub read_lasso_is_spelled : (p : Parts) (t : Tree) (l : Lasso) → fits_parts p ≡ true → lasso_in p t ≡ Ok l → SpellsLasso p t l
read_lasso_is_spelled p t l fits e =
    let found = lasso_found p t l e in
    let start = read_is_spelled p (own_vocabulary p) found.structure l.start (own_sound p fits) found.start in
    let stem = found.stem.few in
    let turn = found.turn.few in
    record {
      written = record {
        h = found.h;
        structure = found.structure;
        before = found.before;
        round = found.round;
        list = found.list;
        head = found.head;
        start = start.written;
        stem = found.stem;
        turn = found.turn;
      };
      sound = start.sound;
      fits = record {
        vocabulary = start.vocabulary;
        stem = found.stem_fits;
        turn = found.turn_fits;
        loops = found.loops;
        few = omega (arith, stem, turn);
      };
    }
