-- What words say over what is known, and a vocabulary.
use Rattle.std.specs.Prelude.{◌≡◌, ℕ, true, ltb, List, Some}
use Rattle.lv_tree.specs.declared.tree.Tree.{Tree}
use Rattle.lv_formula.specs.declared.symbols.SortId.{SortId}
use Rattle.lv_formula.specs.declared.symbols.Sym.{Sym}
use Rattle.lv_formula.specs.declared.vocabulary.Vocabulary.{Vocabulary}
use Rattle.lv_formula.specs.Vocabulary.{relation_in, constant_in}
use Rattle.lv_grammar.specs.declared.reading.Role.{Role}
use Rattle.lv_grammar.specs.Known.{Known, Relation, Constant, Says, IsSortName}

-- what words say is of the vocabulary
pub record Agrees (k : Known) (role : Role) (voc : Vocabulary) : Type 0 where
  pub relation : (text : List ℕ) (sym : Sym) (sorts : List SortId) → Says k role text (Relation sym sorts) → relation_in voc.relations sym ≡ Some sorts
  pub constant : (text : List ℕ) (sym : Sym) (sort : SortId) → Says k role text (Constant sym sort) → constant_in voc.constants sym ≡ Some sort
  pub sort : (s : SortId) (t : Tree) → IsSortName k s t → ltb s.0 voc.sorts ≡ true
