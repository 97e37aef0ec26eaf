use Rattle.std.proofs.Common.{rules, sym, subst}
use Rattle.lv_formula.specs.Vocabulary.{IsSound}
use Rattle.lv_lasso.proofs.OwnWords.{own_sound}
use Rattle.lv_lasso.proofs.vocabulary.own_vocabulary.Goals as goal

pub returns-clause-value : goal.returns-clause-value
returns-clause-value c = search rules

pub returns-clause-sound : goal.returns-clause-sound
returns-clause-sound c = subst IsSound (sym (returns-clause-value c)) (own_sound c.args.system.now c.parts-parts.ensures.fitting)
