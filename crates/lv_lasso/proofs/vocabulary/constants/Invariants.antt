use Rattle.std.proofs.Common.{◌≡◌, ◌++◌, drop}
use Rattle.lv_formula.specs.declared.symbols.Sym.TheVariants.{Own}
use Rattle.lv_system.specs.Vocabularies.{any_symbol, constants_from}
use Rattle.lv_lasso.proofs.vocabulary.constants.Given as goal

abbrev pub invariant-loop-n : goal.invariant-loop-n
invariant-loop-n l = l.all.items ++ constants_from any_symbol Own l.n (drop l.n l.symbols) ≡ constants_from any_symbol Own 0 l.symbols
