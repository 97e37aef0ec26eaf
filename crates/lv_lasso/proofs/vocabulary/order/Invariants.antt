use Rattle.std.proofs.Common.{◌≡◌, ◌++◌, drop}
use Rattle.lv_formula.specs.declared.symbols.Sym.TheVariants.{Own}
use Rattle.lv_system.specs.Vocabularies.{any_symbol, names_from}
use Rattle.lv_lasso.proofs.vocabulary.order.Given as goal

abbrev pub invariant-loop-n : goal.invariant-loop-n
invariant-loop-n l = l.all.items ++ names_from any_symbol Own l.n (drop l.n l.symbols) ≡ names_from any_symbol Own 0 l.symbols
