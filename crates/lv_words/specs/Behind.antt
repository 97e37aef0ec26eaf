-- Lists that are read item by item, behind the items that are done: what loops of the code go through.
use Rattle.std.specs.Prelude.{ℕ, leb, List, [], ◌∷◌, ◌++◌, length, reverse, Result, Ok}
use Rattle.lv_tree.specs.declared.tree.Tree.{Tree}
use Rattle.lv_formula.specs.declared.symbols.SortId.{SortId}
use Rattle.lv_formula.specs.declared.terms.Term.{Term}
use Rattle.lv_grammar.specs.Words.{Variable}
use Rattle.lv_grammar.specs.Known.{Known}
use Rattle.lv_grammar.specs.declared.reading.Role.{Role}
use Rattle.lv_fault.specs.declared.fault.Kind.TheVariants.{Missing, TooMany}
use Rattle.lv_fault.specs.declared.fault.SyntaxFault.{SyntaxFault}
use Rattle.lv_fault.specs.Given.{◌>>=◌, fail, fail_if, place_of, next_of, ended}
use Rattle.lv_grammar.specs.ReadFormulas.{term_of_sort}

-- one term of each sort
unfoldable pub terms_behind : Known → Role → List Variable → List Term → List SortId → List Tree → Result (List Term) SyntaxFault
terms_behind d role vs done [] items = Ok done
terms_behind d role vs done (s ∷ ss) [] = Ok done
terms_behind d role vs done (s ∷ ss) (t ∷ ts) = do
  x ← term_of_sort d role vs s t
  terms_behind d role vs (done ++ x ∷ []) ss ts
