-- When two structures as functions are equal.
use Rattle.std.proofs.Common.{◌≡◌, ℕ, List}
use Rattle.lv_formula.specs.declared.symbols.SortId.{SortId}
use Rattle.lv_formula.specs.declared.symbols.Sym.{Sym}
use Rattle.lv_formula.specs.Meaning.{Meaning}

-- Functions that agree everywhere are one meaning.
pub same_meaning : (m n : Meaning) → ((s : SortId) → m.size s ≡ n.size s) → ((r : Sym) (tuple : List ℕ) → m.holds r tuple ≡ n.holds r tuple) → ((c : Sym) → m.value c ≡ n.value c) → m ≡ n
same_meaning m n sizes holds values = λ i. record { size = λ s. sizes s i; holds = λ r tuple. holds r tuple i; value = λ c. values c i }
