-- A small system whose property has two `always` parts with one label, and a lasso run of it that violates the property.
use Rattle.std.specs.Prelude.{ℕ, false, [], ◌∷◌, codes}
use Rattle.lv_formula.specs.declared.symbols.SortId.{SortId}
use Rattle.lv_formula.specs.declared.symbols.Sym.TheVariants.{Label, Own}
use Rattle.lv_formula.specs.declared.terms.Term.TheVariants.{Var}
use Rattle.lv_formula.specs.declared.formula.Formula.{Formula}
use Rattle.lv_formula.specs.declared.formula.Formula.TheVariants as F
use Rattle.lv_formula.specs.declared.temporal.Temporal.{Temporal}
use Rattle.lv_formula.specs.declared.temporal.Temporal.TheVariants as T
use Rattle.lv_system.specs.declared.parts.Parts.{Parts}
use Rattle.lv_system.specs.declared.parts.Shape.TheVariants.{Relation}
use Rattle.lv_system.specs.Lasso.{Stop}
use Rattle.lv_labels.specs.declared.key.Key.{Key}

abbrev pub node : SortId
node = record { 0 = 0 }

-- the temporal formula: variable i is linked to variable j
abbrev pub link : ℕ → ℕ → Temporal
link i j = T.Atom (Own 0) (Var i ∷ Var j ∷ [])

-- (system links (sort node) (relation link (node node)) (action idle () (guard true))
--   (property (all X node (all Y node (or (always (link X Y)) (always (link Y X)))))))
abbrev pub links : Parts
links = record {
  name = codes "links";
  sorts = record { name = codes "node"; finite = false } ∷ [];
  symbols = record { name = codes "link"; shape = Relation (node ∷ node ∷ []); fixed = false } ∷ [];
  axioms = [];
  inits = [];
  actions = record { name = codes "idle"; params = []; guard = F.True; updates = [] } ∷ [];
  fairs = [];
  labels = [];
  witnesses = [];
  property = T.All node (T.All node (T.Or (T.Always (link 1 0) ∷ T.Always (link 0 1) ∷ [])));
  invariants = [];
}

-- the label of both parts
abbrev pub link_label : Key
link_label = record { sorts = node ∷ node ∷ []; inner = link 1 0 }

abbrev pub link_atom : ℕ → ℕ → Formula
link_atom i j = F.Atom (Label 0) (Var i ∷ Var j ∷ [])

-- two nodes without a link, left as they are
abbrev pub without_links : Stop
without_links = record { state = record { size = λ s. 2; holds = λ r tuple. false; value = λ c. 0 }; action = 0; elements = [] }
