-- The vocabularies of the monitored structure: after the start, and during a step.
use Rattle.std.specs.Prelude.{ℕ, suc, List, [], ◌∷◌, ◌++◌, length}
use Rattle.lv_formula.specs.declared.symbols.SortId.{SortId}
use Rattle.lv_formula.specs.declared.symbols.Sym.{Sym}
use Rattle.lv_formula.specs.declared.symbols.Sym.TheVariants.{Frozen, Saved, Touched, Kept, Due, Copy, CopyLabel, Next, Param}
use Rattle.lv_formula.specs.declared.vocabulary.RelShape.{RelShape}
use Rattle.lv_formula.specs.declared.vocabulary.ConShape.{ConShape}
use Rattle.lv_formula.specs.declared.vocabulary.Vocabulary.{Vocabulary}
use Rattle.lv_system.specs.declared.parts.Action.{Action}
use Rattle.lv_system.specs.InvariantWords.{is_changing, sets_from}
use Rattle.lv_system.specs.Vocabularies.{constants_from, names_from, relations_from}
use Rattle.lv_labels.specs.Problem.{Problem, names_for, shapes_from, state_vocabulary}

abbrev pub params_from : ℕ → List SortId → List ConShape
params_from n [] = []
params_from n (s ∷ ss) = record { sym = Param n; sort = s } ∷ params_from (suc n) ss

-- a relation without arguments
abbrev pub mark : Sym → RelShape
mark sym = record { sym = sym; sorts = [] }

-- own symbols, witnesses and labels; the marks; the touched and the kept elements of each sort; what is due of each justice
-- condition; a copy of each changing symbol and of each label
abbrev pub catch_vocabulary : Problem → Vocabulary
catch_vocabulary q = record {
  sorts = length q.parts.sorts;
  relations = (state_vocabulary q).relations
      ++ ((mark Frozen ∷ mark Saved ∷ [])
      ++ (sets_from Touched 0 q.parts.sorts
      ++ (sets_from Kept 0 q.parts.sorts
      ++ (shapes_from Due 0 q.justice
      ++ (relations_from is_changing Copy 0 q.parts.symbols
      ++ shapes_from CopyLabel 0 q.labels)))));
  constants = (state_vocabulary q).constants ++ constants_from is_changing Copy 0 q.parts.symbols;
  order = (state_vocabulary q).order
      ++ ((Frozen ∷ Saved ∷ [])
      ++ (names_for (λ n. Touched (record { 0 = n })) 0 q.parts.sorts
      ++ (names_for (λ n. Kept (record { 0 = n })) 0 q.parts.sorts
      ++ (names_for Due 0 q.justice
      ++ (names_from is_changing Copy 0 q.parts.symbols
      ++ names_for CopyLabel 0 q.labels)))));
}

-- the same, with the action's parameters and the next value of each label
abbrev pub step_vocabulary : Problem → Action → Vocabulary
step_vocabulary q a = record {
  sorts = length q.parts.sorts;
  relations = (catch_vocabulary q).relations ++ shapes_from Next 0 q.labels;
  constants = (catch_vocabulary q).constants ++ params_from 0 a.params;
  order = (catch_vocabulary q).order ++ (names_for Param 0 a.params ++ names_for Next 0 q.labels);
}
