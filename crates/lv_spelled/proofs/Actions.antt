-- The name of each action stands for that action alone.
use Rattle.std.proofs.Common.{◌≡◌, ℕ, zero, suc, ◌+◌, ◌<◌, ◌≤◌, Bool, true, false, cond, eqb, List, [], ◌∷◌, get_or, length, map, Some, Ok, sym, ap, ◌∙◌, arith}
use Rattle.std.proofs.lemmas.Bool.{and_parts, eqb-true}
use Rattle.lv_system.specs.declared.parts.Action.{Action}
use Rattle.lv_system.specs.declared.parts.Parts.{Parts}
use Rattle.lv_system.specs.Names.{are_names, each_stands_once, names_fit, names_of, occurrences, same_text}
use Rattle.lv_system.specs.Step.{action_at, no_action}
use Rattle.lv_system.proofs.NameLaws.{occurrences_summed, once_parted}
use Rattle.lv_grammar.proofs.SameTexts.{same_self}
use Rattle.lv_lasso.specs.Reading.{action_in, action_named}

abbrev names : List Action → List (List ℕ)
names actions = map (λ a. a.name) actions

abbrev name_at : List Action → ℕ → List ℕ
name_at actions k = (get_or actions k no_action).name

abbrev one_where : Bool → ℕ
one_where b = cond b 1 0

occurs : (actions : List Action) (k : ℕ) → k < length actions → 1 ≤ occurrences (name_at actions k) (names actions)
occurs [] k there = absurd (omega (arith, there))
occurs (a ∷ rest) zero there = here (same_text a.name a.name) (same_self a.name)
  where
    here : (b : Bool) → b ≡ true → 1 ≤ one_where b + occurrences a.name (names rest)
    here true is = omega arith
    here false is = absurd cc
occurs (a ∷ rest) (suc k) there = let later = occurs rest k (omega (arith, there)) in omega (arith, later)

once_at : (all : List (List ℕ)) (actions : List Action) → each_stands_once (names actions) all ≡ true → (k : ℕ) → k < length actions → occurrences (name_at actions k) all ≡ 1
once_at all [] once k there = absurd (omega (arith, there))
once_at all (a ∷ rest) once zero there = eqb-true (occurrences a.name all) 1 (and_parts (eqb (occurrences a.name all) 1) (each_stands_once (names rest) all) once).0
once_at all (a ∷ rest) once (suc k) there = once_at all rest (and_parts (eqb (occurrences a.name all) 1) (each_stands_once (names rest) all) once).1 k (omega (arith, there))

-- the first action with the name is the one, where no other has it
first_named : (n : ℕ) (actions : List Action) (k : ℕ) → k < length actions → occurrences (name_at actions k) (names actions) ≤ 1 → action_named n actions (name_at actions k) ≡ Some (n + k)
first_named n [] k there once = absurd (omega (arith, there))
first_named n (a ∷ rest) zero there once = rw (same_self a.name) (ap Some (omega arith))
first_named n (a ∷ rest) (suc k) there once =
    go (same_text a.name (name_at rest k)) once (occurs rest k (omega (arith, there))) (first_named (suc n) rest k (omega (arith, there)))
  where
    go : (b : Bool) → one_where b + occurrences (name_at rest k) (names rest) ≤ 1 → 1 ≤ occurrences (name_at rest k) (names rest)
        → (occurrences (name_at rest k) (names rest) ≤ 1 → action_named (suc n) rest (name_at rest k) ≡ Some (suc n + k))
        → cond b (Some n) (action_named (suc n) rest (name_at rest k)) ≡ Some (n + suc k)
    go true few some ih = absurd (omega (arith, few, some))
    go false few some ih = ih (omega (arith, few)) ∙ ap Some (omega arith)

module _ (p : Parts) (fit : names_fit p ≡ true) where
  action_once : (k : ℕ) → k < length p.actions → occurrences (action_at p k).name (names p.actions) ≤ 1
  action_once k there =
      let all = sym (once_parted p (names_of p)) ∙ (and_parts (are_names (names_of p)) (each_stands_once (names_of p) (names_of p)) fit).1 in
      let a = and_parts (eqb (occurrences p.name (names_of p)) 1) _ all in
      let b = and_parts (each_stands_once (map (λ s. s.name) p.sorts) (names_of p)) _ a.1 in
      let c = and_parts (each_stands_once (map (λ s. s.name) p.symbols) (names_of p)) _ b.1 in
      let d = and_parts (each_stands_once (names p.actions) (names_of p)) _ c.1 in
      let one = once_at (names_of p) p.actions d.0 k there in
      let total = occurrences_summed p (action_at p k).name in
      omega (arith, one, total)

  -- the word is read as the action that it names
  pub action_again : (k : ℕ) → k < length p.actions → (at : ℕ) → action_in p (record { at = at; text = (action_at p k).name }) ≡ Ok k
  action_again k there at = rw (first_named 0 p.actions k there (action_once k there)) (ap Ok (omega arith))
