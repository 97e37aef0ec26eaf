-- The names of a system, item by item.
use Rattle.std.proofs.Common.{◌≡◌, ℕ, ◌+◌, Bool, true, false, ◌&&◌, eqb, cond, ◌^◌, ◌-◌, List, [], ◌∷◌, ◌++◌, map, refl, sym, ◌∙◌, arith}
use Rattle.lv_system.specs.declared.parts.Parts.{Parts}
use Rattle.lv_system.specs.Names.{same_text, is_name, are_names, occurrences, each_stands_once, names_of}

and_assoc : (a b c : Bool) → ((a && b) && c) ≡ (a && (b && c))
and_assoc true b c = refl
and_assoc false b c = refl

are_names_both : (xs ys : List (List ℕ)) → are_names (xs ++ ys) ≡ (are_names xs && are_names ys)
are_names_both [] ys = refl
are_names_both (x ∷ xs) ys = rw (are_names_both xs ys) (sym (and_assoc (is_name x) (are_names xs) (are_names ys)))

occurrences_both : (name : List ℕ) (xs ys : List (List ℕ)) → occurrences name (xs ++ ys) ≡ occurrences name xs + occurrences name ys
occurrences_both name [] ys = omega arith
occurrences_both name (x ∷ xs) ys = let rest = occurrences_both name xs ys in omega (arith, rest)

once_both : (xs ys all : List (List ℕ)) → each_stands_once (xs ++ ys) all ≡ (each_stands_once xs all && each_stands_once ys all)
once_both [] ys all = refl
once_both (x ∷ xs) ys all = rw (once_both xs ys all) (sym (and_assoc (eqb (occurrences x all) 1) (each_stands_once xs all) (each_stands_once ys all)))

module _ (p : Parts) where
  abbrev sorts : List (List ℕ)
  sorts = map (λ s. s.name) p.sorts

  abbrev symbols : List (List ℕ)
  symbols = map (λ s. s.name) p.symbols

  abbrev actions : List (List ℕ)
  actions = map (λ a. a.name) p.actions

  abbrev fairs : List (List ℕ)
  fairs = map (λ c. c.name) p.fairs

  abbrev labels : List (List ℕ)
  labels = map (λ l. l.name) p.labels

  abbrev witnesses : List (List ℕ)
  witnesses = map (λ w. w.name) p.witnesses

  abbrev invariants : List (List ℕ)
  invariants = map (λ i. i.name) p.invariants

  pub names_parted : are_names (names_of p) ≡ (is_name p.name && (are_names sorts && (are_names symbols && (are_names actions && (are_names fairs
      && (are_names labels && (are_names witnesses && are_names invariants)))))))
  unfolding names_of
  names_parted = rw (are_names_both sorts _, are_names_both symbols _, are_names_both actions _, are_names_both fairs _, are_names_both labels _, are_names_both witnesses invariants) refl

  pub once_parted : (all : List (List ℕ)) → each_stands_once (names_of p) all ≡ (eqb (occurrences p.name all) 1 && (each_stands_once sorts all && (each_stands_once symbols all && (each_stands_once actions all
      && (each_stands_once fairs all && (each_stands_once labels all && (each_stands_once witnesses all && each_stands_once invariants all)))))))
  unfolding names_of
  once_parted all = rw (once_both sorts _ all, once_both symbols _ all, once_both actions _ all, once_both fairs _ all, once_both labels _ all, once_both witnesses invariants all) refl

  pub occurrences_summed : (name : List ℕ) → occurrences name (names_of p) ≡ cond (same_text p.name name) 1 0 + (occurrences name sorts + (occurrences name symbols + (occurrences name actions
      + (occurrences name fairs + (occurrences name labels + (occurrences name witnesses + occurrences name invariants))))))
  unfolding names_of
  occurrences_summed name = rw (occurrences_both name sorts _, occurrences_both name symbols _, occurrences_both name actions _, occurrences_both name fairs _, occurrences_both name labels _, occurrences_both name witnesses invariants) refl
