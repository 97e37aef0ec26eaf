-- The table of a system has each label, and the labels inside the labels' own formulas.
use Rattle.std.proofs.Common.{◌≡◌, ◌<◌, true, List, [], ◌∷◌, ◌++◌, length, get_or, reverse}
use Rattle.lv_formula.specs.declared.symbols.SortId.{SortId}
use Rattle.lv_formula.specs.declared.temporal.Temporal.{Temporal}
use Rattle.lv_formula.proofs.Induction.{Each}
use Rattle.lv_system.specs.declared.parts.Parts.{Parts}
use Rattle.lv_system.specs.declared.parts.LabelDecl.{LabelDecl}
use Rattle.lv_system.specs.declared.parts.WitnessDecl.{WitnessDecl}
use Rattle.lv_labels.specs.Once.{is_among}
use Rattle.lv_labels.specs.declared.key.Key.{Key}
use Rattle.lv_labels.specs.Labels.{key_eq, keys_of, keys_of_labels, keys_of_witnesses, labels_of, number_of, no_key}
use Rattle.lv_labels.proofs.Once.{each_first, each_second, each_both, each_weaker, each_kept, once_has, placed}
use Rattle.lv_labels.proofs.Keys.{EachInside, each_inside}
use Rattle.lv_labels.proofs.Sameness.{key_decides}

-- the table has the label at its number
abbrev pub IsIn : List Key → Key → Type 0
IsIn table key = (number_of table key < length table) × (get_or table (number_of table key) no_key ≡ key)

-- each label in the formula is in the table
abbrev pub AreIn : List Key → List SortId → Temporal → Type 0
AreIn table context f = Each (IsIn table) (keys_of f context)

module _ (P : Key → Type 0) where
  -- what holds of the labels in each declaration, each witness formula and the property
  pub record EachPart (p : Parts) : Type 0 where
    pub labels : Each (λ l. Each P (keys_of l.formula (reverse l.params))) p.labels
    pub witnesses : Each (λ w. Each P (keys_of w.formula (w.sort ∷ []))) p.witnesses
    pub property : Each P (keys_of p.property [])

  from_labels : (ls : List LabelDecl) → Each P (keys_of_labels ls) → Each (λ l. Each P (keys_of l.formula (reverse l.params))) ls
  from_labels [] h = tt
  from_labels (l ∷ ls) h = (each_first P (keys_of l.formula (reverse l.params)) (keys_of_labels ls) h, from_labels ls (each_second P (keys_of l.formula (reverse l.params)) (keys_of_labels ls) h))

  to_labels : (ls : List LabelDecl) → Each (λ l. Each P (keys_of l.formula (reverse l.params))) ls → Each P (keys_of_labels ls)
  to_labels [] h = tt
  to_labels (l ∷ ls) h = each_both P (keys_of l.formula (reverse l.params)) (keys_of_labels ls) h.0 (to_labels ls h.1)

  from_witnesses : (ws : List WitnessDecl) → Each P (keys_of_witnesses ws) → Each (λ w. Each P (keys_of w.formula (w.sort ∷ []))) ws
  from_witnesses [] h = tt
  from_witnesses (w ∷ ws) h = (each_first P (keys_of w.formula (w.sort ∷ [])) (keys_of_witnesses ws) h, from_witnesses ws (each_second P (keys_of w.formula (w.sort ∷ [])) (keys_of_witnesses ws) h))

  to_witnesses : (ws : List WitnessDecl) → Each (λ w. Each P (keys_of w.formula (w.sort ∷ []))) ws → Each P (keys_of_witnesses ws)
  to_witnesses [] h = tt
  to_witnesses (w ∷ ws) h = each_both P (keys_of w.formula (w.sort ∷ [])) (keys_of_witnesses ws) h.0 (to_witnesses ws h.1)

  parts_from : (p : Parts) → Each P (keys_of_labels p.labels ++ (keys_of_witnesses p.witnesses ++ keys_of p.property [])) → EachPart p
  parts_from p h =
      let rest : Each P (keys_of_witnesses p.witnesses ++ keys_of p.property []) = each_second P (keys_of_labels p.labels) (keys_of_witnesses p.witnesses ++ keys_of p.property []) h in record {
        labels = from_labels p.labels (each_first P (keys_of_labels p.labels) (keys_of_witnesses p.witnesses ++ keys_of p.property []) h);
        witnesses = from_witnesses p.witnesses (each_first P (keys_of_witnesses p.witnesses) (keys_of p.property []) rest);
        property = each_second P (keys_of_witnesses p.witnesses) (keys_of p.property []) rest;
      }

  -- what holds of the labels of each part holds of each label of the table
  pub each_label : (p : Parts) → EachPart p → Each P (labels_of p)
  each_label p h = each_kept key_eq P (keys_of_labels p.labels ++ (keys_of_witnesses p.witnesses ++ keys_of p.property []))
      (each_both P (keys_of_labels p.labels) (keys_of_witnesses p.witnesses ++ keys_of p.property []) (to_labels p.labels h.labels)
      (each_both P (keys_of_witnesses p.witnesses) (keys_of p.property []) (to_witnesses p.witnesses h.witnesses) h.property))

-- each label of each part is in the table
pub each_in : (p : Parts) → EachPart (IsIn (labels_of p)) p
each_in p = parts_from (IsIn (labels_of p)) p (each_weaker (λ k. is_among key_eq k (labels_of p) ≡ true) (IsIn (labels_of p)) (λ k h. placed key_eq key_decides no_key k (labels_of p) h)
    (keys_of_labels p.labels ++ (keys_of_witnesses p.witnesses ++ keys_of p.property [])) (once_has key_eq key_decides (keys_of_labels p.labels ++ (keys_of_witnesses p.witnesses ++ keys_of p.property []))))

-- the labels inside the own formula of each label of the table are in the table too
pub inside_in : (p : Parts) → Each (EachInside (IsIn (labels_of p))) (labels_of p)
inside_in p =
    let parts : EachPart (IsIn (labels_of p)) p = each_in p in
    each_label (EachInside (IsIn (labels_of p))) p record {
      labels = each_weaker (λ l. AreIn (labels_of p) (reverse l.params) l.formula) (λ l. Each (EachInside (IsIn (labels_of p))) (keys_of l.formula (reverse l.params))) (λ l h. each_inside (IsIn (labels_of p)) l.formula (reverse l.params) h) p.labels parts.labels;
      witnesses = each_weaker (λ w. AreIn (labels_of p) (w.sort ∷ []) w.formula) (λ w. Each (EachInside (IsIn (labels_of p))) (keys_of w.formula (w.sort ∷ []))) (λ w h. each_inside (IsIn (labels_of p)) w.formula (w.sort ∷ []) h) p.witnesses parts.witnesses;
      property = each_inside (IsIn (labels_of p)) p.property [] parts.property;
    }
