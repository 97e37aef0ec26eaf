-- The formula of each label of a system that fits stands in the label's sorts.
use Rattle.std.proofs.Common.{◌≡◌, ℕ, ◌<◌, true, [], ◌∷◌, length, reverse, le_of_lt}
use Rattle.lv_formula.specs.TemporalFits.{temporal_fits_in}
use Rattle.lv_formula.specs.declared.vocabulary.Vocabulary.{Vocabulary}
use Rattle.lv_formula.proofs.Induction.{Each}
use Rattle.lv_system.specs.declared.parts.Parts.{Parts}
use Rattle.lv_system.specs.Vocabularies.{own_vocabulary, witness_vocabulary}
use Rattle.lv_labels.specs.Labels.{keys_of, labels_of}
use Rattle.lv_temporal.specs.TrueLabels.{key_at, no_key, no_witness, witness_at}
use Rattle.lv_temporal.proofs.Fits.{KeyFits, keys_fit, temporal_fits_more}
use Rattle.lv_labels.proofs.Keys.{EachInside}
use Rattle.lv_labels.proofs.Once.{each_at, each_from, each_weaker}
use Rattle.lv_temporal.proofs.Scoped.{IsScoped}
use Rattle.lv_labels.proofs.Table.{AreIn, IsIn, each_in, each_label, inside_in}
use Rattle.lv_temporal.proofs.Vocabularies.{own_extends, witness_extends}

-- the own symbols and all witnesses
abbrev pub all_witnesses : Parts → Vocabulary
all_witnesses p = witness_vocabulary p (length p.witnesses)

module _ (p : Parts) (scoped : IsScoped p) where
  table_fits : Each (KeyFits (all_witnesses p)) (labels_of p)
  table_fits = each_label (KeyFits (all_witnesses p)) p record {
    labels = each_weaker (λ l. temporal_fits_in (own_vocabulary p) (reverse l.params) l.formula ≡ true) (λ l. Each (KeyFits (all_witnesses p)) (keys_of l.formula (reverse l.params)))
        (λ l h. keys_fit (all_witnesses p) l.formula (reverse l.params) (temporal_fits_more (own_vocabulary p) (all_witnesses p) (own_extends p (length p.witnesses)) l.formula (reverse l.params) h)) p.labels scoped.labels;
    witnesses = each_from (λ w. Each (KeyFits (all_witnesses p)) (keys_of w.formula (w.sort ∷ []))) no_witness p.witnesses
        (λ k lt. keys_fit (all_witnesses p) (witness_at p k).formula ((witness_at p k).sort ∷ []) (temporal_fits_more (witness_vocabulary p k) (all_witnesses p) (witness_extends p k (length p.witnesses) (le_of_lt lt)) (witness_at p k).formula ((witness_at p k).sort ∷ []) (scoped.witnesses k lt)));
    property = keys_fit (all_witnesses p) p.property [] (temporal_fits_more (own_vocabulary p) (all_witnesses p) (own_extends p (length p.witnesses)) p.property [] scoped.property);
  }

  -- the formula of a label stands in its sorts over the own symbols and the witnesses
  pub key_stands : (n : ℕ) → n < length (labels_of p) → temporal_fits_in (all_witnesses p) (reverse (key_at p n).sorts) (key_at p n).inner ≡ true
  key_stands = each_at (KeyFits (all_witnesses p)) no_key (labels_of p) table_fits

-- the labels inside the formula of a label are in the table
pub key_inside : (p : Parts) (n : ℕ) → n < length (labels_of p) → AreIn (labels_of p) (reverse (key_at p n).sorts) (key_at p n).inner
key_inside p = each_at (EachInside (IsIn (labels_of p))) no_key (labels_of p) (inside_in p)

-- the labels in the formula of a witness are in the table
pub witness_inside : (p : Parts) (k : ℕ) → k < length p.witnesses → AreIn (labels_of p) ((witness_at p k).sort ∷ []) (witness_at p k).formula
witness_inside p = each_at (λ w. AreIn (labels_of p) (w.sort ∷ []) w.formula) no_witness p.witnesses (each_in p).witnesses

-- the labels in the property are in the table
pub property_inside : (p : Parts) → AreIn (labels_of p) [] p.property
property_inside p = (each_in p).property
