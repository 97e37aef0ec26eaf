-- What labels and readings are, constructor by constructor.
use Rattle.std.proofs.Common.{◌≡◌, List, [], ◌∷◌, ◌++◌, map, ap}
use Rattle.lv_formula.specs.declared.symbols.SortId.{SortId}
use Rattle.lv_formula.specs.declared.symbols.Sym.{Sym}
use Rattle.lv_formula.specs.declared.terms.Term.{Term}
use Rattle.lv_formula.specs.declared.formula.Formula.TheVariants as F
use Rattle.lv_formula.specs.declared.temporal.Temporal.{Temporal}
use Rattle.lv_formula.specs.declared.temporal.Temporal.TheVariants as T
use Rattle.lv_formula.specs.declared.temporal.Temporal.TheFolds.{fold-Temporal}
use Rattle.lv_formula.proofs.TemporalFolds.{fold-True, fold-False, fold-Atom, fold-Same, fold-Not, fold-And, fold-Or, fold-Implies, fold-Iff, fold-All, fold-Any, fold-Always, fold-Eventually}
use Rattle.lv_labels.specs.declared.key.Key.{Key}
use Rattle.lv_labels.specs.Labels.{Labelled, Reading, key_of, keys_each, keys_of, label_atom, labelled, labelled_step, plain, plain_each, read_each, reading, reading_step, whole_each}

pub plain-True : plain T.True ≡ T.True
plain-True = ap (λ r. r.plain) (fold-True Labelled labelled_step)

pub plain-False : plain T.False ≡ T.False
plain-False = ap (λ r. r.plain) (fold-False Labelled labelled_step)

pub plain-Atom : (s : Sym) (ts : List Term) → plain (T.Atom s ts) ≡ T.Atom s ts
plain-Atom s ts = ap (λ r. r.plain) (fold-Atom Labelled labelled_step s ts)

pub plain-Same : (a b : Term) → plain (T.Same a b) ≡ T.Same a b
plain-Same a b = ap (λ r. r.plain) (fold-Same Labelled labelled_step a b)

pub plain-Not : (f : Temporal) → plain (T.Not f) ≡ T.Not (plain f)
plain-Not f = ap (λ r. r.plain) (fold-Not Labelled labelled_step f)

pub plain-And : (fs : List Temporal) → plain (T.And fs) ≡ T.And (plain_each (map labelled fs))
plain-And fs = ap (λ r. r.plain) (fold-And Labelled labelled_step fs)

pub plain-Or : (fs : List Temporal) → plain (T.Or fs) ≡ T.Or (plain_each (map labelled fs))
plain-Or fs = ap (λ r. r.plain) (fold-Or Labelled labelled_step fs)

pub plain-Implies : (f g : Temporal) → plain (T.Implies f g) ≡ T.Implies (plain f) (plain g)
plain-Implies f g = ap (λ r. r.plain) (fold-Implies Labelled labelled_step f g)

pub plain-Iff : (f g : Temporal) → plain (T.Iff f g) ≡ T.Iff (plain f) (plain g)
plain-Iff f g = ap (λ r. r.plain) (fold-Iff Labelled labelled_step f g)

pub plain-All : (s : SortId) (f : Temporal) → plain (T.All s f) ≡ T.All s (plain f)
plain-All s f = ap (λ r. r.plain) (fold-All Labelled labelled_step s f)

pub plain-Any : (s : SortId) (f : Temporal) → plain (T.Any s f) ≡ T.Any s (plain f)
plain-Any s f = ap (λ r. r.plain) (fold-Any Labelled labelled_step s f)

pub plain-Always : (f : Temporal) → plain (T.Always f) ≡ T.Always (plain f)
plain-Always f = ap (λ r. r.plain) (fold-Always Labelled labelled_step f)

pub plain-Eventually : (f : Temporal) → plain (T.Eventually f) ≡ T.Not (T.Always (T.Not (plain f)))
plain-Eventually f = ap (λ r. r.plain) (fold-Eventually Labelled labelled_step f)

pub ruleset plains = (plain-True, plain-False, plain-Atom, plain-Same, plain-Not, plain-And, plain-Or, plain-Implies, plain-Iff, plain-All, plain-Any, plain-Always, plain-Eventually)

pub keys-True : (c : List SortId) → keys_of T.True c ≡ []
keys-True c = ap (λ r. r.keys c) (fold-True Labelled labelled_step)

pub keys-False : (c : List SortId) → keys_of T.False c ≡ []
keys-False c = ap (λ r. r.keys c) (fold-False Labelled labelled_step)

pub keys-Atom : (s : Sym) (ts : List Term) (c : List SortId) → keys_of (T.Atom s ts) c ≡ []
keys-Atom s ts c = ap (λ r. r.keys c) (fold-Atom Labelled labelled_step s ts)

pub keys-Same : (a b : Term) (c : List SortId) → keys_of (T.Same a b) c ≡ []
keys-Same a b c = ap (λ r. r.keys c) (fold-Same Labelled labelled_step a b)

pub keys-Not : (f : Temporal) (c : List SortId) → keys_of (T.Not f) c ≡ keys_of f c
keys-Not f c = ap (λ r. r.keys c) (fold-Not Labelled labelled_step f)

pub keys-And : (fs : List Temporal) (c : List SortId) → keys_of (T.And fs) c ≡ keys_each (map labelled fs) c
keys-And fs c = ap (λ r. r.keys c) (fold-And Labelled labelled_step fs)

pub keys-Or : (fs : List Temporal) (c : List SortId) → keys_of (T.Or fs) c ≡ keys_each (map labelled fs) c
keys-Or fs c = ap (λ r. r.keys c) (fold-Or Labelled labelled_step fs)

pub keys-Implies : (f g : Temporal) (c : List SortId) → keys_of (T.Implies f g) c ≡ keys_of f c ++ keys_of g c
keys-Implies f g c = ap (λ r. r.keys c) (fold-Implies Labelled labelled_step f g)

pub keys-Iff : (f g : Temporal) (c : List SortId) → keys_of (T.Iff f g) c ≡ keys_of f c ++ keys_of g c
keys-Iff f g c = ap (λ r. r.keys c) (fold-Iff Labelled labelled_step f g)

pub keys-All : (s : SortId) (f : Temporal) (c : List SortId) → keys_of (T.All s f) c ≡ keys_of f (s ∷ c)
keys-All s f c = ap (λ r. r.keys c) (fold-All Labelled labelled_step s f)

pub keys-Any : (s : SortId) (f : Temporal) (c : List SortId) → keys_of (T.Any s f) c ≡ keys_of f (s ∷ c)
keys-Any s f c = ap (λ r. r.keys c) (fold-Any Labelled labelled_step s f)

pub keys-Always : (f : Temporal) (c : List SortId) → keys_of (T.Always f) c ≡ key_of c (plain f) ∷ keys_of f c
keys-Always f c = ap (λ r. r.keys c) (fold-Always Labelled labelled_step f)

pub keys-Eventually : (f : Temporal) (c : List SortId) → keys_of (T.Eventually f) c ≡ key_of c (T.Not (plain f)) ∷ keys_of f c
keys-Eventually f c = ap (λ r. r.keys c) (fold-Eventually Labelled labelled_step f)

pub ruleset keys = (keys-True, keys-False, keys-Atom, keys-Same, keys-Not, keys-And, keys-Or, keys-Implies, keys-Iff, keys-All, keys-Any, keys-Always, keys-Eventually)

abbrev pub read_with : List Key → Temporal → Reading
read_with table = fold-Temporal Reading (reading_step table)

-- the formula without `eventually` that goes along with a reading
abbrev pub whole : List Key → Temporal → Temporal
whole table f = (read_with table f).whole

module _ (table : List Key) where
  pub whole-True : whole table T.True ≡ T.True
  whole-True = ap (λ r. r.whole) (fold-True Reading (reading_step table))

  pub whole-False : whole table T.False ≡ T.False
  whole-False = ap (λ r. r.whole) (fold-False Reading (reading_step table))

  pub whole-Atom : (s : Sym) (ts : List Term) → whole table (T.Atom s ts) ≡ T.Atom s ts
  whole-Atom s ts = ap (λ r. r.whole) (fold-Atom Reading (reading_step table) s ts)

  pub whole-Same : (a b : Term) → whole table (T.Same a b) ≡ T.Same a b
  whole-Same a b = ap (λ r. r.whole) (fold-Same Reading (reading_step table) a b)

  pub whole-Not : (f : Temporal) → whole table (T.Not f) ≡ T.Not (whole table f)
  whole-Not f = ap (λ r. r.whole) (fold-Not Reading (reading_step table) f)

  pub whole-And : (fs : List Temporal) → whole table (T.And fs) ≡ T.And (whole_each (map (read_with table) fs))
  whole-And fs = ap (λ r. r.whole) (fold-And Reading (reading_step table) fs)

  pub whole-Or : (fs : List Temporal) → whole table (T.Or fs) ≡ T.Or (whole_each (map (read_with table) fs))
  whole-Or fs = ap (λ r. r.whole) (fold-Or Reading (reading_step table) fs)

  pub whole-Implies : (f g : Temporal) → whole table (T.Implies f g) ≡ T.Implies (whole table f) (whole table g)
  whole-Implies f g = ap (λ r. r.whole) (fold-Implies Reading (reading_step table) f g)

  pub whole-Iff : (f g : Temporal) → whole table (T.Iff f g) ≡ T.Iff (whole table f) (whole table g)
  whole-Iff f g = ap (λ r. r.whole) (fold-Iff Reading (reading_step table) f g)

  pub whole-All : (s : SortId) (f : Temporal) → whole table (T.All s f) ≡ T.All s (whole table f)
  whole-All s f = ap (λ r. r.whole) (fold-All Reading (reading_step table) s f)

  pub whole-Any : (s : SortId) (f : Temporal) → whole table (T.Any s f) ≡ T.Any s (whole table f)
  whole-Any s f = ap (λ r. r.whole) (fold-Any Reading (reading_step table) s f)

  pub whole-Always : (f : Temporal) → whole table (T.Always f) ≡ T.Always (whole table f)
  whole-Always f = ap (λ r. r.whole) (fold-Always Reading (reading_step table) f)

  pub whole-Eventually : (f : Temporal) → whole table (T.Eventually f) ≡ T.Not (T.Always (T.Not (whole table f)))
  whole-Eventually f = ap (λ r. r.whole) (fold-Eventually Reading (reading_step table) f)

  pub read-True : (c : List SortId) → reading table c T.True ≡ F.True
  read-True c = ap (λ r. r.read c) (fold-True Reading (reading_step table))

  pub read-False : (c : List SortId) → reading table c T.False ≡ F.False
  read-False c = ap (λ r. r.read c) (fold-False Reading (reading_step table))

  pub read-Atom : (s : Sym) (ts : List Term) (c : List SortId) → reading table c (T.Atom s ts) ≡ F.Atom s ts
  read-Atom s ts c = ap (λ r. r.read c) (fold-Atom Reading (reading_step table) s ts)

  pub read-Same : (a b : Term) (c : List SortId) → reading table c (T.Same a b) ≡ F.Same a b
  read-Same a b c = ap (λ r. r.read c) (fold-Same Reading (reading_step table) a b)

  pub read-Not : (f : Temporal) (c : List SortId) → reading table c (T.Not f) ≡ F.Not (reading table c f)
  read-Not f c = ap (λ r. r.read c) (fold-Not Reading (reading_step table) f)

  pub read-And : (fs : List Temporal) (c : List SortId) → reading table c (T.And fs) ≡ F.And (read_each (map (read_with table) fs) c)
  read-And fs c = ap (λ r. r.read c) (fold-And Reading (reading_step table) fs)

  pub read-Or : (fs : List Temporal) (c : List SortId) → reading table c (T.Or fs) ≡ F.Or (read_each (map (read_with table) fs) c)
  read-Or fs c = ap (λ r. r.read c) (fold-Or Reading (reading_step table) fs)

  pub read-Implies : (f g : Temporal) (c : List SortId) → reading table c (T.Implies f g) ≡ F.Implies (reading table c f) (reading table c g)
  read-Implies f g c = ap (λ r. r.read c) (fold-Implies Reading (reading_step table) f g)

  pub read-Iff : (f g : Temporal) (c : List SortId) → reading table c (T.Iff f g) ≡ F.Iff (reading table c f) (reading table c g)
  read-Iff f g c = ap (λ r. r.read c) (fold-Iff Reading (reading_step table) f g)

  pub read-All : (s : SortId) (f : Temporal) (c : List SortId) → reading table c (T.All s f) ≡ F.All s (reading table (s ∷ c) f)
  read-All s f c = ap (λ r. r.read c) (fold-All Reading (reading_step table) s f)

  pub read-Any : (s : SortId) (f : Temporal) (c : List SortId) → reading table c (T.Any s f) ≡ F.Any s (reading table (s ∷ c) f)
  read-Any s f c = ap (λ r. r.read c) (fold-Any Reading (reading_step table) s f)

  pub read-Always : (f : Temporal) (c : List SortId) → reading table c (T.Always f) ≡ label_atom table c (whole table f)
  read-Always f c = ap (λ r. r.read c) (fold-Always Reading (reading_step table) f)

  pub read-Eventually : (f : Temporal) (c : List SortId) → reading table c (T.Eventually f) ≡ F.Not (label_atom table c (T.Not (whole table f)))
  read-Eventually f c = ap (λ r. r.read c) (fold-Eventually Reading (reading_step table) f)

pub ruleset wholes = (whole-True, whole-False, whole-Atom, whole-Same, whole-Not, whole-And, whole-Or, whole-Implies, whole-Iff, whole-All, whole-Any, whole-Always, whole-Eventually)

pub ruleset reads = (read-True, read-False, read-Atom, read-Same, read-Not, read-And, read-Or, read-Implies, read-Iff, read-All, read-Any, read-Always, read-Eventually)
