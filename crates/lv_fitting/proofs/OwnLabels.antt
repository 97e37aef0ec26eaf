-- The labels of declarations, their numbers in the table of a system, and the limits on labels.
use Rattle.std.proofs.Common.{◌≡◌, ℕ, suc, ◌≤◌, Bool, true, false, not, ◌&&◌, ◌||◌, cond, eqb, leb, List, [], ◌∷◌, ◌++◌, length, map, reverse, slice_get, Some, refl, sym, ap, ap₂, subst, ◌∙◌, arith, append_assoc}
use Rattle.std.specs.Prelude.{take}
use Rattle.std.proofs.lemmas.Bool.{and_from, eqb-true, eq-eqb, leb-true}
use Rattle.std.proofs.lemmas.List.{append-nil, map-append}
use Rattle.lv_system.specs.declared.parts.Parts.{Parts}
use Rattle.lv_system.specs.declared.parts.LabelDecl.{LabelDecl}
use Rattle.lv_system.specs.declared.parts.WitnessDecl.{WitnessDecl}
use Rattle.lv_labels.specs.declared.key.Key.{Key}
use Rattle.lv_labels.specs.Labels.{key_eq, keys_of, keys_of_labels, keys_of_witnesses, labels_of, number_of}
use Rattle.lv_labels.specs.Once.{is_among, once_behind}
use Rattle.lv_grammar.specs.LabelLimits.{are_narrow, declared_keys, all_differ}
use Rattle.lv_grammar.specs.Words.{has_number, declared_name}
use Rattle.lv_grammar.specs.Rules.{own_number, labels_fit}
use Rattle.lv_fitting.proofs.Entries.{Along}
use Rattle.lv_fitting.proofs.KeyTest.{key_is, key_self}
use Rattle.lv_fitting.proofs.TableLaws.{once_both, Grown, grown_on, once_grows, known_after, among_grown, among_both, place_grown, at_number}
use Rattle.lv_fitting.proofs.Tests.{and_first, and_second}

-- ---- the limits

pub record WithinLimits (ks : List Key) : Type 0 where
  pub few : length ks ≤ 32
  pub narrow : are_narrow ks ≡ true

narrow_end : (ks : List Key) (k : Key) → are_narrow ks ≡ true → leb (length k.sorts) 4 ≡ true → are_narrow (ks ++ k ∷ []) ≡ true
narrow_end [] k e h = and_from (leb (length k.sorts) 4) _ h refl
narrow_end (x ∷ xs) k e h = and_from (leb (length x.sorts) 4) _ (and_first (leb (length x.sorts) 4) _ e) (narrow_end xs k (and_second (leb (length x.sorts) 4) _ e) h)

narrow_next : (ks : List Key) (k : Key) → are_narrow ks ≡ true → leb (length k.sorts) 4 ≡ true → are_narrow (once_behind key_eq ks (k ∷ [])) ≡ true
narrow_next ks k e h = go (is_among key_eq k ks) where
  go : (b : Bool) → are_narrow (cond b ks (ks ++ k ∷ [])) ≡ true
  go true = e
  go false = narrow_end ks k e h

pub limits_kept : (known keys : List Key) → WithinLimits known → labels_fit known keys ≡ true → WithinLimits (once_behind key_eq known keys)
limits_kept known [] w e = w
limits_kept known (key ∷ keys) w e =
    let next = once_behind key_eq known (key ∷ []) in
    let narrow = and_first (leb (length key.sorts) 4) _ e in
    let rest = and_second (leb (length key.sorts) 4) _ e in
    limits_kept next keys (record { few = leb-true (length next) 32 (and_first (leb (length next) 32) _ rest); narrow = narrow_next known key w.narrow narrow }) (and_second (leb (length next) 32) _ rest)

-- ---- declarations whose own labels are in a table

abbrev pub keys_in : LabelDecl → List Key
keys_in l = keys_of l.formula (reverse l.params)

abbrev pub number_under : List Key → LabelDecl → ℕ
number_under t l = own_number t (keys_in l)

pub record Owned (t : List Key) (l : LabelDecl) : Type 0 where
  pub own : Key
  pub inner : List Key
  pub keys : keys_in l ≡ own ∷ inner
  pub among : is_among key_eq own t ≡ true

pub number_is : (t : List Key) (l : LabelDecl) (o : Owned t l) → number_under t l ≡ number_of t o.own
number_is t l o = ap (own_number t) o.keys

-- the number in the table so far is that in the whole one
pub number_so_far : (known whole : List Key) (x : LabelDecl) (o : Owned whole x) → Grown (once_behind key_eq known (keys_in x)) whole → own_number (once_behind key_eq known (keys_in x)) (keys_in x) ≡ number_under whole x
number_so_far known whole x o g =
    let now = once_behind key_eq known (keys_in x) in
    let there : is_among key_eq o.own now ≡ true = ap (λ ks. is_among key_eq o.own (once_behind key_eq known ks)) o.keys ∙ known_after known o.own o.inner in
    ap (own_number now) o.keys ∙ (sym (place_grown o.own now g.more there) ∙ (ap (λ z. number_of z o.own) (sym g.is) ∙ sym (ap (own_number whole) o.keys)))

pub owned : (known whole : List Key) (x : LabelDecl) (own : Key) (inner : List Key) → keys_in x ≡ own ∷ inner → Grown (once_behind key_eq known (keys_in x)) whole → Owned whole x
owned known whole x own inner e g = record {
  own = own;
  inner = inner;
  keys = e;
  among = among_grown own (once_behind key_eq known (keys_in x)) whole g (ap (λ ks. is_among key_eq own (once_behind key_eq known ks)) e ∙ known_after known own inner);
}

pub owned_there : (t : List Key) (x : LabelDecl) (o : Owned t x) → slice_get t (number_under t x) ≡ Some o.own
owned_there t x o = ap (slice_get t) (number_is t x o) ∙ at_number o.own t o.among

-- ---- the first declaration with a number

first_of : (t : List Key) (n : ℕ) (l : LabelDecl) (ks : List Key) → eqb n (own_number t ks) ≡ false → has_number t n ks ≡ false
first_of t n l [] e = refl
first_of t n l (own ∷ inner) e = turned (eqb (number_of t own) n) refl where
  turned : (b : Bool) → eqb (number_of t own) n ≡ b → b ≡ false
  turned false h = refl
  turned true h = let z : true ≡ false = sym (eq-eqb n (number_of t own) (sym (eqb-true (number_of t own) n h))) ∙ e in absurd cc

or_first : (a b : Bool) → (a || b) ≡ false → a ≡ false
or_first false b e = refl
or_first true b e = absurd cc

or_second : (a b : Bool) → (a || b) ≡ false → b ≡ false
or_second false b e = e
or_second true b e = absurd cc

pub declared_next : (t : List Key) (n : ℕ) (front : List LabelDecl) (x : LabelDecl) (rest : List LabelDecl) (o : Owned t x) → number_under t x ≡ n → is_among eqb n (map (number_under t) front) ≡ false
    → declared_name t n (front ++ x ∷ rest) ≡ Some x.name
declared_next t n [] x rest o e fresh =
    let has : has_number t n (keys_in x) ≡ true = ap (has_number t n) o.keys ∙ eq-eqb (number_of t o.own) n (sym (number_is t x o) ∙ e) in
    rw has refl
declared_next t n (l ∷ ls) x rest o e fresh =
    rw (first_of t n l (keys_in l) (or_first (eqb n (number_under t l)) _ fresh)) (declared_next t n ls x rest o e (or_second (eqb n (number_under t l)) _ fresh))

-- ---- labels that are declared differ

-- the declaration's own label is in the table, and has another number than those before it
abbrev pub IsFresh : List Key → List LabelDecl → LabelDecl → Type 0
IsFresh t front x = Owned t x × (is_among eqb (number_under t x) (map (number_under t) front) ≡ false)

among_front : (n : ℕ) (xs ys : List ℕ) → is_among eqb n xs ≡ true → is_among eqb n (xs ++ ys) ≡ true
among_front n [] ys e = absurd cc
among_front n (x ∷ xs) ys e = go (eqb n x) (among_front n xs ys) e where
  go : (b : Bool) → (is_among eqb n xs ≡ true → is_among eqb n (xs ++ ys) ≡ true) → (b || is_among eqb n xs) ≡ true → (b || is_among eqb n (xs ++ ys)) ≡ true
  go true rest e = refl
  go false rest e = rest e

or_right : (a b : Bool) → b ≡ true → (a || b) ≡ true
or_right true b e = refl
or_right false b e = e

among_end : (n : ℕ) (xs : List ℕ) → is_among eqb n (xs ++ n ∷ []) ≡ true
among_end n [] = rw (eq-eqb n n refl) refl
among_end n (x ∷ xs) = or_right (eqb n x) _ (among_end n xs)

declared_first : (t : List Key) (l : LabelDecl) (ls : List LabelDecl) (o : Owned t l) → declared_keys (l ∷ ls) ≡ o.own ∷ declared_keys ls
declared_first t l ls o = ap (λ ks. take 1 ks ++ declared_keys ls) o.keys

numbers_end : (t : List Key) (front : List LabelDecl) (x : LabelDecl) → map (number_under t) (front ++ x ∷ []) ≡ map (number_under t) front ++ number_under t x ∷ []
numbers_end t front x = map-append (number_under t) front (x ∷ [])

not_later : (t : List Key) (key : Key) (n : ℕ) → number_of t key ≡ n → (front xs : List LabelDecl) → Along (IsFresh t) front xs → is_among eqb n (map (number_under t) front) ≡ true → is_among key_eq key (declared_keys xs) ≡ false
not_later t key n e front [] a among = refl
not_later t key n e front (x ∷ xs) a among =
    let o = a.0.0 in
    let further = ap (is_among eqb n) (numbers_end t front x) ∙ among_front n (map (number_under t) front) (number_under t x ∷ []) among in
    let rest = not_later t key n e (front ++ x ∷ []) xs a.1 further in
    ap (is_among key_eq key) (declared_first t x xs o) ∙ go (key_eq key o.own) refl rest where
      go : (b : Bool) → key_eq key a.0.0.own ≡ b → is_among key_eq key (declared_keys xs) ≡ false → (b || is_among key_eq key (declared_keys xs)) ≡ false
      go false h r = r
      go true h r =
          let same : number_under t x ≡ n = number_is t x a.0.0 ∙ ap (number_of t) (sym (key_is key a.0.0.own h)) ∙ e in
          let z : true ≡ false = sym among ∙ subst (λ m. is_among eqb m (map (number_under t) front) ≡ false) same a.0.1 in
          absurd cc

pub labels_differ : (t : List Key) (front xs : List LabelDecl) → Along (IsFresh t) front xs → all_differ (declared_keys xs) ≡ true
labels_differ t front [] a = refl
labels_differ t front (x ∷ xs) a =
    let o = a.0.0 in
    let here = ap (is_among eqb (number_under t x)) (numbers_end t front x) ∙ among_end (number_under t x) (map (number_under t) front) in
    let out = not_later t o.own (number_under t x) (sym (number_is t x o)) (front ++ x ∷ []) xs a.1 here in
    ap all_differ (declared_first t x xs o) ∙ and_from (not (is_among key_eq o.own (declared_keys xs))) _ (ap not out) (labels_differ t (front ++ x ∷ []) xs a.1)

-- ---- tables between the items

pub labels_both : (xs ys : List LabelDecl) → keys_of_labels (xs ++ ys) ≡ keys_of_labels xs ++ keys_of_labels ys
labels_both [] ys = refl
labels_both (x ∷ xs) ys = ap (λ z. keys_in x ++ z) (labels_both xs ys) ∙ sym (append_assoc (keys_in x) (keys_of_labels xs) (keys_of_labels ys))

abbrev pub witness_keys : WitnessDecl → List Key
witness_keys w = keys_of w.formula (w.sort ∷ [])

witnesses_both : (xs ys : List WitnessDecl) → keys_of_witnesses (xs ++ ys) ≡ keys_of_witnesses xs ++ keys_of_witnesses ys
witnesses_both [] ys = refl
witnesses_both (x ∷ xs) ys = ap (λ z. witness_keys x ++ z) (witnesses_both xs ys) ∙ sym (append_assoc (witness_keys x) (keys_of_witnesses xs) (keys_of_witnesses ys))

-- the table behind some declarations of labels
abbrev pub behind_labels : List LabelDecl → List Key
behind_labels ls = once_behind key_eq [] (keys_of_labels ls)

-- the table behind all labels and some witnesses
abbrev pub behind_witnesses : List LabelDecl → List WitnessDecl → List Key
behind_witnesses ls ws = once_behind key_eq (behind_labels ls) (keys_of_witnesses ws)

pub next_label : (front : List LabelDecl) (x : LabelDecl) → behind_labels (front ++ x ∷ []) ≡ once_behind key_eq (behind_labels front) (keys_in x)
next_label front x =
    ap (once_behind key_eq []) (labels_both front (x ∷ [])) ∙ once_both [] (keys_of_labels front) (keys_in x ++ []) ∙ ap (once_behind key_eq (behind_labels front)) (append-nil (keys_in x))

pub next_witness : (ls : List LabelDecl) (front : List WitnessDecl) (x : WitnessDecl) → behind_witnesses ls (front ++ x ∷ []) ≡ once_behind key_eq (behind_witnesses ls front) (witness_keys x)
next_witness ls front x =
    ap (once_behind key_eq (behind_labels ls)) (witnesses_both front (x ∷ [])) ∙ once_both (behind_labels ls) (keys_of_witnesses front) (witness_keys x ++ [])
    ∙ ap (once_behind key_eq (behind_witnesses ls front)) (append-nil (witness_keys x))

-- all labels of the system make its table
pub whole_table : (p : Parts) → once_behind key_eq (behind_witnesses p.labels p.witnesses) (keys_of p.property []) ≡ labels_of p
whole_table p = sym (once_both [] (keys_of_labels p.labels) (keys_of_witnesses p.witnesses ++ keys_of p.property [])
    ∙ once_both (behind_labels p.labels) (keys_of_witnesses p.witnesses) (keys_of p.property []))

grown_as : (known a b : List Key) → a ≡ b → Grown known b → Grown known a
grown_as known a b e g = record { more = g.more; is = e ∙ g.is }

-- the table of the system is that behind a label, and more
pub label_grown : (p : Parts) (front : List LabelDecl) (x : LabelDecl) (rest : List LabelDecl) → p.labels ≡ front ++ (x ∷ rest) → Grown (once_behind key_eq (behind_labels front) (keys_in x)) (labels_of p)
label_grown p front x rest e =
    let now = once_behind key_eq (behind_labels front) (keys_in x) in
    let split : behind_labels p.labels ≡ once_behind key_eq now (keys_of_labels rest) =
    ap behind_labels e ∙ ap (once_behind key_eq []) (labels_both front (x ∷ rest)) ∙ once_both [] (keys_of_labels front) (keys_in x ++ keys_of_labels rest) ∙ once_both (behind_labels front) (keys_in x) (keys_of_labels rest) in
    let first = grown_as now (behind_labels p.labels) (once_behind key_eq now (keys_of_labels rest)) split (once_grows now (keys_of_labels rest)) in
    let others = keys_of_witnesses p.witnesses ++ keys_of p.property [] in
    let second = grown_as (behind_labels p.labels) (labels_of p) (once_behind key_eq (behind_labels p.labels) others) (once_both [] (keys_of_labels p.labels) others) (once_grows (behind_labels p.labels) others) in
    grown_on now (behind_labels p.labels) (labels_of p) first second
