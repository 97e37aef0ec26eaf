-- What the vocabularies of a system say of each symbol.
use Rattle.std.proofs.Common.{◌≡◌, ℕ, zero, suc, ◌+◌, ◌<◌, Bool, true, false, cond, eqb, ltb, leb, List, [], ◌∷◌, ◌++◌, length, take, slice_get, Option, Some, None, refl, sym, ap, ap₂, ◌∙◌, arith}
use Rattle.std.proofs.lemmas.Bool.{eq-eqb, ne_eqb, lt-ltb}
use Rattle.std.proofs.Math.Dec.{leb-suc-zero, leb-suc-suc}
use Rattle.lv_formula.specs.declared.symbols.SortId.{SortId}
use Rattle.lv_formula.specs.declared.symbols.Sym.{Sym}
use Rattle.lv_formula.specs.declared.symbols.Sym.TheVariants.{Own, Witness, Label, Frozen, Saved, Touched, Kept, Due, Copy, CopyLabel, Next, Param}
use Rattle.lv_formula.specs.declared.vocabulary.RelShape.{RelShape}
use Rattle.lv_formula.specs.declared.vocabulary.ConShape.{ConShape}
use Rattle.lv_formula.specs.Symbols.{sym_eq}
use Rattle.lv_formula.specs.Vocabulary.{relation_in, constant_in}
use Rattle.lv_system.specs.declared.parts.Parts.{Parts}
use Rattle.lv_system.specs.declared.parts.Sort.{Sort}
use Rattle.lv_system.specs.declared.parts.Symbol.{Symbol}
use Rattle.lv_system.specs.declared.parts.Fair.{Fair}
use Rattle.lv_system.specs.declared.parts.WitnessDecl.{WitnessDecl}
use Rattle.lv_system.specs.declared.usable.Usable.{Usable}
use Rattle.lv_system.specs.declared.usable.Usable.TheVariants as usable
use Rattle.lv_system.specs.Vocabularies.{relation_sorts, constant_sort, relation_if, constant_if, relations_from, constants_from, witnesses_from, any_symbol, is_fixed, witness_vocabulary}
use Rattle.lv_system.specs.InvariantWords.{sets_from, dues_from, marks, is_changing, invariant_relations, invariant_constants}
use Rattle.lv_system.specs.Lookups.{vocabulary_of, relation_where, constant_where, params_of, witness_sort, one_if, own_relation, own_constant, witness_constant, invariant_relation, invariant_constant, usable_relation, usable_constant}

abbrev or_else : {A : Type 0} → Option A → Option A → Option A
or_else None o = o
or_else (Some x) o = Some x

none_else : {A : Type 0} (o : Option A) → or_else o None ≡ o
none_else None = refl
none_else (Some x) = refl

or_else_if : {A : Type 0} (b : Bool) (x : A) (o p : Option A) → or_else (cond b (Some x) o) p ≡ cond b (Some x) (or_else o p)
or_else_if true x o p = refl
or_else_if false x o p = refl

pub relation_in_both : (xs ys : List RelShape) (s : Sym) → relation_in (xs ++ ys) s ≡ or_else (relation_in xs s) (relation_in ys s)
relation_in_both [] ys s = refl
relation_in_both (x ∷ xs) ys s = rw (relation_in_both xs ys s) (sym (or_else_if (sym_eq x.sym s) x.sorts (relation_in xs s) (relation_in ys s)))

pub constant_in_both : (xs ys : List ConShape) (s : Sym) → constant_in (xs ++ ys) s ≡ or_else (constant_in xs s) (constant_in ys s)
constant_in_both [] ys s = refl
constant_in_both (x ∷ xs) ys s = rw (constant_in_both xs ys s) (sym (or_else_if (sym_eq x.sym s) x.sort (constant_in xs s) (constant_in ys s)))

-- Entries that are looked up by the number of their item: the lists of relations and constants of a vocabulary.
pub record Numbered {X A : Type 0} (name : ℕ → Sym) (look : ℕ → List X → Sym → Option A) (value : ℕ → X → Option A) : Type 0 where
  pub differ : (i j : ℕ) → sym_eq (name i) (name j) ≡ eqb i j
  pub none : (k : ℕ) (s : Sym) → look k [] s ≡ None
  pub skip : (k : ℕ) (x : X) (xs : List X) (s : Sym) → sym_eq (name k) s ≡ false → look k (x ∷ xs) s ≡ look (suc k) xs s
  pub found : (k : ℕ) (x : X) (xs : List X) (s : Sym) → sym_eq (name k) s ≡ true → look (suc k) xs s ≡ None → look k (x ∷ xs) s ≡ value k x

abbrev pub value_at : {X A : Type 0} → (ℕ → X → Option A) → ℕ → Option X → Option A
value_at value k None = None
value_at value k (Some x) = value k x

module _ {X A : Type 0} (name : ℕ → Sym) (look : ℕ → List X → Sym → Option A) (value : ℕ → X → Option A) (numbered : Numbered name look value) where
  -- a symbol that is none of the names isn't there
  pub other : (s : Sym) → ((i : ℕ) → sym_eq (name i) s ≡ false) → (k : ℕ) (xs : List X) → look k xs s ≡ None
  other s differs k [] = numbered.none k s
  other s differs k (x ∷ xs) = numbered.skip k x xs s (differs k) ∙ other s differs (suc k) xs

  earlier : (k n : ℕ) (xs : List X) → n < k → look k xs (name n) ≡ None
  earlier k n [] lt = numbered.none k (name n)
  earlier k n (x ∷ xs) lt =
      numbered.skip k x xs (name n) (numbered.differ k n ∙ ne_eqb k n (λ e. omega (arith, lt, e))) ∙ earlier (suc k) n xs (omega (arith, lt))

  -- the name with the number of an item is the item's
  pub named : (k n m : ℕ) (xs : List X) → m ≡ k + n → look k xs (name m) ≡ value_at value m (slice_get xs n)
  named k n m [] e = numbered.none k (name m)
  named k zero m (x ∷ xs) e =
      let same : k ≡ m = omega (arith, e) in
      numbered.found k x xs (name m) (numbered.differ k m ∙ eq-eqb k m same) (earlier (suc k) m xs (omega (arith, e))) ∙ ap (λ i. value i x) same
  named k (suc n) m (x ∷ xs) e =
      numbered.skip k x xs (name m) (numbered.differ k m ∙ ne_eqb k m (λ d. omega (arith, d, e))) ∙ named (suc k) n m xs (omega (arith, e))

module _ (test : Symbol → Bool) where
  abbrev sorts_where : ℕ → Symbol → Option (List SortId)
  sorts_where k s = cond (test s) (relation_sorts s.shape) None

  abbrev sort_where : ℕ → Symbol → Option SortId
  sort_where k s = cond (test s) (constant_sort s.shape) None

  skip_relation : (keep : Bool) (n s : Sym) (o : Option (List SortId)) (rest : List RelShape) → sym_eq n s ≡ false → relation_in (relation_if keep n o rest) s ≡ relation_in rest s
  skip_relation keep n s None rest h = refl
  skip_relation true n s (Some sorts) rest h = rw h refl
  skip_relation false n s (Some sorts) rest h = refl

  found_relation : (keep : Bool) (n s : Sym) (o : Option (List SortId)) (rest : List RelShape) → sym_eq n s ≡ true → relation_in rest s ≡ None → relation_in (relation_if keep n o rest) s ≡ cond keep o None
  found_relation true n s None rest h none = none
  found_relation false n s None rest h none = none
  found_relation true n s (Some sorts) rest h none = rw h refl
  found_relation false n s (Some sorts) rest h none = none

  skip_constant : (keep : Bool) (n s : Sym) (o : Option SortId) (rest : List ConShape) → sym_eq n s ≡ false → constant_in (constant_if keep n o rest) s ≡ constant_in rest s
  skip_constant keep n s None rest h = refl
  skip_constant true n s (Some sort) rest h = rw h refl
  skip_constant false n s (Some sort) rest h = refl

  found_constant : (keep : Bool) (n s : Sym) (o : Option SortId) (rest : List ConShape) → sym_eq n s ≡ true → constant_in rest s ≡ None → constant_in (constant_if keep n o rest) s ≡ cond keep o None
  found_constant true n s None rest h none = none
  found_constant false n s None rest h none = none
  found_constant true n s (Some sort) rest h none = rw h refl
  found_constant false n s (Some sort) rest h none = none

  pub relations_numbered : (name : ℕ → Sym) → ((i j : ℕ) → sym_eq (name i) (name j) ≡ eqb i j) → Numbered name (λ k ss s. relation_in (relations_from test name k ss) s) sorts_where
  relations_numbered name differ = record {
    differ = differ;
    none = λ k s. refl;
    skip = λ k x xs s h. skip_relation (test x) (name k) s (relation_sorts x.shape) (relations_from test name (suc k) xs) h;
    found = λ k x xs s h none. found_relation (test x) (name k) s (relation_sorts x.shape) (relations_from test name (suc k) xs) h none;
  }

  pub constants_numbered : (name : ℕ → Sym) → ((i j : ℕ) → sym_eq (name i) (name j) ≡ eqb i j) → Numbered name (λ k ss s. constant_in (constants_from test name k ss) s) sort_where
  constants_numbered name differ = record {
    differ = differ;
    none = λ k s. refl;
    skip = λ k x xs s h. skip_constant (test x) (name k) s (constant_sort x.shape) (constants_from test name (suc k) xs) h;
    found = λ k x xs s h none. found_constant (test x) (name k) s (constant_sort x.shape) (constants_from test name (suc k) xs) h none;
  }

  as_relation : (k : ℕ) (o : Option Symbol) → value_at sorts_where k o ≡ relation_where test o
  as_relation k None = refl
  as_relation k (Some s) = refl

  as_constant : (k : ℕ) (o : Option Symbol) → value_at sort_where k o ≡ constant_where test o
  as_constant k None = refl
  as_constant k (Some s) = refl

  -- the relation with a number is the symbol of that number, where it passes the test
  pub relation_numbered : (name : ℕ → Sym) → ((i j : ℕ) → sym_eq (name i) (name j) ≡ eqb i j) → (n : ℕ) (ss : List Symbol)
      → relation_in (relations_from test name 0 ss) (name n) ≡ relation_where test (slice_get ss n)
  relation_numbered name differ n ss = named name _ sorts_where (relations_numbered name differ) 0 n n ss (omega arith) ∙ as_relation n (slice_get ss n)

  pub constant_numbered : (name : ℕ → Sym) → ((i j : ℕ) → sym_eq (name i) (name j) ≡ eqb i j) → (n : ℕ) (ss : List Symbol)
      → constant_in (constants_from test name 0 ss) (name n) ≡ constant_where test (slice_get ss n)
  constant_numbered name differ n ss = named name _ sort_where (constants_numbered name differ) 0 n n ss (omega arith) ∙ as_constant n (slice_get ss n)

  pub relation_other : (name : ℕ → Sym) → ((i j : ℕ) → sym_eq (name i) (name j) ≡ eqb i j) → (s : Sym) → ((i : ℕ) → sym_eq (name i) s ≡ false) → (ss : List Symbol)
      → relation_in (relations_from test name 0 ss) s ≡ None
  relation_other name differ s differs ss = other name _ sorts_where (relations_numbered name differ) s differs 0 ss

  pub constant_other : (name : ℕ → Sym) → ((i j : ℕ) → sym_eq (name i) (name j) ≡ eqb i j) → (s : Sym) → ((i : ℕ) → sym_eq (name i) s ≡ false) → (ss : List Symbol)
      → constant_in (constants_from test name 0 ss) s ≡ None
  constant_other name differ s differs ss = other name _ sort_where (constants_numbered name differ) s differs 0 ss

own_differ : (i j : ℕ) → sym_eq (Own i) (Own j) ≡ eqb i j
unfolding sym_eq
own_differ i j = refl

copy_differ : (i j : ℕ) → sym_eq (Copy i) (Copy j) ≡ eqb i j
unfolding sym_eq
copy_differ i j = refl

due_differ : (i j : ℕ) → sym_eq (Due i) (Due j) ≡ eqb i j
unfolding sym_eq
due_differ i j = refl

witness_differ : (i j : ℕ) → sym_eq (Witness i) (Witness j) ≡ eqb i j
unfolding sym_eq
witness_differ i j = refl

touched_differ : (i j : ℕ) → sym_eq (Touched (record { 0 = i })) (Touched (record { 0 = j })) ≡ eqb i j
unfolding sym_eq
touched_differ i j = refl

kept_differ : (i j : ℕ) → sym_eq (Kept (record { 0 = i })) (Kept (record { 0 = j })) ≡ eqb i j
unfolding sym_eq
kept_differ i j = refl

-- The sets of elements, the due sets, the witnesses.
module _ (name : SortId → Sym) (differ : (i j : ℕ) → sym_eq (name (record { 0 = i })) (name (record { 0 = j })) ≡ eqb i j) where
  abbrev set_of : ℕ → Sort → Option (List SortId)
  set_of k s = Some (record { 0 = k } ∷ [])

  sets_numbered : Numbered (λ k. name (record { 0 = k })) (λ k ss s. relation_in (sets_from name k ss) s) set_of
  sets_numbered = record {
    differ = differ;
    none = λ k s. refl;
    skip = λ k x xs s h. rw h refl;
    found = λ k x xs s h none. rw h refl;
  }

  set_there : (m n : ℕ) (ss : List Sort) → value_at set_of m (slice_get ss n) ≡ one_if (ltb n (length ss)) (record { 0 = m })
  set_there m zero [] = refl
  set_there m (suc n) [] = rw (leb-suc-zero (suc n)) refl
  set_there m zero (s ∷ ss) = rw (lt-ltb 0 (length (s ∷ ss)) (omega arith)) refl
  set_there m (suc n) (s ∷ ss) = rw (leb-suc-suc (suc n) (length ss)) (set_there m n ss)

  pub set_named : (s : SortId) (ss : List Sort) → relation_in (sets_from name 0 ss) (name s) ≡ one_if (ltb s.0 (length ss)) s
  set_named s ss = named (λ k. name (record { 0 = k })) _ set_of sets_numbered 0 s.0 s.0 ss (omega arith) ∙ set_there s.0 s.0 ss

  pub set_other : (s : Sym) → ((i : ℕ) → sym_eq (name (record { 0 = i })) s ≡ false) → (ss : List Sort) → relation_in (sets_from name 0 ss) s ≡ None
  set_other s differs ss = other (λ k. name (record { 0 = k })) _ set_of sets_numbered s differs 0 ss

abbrev due_of : ℕ → Fair → Option (List SortId)
due_of k c = Some c.params

dues_numbered : Numbered Due (λ k cs s. relation_in (dues_from k cs) s) due_of
dues_numbered = record {
  differ = due_differ;
  none = λ k s. refl;
  skip = λ k x xs s h. rw h refl;
  found = λ k x xs s h none. rw h refl;
}

as_due : (k : ℕ) (o : Option Fair) → value_at due_of k o ≡ params_of o
as_due k None = refl
as_due k (Some c) = refl

pub due_named : (n : ℕ) (cs : List Fair) → relation_in (dues_from 0 cs) (Due n) ≡ params_of (slice_get cs n)
due_named n cs = named Due _ due_of dues_numbered 0 n n cs (omega arith) ∙ as_due n (slice_get cs n)

pub due_other : (s : Sym) → ((i : ℕ) → sym_eq (Due i) s ≡ false) → (cs : List Fair) → relation_in (dues_from 0 cs) s ≡ None
due_other s differs cs = other Due _ due_of dues_numbered s differs 0 cs

abbrev witness_of : ℕ → WitnessDecl → Option SortId
witness_of k w = Some w.sort

witnesses_numbered : Numbered Witness (λ k ws s. constant_in (witnesses_from k ws) s) witness_of
witnesses_numbered = record {
  differ = witness_differ;
  none = λ k s. refl;
  skip = λ k x xs s h. rw h refl;
  found = λ k x xs s h none. rw h refl;
}

as_witness : (k : ℕ) (o : Option WitnessDecl) → value_at witness_of k o ≡ witness_sort o
as_witness k None = refl
as_witness k (Some w) = refl

pub witness_named : (n : ℕ) (ws : List WitnessDecl) → constant_in (witnesses_from 0 ws) (Witness n) ≡ witness_sort (slice_get ws n)
witness_named n ws = named Witness _ witness_of witnesses_numbered 0 n n ws (omega arith) ∙ as_witness n (slice_get ws n)

pub witness_other : (s : Sym) → ((i : ℕ) → sym_eq (Witness i) s ≡ false) → (ws : List WitnessDecl) → constant_in (witnesses_from 0 ws) s ≡ None
witness_other s differs ws = other Witness _ witness_of witnesses_numbered s differs 0 ws

either_way : {A : Type 0} (b : Bool) (x : A) → x ≡ cond b x x
either_way true x = refl
either_way false x = refl

first_witnesses : (k n : ℕ) (ws : List WitnessDecl) → witness_sort (slice_get (take k ws) n) ≡ cond (ltb n k) (witness_sort (slice_get ws n)) None
first_witnesses zero zero ws = refl
first_witnesses zero (suc n) ws = rw (leb-suc-zero (suc n)) refl
first_witnesses (suc k) n [] = either_way (ltb n (suc k)) None
first_witnesses (suc k) zero (w ∷ ws) = rw (lt-ltb 0 (suc k) (omega arith)) refl
first_witnesses (suc k) (suc n) (w ∷ ws) = rw (leb-suc-suc (suc n) k) (first_witnesses k n ws)

-- what each vocabulary says of each symbol
pub own_relation_told : (test : Symbol → Bool) (p : Parts) (s : Sym) → relation_in (relations_from test Own 0 p.symbols) s ≡ own_relation test p s
unfolding sym_eq
own_relation_told test p (Own n) = relation_numbered test Own own_differ n p.symbols
own_relation_told test p (Witness n) = relation_other test Own own_differ (Witness n) (λ i. refl) p.symbols
own_relation_told test p (Label n) = relation_other test Own own_differ (Label n) (λ i. refl) p.symbols
own_relation_told test p Frozen = relation_other test Own own_differ Frozen (λ i. refl) p.symbols
own_relation_told test p Saved = relation_other test Own own_differ Saved (λ i. refl) p.symbols
own_relation_told test p (Touched x) = relation_other test Own own_differ (Touched x) (λ i. refl) p.symbols
own_relation_told test p (Kept x) = relation_other test Own own_differ (Kept x) (λ i. refl) p.symbols
own_relation_told test p (Due n) = relation_other test Own own_differ (Due n) (λ i. refl) p.symbols
own_relation_told test p (Copy n) = relation_other test Own own_differ (Copy n) (λ i. refl) p.symbols
own_relation_told test p (CopyLabel n) = relation_other test Own own_differ (CopyLabel n) (λ i. refl) p.symbols
own_relation_told test p (Next n) = relation_other test Own own_differ (Next n) (λ i. refl) p.symbols
own_relation_told test p (Param n) = relation_other test Own own_differ (Param n) (λ i. refl) p.symbols

pub own_constant_told : (test : Symbol → Bool) (p : Parts) (s : Sym) → constant_in (constants_from test Own 0 p.symbols) s ≡ own_constant test p s
unfolding sym_eq
own_constant_told test p (Own n) = constant_numbered test Own own_differ n p.symbols
own_constant_told test p (Witness n) = constant_other test Own own_differ (Witness n) (λ i. refl) p.symbols
own_constant_told test p (Label n) = constant_other test Own own_differ (Label n) (λ i. refl) p.symbols
own_constant_told test p Frozen = constant_other test Own own_differ Frozen (λ i. refl) p.symbols
own_constant_told test p Saved = constant_other test Own own_differ Saved (λ i. refl) p.symbols
own_constant_told test p (Touched x) = constant_other test Own own_differ (Touched x) (λ i. refl) p.symbols
own_constant_told test p (Kept x) = constant_other test Own own_differ (Kept x) (λ i. refl) p.symbols
own_constant_told test p (Due n) = constant_other test Own own_differ (Due n) (λ i. refl) p.symbols
own_constant_told test p (Copy n) = constant_other test Own own_differ (Copy n) (λ i. refl) p.symbols
own_constant_told test p (CopyLabel n) = constant_other test Own own_differ (CopyLabel n) (λ i. refl) p.symbols
own_constant_told test p (Next n) = constant_other test Own own_differ (Next n) (λ i. refl) p.symbols
own_constant_told test p (Param n) = constant_other test Own own_differ (Param n) (λ i. refl) p.symbols

module _ (p : Parts) where
  joined : (s : Sym) (own marked touched kept due copied : Option (List SortId))
      → relation_in (relations_from any_symbol Own 0 p.symbols) s ≡ own → relation_in marks s ≡ marked → relation_in (sets_from Touched 0 p.sorts) s ≡ touched
      → relation_in (sets_from Kept 0 p.sorts) s ≡ kept → relation_in (dues_from 0 p.fairs) s ≡ due → relation_in (relations_from is_changing Copy 0 p.symbols) s ≡ copied
      → relation_in (invariant_relations p) s ≡ or_else own (or_else marked (or_else touched (or_else kept (or_else due copied))))
  joined s own marked touched kept due copied o m t k d c =
      relation_in_both (relations_from any_symbol Own 0 p.symbols) _ s ∙ ap₂ or_else o
      (relation_in_both marks _ s ∙ ap₂ or_else m
      (relation_in_both (sets_from Touched 0 p.sorts) _ s ∙ ap₂ or_else t
      (relation_in_both (sets_from Kept 0 p.sorts) _ s ∙ ap₂ or_else k
      (relation_in_both (dues_from 0 p.fairs) _ s ∙ ap₂ or_else d c))))

  no_own : (s : Sym) → ((i : ℕ) → sym_eq (Own i) s ≡ false) → relation_in (relations_from any_symbol Own 0 p.symbols) s ≡ None
  no_own s h = relation_other any_symbol Own own_differ s h p.symbols

  no_touched : (s : Sym) → ((i : ℕ) → sym_eq (Touched (record { 0 = i })) s ≡ false) → relation_in (sets_from Touched 0 p.sorts) s ≡ None
  no_touched s h = set_other Touched touched_differ s h p.sorts

  no_kept : (s : Sym) → ((i : ℕ) → sym_eq (Kept (record { 0 = i })) s ≡ false) → relation_in (sets_from Kept 0 p.sorts) s ≡ None
  no_kept s h = set_other Kept kept_differ s h p.sorts

  no_due : (s : Sym) → ((i : ℕ) → sym_eq (Due i) s ≡ false) → relation_in (dues_from 0 p.fairs) s ≡ None
  no_due s h = due_other s h p.fairs

  no_copy : (s : Sym) → ((i : ℕ) → sym_eq (Copy i) s ≡ false) → relation_in (relations_from is_changing Copy 0 p.symbols) s ≡ None
  no_copy s h = relation_other is_changing Copy copy_differ s h p.symbols

  pub invariant_relation_told : (s : Sym) → relation_in (invariant_relations p) s ≡ invariant_relation p s
  unfolding sym_eq
  invariant_relation_told (Own n) = joined (Own n) (relation_where any_symbol (slice_get p.symbols n)) None None None None None (relation_numbered any_symbol Own own_differ n p.symbols) refl (no_touched (Own n) (λ i. refl)) (no_kept (Own n) (λ i. refl)) (no_due (Own n) (λ i. refl)) (no_copy (Own n) (λ i. refl)) ∙ none_else (relation_where any_symbol (slice_get p.symbols n))
  invariant_relation_told (Witness n) = joined (Witness n) None None None None None None (no_own (Witness n) (λ i. refl)) refl (no_touched (Witness n) (λ i. refl)) (no_kept (Witness n) (λ i. refl)) (no_due (Witness n) (λ i. refl)) (no_copy (Witness n) (λ i. refl))
  invariant_relation_told (Label n) = joined (Label n) None None None None None None (no_own (Label n) (λ i. refl)) refl (no_touched (Label n) (λ i. refl)) (no_kept (Label n) (λ i. refl)) (no_due (Label n) (λ i. refl)) (no_copy (Label n) (λ i. refl))
  invariant_relation_told Frozen = joined Frozen None (Some []) None None None None (no_own Frozen (λ i. refl)) refl (no_touched Frozen (λ i. refl)) (no_kept Frozen (λ i. refl)) (no_due Frozen (λ i. refl)) (no_copy Frozen (λ i. refl))
  invariant_relation_told Saved = joined Saved None (Some []) None None None None (no_own Saved (λ i. refl)) refl (no_touched Saved (λ i. refl)) (no_kept Saved (λ i. refl)) (no_due Saved (λ i. refl)) (no_copy Saved (λ i. refl))
  invariant_relation_told (Touched x) = joined (Touched x) None None (one_if (ltb x.0 (length p.sorts)) x) None None None (no_own (Touched x) (λ i. refl)) refl (set_named Touched touched_differ x p.sorts) (no_kept (Touched x) (λ i. refl)) (no_due (Touched x) (λ i. refl)) (no_copy (Touched x) (λ i. refl)) ∙ none_else (one_if (ltb x.0 (length p.sorts)) x)
  invariant_relation_told (Kept x) = joined (Kept x) None None None (one_if (ltb x.0 (length p.sorts)) x) None None (no_own (Kept x) (λ i. refl)) refl (no_touched (Kept x) (λ i. refl)) (set_named Kept kept_differ x p.sorts) (no_due (Kept x) (λ i. refl)) (no_copy (Kept x) (λ i. refl)) ∙ none_else (one_if (ltb x.0 (length p.sorts)) x)
  invariant_relation_told (Due n) = joined (Due n) None None None None (params_of (slice_get p.fairs n)) None (no_own (Due n) (λ i. refl)) refl (no_touched (Due n) (λ i. refl)) (no_kept (Due n) (λ i. refl)) (due_named n p.fairs) (no_copy (Due n) (λ i. refl)) ∙ none_else (params_of (slice_get p.fairs n))
  invariant_relation_told (Copy n) = joined (Copy n) None None None None None (relation_where is_changing (slice_get p.symbols n)) (no_own (Copy n) (λ i. refl)) refl (no_touched (Copy n) (λ i. refl)) (no_kept (Copy n) (λ i. refl)) (no_due (Copy n) (λ i. refl)) (relation_numbered is_changing Copy copy_differ n p.symbols)
  invariant_relation_told (CopyLabel n) = joined (CopyLabel n) None None None None None None (no_own (CopyLabel n) (λ i. refl)) refl (no_touched (CopyLabel n) (λ i. refl)) (no_kept (CopyLabel n) (λ i. refl)) (no_due (CopyLabel n) (λ i. refl)) (no_copy (CopyLabel n) (λ i. refl))
  invariant_relation_told (Next n) = joined (Next n) None None None None None None (no_own (Next n) (λ i. refl)) refl (no_touched (Next n) (λ i. refl)) (no_kept (Next n) (λ i. refl)) (no_due (Next n) (λ i. refl)) (no_copy (Next n) (λ i. refl))
  invariant_relation_told (Param n) = joined (Param n) None None None None None None (no_own (Param n) (λ i. refl)) refl (no_touched (Param n) (λ i. refl)) (no_kept (Param n) (λ i. refl)) (no_due (Param n) (λ i. refl)) (no_copy (Param n) (λ i. refl))

  joined_constants : (s : Sym) (own witness copied : Option SortId)
      → constant_in (constants_from any_symbol Own 0 p.symbols) s ≡ own → constant_in (witnesses_from 0 p.witnesses) s ≡ witness → constant_in (constants_from is_changing Copy 0 p.symbols) s ≡ copied
      → constant_in (invariant_constants p) s ≡ or_else own (or_else witness copied)
  joined_constants s own witness copied o w c =
      constant_in_both (constants_from any_symbol Own 0 p.symbols) _ s ∙ ap₂ or_else o (constant_in_both (witnesses_from 0 p.witnesses) _ s ∙ ap₂ or_else w c)

  no_own_constant : (s : Sym) → ((i : ℕ) → sym_eq (Own i) s ≡ false) → constant_in (constants_from any_symbol Own 0 p.symbols) s ≡ None
  no_own_constant s h = constant_other any_symbol Own own_differ s h p.symbols

  no_witness : (s : Sym) → ((i : ℕ) → sym_eq (Witness i) s ≡ false) → (ws : List WitnessDecl) → constant_in (witnesses_from 0 ws) s ≡ None
  no_witness s h ws = witness_other s h ws

  no_constant_copy : (s : Sym) → ((i : ℕ) → sym_eq (Copy i) s ≡ false) → constant_in (constants_from is_changing Copy 0 p.symbols) s ≡ None
  no_constant_copy s h = constant_other is_changing Copy copy_differ s h p.symbols

  pub invariant_constant_told : (s : Sym) → constant_in (invariant_constants p) s ≡ invariant_constant p s
  unfolding sym_eq
  invariant_constant_told (Own n) = joined_constants (Own n) (constant_where any_symbol (slice_get p.symbols n)) None None (constant_numbered any_symbol Own own_differ n p.symbols) (no_witness (Own n) (λ i. refl) p.witnesses) (no_constant_copy (Own n) (λ i. refl)) ∙ none_else (constant_where any_symbol (slice_get p.symbols n))
  invariant_constant_told (Witness n) = joined_constants (Witness n) None (witness_sort (slice_get p.witnesses n)) None (no_own_constant (Witness n) (λ i. refl)) (witness_named n p.witnesses) (no_constant_copy (Witness n) (λ i. refl)) ∙ none_else (witness_sort (slice_get p.witnesses n))
  invariant_constant_told (Label n) = joined_constants (Label n) None None None (no_own_constant (Label n) (λ i. refl)) (no_witness (Label n) (λ i. refl) p.witnesses) (no_constant_copy (Label n) (λ i. refl))
  invariant_constant_told Frozen = joined_constants Frozen None None None (no_own_constant Frozen (λ i. refl)) (no_witness Frozen (λ i. refl) p.witnesses) (no_constant_copy Frozen (λ i. refl))
  invariant_constant_told Saved = joined_constants Saved None None None (no_own_constant Saved (λ i. refl)) (no_witness Saved (λ i. refl) p.witnesses) (no_constant_copy Saved (λ i. refl))
  invariant_constant_told (Touched x) = joined_constants (Touched x) None None None (no_own_constant (Touched x) (λ i. refl)) (no_witness (Touched x) (λ i. refl) p.witnesses) (no_constant_copy (Touched x) (λ i. refl))
  invariant_constant_told (Kept x) = joined_constants (Kept x) None None None (no_own_constant (Kept x) (λ i. refl)) (no_witness (Kept x) (λ i. refl) p.witnesses) (no_constant_copy (Kept x) (λ i. refl))
  invariant_constant_told (Due n) = joined_constants (Due n) None None None (no_own_constant (Due n) (λ i. refl)) (no_witness (Due n) (λ i. refl) p.witnesses) (no_constant_copy (Due n) (λ i. refl))
  invariant_constant_told (Copy n) = joined_constants (Copy n) None None (constant_where is_changing (slice_get p.symbols n)) (no_own_constant (Copy n) (λ i. refl)) (no_witness (Copy n) (λ i. refl) p.witnesses) (constant_numbered is_changing Copy copy_differ n p.symbols)
  invariant_constant_told (CopyLabel n) = joined_constants (CopyLabel n) None None None (no_own_constant (CopyLabel n) (λ i. refl)) (no_witness (CopyLabel n) (λ i. refl) p.witnesses) (no_constant_copy (CopyLabel n) (λ i. refl))
  invariant_constant_told (Next n) = joined_constants (Next n) None None None (no_own_constant (Next n) (λ i. refl)) (no_witness (Next n) (λ i. refl) p.witnesses) (no_constant_copy (Next n) (λ i. refl))
  invariant_constant_told (Param n) = joined_constants (Param n) None None None (no_own_constant (Param n) (λ i. refl)) (no_witness (Param n) (λ i. refl) p.witnesses) (no_constant_copy (Param n) (λ i. refl))

  joined_witnesses : (k : ℕ) (s : Sym) (own witness : Option SortId)
      → constant_in (constants_from any_symbol Own 0 p.symbols) s ≡ own → constant_in (witnesses_from 0 (take k p.witnesses)) s ≡ witness
      → constant_in (witness_vocabulary p k).constants s ≡ or_else own witness
  joined_witnesses k s own witness o w = constant_in_both (constants_from any_symbol Own 0 p.symbols) _ s ∙ ap₂ or_else o w

  pub witness_constant_told : (k : ℕ) (s : Sym) → constant_in (witness_vocabulary p k).constants s ≡ witness_constant p k s
  unfolding sym_eq
  witness_constant_told k (Own n) = joined_witnesses k (Own n) (constant_where any_symbol (slice_get p.symbols n)) None (constant_numbered any_symbol Own own_differ n p.symbols) (no_witness (Own n) (λ i. refl) (take k p.witnesses)) ∙ none_else (constant_where any_symbol (slice_get p.symbols n))
  witness_constant_told k (Witness n) = joined_witnesses k (Witness n) None _ (no_own_constant (Witness n) (λ i. refl)) (witness_named n (take k p.witnesses) ∙ first_witnesses k n p.witnesses)
  witness_constant_told k (Label n) = joined_witnesses k (Label n) None None (no_own_constant (Label n) (λ i. refl)) (no_witness (Label n) (λ i. refl) (take k p.witnesses))
  witness_constant_told k Frozen = joined_witnesses k Frozen None None (no_own_constant Frozen (λ i. refl)) (no_witness Frozen (λ i. refl) (take k p.witnesses))
  witness_constant_told k Saved = joined_witnesses k Saved None None (no_own_constant Saved (λ i. refl)) (no_witness Saved (λ i. refl) (take k p.witnesses))
  witness_constant_told k (Touched x) = joined_witnesses k (Touched x) None None (no_own_constant (Touched x) (λ i. refl)) (no_witness (Touched x) (λ i. refl) (take k p.witnesses))
  witness_constant_told k (Kept x) = joined_witnesses k (Kept x) None None (no_own_constant (Kept x) (λ i. refl)) (no_witness (Kept x) (λ i. refl) (take k p.witnesses))
  witness_constant_told k (Due n) = joined_witnesses k (Due n) None None (no_own_constant (Due n) (λ i. refl)) (no_witness (Due n) (λ i. refl) (take k p.witnesses))
  witness_constant_told k (Copy n) = joined_witnesses k (Copy n) None None (no_own_constant (Copy n) (λ i. refl)) (no_witness (Copy n) (λ i. refl) (take k p.witnesses))
  witness_constant_told k (CopyLabel n) = joined_witnesses k (CopyLabel n) None None (no_own_constant (CopyLabel n) (λ i. refl)) (no_witness (CopyLabel n) (λ i. refl) (take k p.witnesses))
  witness_constant_told k (Next n) = joined_witnesses k (Next n) None None (no_own_constant (Next n) (λ i. refl)) (no_witness (Next n) (λ i. refl) (take k p.witnesses))
  witness_constant_told k (Param n) = joined_witnesses k (Param n) None None (no_own_constant (Param n) (λ i. refl)) (no_witness (Param n) (λ i. refl) (take k p.witnesses))

pub relation_told : (u : Usable) (s : Sym) → relation_in (vocabulary_of u).relations s ≡ usable_relation u s
relation_told (usable.Fixed p) s = own_relation_told is_fixed p.now s
relation_told (usable.Own p) s = own_relation_told any_symbol p.now s
relation_told (usable.Witnesses p n) s = own_relation_told any_symbol p.now s
relation_told (usable.Invariants p) s = invariant_relation_told p.now s

pub constant_told : (u : Usable) (s : Sym) → constant_in (vocabulary_of u).constants s ≡ usable_constant u s
constant_told (usable.Fixed p) s = own_constant_told is_fixed p.now s
constant_told (usable.Own p) s = own_constant_told any_symbol p.now s
constant_told (usable.Witnesses p n) s = witness_constant_told p.now n s
constant_told (usable.Invariants p) s = invariant_constant_told p.now s
