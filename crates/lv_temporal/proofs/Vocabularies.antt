-- What the vocabularies of a system say of own symbols, witnesses and labels.
use Rattle.std.proofs.Common.{◌≡◌, ℕ, zero, suc, ◌+◌, ◌<◌, ◌≤◌, Bool, true, false, cond, List, [], ◌∷◌, ◌++◌, length, get_or, take, Option, Some, None, refl, sym, ap, ◌∙◌, arith, inl, inr, ◌⊎◌}
use Rattle.lv_formula.specs.declared.symbols.SortId.{SortId}
use Rattle.lv_formula.specs.declared.symbols.Sym.{Sym}
use Rattle.lv_formula.specs.declared.symbols.Sym.TheVariants.{Own, Witness, Label}
use Rattle.lv_formula.specs.declared.vocabulary.RelShape.{RelShape}
use Rattle.lv_formula.specs.declared.vocabulary.ConShape.{ConShape}
use Rattle.lv_formula.specs.Symbols.{sym_eq}
use Rattle.lv_formula.specs.Vocabulary.{relation_in, constant_in}
use Rattle.lv_formula.proofs.SymbolLaws.{sym_eq-true}
use Rattle.lv_system.specs.declared.parts.Parts.{Parts}
use Rattle.lv_system.specs.declared.parts.Symbol.{Symbol}
use Rattle.lv_system.specs.declared.parts.WitnessDecl.{WitnessDecl}
use Rattle.lv_system.specs.Vocabularies.{relation_sorts, constant_sort, relation_if, constant_if, relations_from, constants_from, any_symbol, witnesses_from, own_vocabulary, witness_vocabulary}
use Rattle.lv_temporal.proofs.Words.{constant-stop}
use Rattle.lv_temporal.specs.TrueLabels.{no_witness, witness_at}
use Rattle.lv_temporal.proofs.Fits.{Extends}
use Rattle.lv_temporal.proofs.ReadingTruth.{HasNoLabel}

-- no own symbol is the symbol
abbrev pub NotOwn : Sym → Type 0
NotOwn c = (n : ℕ) → sym_eq (Own n) c ≡ false

-- a witness is no own symbol
pub witness_apart : (k : ℕ) → NotOwn (Witness k)
unfolding sym_eq
witness_apart k n = refl

-- a label is no own symbol
pub label_apart : (k : ℕ) → NotOwn (Label k)
unfolding sym_eq
label_apart k n = refl

module _ (c : Sym) (apart : NotOwn c) where
  no_constant_if : (b : ℕ) (o : Option SortId) (rest : List ConShape) → constant_in rest c ≡ None → constant_in (constant_if true (Own b) o rest) c ≡ None
  no_constant_if b None rest h = h
  no_constant_if b (Some s) rest h = ap (λ t. cond t (Some s) (constant_in rest c)) (apart b) ∙ h

  -- such a symbol is not among the own constants
  pub no_own_constant : (b : ℕ) (ss : List Symbol) → constant_in (constants_from any_symbol Own b ss) c ≡ None
  no_own_constant b [] = refl
  no_own_constant b (s ∷ ss) = no_constant_if b (constant_sort s.shape) (constants_from any_symbol Own (suc b) ss) (no_own_constant (suc b) ss)

  no_relation_if : (b : ℕ) (o : Option (List SortId)) (rest : List RelShape) → relation_in rest c ≡ None → relation_in (relation_if true (Own b) o rest) c ≡ None
  no_relation_if b None rest h = h
  no_relation_if b (Some s) rest h = ap (λ t. cond t (Some s) (relation_in rest c)) (apart b) ∙ h

  -- nor among the own relations
  pub no_own_relation : (b : ℕ) (ss : List Symbol) → relation_in (relations_from any_symbol Own b ss) c ≡ None
  no_own_relation b [] = refl
  no_own_relation b (s ∷ ss) = no_relation_if b (relation_sorts s.shape) (relations_from any_symbol Own (suc b) ss) (no_own_relation (suc b) ss)

-- no label is among the relations of the own symbols and witnesses
pub witness_vocabulary_plain : (p : Parts) (n : ℕ) → HasNoLabel (witness_vocabulary p n)
witness_vocabulary_plain p n k = no_own_relation (Label k) (label_apart k) 0 p.symbols

-- ---- constants of two lists

-- a constant of both is found in the first, or else in the second
pub constant_split : (xs ys : List ConShape) (c : Sym) (s : SortId) → constant_in (xs ++ ys) c ≡ Some s → (constant_in xs c ≡ Some s) ⊎ ((constant_in xs c ≡ None) × (constant_in ys c ≡ Some s))
constant_split [] ys c s h = inr (refl, h)
constant_split (x ∷ xs) ys c s h = go (sym_eq x.sym c) h (constant_split xs ys c s)
  where
    go : (b : Bool) → cond b (Some x.sort) (constant_in (xs ++ ys) c) ≡ Some s → (constant_in (xs ++ ys) c ≡ Some s → (constant_in xs c ≡ Some s) ⊎ ((constant_in xs c ≡ None) × (constant_in ys c ≡ Some s)))
        → (cond b (Some x.sort) (constant_in xs c) ≡ Some s) ⊎ ((cond b (Some x.sort) (constant_in xs c) ≡ None) × (constant_in ys c ≡ Some s))
    go true e ih = inl e
    go false e ih = ih e

-- what the first list has not is found in both as in the second
pub constant_second : (xs ys : List ConShape) (c : Sym) → constant_in xs c ≡ None → constant_in (xs ++ ys) c ≡ constant_in ys c
constant_second [] ys c h = refl
constant_second (x ∷ xs) ys c h = go (sym_eq x.sym c) h (constant_second xs ys c)
  where
    go : (b : Bool) → cond b (Some x.sort) (constant_in xs c) ≡ None → (constant_in xs c ≡ None → constant_in (xs ++ ys) c ≡ constant_in ys c) → cond b (Some x.sort) (constant_in (xs ++ ys) c) ≡ constant_in ys c
    go true e ih = cc
    go false e ih = ih e

-- ---- witnesses

-- the constant is a witness of the list, whose first has the number b
pub record IsWitness (ws : List WitnessDecl) (b : ℕ) (c : Sym) (s : SortId) : Type 0 where
  pub number : ℕ
  pub below : number < length ws
  pub name : c ≡ Witness (b + number)
  pub sort : s ≡ (get_or ws number no_witness).sort

some_same : (s t : SortId) → Some s ≡ Some t → s ≡ t
some_same s t e = cc

-- a constant that is found among witnesses is one of them
pub witness_found : (ws : List WitnessDecl) (b : ℕ) (c : Sym) (s : SortId) → constant_in (witnesses_from b ws) c ≡ Some s → IsWitness ws b c s
witness_found [] b c s h = cc
witness_found (w ∷ ws) b c s h = go (sym_eq (Witness b) c) refl h (witness_found ws (suc b) c s)
  where
    plus_zero : (x : ℕ) → x ≡ x + 0
    plus_zero x = omega arith

    plus_suc : (x i : ℕ) → suc x + i ≡ x + suc i
    plus_suc x i = omega arith

    later : IsWitness ws (suc b) c s → IsWitness (w ∷ ws) b c s
    later r = record { number = suc r.number; below = omega (arith, r.below); name = r.name ∙ ap Witness (plus_suc b r.number); sort = r.sort }

    go : (t : Bool) → sym_eq (Witness b) c ≡ t → cond t (Some w.sort) (constant_in (witnesses_from (suc b) ws) c) ≡ Some s → (constant_in (witnesses_from (suc b) ws) c ≡ Some s → IsWitness ws (suc b) c s) → IsWitness (w ∷ ws) b c s
    go true e k ih = record { number = 0; below = omega arith; name = sym (sym_eq-true (Witness b) c e) ∙ ap Witness (plus_zero b); sort = some_same s w.sort (sym k) }
    go false e k ih = later (ih k)

-- an item of the first n witnesses
pub get_taken : (n : ℕ) (ws : List WitnessDecl) (i : ℕ) → i < length (take n ws) → (i < n) × (i < length ws) × (get_or (take n ws) i no_witness ≡ get_or ws i no_witness)
get_taken zero ws i lt = absurd (omega (arith, lt))
get_taken (suc n) [] i lt = absurd (omega arith)
get_taken (suc n) (w ∷ ws) zero lt = (omega arith, omega arith, refl)
get_taken (suc n) (w ∷ ws) (suc i) lt = let r : (i < n) × (i < length ws) × (get_or (take n ws) i no_witness ≡ get_or ws i no_witness) = get_taken n ws i (omega arith) in (omega (arith, r.0), omega (arith, r.1), r.2)

-- a witness of a system with a number below n
pub record IsEarly (p : Parts) (n : ℕ) (c : Sym) (s : SortId) : Type 0 where
  pub number : ℕ
  pub early : number < n
  pub below : number < length p.witnesses
  pub name : c ≡ Witness number
  pub sort : s ≡ (witness_at p number).sort

taken : (p : Parts) (n : ℕ) (c : Sym) (s : SortId) → IsWitness (take n p.witnesses) 0 c s → IsEarly p n c s
taken p n c s r = let t : (r.number < n) × (r.number < length p.witnesses) × (get_or (take n p.witnesses) r.number no_witness ≡ get_or p.witnesses r.number no_witness) = get_taken n p.witnesses r.number r.below in record {
  number = r.number;
  early = t.0;
  below = t.1;
  name = r.name ∙ ap Witness (zero_plus r.number);
  sort = r.sort ∙ ap (λ w. w.sort) t.2;
}
  where
    zero_plus : (x : ℕ) → 0 + x ≡ x
    zero_plus x = omega arith

-- a constant of the own symbols and the first n witnesses is of the own symbols, or one of the witnesses
pub constant_cases : (p : Parts) (n : ℕ) (c : Sym) (s : SortId) → constant_in (witness_vocabulary p n).constants c ≡ Some s → (constant_in (own_vocabulary p).constants c ≡ Some s) ⊎ IsEarly p n c s
constant_cases p n c s h = elim (constant_split (constants_from any_symbol Own 0 p.symbols) (witnesses_from 0 (take n p.witnesses)) c s h) [
  | inl e ↦ inl e
  | inr e ↦ inr (taken p n c s (witness_found (take n p.witnesses) 0 c s e.1))
]

witness_number : (j k : ℕ) → Witness j ≡ Witness k → j ≡ k
witness_number j k e = cc

-- a witness that the vocabulary of the first n has is one of the first n
pub witness_early : (p : Parts) (n k : ℕ) (s : SortId) → constant_in (witness_vocabulary p n).constants (Witness k) ≡ Some s → (k < n) × (k < length p.witnesses) × (s ≡ (witness_at p k).sort)
witness_early p n k s h = elim (constant_cases p n (Witness k) s h) [ inl e ↦ absurd (none_some (sym (no_own_constant (Witness k) (witness_apart k) 0 p.symbols) ∙ e)) | inr r ↦ moved r ]
  where
    none_some : None ≡ Some s → ⊥
    none_some e = cc

    moved : IsEarly p n (Witness k) s → (k < n) × (k < length p.witnesses) × (s ≡ (witness_at p k).sort)
    moved r = let e : k ≡ r.number = witness_number k r.number r.name in (omega (arith, e, r.early), omega (arith, e, r.below), r.sort ∙ ap (λ i. (witness_at p i).sort) (sym e))

-- ---- vocabularies with more witnesses

-- the own symbols are among the own symbols and witnesses
pub own_extends : (p : Parts) (n : ℕ) → Extends (own_vocabulary p) (witness_vocabulary p n)
own_extends p n = record {
  sorts = refl;
  relations = λ r ss h. h;
  constants = λ c s h. constant-stop (constants_from any_symbol Own 0 p.symbols) (witnesses_from 0 (take n p.witnesses)) c s h;
}

more_witnesses : (j k b : ℕ) (ws : List WitnessDecl) (c : Sym) (s : SortId) → j ≤ k → constant_in (witnesses_from b (take j ws)) c ≡ Some s → constant_in (witnesses_from b (take k ws)) c ≡ Some s
more_witnesses zero k b ws c s le h = cc
more_witnesses (suc j) zero b ws c s le h = absurd (omega arith)
more_witnesses (suc j) (suc k) b [] c s le h = cc
more_witnesses (suc j) (suc k) b (w ∷ ws) c s le h = go (sym_eq (Witness b) c) h (more_witnesses j k (suc b) ws c s (omega arith))
  where
    go : (t : Bool) → cond t (Some w.sort) (constant_in (witnesses_from (suc b) (take j ws)) c) ≡ Some s → (constant_in (witnesses_from (suc b) (take j ws)) c ≡ Some s → constant_in (witnesses_from (suc b) (take k ws)) c ≡ Some s)
        → cond t (Some w.sort) (constant_in (witnesses_from (suc b) (take k ws)) c) ≡ Some s
    go true e ih = e
    go false e ih = ih e

-- the first j witnesses are among the first k
pub witness_extends : (p : Parts) (j k : ℕ) → j ≤ k → Extends (witness_vocabulary p j) (witness_vocabulary p k)
witness_extends p j k le = record {
  sorts = refl;
  relations = λ r ss h. h;
  constants = λ c s h. elim (constant_split (constants_from any_symbol Own 0 p.symbols) (witnesses_from 0 (take j p.witnesses)) c s h) [
    | inl e ↦ constant-stop (constants_from any_symbol Own 0 p.symbols) (witnesses_from 0 (take k p.witnesses)) c s e
    | inr e ↦ constant_second (constants_from any_symbol Own 0 p.symbols) (witnesses_from 0 (take k p.witnesses)) c e.0 ∙ more_witnesses j k 0 p.witnesses c s le e.1
  ];
}
