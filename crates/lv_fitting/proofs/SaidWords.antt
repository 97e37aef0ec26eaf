-- What words say over what is known is of the system's vocabularies, and a symbol's word is the one that says it.
use Rattle.std.proofs.Common.{◌≡◌, ℕ, ◌+◌, ◌-◌, ◌<◌, Bool, true, false, ltb, List, [], ◌∷◌, ◌++◌, length, take, codes, slice_get, Some, None, refl, sym, ap, subst, ◌∙◌, arith}
use Rattle.std.proofs.lemmas.Bool.{ltb-true, lt-ltb}
use Rattle.std.proofs.lemmas.Option.{slice_get_past}
use Rattle.lv_tree.specs.declared.tree.Tree.{Tree}
use Rattle.lv_formula.specs.declared.symbols.SortId.{SortId}
use Rattle.lv_formula.specs.declared.symbols.Sym.{Sym}
use Rattle.lv_formula.specs.declared.symbols.Sym.TheVariants as Y
use Rattle.lv_formula.specs.Vocabulary.{relation_in, constant_in}
use Rattle.lv_system.specs.declared.parts.Parts.{Parts}
use Rattle.lv_system.specs.declared.parts.Fair.{Fair as FairItem}
use Rattle.lv_system.specs.declared.parts.Shape.{Shape}
use Rattle.lv_system.specs.declared.parts.Shape.TheVariants as S
use Rattle.lv_system.specs.Vocabularies.{is_fixed, any_symbol, own_vocabulary, fixed_vocabulary, witness_vocabulary}
use Rattle.lv_system.proofs.LookupLaws.{own_relation_told, own_constant_told, witness_constant_told}
use Rattle.lv_grammar.specs.declared.reading.Named.{Named}
use Rattle.lv_grammar.specs.declared.reading.Named.TheVariants.{Sort, Symbol, Fair, Label, Witness}
use Rattle.lv_grammar.specs.declared.reading.Role.{Role}
use Rattle.lv_grammar.specs.declared.reading.Role.TheVariants as R
use Rattle.lv_grammar.specs.LabelLimits.{spoken_vocabulary}
use Rattle.lv_grammar.specs.Words.{symbol_word, is_spoken, sort_name, own_name}
use Rattle.lv_grammar.specs.Known.{Known, named, is_invariant, has_witnesses, Said, Relation, Constant, Says, own_relation, own_constant, witness, label, frozen, saved, touched, kept, due, due_label, copy_relation, copy_constant, copy_label, IsSortName}
use Rattle.lv_grammar.specs.KnownOf.{sym_of, Right, AllRight}
use Rattle.lv_grammar.specs.Agrees.{Agrees}
use Rattle.lv_fitting.proofs.Entries.{below, name_there, what_right, AreEarly, what_early}
use Rattle.lv_fitting.proofs.SpokenWords.{spoken_relation_told, spoken_constant_told}

-- ---- what words say there is of the vocabulary

module _ (k : Known) (p : Parts) (a : AllRight p k.names) where
  pub sort_below : (s : SortId) (t : Tree) → IsSortName k s t → ltb s.0 (length p.sorts) ≡ true
  unfolding named
  sort_below s t is = let r = what_right p k.names is.text (Sort s.0) a is.is in below p.sorts s.0 r.0 r.1

  -- outside invariants words say own symbols, and witnesses where these may stand
  module _ (role : Role) (plain : is_invariant role ≡ false) where
    never : {A : Type 0} → is_invariant role ≡ true → A
    never i = let z : true ≡ false = sym i ∙ plain in absurd cc

    own_said : (text : List ℕ) (sym' : Sym) (sorts : List SortId) → Says k role text (Relation sym' sorts) → relation_in (own_vocabulary p).relations sym' ≡ Some sorts
    unfolding named
    own_said text sym' sorts (own_relation {n = n} {fixed = x} small e may) = let r = what_right p k.names text (Symbol n (S.Relation sorts) x) a e in own_relation_told any_symbol p (Y.Own n) ∙ rw r refl
    own_said text sym' sorts (label small e i) = never i
    own_said text sym' sorts (frozen t i) = never i
    own_said text sym' sorts (saved t i) = never i
    own_said text sym' sorts (touched name t e i) = never i
    own_said text sym' sorts (kept name t e i) = never i
    own_said text sym' sorts (due name t e i) = never i
    own_said text sym' sorts (due_label name t e i) = never i
    own_said text sym' sorts (copy_relation name t e i) = never i
    own_said text sym' sorts (copy_label name t e i) = never i

    constant_said : has_witnesses role ≡ false → (text : List ℕ) (sym' : Sym) (sort : SortId) → Says k role text (Constant sym' sort) → constant_in (own_vocabulary p).constants sym' ≡ Some sort
    unfolding named
    constant_said none text sym' sort (own_constant {n = n} {fixed = x} small e may) = let r = what_right p k.names text (Symbol n (S.Constant sort) x) a e in own_constant_told any_symbol p (Y.Own n) ∙ rw r refl
    constant_said none text sym' sort (witness small e may) = let z : true ≡ false = sym may ∙ none in absurd cc
    constant_said none text sym' sort (copy_constant name t e i) = never i

    pub own_agrees : has_witnesses role ≡ false → Agrees k role (own_vocabulary p)
    own_agrees none = record { relation = own_said; constant = constant_said none; sort = sort_below }

    -- where the witnesses that are known are the first so many
    witness_said : (n : ℕ) → AreEarly n k.names → (text : List ℕ) (sym' : Sym) (sort : SortId) → Says k role text (Constant sym' sort) → constant_in (witness_vocabulary p n).constants sym' ≡ Some sort
    unfolding named
    witness_said n early text sym' sort (own_constant {n = m} {fixed = x} small e may) = let r = what_right p k.names text (Symbol m (S.Constant sort) x) a e in witness_constant_told p n (Y.Own m) ∙ rw r refl
    witness_said n early text sym' sort (witness {n = m} small e may) =
        let r = what_right p k.names text (Witness m sort) a e in
        let lt = what_early n k.names text (Witness m sort) early e in
        witness_constant_told p n (Y.Witness m) ∙ rw (lt-ltb m n lt, r.1) (ap Some r.3)
    witness_said n early text sym' sort (copy_constant name t e i) = never i

    pub witness_agrees : (n : ℕ) → AreEarly n k.names → Agrees k role (witness_vocabulary p n)
    witness_agrees n early = record { relation = own_said; constant = witness_said n early; sort = sort_below }

  axiom_relation : (text : List ℕ) (sym' : Sym) (sorts : List SortId) → Says k R.Axiom text (Relation sym' sorts) → relation_in (fixed_vocabulary p).relations sym' ≡ Some sorts
  unfolding named
  axiom_relation text sym' sorts (own_relation {n = n} {fixed = x} small e may) = let r = what_right p k.names text (Symbol n (S.Relation sorts) x) a e in own_relation_told is_fixed p (Y.Own n) ∙ rw (r, may) refl
  axiom_relation text sym' sorts (label small e i) = absurd cc
  axiom_relation text sym' sorts (frozen t i) = absurd cc
  axiom_relation text sym' sorts (saved t i) = absurd cc
  axiom_relation text sym' sorts (touched name t e i) = absurd cc
  axiom_relation text sym' sorts (kept name t e i) = absurd cc
  axiom_relation text sym' sorts (due name t e i) = absurd cc
  axiom_relation text sym' sorts (due_label name t e i) = absurd cc
  axiom_relation text sym' sorts (copy_relation name t e i) = absurd cc
  axiom_relation text sym' sorts (copy_label name t e i) = absurd cc

  axiom_constant : (text : List ℕ) (sym' : Sym) (sort : SortId) → Says k R.Axiom text (Constant sym' sort) → constant_in (fixed_vocabulary p).constants sym' ≡ Some sort
  unfolding named
  axiom_constant text sym' sort (own_constant {n = n} {fixed = x} small e may) = let r = what_right p k.names text (Symbol n (S.Constant sort) x) a e in own_constant_told is_fixed p (Y.Own n) ∙ rw (r, may) refl
  axiom_constant text sym' sort (witness small e may) = absurd cc
  axiom_constant text sym' sort (copy_constant name t e i) = absurd cc

  pub axiom_agrees : Agrees k R.Axiom (fixed_vocabulary p)
  axiom_agrees = record { relation = axiom_relation; constant = axiom_constant; sort = sort_below }

-- ---- the word of a symbol is the word that says it

module _ (k : Known) (p : Parts) (a : AllRight p k.names) where
  right_of : (text : List ℕ) (w : Named) → named k text ≡ Some w → Right p text w
  unfolding named
  right_of text w e = what_right p k.names text w a e

  fair_below : (n : ℕ) (c : FairItem) → slice_get p.fairs n ≡ Some c → ltb n (length p.fairs) ≡ true
  fair_below n c e = below p.fairs n c e

  behind_fairs : (n : ℕ) → k.fairs ≡ length p.fairs → (ltb (k.fairs + n) (length p.fairs) ≡ false) × (k.fairs + n - length p.fairs ≡ n)
  behind_fairs n fairs = (go (ltb (k.fairs + n) (length p.fairs)) refl, omega (arith, fairs)) where
    go : (b : Bool) → ltb (k.fairs + n) (length p.fairs) ≡ b → b ≡ false
    go false h = refl
    go true h = let lt = ltb-true (k.fairs + n) (length p.fairs) h in absurd (omega (arith, lt, fairs))

  -- the conditions of fairness are known where words of the monitor may stand
  pub says_word : (role : Role) → (is_invariant role ≡ true → k.fairs ≡ length p.fairs) → (text : List ℕ) (said : Said) → Says k role text said → (symbol_word p (sym_of said) ≡ text) × (is_spoken p (sym_of said) ≡ true)
  says_word role fairs text said (own_relation {n = n} {sorts = ss} {fixed = x} small e may) = (name_there (λ s. s.name) p.symbols n _ (right_of text (Symbol n (S.Relation ss) x) e), refl)
  says_word role fairs text said (own_constant {n = n} {sort = s} {fixed = x} small e may) = (name_there (λ s. s.name) p.symbols n _ (right_of text (Symbol n (S.Constant s) x) e), refl)
  says_word role fairs text said (witness {n = n} {sort = s} small e may) = let r = right_of text (Witness n s) e in (name_there (λ w. w.name) p.witnesses n r.0 r.1 ∙ r.2, refl)
  says_word role fairs text said (label {n = n} {sorts = ss} small e i) = let r = right_of text (Label n ss) e in (rw r.0 refl, rw r.0 refl)
  says_word role fairs text said (frozen t i) = (sym t, refl)
  says_word role fairs text said (saved t i) = (sym t, refl)
  says_word role fairs text said (touched {n = n} name t e i) = let r = right_of name (Sort n) e in (ap (λ z. codes "touched." ++ z) (name_there (λ s. s.name) p.sorts n r.0 r.1 ∙ r.2) ∙ sym t, refl)
  says_word role fairs text said (kept {n = n} name t e i) = let r = right_of name (Sort n) e in (ap (λ z. codes "kept." ++ z) (name_there (λ s. s.name) p.sorts n r.0 r.1 ∙ r.2) ∙ sym t, refl)
  says_word role fairs text said (due {n = n} {sorts = ss} name t e i) =
      let r = right_of name (Fair n ss) e in
      (rw (fair_below n r.0 r.1) (ap (λ z. codes "due." ++ z) (name_there (λ c. c.name) p.fairs n r.0 r.1 ∙ r.2)) ∙ sym t, rw (fair_below n r.0 r.1) refl)
  says_word role fairs text said (due_label {n = n} {sorts = ss} name t e i) =
      let r = right_of name (Label n ss) e in
      let b = behind_fairs n (fairs i) in
      (rw (b.0, b.1, r.0) refl ∙ sym t, rw (b.0, b.1, r.0) refl)
  says_word role fairs text said (copy_relation {n = n} {sorts = ss} name t e i) = (ap (λ z. codes "saved." ++ z) (name_there (λ s. s.name) p.symbols n _ (right_of name (Symbol n (S.Relation ss) false) e)) ∙ sym t, refl)
  says_word role fairs text said (copy_constant {n = n} {sort = s} name t e i) = (ap (λ z. codes "saved." ++ z) (name_there (λ s. s.name) p.symbols n _ (right_of name (Symbol n (S.Constant s) false) e)) ∙ sym t, refl)
  says_word role fairs text said (copy_label {n = n} {sorts = ss} name t e i) = let r = right_of name (Label n ss) e in (rw r.0 refl ∙ sym t, rw r.0 refl)

  pub sort_word : (s : SortId) (t : Tree) (is : IsSortName k s t) → sort_name p s ≡ is.text
  sort_word s t is = let r = right_of is.text (Sort s.0) is.is in name_there (λ s. s.name) p.sorts s.0 r.0 r.1 ∙ r.2

  pub own_word : (n : ℕ) (text : List ℕ) (shape : Shape) (fixed : Bool) → named k text ≡ Some (Symbol n shape fixed) → own_name p n ≡ text
  own_word n text shape fixed e = name_there (λ s. s.name) p.symbols n _ (right_of text (Symbol n shape fixed) e)

-- ---- invariants

module _ (k : Known) (p : Parts) (a : AllRight p k.names) (fairs : k.fairs ≡ length p.fairs) where
  invariant_says : (text : List ℕ) (sym' : Sym) (sorts : List SortId) → Says k R.Invariant text (Relation sym' sorts) → relation_in (spoken_vocabulary p).relations sym' ≡ Some sorts
  invariant_says text sym' sorts (own_relation {n = n} {fixed = x} small e may) = spoken_relation_told p (Y.Own n) ∙ rw (right_of k p a text (Symbol n (S.Relation sorts) x) e) refl
  invariant_says text sym' sorts (label {n = n} small e i) = let r = right_of k p a text (Label n sorts) e in spoken_relation_told p (Y.Label n) ∙ rw r.2 (ap Some r.3)
  invariant_says text sym' sorts (frozen t i) = spoken_relation_told p Y.Frozen
  invariant_says text sym' sorts (saved t i) = spoken_relation_told p Y.Saved
  invariant_says text sym' sorts (touched {n = n} name t e i) = let r = right_of k p a name (Sort n) e in spoken_relation_told p (Y.Touched (record { 0 = n })) ∙ rw (below p.sorts n r.0 r.1) refl
  invariant_says text sym' sorts (kept {n = n} name t e i) = let r = right_of k p a name (Sort n) e in spoken_relation_told p (Y.Kept (record { 0 = n })) ∙ rw (below p.sorts n r.0 r.1) refl
  invariant_says text sym' sorts (due {n = n} name t e i) = let r = right_of k p a name (Fair n sorts) e in spoken_relation_told p (Y.Due n) ∙ rw r.1 (ap Some r.3)
  invariant_says text sym' sorts (due_label {n = n} name t e i) =
      let r = right_of k p a name (Label n sorts) e in
      let b = behind_fairs k p a n fairs in
      let past : slice_get p.fairs (k.fairs + n) ≡ None = slice_get_past p.fairs (k.fairs + n) (omega (arith, fairs)) in
      spoken_relation_told p (Y.Due (k.fairs + n)) ∙ rw (past, b.0, b.1, r.2) (ap Some r.3)
  invariant_says text sym' sorts (copy_relation {n = n} name t e i) = spoken_relation_told p (Y.Copy n) ∙ rw (right_of k p a name (Symbol n (S.Relation sorts) false) e) refl
  invariant_says text sym' sorts (copy_label {n = n} name t e i) = let r = right_of k p a name (Label n sorts) e in spoken_relation_told p (Y.CopyLabel n) ∙ rw r.2 (ap Some r.3)

  invariant_constant : (text : List ℕ) (sym' : Sym) (sort : SortId) → Says k R.Invariant text (Constant sym' sort) → constant_in (spoken_vocabulary p).constants sym' ≡ Some sort
  invariant_constant text sym' sort (own_constant {n = n} {fixed = x} small e may) = spoken_constant_told p (Y.Own n) ∙ rw (right_of k p a text (Symbol n (S.Constant sort) x) e) refl
  invariant_constant text sym' sort (witness {n = n} small e may) = let r = right_of k p a text (Witness n sort) e in spoken_constant_told p (Y.Witness n) ∙ rw r.1 (ap Some r.3)
  invariant_constant text sym' sort (copy_constant {n = n} name t e i) = spoken_constant_told p (Y.Copy n) ∙ rw (right_of k p a name (Symbol n (S.Constant sort) false) e) refl

  pub invariant_agrees : Agrees k R.Invariant (spoken_vocabulary p)
  invariant_agrees = record { relation = invariant_says; constant = invariant_constant; sort = sort_below k p a }
