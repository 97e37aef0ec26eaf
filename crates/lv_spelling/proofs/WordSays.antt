-- What a word is read as over what is known is what it says by the rules.
use Rattle.std.proofs.Common.{◌≡◌, ℕ, Bool, true, false, not, ◌&&◌, if◌then◌else◌, eqb, List, [], ◌∷◌, ◌++◌, codes, Option, Some, None, refl, sym, ap, ap₂, subst}
use Rattle.std.proofs.lemmas.Bool.{and_from, eqb-true}
use Rattle.lv_tree.specs.declared.tree.Tree.{Tree}
use Rattle.lv_formula.specs.declared.symbols.SortId.{SortId}
use Rattle.lv_formula.specs.declared.symbols.Sym.{Sym}
use Rattle.lv_system.specs.Names.{begins_small, are_name_bytes}
use Rattle.lv_grammar.specs.Grammar.{IsWord}
use Rattle.lv_grammar.specs.declared.reading.Role.{Role}
use Rattle.lv_grammar.specs.declared.reading.Family.{Family}
use Rattle.lv_fault.specs.Given.{Worded, word_in}
use Rattle.lv_grammar.specs.WordKinds.{family_of, behind, or_else}
use Rattle.lv_grammar.specs.Known.{is_invariant, has_witnesses, Known, named, looks_small, may_stand, Said, Relation, Constant, Says, own_relation, own_constant, witness, label, frozen, saved, touched, kept, due, due_label, copy_relation, copy_constant, copy_label, IsSortName}
use Rattle.lv_grammar.specs.ReadWords.{if_behind, sort_named, sort_by, sort_in, Speaks, name_speaks, set_said, due_said, copy_said, dotted_said, freely, monitor_word, name_or_unknown, speaks_by, speaks, Predicate, relation_of, as_relation, relation_at, constant_of, as_constant, constant_at}
use Rattle.lv_grammar.specs.declared.reading.Named.{Named}
use Rattle.lv_grammar.specs.declared.reading.Named.TheVariants.{System, Sort, Symbol, Action, Fair, Label, Witness, Invariant}
use Rattle.lv_grammar.proofs.Steps.{done, ok_is, bound, passes, word_found}
use Rattle.lv_spelling.proofs.Families.{family_says, Says as FamilySays}
use Rattle.lv_spelling.proofs.Tests.{not_false}
use Rattle.lv_formula.specs.declared.symbols.Sym.TheVariants as Y
use Rattle.lv_system.specs.declared.parts.Shape.TheVariants as S
use Rattle.lv_grammar.specs.declared.reading.Role.TheVariants as R
use Rattle.lv_grammar.specs.declared.reading.Family.TheVariants as Fam

-- the bytes are the first ones and what is behind them
behind_is : (first text rest : List ℕ) → behind first text ≡ Some rest → text ≡ first ++ rest
behind_is [] text rest e = cc
behind_is (a ∷ as') [] rest e = absurd cc
behind_is (a ∷ as') (b ∷ bs) rest e = go (eqb a b) refl (behind_is as' bs rest) e where
  go : (c : Bool) → eqb a b ≡ c → (behind as' bs ≡ Some rest → bs ≡ as' ++ rest) → (if c then behind as' bs else None) ≡ Some rest → b ∷ bs ≡ a ∷ (as' ++ rest)
  go true same more e = ap₂ (λ x xs. x ∷ xs) (sym (eqb-true a b same)) (more e)
  go false same more e = absurd cc

some_is : {A : Type 0} (x y : A) → Some x ≡ Some y → x ≡ y
some_is x y e = cc

pub small_of : (text : List ℕ) → FamilySays text Fam.Name → looks_small text ≡ true
small_of text says = and_from (begins_small text && are_name_bytes text) _ says.1 (ap not says.0)

module _ (k : Known) (role : Role) where
  -- the first that says something says this, or the next does
  abbrev Told : List ℕ → Option Said → Type 0
  Told text o = (x : Said) → o ≡ Some x → Says k role text x

  nothing_told : (text : List ℕ) → Told text None
  nothing_told text x e = absurd cc

  told : (text : List ℕ) (y : Said) → Says k role text y → Told text (Some y)
  told text y s x e = subst (λ z. Says k role text z) (some_is y x e) s

  either_told : (text : List ℕ) (a b : Option Said) → Told text a → Told text b → Told text (or_else a b)
  either_told text None b f g = g
  either_told text (Some y) b f g = f

  behind_told : (text first : List ℕ) (say : List ℕ → Option Said) → ((name : List ℕ) → text ≡ first ++ name → Told text (say name)) → Told text (if_behind say (behind first text))
  behind_told text first say f = go (behind first text) refl where
    go : (o : Option (List ℕ)) → behind first text ≡ o → Told text (if_behind say o)
    go None e = nothing_told text
    go (Some name) e = f name (behind_is first text name e)

  set_told : (text : List ℕ) (name : SortId → Sym) (o : Option Named) → ((n : ℕ) → o ≡ Some (Sort n) → Says k role text (Relation (name (record { 0 = n })) (record { 0 = n } ∷ []))) → Told text (set_said name o)
  set_told text name None f = nothing_told text
  set_told text name (Some (Sort n)) f = told text _ (f n refl)
  set_told text name (Some System) f = nothing_told text
  set_told text name (Some (Symbol n shape fixed)) f = nothing_told text
  set_told text name (Some Action) f = nothing_told text
  set_told text name (Some (Fair n sorts)) f = nothing_told text
  set_told text name (Some (Label n sorts)) f = nothing_told text
  set_told text name (Some (Witness n sort)) f = nothing_told text
  set_told text name (Some Invariant) f = nothing_told text

  due_told : (text name : List ℕ) (o : Option Named) → is_invariant role ≡ true → text ≡ codes "due." ++ name → named k name ≡ o → Told text (due_said k o)
  due_told text name None i t e = nothing_told text
  due_told text name (Some (Fair n sorts)) i t e = told text _ (due name t e i)
  due_told text name (Some (Label n sorts)) i t e = told text _ (due_label name t e i)
  due_told text name (Some (Sort n)) i t e = nothing_told text
  due_told text name (Some System) i t e = nothing_told text
  due_told text name (Some (Symbol n shape fixed)) i t e = nothing_told text
  due_told text name (Some Action) i t e = nothing_told text
  due_told text name (Some (Witness n sort)) i t e = nothing_told text
  due_told text name (Some Invariant) i t e = nothing_told text

  copy_told : (text name : List ℕ) (o : Option Named) → is_invariant role ≡ true → text ≡ codes "saved." ++ name → named k name ≡ o → Told text (copy_said o)
  copy_told text name None i t e = nothing_told text
  copy_told text name (Some (Symbol n (S.Relation sorts) false)) i t e = told text _ (copy_relation name t e i)
  copy_told text name (Some (Symbol n (S.Constant sort) false)) i t e = told text _ (copy_constant name t e i)
  copy_told text name (Some (Symbol n shape true)) i t e = nothing_told text
  copy_told text name (Some (Label n sorts)) i t e = told text _ (copy_label name t e i)
  copy_told text name (Some (Fair n sorts)) i t e = nothing_told text
  copy_told text name (Some (Sort n)) i t e = nothing_told text
  copy_told text name (Some System) i t e = nothing_told text
  copy_told text name (Some Action) i t e = nothing_told text
  copy_told text name (Some (Witness n sort)) i t e = nothing_told text
  copy_told text name (Some Invariant) i t e = nothing_told text

  dotted_told : (text : List ℕ) → is_invariant role ≡ true → Told text (dotted_said k text)
  unfolding dotted_said
  dotted_told text i =
      either_told text _ _ (behind_told text (codes "touched.") _ (λ name t. set_told text Y.Touched (named k name) (λ n e. touched name t e i)))
      (either_told text _ _ (behind_told text (codes "kept.") _ (λ name t. set_told text Y.Kept (named k name) (λ n e. kept name t e i)))
      (either_told text _ _ (behind_told text (codes "due.") _ (λ name t. due_told text name (named k name) i t refl))
      (behind_told text (codes "saved.") _ (λ name t. copy_told text name (named k name) i t refl))))

  -- what speaks, where it may stand
  abbrev Spoken : List ℕ → Speaks → Type 0
  Spoken text s = (u : Unit {0}) → s.refused ≡ done u → Says k role text s.says

  spoken_is : (text : List ℕ) (x s : Speaks) → Spoken text x → Some x ≡ Some s → Spoken text s
  spoken_is text x s f e = subst (Spoken text) (some_is x s e) f

  monitor_spoken : (text : List ℕ) (at : ℕ) (r : Role) (o : Option Said) (s : Speaks) → role ≡ r → (is_invariant role ≡ true → Told text o) → monitor_word r at o ≡ done (Some s) → Spoken text s
  monitor_spoken text at R.Invariant None s q f e = absurd cc
  monitor_spoken text at R.Invariant (Some x) s q f e = spoken_is text (freely x) s (λ u z. f (ap is_invariant q) x refl) (ok_is (Some (freely x)) (Some s) e)
  monitor_spoken text at R.Axiom o s q f e = absurd cc
  monitor_spoken text at R.State o s q f e = absurd cc
  monitor_spoken text at R.Path o s q f e = absurd cc
  monitor_spoken text at R.Witness o s q f e = absurd cc

  name_spoken : (text : List ℕ) (at : ℕ) (what : Named) (s : Speaks) → looks_small text ≡ true → named k text ≡ Some what → name_speaks role at what ≡ Some s → Spoken text s
  name_spoken text at (Symbol n (S.Relation sorts) fixed) s small is e = spoken_is text _ s (λ u z. own_relation small is (not_false (may_stand role fixed) (passes _ _ _ u z))) e
  name_spoken text at (Symbol n (S.Constant sort) fixed) s small is e = spoken_is text _ s (λ u z. own_constant small is (not_false (may_stand role fixed) (passes _ _ _ u z))) e
  name_spoken text at (Label n sorts) s small is e = spoken_is text _ s (λ u z. label small is (not_false (is_invariant role) (passes _ _ _ u z))) e
  name_spoken text at (Witness n sort) s small is e = spoken_is text _ s (λ u z. witness small is (not_false (has_witnesses role) (passes _ _ _ u z))) e
  name_spoken text at System s small is e = absurd cc
  name_spoken text at (Sort n) s small is e = absurd cc
  name_spoken text at Action s small is e = absurd cc
  name_spoken text at (Fair n sorts) s small is e = absurd cc
  name_spoken text at Invariant s small is e = absurd cc

  known_spoken : (text : List ℕ) (at : ℕ) (o : Option Named) (s : Speaks) → looks_small text ≡ true → named k text ≡ o → name_or_unknown role at o ≡ done (Some s) → Spoken text s
  known_spoken text at None s small is e = absurd cc
  known_spoken text at (Some what) s small is e = name_spoken text at what s small is (ok_is (name_speaks role at what) (Some s) e)

  family_spoken : (text : List ℕ) (at : ℕ) (f : Family) (s : Speaks) → FamilySays text f → speaks_by k role at text f ≡ done (Some s) → Spoken text s
  family_spoken text at Fam.Dotted s says e = monitor_spoken text at role (dotted_said k text) s refl (λ i. dotted_told text i) e
  family_spoken text at Fam.Frozen s says e = monitor_spoken text at role (Some (Relation Y.Frozen [])) s refl (λ i. told text _ (frozen says i)) e
  family_spoken text at Fam.Saved s says e = monitor_spoken text at role (Some (Relation Y.Saved [])) s refl (λ i. told text _ (saved says i)) e
  family_spoken text at Fam.Name s says e = known_spoken text at (named k text) s (small_of text says) refl e
  family_spoken text at Fam.Variable s says e = absurd cc
  family_spoken text at Fam.Other s says e = absurd cc

  relation_said : (text : List ℕ) (at : ℕ) (x : Said) (refused : _) (r : Predicate) → ((u : Unit {0}) → refused ≡ done u → Says k role text x) → relation_of at refused x ≡ done r → Says k role text (Relation r.sym r.sorts)
  relation_said text at (Relation sym sorts) refused r f e =
      let u = bound refused _ r e in
      subst (λ (z : Predicate). Says k role text (Relation z.sym z.sorts)) (ok_is _ r u.2) (f u.0 u.1)
  relation_said text at (Constant sym sort) refused r f e = absurd cc

  pub relation_says : (at : ℕ) (text : List ℕ) (r : Predicate) → relation_at k role at text ≡ done r → Says k role text (Relation r.sym r.sorts)
  unfolding relation_at speaks
  relation_says at text r e = let o = bound (speaks k role at text) _ r e in go o.0 o.1 o.2 where
    go : (o : Option Speaks) → speaks k role at text ≡ done o → as_relation at o ≡ done r → Says k role text (Relation r.sym r.sorts)
    go None q e = absurd cc
    go (Some s) q e = relation_said text at s.says s.refused r (family_spoken text at (family_of text) s (family_says text) q) e

  constant_said : (text : List ℕ) (at : ℕ) (x : Said) (refused : _) (r : Sym × SortId) → ((u : Unit {0}) → refused ≡ done u → Says k role text x) → constant_of at refused x ≡ done r → Says k role text (Constant r.0 r.1)
  constant_said text at (Constant sym sort) refused r f e =
      let u = bound refused _ r e in
      subst (λ (z : Sym × SortId). Says k role text (Constant z.0 z.1)) (ok_is _ r u.2) (f u.0 u.1)
  constant_said text at (Relation sym sorts) refused r f e = absurd cc

  pub constant_says : (at : ℕ) (text : List ℕ) (r : Sym × SortId) → constant_at k role at text ≡ done r → Says k role text (Constant r.0 r.1)
  unfolding constant_at speaks
  constant_says at text r e = let o = bound (speaks k role at text) _ r e in go o.0 o.1 o.2 where
    go : (o : Option Speaks) → speaks k role at text ≡ done o → as_constant at o ≡ done r → Says k role text (Constant r.0 r.1)
    go None q e = absurd cc
    go (Some s) q e = constant_said text at s.says s.refused r (family_spoken text at (family_of text) s (family_says text) q) e

-- ---- the names of sorts

module _ (k : Known) where
  sort_named_is : (t : Tree) (text : List ℕ) (at : ℕ) (o : Option Named) (s : SortId) → IsWord text t → looks_small text ≡ true → named k text ≡ o → sort_named at o ≡ done s → IsSortName k s t
  sort_named_is t text at (Some (Sort n)) s is small e q = subst (λ z. IsSortName k z t) (ok_is (record { 0 = n }) s q) (record { text = text; word = is; small = small; is = e })
  sort_named_is t text at None s is small e q = absurd cc
  sort_named_is t text at (Some System) s is small e q = absurd cc
  sort_named_is t text at (Some (Symbol n shape fixed)) s is small e q = absurd cc
  sort_named_is t text at (Some Action) s is small e q = absurd cc
  sort_named_is t text at (Some (Fair n sorts)) s is small e q = absurd cc
  sort_named_is t text at (Some (Label n sorts)) s is small e q = absurd cc
  sort_named_is t text at (Some (Witness n sort)) s is small e q = absurd cc
  sort_named_is t text at (Some Invariant) s is small e q = absurd cc

  sort_family : (t : Tree) (w : Worded) (f : Family) (s : SortId) → IsWord w.text t → FamilySays w.text f → sort_by k w.at w.text f ≡ done s → IsSortName k s t
  sort_family t w Fam.Name s is says e = sort_named_is t w.text w.at (named k w.text) s is (small_of w.text says) refl e
  sort_family t w Fam.Frozen s is says e = absurd cc
  sort_family t w Fam.Saved s is says e = absurd cc
  sort_family t w Fam.Dotted s is says e = absurd cc
  sort_family t w Fam.Variable s is says e = absurd cc
  sort_family t w Fam.Other s is says e = absurd cc

  pub sort_is : (t : Tree) (s : SortId) → sort_in k t ≡ done s → IsSortName k s t
  unfolding sort_in
  sort_is t s e =
      let w = bound (word_in t) _ s e in
      sort_family t w.0 (family_of w.0.text) s (word_found t w.0 w.1) (family_says w.0.text) w.2
