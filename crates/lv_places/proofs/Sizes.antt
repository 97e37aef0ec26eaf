-- The number of nodes and of equality clauses need only the numbers of terms.
use Rattle.std.proofs.Common.{◌≡◌, ℕ, zero, suc, ◌+◌, ◌-◌, ◌*◌, ◌<◌, ◌≤◌, Bool, true, false, cond, List, [], ◌∷◌, length, get_or, refl, sym, ap, ◌∙◌, subst, arith, eqb, length-append}
use Rattle.std.specs.Prelude.{◌||◌, slice_set}
use Rattle.std.proofs.lemmas.Bool.{eq-eqb, ne_eqb, cases_eq, or_left, or_right, or_from}
use Rattle.lv_formula.specs.declared.symbols.SortId.{SortId}
use Rattle.lv_places.specs.declared.terms.TermId.{TermId}
use Rattle.lv_places.specs.declared.grounded.GroundAtom.TheVariants.{Equal}
use Rattle.lv_places.specs.Forms.{Form, Yes, No, Lit, And, Or, All, Any, Forms, Nil, Cons}
use Rattle.lv_places.specs.Places.{Binder, sites}
use Rattle.lv_places.specs.GroundForms.{Naming, Tree, each, ground_form, ground_all, tree_nodes, trees_nodes}
use Rattle.lv_places.specs.Universes.{term, tuples, product}
use Rattle.lv_places.specs.Equality.{GroundClause, is, is_not, each_of, each_in, symmetric_clauses, transitive_clauses, replacements_at, replacements}
use Rattle.lv_places.specs.Sizes.{form_nodes, forms_nodes, others, replacement_count}
use Rattle.lv_places.proofs.Tests.{either}
use Rattle.lv_places.proofs.Universes.{AreTerms, Every_in, tuples_are, length-tuples}
use Rattle.lv_places.proofs.Sites.{term_at}

each_nodes : (k n c : ℕ) (h : ℕ → Tree) → ((i : ℕ) → tree_nodes (h i) ≡ c) → trees_nodes (each k n h) ≡ n * c
each_nodes k zero c h e = omega arith
each_nodes k (suc n) c h e = let p = e k in let r = each_nodes (suc k) n c h e in omega arith

module _ (u : Naming) where
  mutual
    pub nodes_of : (f : Form) (k : ℕ) (g : List Binder) (env : List TermId) → tree_nodes (ground_form u k g env f) ≡ form_nodes u.count f
    nodes_of Yes k g env = refl
    nodes_of No k g env = refl
    nodes_of (Lit b a) k g env = refl
    nodes_of (And fs) k g env = ap suc (nodes_of_all fs k g env)
    nodes_of (Or fs) k g env = ap suc (nodes_of_all fs k g env)
    nodes_of (All s f) k g env = ap suc (each_nodes 0 (u.count s) (form_nodes u.count f) _ (λ i. nodes_of f k _ _))
    nodes_of (Any s f) k g env = nodes_of f (suc k) _ _

    pub nodes_of_all : (fs : Forms) (k : ℕ) (g : List Binder) (env : List TermId) → trees_nodes (ground_all u k g env fs) ≡ forms_nodes u.count fs
    nodes_of_all Nil k g env = refl
    nodes_of_all (Cons f fs) k g env = let p = nodes_of f k g env in let r = nodes_of_all fs (k + length (sites g f)) g env in omega arith

pub length-each_of : {A : Type 0} (c k n : ℕ) (f : ℕ → List A) → ((i : ℕ) → k ≤ i → i < k + n → length (f i) ≡ c) → length (each_of k n f) ≡ n * c
length-each_of c k zero f h = omega arith
length-each_of c k (suc n) f h =
    let p = h k (omega arith) (omega arith) in
    let r = length-each_of c (suc k) n f (λ i lo hi. h i (omega arith) (omega arith)) in
    omega (arith, length-append (f k) (each_of (suc k) n f))

-- one of the numbers gives nothing
length-each_of_but : {A : Type 0} (c k n a : ℕ) (f : ℕ → List A) → k ≤ a → a < k + n → length (f a) ≡ 0
    → ((i : ℕ) → k ≤ i → i < k + n → (i ≡ a → ⊥) → length (f i) ≡ c) → length (each_of k n f) + c ≡ n * c
length-each_of_but c k zero a f lo hi z h = absurd (omega arith)
length-each_of_but c k (suc n) a f lo hi z h =
    either (cases_eq k a)
    (λ e. let z' : length (f k) ≡ 0 = ap (λ i. length (f i)) e ∙ z in
    let r = length-each_of c (suc k) n f (λ i l1 l2. h i (omega arith) (omega arith) (omega arith)) in
    omega (arith, length-append (f k) (each_of (suc k) n f)))
    (λ ne. let p = h k (omega arith) (omega arith) ne in
    let r = length-each_of_but c (suc k) n a f (omega arith) (omega arith) z (λ i l1 l2. h i (omega arith) (omega arith)) in
    omega (arith, length-append (f k) (each_of (suc k) n f)))

length-each_of_but_two : {A : Type 0} (c k n a b : ℕ) (f : ℕ → List A) → (a ≡ b → ⊥) → k ≤ a → a < k + n → k ≤ b → b < k + n → length (f a) ≡ 0
    → length (f b) ≡ 0 → ((i : ℕ) → k ≤ i → i < k + n → (i ≡ a → ⊥) → (i ≡ b → ⊥) → length (f i) ≡ c) → length (each_of k n f) + (c + c) ≡ n * c
length-each_of_but_two c k zero a b f ne la ha lb hb za zb h = absurd (omega arith)
length-each_of_but_two c k (suc n) a b f ne la ha lb hb za zb h =
    either (cases_eq k a)
    (λ e. let z' : length (f k) ≡ 0 = ap (λ i. length (f i)) e ∙ za in
    let nb : k ≡ b → ⊥ = λ q. ne (sym e ∙ q) in
    let r = length-each_of_but c (suc k) n b f (omega arith) (omega arith) zb (λ i l1 l2 n2. h i (omega arith) (omega arith) (omega arith) n2) in
    omega (arith, length-append (f k) (each_of (suc k) n f)))
    (λ na. either (cases_eq k b)
    (λ e. let z' : length (f k) ≡ 0 = ap (λ i. length (f i)) e ∙ zb in
    let r = length-each_of_but c (suc k) n a f (omega arith) (omega arith) za (λ i l1 l2 n2. h i (omega arith) (omega arith) n2 (omega arith)) in
    omega (arith, length-append (f k) (each_of (suc k) n f)))
    (λ nb. let p = h k (omega arith) (omega arith) na nb in
    let r = length-each_of_but_two c (suc k) n a b f ne (omega arith) (omega arith) (omega arith) (omega arith) za zb
    (λ i l1 l2. h i (omega arith) (omega arith)) in
    omega (arith, length-append (f k) (each_of (suc k) n f))))

one_less : (l n c : ℕ) → 0 < n → l + c ≡ n * c → l ≡ (n - 1) * c
one_less l zero c p h = absurd (omega arith)
one_less l (suc n) c p h = let e : suc n - 1 ≡ n = omega arith in rw e (omega arith)

length-unless : {A : Type 0} (b : Bool) (x : A) → b ≡ false → length (cond b [] (x ∷ [])) ≡ 1
length-unless true x e = absurd (cc)
length-unless false x e = refl

length-skipped : {A : Type 0} (b : Bool) (x : A) → b ≡ true → length (cond b [] (x ∷ [])) ≡ 0
length-skipped true x e = refl
length-skipped false x e = absurd (cc)

pub length-symmetric : (s : SortId) (n : ℕ) → length (symmetric_clauses s n) ≡ n * (n - 1)
length-symmetric s n = length-each_of (n - 1) 0 n _ (λ a lo hi.
    let f = λ (b : ℕ). cond (eqb a b) [] ((is_not (Equal (term s a) (term s b)) ∷ is (Equal (term s b) (term s a)) ∷ []) ∷ []) in
    let r = length-each_of_but 1 0 n a f (omega arith) (omega arith) (length-skipped (eqb a a) _ (eq-eqb a a refl))
    (λ i l1 l2 ne. length-unless (eqb a i) _ (ne_eqb a i (λ q. ne (sym q)))) in
    omega arith)

zero_times : (n : ℕ) → n * 0 ≡ 0
zero_times n = omega arith

pub length-transitive : (s : SortId) (n : ℕ) → length (transitive_clauses s n) ≡ n * ((n - 1) * (n - 2))
length-transitive s n = length-each_of ((n - 1) * (n - 2)) 0 n _ (λ a lo hi.
    let f = λ (b : ℕ). each_of 0 n
    (λ c. cond (eqb a b || (eqb b c || eqb a c)) []
    ((is_not (Equal (term s a) (term s b)) ∷ is_not (Equal (term s b) (term s c)) ∷ is (Equal (term s a) (term s c)) ∷ []) ∷ [])) in
    let at_a = length-each_of 0 0 n _
    (λ c l1 l2. length-skipped (eqb a a || (eqb a c || eqb a c))
    (is_not (Equal (term s a) (term s a)) ∷ is_not (Equal (term s a) (term s c)) ∷ is (Equal (term s a) (term s c)) ∷ [])
    (or_left _ _ (eq-eqb a a refl))) in
    one_less _ n (n - 2) (omega arith) (length-each_of_but (n - 2) 0 n a f (omega arith) (omega arith) (at_a ∙ zero_times n) (λ b l1 l2 ne.
    let r = length-each_of_but_two 1 0 n a b
    (λ c. cond (eqb a b || (eqb b c || eqb a c)) []
    ((is_not (Equal (term s a) (term s b)) ∷ is_not (Equal (term s b) (term s c)) ∷ is (Equal (term s a) (term s c)) ∷ []) ∷ [])) (λ q. ne (sym q))
    (omega arith) (omega arith) (omega arith) (omega arith)
    (length-skipped (eqb a b || (eqb b a || eqb a a)) _ (or_right _ _ (or_right _ _ (eq-eqb a a refl))))
    (length-skipped (eqb a b || (eqb b b || eqb a b)) _ (or_right _ _ (or_left _ _ (eq-eqb b b refl))))
    (λ c k1 k2 na nb. length-unless (eqb a b || (eqb b c || eqb a c)) _
    (or_from _ _ (ne_eqb a b (λ q. ne (sym q))) (or_from _ _ (ne_eqb b c (λ q. nb (sym q))) (ne_eqb a c (λ q. na (sym q)))))) in
    omega arith)))

-- the replacement clauses of a relation or a place
length-each : {A B : Type 0} (P : B → Type 0) (c : ℕ) (xs : List B) (f : B → List A) → Every_in P xs → ((x : B) → P x → length (f x) ≡ c)
    → length (each_in xs f) ≡ length xs * c
length-each P c [] f h g = omega arith
length-each P c (x ∷ xs) f h g =
    let p = g x h.0 in
    let r = length-each P c xs f h.1 g in
    omega (arith, length-append (f x) (each_in xs f))

length-sum : {A : Type 0} (n : SortId → ℕ) (c k : ℕ) (s0 : SortId) (ss : List SortId) (f : ℕ → List A)
    → ((i : ℕ) → i < length ss → length (f (k + i)) ≡ c * (n (get_or ss i s0) - 1)) → length (each_of k (length ss) f) ≡ others n ss * c
length-sum n c k s0 [] f h = omega arith
length-sum n c k s0 (s ∷ ss) f h =
    let z : k + 0 ≡ k = omega arith in
    let p = subst (λ j. length (f j) ≡ c * (n s - 1)) z (h 0 (omega arith)) in
    let r = length-sum n c (suc k) s0 ss f (λ i l. let z2 : k + suc i ≡ suc k + i =
    omega arith in subst (λ j. length (f j) ≡ c * (n (get_or ss i s0) - 1)) z2 (h (suc i) (omega arith))) in
    omega (arith, length-append (f k) (each_of (suc k) (length ss) f))

abbrev s0 : SortId
s0 = record { 0 = 0 }

length-replacements_at : (n : SortId → ℕ) (ss : List SortId) (f : List TermId → TermId → TermId → List TermId → GroundClause) (j : ℕ) → j < length ss
    → length (replacements_at n ss f j) ≡ product n ss * (n (get_or ss j s0) - 1)
length-replacements_at n ss f j l =
    length-each (AreTerms n ss) (n (get_or ss j s0) - 1) (tuples n ss) _ (tuples_are n ss) (λ ts are.
    let k = n (get_or ss j s0) in
    let a = get_or ts j (term s0 0) in
    let is = term_at n ss ts j s0 (term s0 0) are l in
    let w : a.place < k = is.within in
    let r = length-each_of_but 1 0 k a.place
    (λ i. cond (eqb a.place i) [] (f ts a (term (get_or ss j s0) i) (slice_set ts j (term (get_or ss j s0) i)) ∷ [])) (omega arith) (omega arith)
    (length-skipped (eqb a.place a.place) _ (eq-eqb a.place a.place refl))
    (λ i l1 l2 ne. length-unless (eqb a.place i) _ (ne_eqb a.place i (λ q. ne (sym q)))) in
    omega (arith, r))
    ∙ ap (λ c. c * (n (get_or ss j s0) - 1)) (length-tuples n ss)

pub length-replacements : (n : SortId → ℕ) (ss : List SortId) (f : List TermId → TermId → TermId → List TermId → GroundClause)
    → length (replacements n ss f) ≡ replacement_count n ss
length-replacements n ss f =
    length-sum n (product n ss) 0 s0 ss (replacements_at n ss f) (λ j l.
    let z : j ≡ 0 + j = omega arith in
    subst (λ i. length (replacements_at n ss f i) ≡ product n ss * (n (get_or ss j s0) - 1)) z (length-replacements_at n ss f j l))
