-- What the equality clauses say.
use Rattle.std.proofs.Common.{◌≡◌, ℕ, zero, suc, ◌+◌, ◌<◌, ◌≤◌, Bool, true, false, not, cond, List, [], ◌∷◌, ◌++◌, length, get_or, Some, refl, sym, ap, ◌∙◌, subst, arith, eqb, length-append}
use Rattle.std.specs.Prelude.{◌||◌, slice_get, slice_set}
use Rattle.std.proofs.Math.Seq.{get_or-append_seam, set-append_seam}
use Rattle.std.proofs.lemmas.Bool.{and_parts, and_from, or_cases, ne_eqb, cond-true, cond-false, false≢true, cases_eq}
use Rattle.lv_formula.specs.declared.symbols.SortId.{SortId}
use Rattle.lv_formula.specs.declared.symbols.Sym.{Sym}
use Rattle.lv_formula.specs.declared.vocabulary.RelShape.{RelShape}
use Rattle.lv_formula.specs.Symbols.{sym_eq}
use Rattle.lv_formula.specs.Vocabulary.{relation_in}
use Rattle.lv_formula.proofs.SymbolLaws.{sym_eq-true}
use Rattle.lv_places.specs.declared.terms.TermId.{TermId}
use Rattle.lv_places.specs.declared.grounded.GroundAtom.{GroundAtom}
use Rattle.lv_places.specs.declared.grounded.GroundAtom.TheVariants.{Relation, Equal}
use Rattle.lv_places.specs.Universes.{term, tuples, tuple_number}
use Rattle.lv_places.specs.Equality.{GroundClause, is, is_not, ground_true, all_ground_true, each_of, each_in, reflexive_clauses, symmetric_clauses, transitive_clauses, sort_clauses, replacements, relation_change, relation_clauses}
use Rattle.lv_places.proofs.Tests.{either, by_cases}
use Rattle.lv_places.proofs.Universes.{IsTerm, AreTerms, same_length, term_is, tuple_at}
use Rattle.lv_places.proofs.Sites.{term_at}
use Rattle.lv_model.specs.Classes.{equal_in}
use Rattle.lv_model.proofs.Quotient.{IsEquivalence}
use Rattle.lv_model.proofs.Model.{Respects}

pub all_both : (v : GroundAtom → Bool) (xs ys : List GroundClause) → all_ground_true v (xs ++ ys) ≡ true → (all_ground_true v xs ≡ true) ×
    (all_ground_true v ys ≡ true)
all_both v [] ys h = (refl, h)
all_both v (c ∷ xs) ys h =
    let p = and_parts (ground_true v c) _ h in
    let r = all_both v xs ys p.1 in
    (and_from _ _ p.0 r.0, r.1)

pub each_of_at : (v : GroundAtom → Bool) (k n i : ℕ) (f : ℕ → List GroundClause) → all_ground_true v (each_of k n f) ≡ true → k ≤ i → i < k + n
    → all_ground_true v (f i) ≡ true
each_of_at v k zero i f h lo hi = absurd (omega arith)
each_of_at v k (suc n) i f h lo hi =
    let p = all_both v (f k) (each_of (suc k) n f) h in
    either (cases_eq i k) (λ e. subst (λ j. all_ground_true v (f j) ≡ true) (sym e) p.0) (λ ne. each_of_at v (suc k) n i f p.1 (omega arith) (omega arith))

each_in_at : {B : Type 0} (v : GroundAtom → Bool) (xs : List B) (k : ℕ) (x : B) (f : B → List GroundClause) → all_ground_true v (each_in xs f) ≡ true
    → slice_get xs k ≡ Some x → all_ground_true v (f x) ≡ true
each_in_at v [] k x f h i = absurd (cc)
each_in_at v (y ∷ xs) zero x f h i = let e : y ≡ x = cc in subst (λ z. all_ground_true v (f z) ≡ true) e (all_both v (f y) (each_in xs f) h).0
each_in_at v (y ∷ xs) (suc k) x f h i = each_in_at v xs k x f (all_both v (f y) (each_in xs f) h).1 i

-- one clause, unless the test holds
unless_at : (v : GroundAtom → Bool) (b : Bool) (c : GroundClause) → all_ground_true v (cond b [] (c ∷ [])) ≡ true → b ≡ false → ground_true v c ≡ true
unless_at v true c h e = absurd (false≢true (sym e))
unless_at v false c h e = (and_parts (ground_true v c) true h).0

two_bool : (x y : Bool) → not x || (y || false) ≡ true → x ≡ true → y ≡ true
two_bool true true h p = refl
two_bool true false h p = absurd (false≢true h)
two_bool false y h p = absurd (false≢true p)

three_bool : (x y z : Bool) → not x || (not y || (z || false)) ≡ true → x ≡ true → y ≡ true → z ≡ true
three_bool true y z h p q = two_bool y z h q
three_bool false y z h p q = absurd (false≢true p)

two_at : (v : GroundAtom → Bool) (a b : GroundAtom) → ground_true v (is_not a ∷ is b ∷ []) ≡ true → v a ≡ true → v b ≡ true
two_at v a b h p = two_bool (v a) (v b) h p

three_at : (v : GroundAtom → Bool) (a b c : GroundAtom) → ground_true v (is_not a ∷ is_not b ∷ is c ∷ []) ≡ true → v a ≡ true → v b ≡ true → v c ≡ true
three_at v a b c h p q = three_bool (v a) (v b) (v c) h p q

-- the clauses of a sort say that its equality is an equivalence
module _ (v : GroundAtom → Bool) (s : SortId) (n : ℕ) (h : all_ground_true v (sort_clauses s n) ≡ true) where
  sort_parts : (all_ground_true v (reflexive_clauses s n) ≡ true) × (all_ground_true v (symmetric_clauses s n) ≡ true) ×
      (all_ground_true v (transitive_clauses s n) ≡ true)
  sort_parts =
      let p = all_both v (reflexive_clauses s n) _ h in
      let q = all_both v (symmetric_clauses s n) _ p.1 in
      (p.0, q.0, q.1)

  refl_at : (i : ℕ) → i < n → equal_in v s i i ≡ true
  refl_at i l =
      let c = (and_parts (ground_true v (is (Equal (term s i) (term s i)) ∷ [])) true (each_of_at v 0 n i _ sort_parts.0 (omega arith) (omega arith))).0 in
      either (or_cases (v (Equal (term s i) (term s i))) false c) (λ x. x) (λ x. absurd (false≢true x))

  sym_at : (i j : ℕ) → i < n → j < n → equal_in v s i j ≡ true → equal_in v s j i ≡ true
  sym_at i j li lj p =
      either (cases_eq i j)
      (λ e. subst (λ k. equal_in v s k i ≡ true) e (refl_at i li))
      (λ ne. let a = each_of_at v 0 n i _ sort_parts.1 (omega arith) (omega arith) in
      let b = each_of_at v 0 n j _ a (omega arith) (omega arith) in
      two_at v (Equal (term s i) (term s j)) (Equal (term s j) (term s i)) (unless_at v (eqb i j) _ b (ne_eqb i j ne)) p)

  trans_at : (i j k : ℕ) → i < n → j < n → k < n → equal_in v s i j ≡ true → equal_in v s j k ≡ true → equal_in v s i k ≡ true
  trans_at i j k li lj lk p q =
      either (cases_eq i j)
      (λ e. subst (λ z. equal_in v s z k ≡ true) (sym e) q)
      (λ ne. either (cases_eq j k)
      (λ e. subst (λ z. equal_in v s i z ≡ true) e p)
      (λ ne2. either (cases_eq i k)
      (λ e. subst (λ z. equal_in v s i z ≡ true) e (refl_at i li))
      (λ ne3.
      let a = each_of_at v 0 n i _ sort_parts.2 (omega arith) (omega arith) in
      let b = each_of_at v 0 n j _ a (omega arith) (omega arith) in
      let c = each_of_at v 0 n k _ b (omega arith) (omega arith) in
      three_at v (Equal (term s i) (term s j)) (Equal (term s j) (term s k)) (Equal (term s i) (term s k))
      (unless_at v (eqb i j || (eqb j k || eqb i k)) _ c (cc (ne_eqb i j ne, ne_eqb j k ne2, ne_eqb i k ne3))) p q)))

  pub is_equivalence : IsEquivalence (equal_in v s) n
  is_equivalence = record { reflexive = refl_at; symmetric = sym_at; transitive = trans_at }

module _ (n : SortId → ℕ) (v : GroundAtom → Bool) where
  -- what a replacement clause says
  replaced : (ss : List SortId) (f : List TermId → TermId → TermId → List TermId → GroundClause) → all_ground_true v (replacements n ss f) ≡ true
      → (pre post : List TermId) (a b : TermId) → AreTerms n ss (pre ++ a ∷ post) → AreTerms n ss (pre ++ b ∷ post) → (a ≡ b → ⊥)
      → ground_true v (f (pre ++ a ∷ post) a b (pre ++ b ∷ post)) ≡ true
  replaced ss f h pre post a b ha hb ne =
      let s0 : SortId = record { 0 = 0 } in
      let j = length pre in
      let d = term s0 0 in
      let s = get_or ss j s0 in
      let ts = pre ++ a ∷ post in
      let lj : j < length ss = omega (arith, same_length n ss ts ha, length-append pre (a ∷ post)) in
      let ea = get_or-append_seam pre a post d in
      let eb = get_or-append_seam pre b post d in
      let ia : IsTerm n s a = subst (IsTerm n s) ea (term_at n ss ts j s0 d ha lj) in
      let ib : IsTerm n s b = subst (IsTerm n s) eb (term_at n ss (pre ++ b ∷ post) j s0 d hb lj) in
      let c1 = each_of_at v 0 (length ss) j _ h (omega arith) (omega arith) in
      let c2 = each_in_at v (tuples n ss) (tuple_number n ts) ts _ c1 (tuple_at n ss ts ha) in
      let c3 = each_of_at v 0 (n s) b.place _ c2 (omega arith) (omega (arith, ib.within)) in
      let na : (get_or ts j d).place ≡ a.place = ap (λ (t : TermId). t.place) ea in
      let distinct : (get_or ts j d).place ≡ b.place → ⊥ = λ e. ne (term_is n s a ia ∙ ap (term s) (sym na ∙ e) ∙ sym (term_is n s b ib)) in
      let c4 = unless_at v (eqb (get_or ts j d).place b.place) (f ts (get_or ts j d) (term s b.place) (slice_set ts j (term s b.place))) c3
      (ne_eqb _ _ distinct) in
      let e1 : slice_set ts j (term s b.place) ≡ pre ++ b ∷ post = ap (slice_set ts j) (sym (term_is n s b ib)) ∙ set-append_seam pre a post b in
      let c5 = subst (λ us. ground_true v (f ts (get_or ts j d) (term s b.place) us) ≡ true) e1 c4 in
      let c6 = subst (λ t. ground_true v (f ts (get_or ts j d) t (pre ++ b ∷ post)) ≡ true) (sym (term_is n s b ib)) c5 in
      subst (λ t. ground_true v (f ts t b (pre ++ b ∷ post)) ≡ true) ea c6

  respects_of : (r : Sym) (ss : List SortId) → all_ground_true v (replacements n ss (relation_change r)) ≡ true → Respects n v ss r
  respects_of r ss h pre post a b ha hb eq t =
      by_cases (v (Relation r (pre ++ b ∷ post))) (λ x. x)
      (λ no. let c = replaced ss (relation_change r) h pre post a b ha hb
      (λ e. false≢true (sym no ∙ subst (λ z. v (Relation r (pre ++ z ∷ post)) ≡ true) e t)) in
      three_at v (Equal a b) (Relation r (pre ++ a ∷ post)) (Relation r (pre ++ b ∷ post)) c eq t)

  pub relations_respect : (rs : List RelShape) (r : Sym) (ss : List SortId) → all_ground_true v (relation_clauses n rs) ≡ true → relation_in rs r ≡ Some ss
      → Respects n v ss r
  relations_respect [] r ss h q = absurd (cc)
  relations_respect (x ∷ rs) r ss h q =
      let c = all_both v (replacements n x.sorts (relation_change x.sym)) _ h in
      by_cases (sym_eq x.sym r)
      (λ e. let w : Some x.sorts ≡ Some ss = sym (cond-true (sym_eq x.sym r) (Some x.sorts) (relation_in rs r) e) ∙ q in
      let is : x.sorts ≡ ss = cc in
      subst (λ ss. Respects n v ss r) is (subst (Respects n v x.sorts) (sym_eq-true x.sym r e) (respects_of x.sym x.sorts c.0)))
      (λ e. relations_respect rs r ss c.1 (sym (cond-false (sym_eq x.sym r) (Some x.sorts) (relation_in rs r) e) ∙ q))
