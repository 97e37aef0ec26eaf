-- The relations that occur are found under their names.
use Rattle.std.proofs.Common.{◌≡◌, ◌≢◌, ℕ, zero, suc, Bool, true, false, cond, List, [], ◌∷◌, ◌++◌, map, Some, refl, sym, ap, ◌∙◌, subst, arith}
use Rattle.std.specs.Prelude.{slice_get}
use Rattle.std.specs.List.{AllPairs}
use Rattle.std.proofs.lemmas.Bool.{cases_Bool, cond-true, cond-false}
use Rattle.std.proofs.lemmas.Option.{get_or_from_slice_get}
use Rattle.lv_formula.specs.declared.symbols.Sym.{Sym}
use Rattle.lv_formula.specs.declared.vocabulary.ConShape.{ConShape}
use Rattle.lv_formula.specs.declared.vocabulary.RelShape.{RelShape}
use Rattle.lv_formula.specs.declared.vocabulary.Sentences.{Sentences}
use Rattle.lv_formula.specs.declared.vocabulary.Vocabulary.{Vocabulary}
use Rattle.lv_formula.specs.Symbols.{sym_eq}
use Rattle.lv_formula.specs.Vocabulary.{relation_in, IsSound}
use Rattle.lv_formula.proofs.SymbolLaws.{sym_eq-true, sym_eq-refl}
use Rattle.lv_places.specs.declared.skolem.Skolem.{Skolem}
use Rattle.lv_places.specs.Forms.{Forms, forms_of, occurs_some}
use Rattle.lv_places.specs.Occurring.{relations_in}
use Rattle.lv_places.proofs.Tests.{either}
use Rattle.lv_places.proofs.Universes.{get_map, get_below, get_left}
use Rattle.lv_skolem.specs.Skolems.{normal_forms, IsSkolem}
use Rattle.lv_skolem.proofs.Sorted.{relations_kept}
use Rattle.lv_ground.specs.Settings.{AreKnown}

not_same : (a b : Sym) → a ≢ b → sym_eq a b ≡ false
not_same a b h = either (cases_Bool (sym_eq a b)) (λ e. absurd (h (sym_eq-true a b e))) (λ e. e)

-- where no two relations have one name, each is found under its name
each_known : (rs : List RelShape) (more : List Sym) → AllPairs (λ a b. a ≢ b) (map (λ (r : RelShape). r.sym) rs ++ more) → AreKnown rs
each_known [] more h i x e = absurd (cc)
each_known (r ∷ rs) more h zero x e =
    let is : r ≡ x = cc in
    subst (λ (y : RelShape). relation_in (r ∷ rs) y.sym ≡ Some y.sorts) is (cond-true (sym_eq r.sym r.sym) _ _ (sym_eq-refl r.sym))
each_known (r ∷ rs) more h (suc i) x e =
    let names = map (λ (r : RelShape). r.sym) rs in
    let at = get_left names more i x.sym (get_map (λ (r : RelShape). r.sym) rs i x e) in
    let l = get_below (names ++ more) i x.sym at in
    let ne : r.sym ≢ x.sym = λ q. h 0 (suc i) x.sym (omega arith) (omega (arith, l)) (q ∙ sym (get_or_from_slice_get (names ++ more) i x.sym x.sym at)) in
    cond-false (sym_eq r.sym x.sym) _ _ (not_same r.sym x.sym ne) ∙ each_known rs more (λ i j d before lt. h (suc i) (suc j) d (omega arith) (omega arith))
    i x e

-- what is kept was there, and occurs
kept_there : (fs : Forms) (rs : List RelShape) (i : ℕ) (x : RelShape) → slice_get (relations_in fs rs) i ≡ Some x → (j : ℕ) × (slice_get rs j ≡ Some x) ×
    (occurs_some x.sym fs ≡ true)
kept_there fs [] i x e = absurd (cc)
kept_there fs (r ∷ rs) i x e = step (occurs_some r.sym fs) refl i e (kept_there fs rs)
  where
    step : (b : Bool) → occurs_some r.sym fs ≡ b → (i : ℕ) → slice_get (cond b (r ∷ relations_in fs rs) (relations_in fs rs)) i ≡ Some x
        → ((i : ℕ) (x : RelShape) → slice_get (relations_in fs rs) i ≡ Some x → (j : ℕ) × (slice_get rs j ≡ Some x) × (occurs_some x.sym fs ≡ true))
        → (j : ℕ) × (slice_get (r ∷ rs) j ≡ Some x) × (occurs_some x.sym fs ≡ true)
    step true q zero e ih = (0, e, (let is : r ≡ x = cc in subst (λ (y : RelShape). occurs_some y.sym fs ≡ true) is q))
    step true q (suc i) e ih = let r = ih i x e in (suc r.0, r.1, r.2)
    step false q i e ih = let r = ih i x e in (suc r.0, r.1, r.2)

pub relations_known : (voc : Vocabulary) (s : Sentences) (sk : Skolem) → IsSound voc → IsSkolem voc s sk → AreKnown sk.relations
relations_known voc s sk sound is i x h =
    let fs = forms_of (normal_forms s) in
    let r = kept_there fs voc.relations i x (sym (ap (λ l. slice_get l i) is.relations) ∙ h) in
    ap (λ l. relation_in l x.sym) is.relations ∙ relations_kept fs voc.relations x.sym ∙ cond-true (occurs_some x.sym fs) _ _ r.2
    ∙ each_known voc.relations (map (λ (c : ConShape). c.sym) voc.constants) sound.differ r.0 x r.1
