-- The sorts of places and of their arguments are the vocabulary's.
use mathlib.Core.List.{reverse_aux}
use Rattle.std.proofs.Common.{ℕ, suc, Bool, true, false, cond, List, [], ◌∷◌, ◌++◌, map, sym, subst}
use Rattle.lv_formula.specs.declared.symbols.SortId.{SortId}
use Rattle.lv_formula.specs.declared.vocabulary.Sentences.{Sentences}
use Rattle.lv_formula.specs.declared.vocabulary.Vocabulary.{Vocabulary}
use Rattle.lv_rewrite.specs.Normal.{nnf_of, nnf_of_all}
use Rattle.lv_places.specs.Forms.{Form, Yes, No, Lit, And, Or, All, Any, Forms, Nil, Cons, forms_of}
use Rattle.lv_places.specs.Places.{Binder, Every, Chosen, sort_of, place_needs, keep, Site, place_of, place_at, sites, sites_all, places_of}
use Rattle.lv_places.specs.SortGraphs.{SortsBelow}
use Rattle.lv_skolem.specs.Ranking.{AreInRange}
use Rattle.lv_skolem.specs.Skolems.{normal_forms}
use Rattle.lv_formula.specs.Pairs.{SentencesFit}
use Rattle.lv_places.specs.Universes.{argument_sorts}
use Rattle.lv_places.proofs.Arguments.{argument_sorts_are}
use Rattle.lv_skolem.proofs.Ranged.{fit_last}
use Rattle.lv_skolem.proofs.Sorted.{FormFits, FormsFit, normal_fits, normals_fit}

kept_below : (n : ℕ) (p : ℕ → Bool) (ss : List SortId) → SortsBelow n ss → SortsBelow n (keep p ss)
kept_below n p [] h = tt
kept_below n p (s ∷ ss) h = step (p 0) (kept_below n (λ i. p (suc i)) ss h.1)
  where
    step : (b : Bool) → SortsBelow n (keep (λ i. p (suc i)) ss) → SortsBelow n (cond b (s ∷ keep (λ i. p (suc i)) ss) (keep (λ i. p (suc i)) ss))
    step true r = (h.0, r)
    step false r = r

turned_below : (n : ℕ) (ss more : List SortId) → SortsBelow n ss → SortsBelow n more → SortsBelow n (reverse_aux ss more)
turned_below n [] more h k = k
turned_below n (s ∷ ss) more h k = turned_below n ss (s ∷ more) h.1 (h.0, k)

arguments_below : (n : ℕ) (g : List Binder) (s : SortId) (f : Form) → SortsBelow n (map sort_of g) → SortsBelow n (argument_sorts (place_at g s f))
arguments_below n g s f h =
    let site : Site = record { around = g; sort = s; body = f } in
    subst (SortsBelow n) (sym (argument_sorts_are site))
    (turned_below n (keep (place_needs g f) (map sort_of g)) [] (kept_below n (place_needs g f) (map sort_of g) h) tt)

range_append : (n : ℕ) (xs ys : List Site) → AreInRange n (map place_of xs) → AreInRange n (map place_of ys) → AreInRange n (map place_of (xs ++ ys))
range_append n [] ys h k = k
range_append n (x ∷ xs) ys h k = (h.0, h.1, range_append n xs ys h.2 k)

mutual
  in_range : (voc : Vocabulary) (f : Form) (g : List Binder) → FormFits voc (map sort_of g) f → SortsBelow voc.sorts (map sort_of g)
      → AreInRange voc.sorts (map place_of (sites g f))
  in_range voc Yes g h below = tt
  in_range voc No g h below = tt
  in_range voc (Lit b a) g h below = tt
  in_range voc (And fs) g h below = all_in_range voc fs g h below
  in_range voc (Or fs) g h below = all_in_range voc fs g h below
  in_range voc (All s f) g h below = in_range voc f (Every s ∷ g) h.1 (h.0, below)
  in_range voc (Any s f) g h below = (h.0, arguments_below voc.sorts g s f below, in_range voc f (Chosen s f ∷ g) h.1 (h.0, below))

  all_in_range : (voc : Vocabulary) (fs : Forms) (g : List Binder) → FormsFit voc (map sort_of g) fs → SortsBelow voc.sorts (map sort_of g)
      → AreInRange voc.sorts (map place_of (sites_all g fs))
  all_in_range voc Nil g h below = tt
  all_in_range voc (Cons f fs) g h below = range_append voc.sorts (sites g f) (sites_all g fs) (in_range voc f g h.0 below) (all_in_range voc fs g h.1 below)

pub places_in_range : (voc : Vocabulary) (s : Sentences) → SentencesFit voc s → AreInRange voc.sorts (places_of (normal_forms s))
places_in_range voc s fit =
    all_in_range voc (forms_of (normal_forms s)) []
    (fit_last voc (nnf_of_all s.hypotheses true) (nnf_of s.conclusion false) (normals_fit voc s.hypotheses true [] fit.hypotheses)
    (normal_fits voc s.conclusion false [] fit.conclusion)) tt
