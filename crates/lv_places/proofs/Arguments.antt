-- The sorts of a place's arguments, and what stands at their variables.
use mathlib.Core.List.{reverse_aux}
use Rattle.std.proofs.Common.{◌≡◌, ℕ, suc, Bool, true, false, cond, List, [], ◌∷◌, ◌++◌, length, map, get_or, refl, ap, ◌∙◌, subst, arith, append_assoc, length-append}
use Rattle.std.proofs.Math.Seq.{get_or-append_seam}
use Rattle.lv_formula.specs.declared.symbols.SortId.{SortId}
use Rattle.lv_places.specs.declared.skolem.PlaceArg.{PlaceArg}
use Rattle.lv_places.specs.Forms.{Form}
use Rattle.lv_places.specs.Places.{Binder, sort_of, place_needs, keep, Site, chosen_of, site_sorts, numbered_from, place_of}
use Rattle.lv_places.specs.Universes.{argument_sorts}

turned_map : {A B : Type 0} (h : A → B) (xs ys : List A) → map h (reverse_aux xs ys) ≡ reverse_aux (map h xs) (map h ys)
turned_map h [] ys = refl
turned_map h (x ∷ xs) ys = turned_map h xs (x ∷ ys)

kept_map_step : {A B : Type 0} (h : A → B) (b : Bool) (x : A) (xs : List A) → map h (cond b (x ∷ xs) xs) ≡ cond b (h x ∷ map h xs) (map h xs)
kept_map_step h true x xs = refl
kept_map_step h false x xs = refl

pub kept_map : {A B : Type 0} (h : A → B) (p : ℕ → Bool) (xs : List A) → map h (keep p xs) ≡ keep p (map h xs)
kept_map h p [] = refl
kept_map h p (x ∷ xs) = kept_map_step h (p 0) x _ ∙ ap (λ l. cond (p 0) (h x ∷ l) l) (kept_map h (λ i. p (suc i)) xs)

pub chosen_map : {A B : Type 0} (h : A → B) (g : List Binder) (f : Form) (xs : List A) → map h (chosen_of g f xs) ≡ chosen_of g f (map h xs)
chosen_map h g f xs = turned_map h (keep (place_needs g f) xs) [] ∙ ap (λ l. reverse_aux l []) (kept_map h (place_needs g f) xs)

sorts_back : (k : ℕ) (ss : List SortId) → map (λ (a : PlaceArg). a.sort) (numbered_from k ss) ≡ ss
sorts_back k [] = refl
sorts_back k (s ∷ ss) = ap (λ l. s ∷ l) (sorts_back (suc k) ss)

pub argument_sorts_are : (p : Site) → argument_sorts (place_of p) ≡ site_sorts p
argument_sorts_are p = chosen_map (λ (a : PlaceArg). a.sort) p.around p.body (numbered_from 0 (map sort_of p.around))
    ∙ ap (chosen_of p.around p.body) (sorts_back 0 (map sort_of p.around))

looked_up : {A : Type 0} (d : A) (pre env : List A) (ss : List SortId) → length ss ≡ length env
    → map (λ (a : PlaceArg). get_or (pre ++ env) a.var d) (numbered_from (length pre) ss) ≡ env
looked_up d pre [] [] e = refl
looked_up d pre (x ∷ env) [] e = absurd (omega arith)
looked_up d pre [] (s ∷ ss) e = absurd (omega arith)
looked_up d pre (x ∷ env) (s ∷ ss) e =
    let here = get_or-append_seam pre x env d in
    let a : (pre ++ (x ∷ [])) ++ env ≡ pre ++ x ∷ env = append_assoc pre (x ∷ []) env in
    let n : length (pre ++ (x ∷ [])) ≡ suc (length pre) = omega (arith, length-append pre (x ∷ [])) in
    let r = looked_up d (pre ++ (x ∷ [])) env ss (omega arith) in
    let r' = subst (λ l. map (λ (a : PlaceArg). get_or l a.var d) (numbered_from (length (pre ++ (x ∷ []))) ss) ≡ env) a r in
    let r'' = subst (λ k. map (λ (a : PlaceArg). get_or (pre ++ x ∷ env) a.var d) (numbered_from k ss) ≡ env) n r' in
    cc

-- what code looks up at the numbers of a place's arguments is what stands around it for them
pub arguments_looked_up : {A : Type 0} (d : A) (p : Site) (env : List A) → length (map sort_of p.around) ≡ length env
    → map (λ (a : PlaceArg). get_or env a.var d) (place_of p).arguments ≡ chosen_of p.around p.body env
arguments_looked_up d p env e = chosen_map (λ (a : PlaceArg). get_or env a.var d) p.around p.body _
    ∙ ap (chosen_of p.around p.body) (looked_up d [] env (map sort_of p.around) e)
