-- What opening, closing and adding do to the lists that are open.
use Rattle.std.proofs.Common.{◌≡◌, ℕ, suc, ◌+◌, ◌-◌, ◌<◌, Bool, true, false, ◌&&◌, ltb, IsTrue, List, [], ◌∷◌, ◌++◌, length, map, refl, sym, append_assoc, arith}
use Rattle.std.specs.Prelude.{not}
use Rattle.std.proofs.lemmas.List.{reverse-append, map-append, append-nil, length-append, length-reverse, length-map, nil_from_length}
use Rattle.std.proofs.lemmas.Bool.{lt-ltb, and_parts, and_from}
use Rattle.lv_tree.specs.declared.tree.Tree.{Tree}
use Rattle.lv_tree.specs.declared.reader.Frame.{Frame}
use Rattle.lv_tree.specs.Spelling.{Opens, tokens_of, tokens_of_all, fits_in, all_fit_in}
use Rattle.lv_tree.specs.Faults.{is_empty}
use Rattle.lv_tree.specs.Reader.{stack_tokens, places, stack_fits, StandsAlone, one_if}

pub places_open : (fs : List Frame) (f : Frame) → places (fs ++ f ∷ []) ≡ f.at ∷ places fs
places_open fs f = rw (map-append, reverse-append) refl

pub is_empty_open : {A : Type 0} (xs : List A) (x : A) → is_empty (xs ++ x ∷ []) ≡ false
is_empty_open [] x = refl
is_empty_open (y ∷ xs) x = refl

pub is_empty_places : (fs : List Frame) → is_empty (places fs) ≡ is_empty fs
is_empty_places [] = refl
is_empty_places (f ∷ fs) = rw (reverse-append (f.at ∷ []) (map (λ g. g.at) fs)) (is_empty_open (places fs) f.at)

pub length_places : (fs : List Frame) → length (places fs) ≡ length fs
length_places fs = simp (length-reverse, length-map)

tokens_push : (ts : List Tree) (t : Tree) → tokens_of_all (ts ++ t ∷ []) ≡ tokens_of_all ts ++ tokens_of t
tokens_push [] t = append-nil (tokens_of t)
tokens_push (u ∷ ts) t = rw (tokens_push ts t) (sym (append_assoc (tokens_of u) (tokens_of_all ts) (tokens_of t)))

-- the tokens with one item more
pub stack_tokens_push : (fs : List Frame) (ts : List Tree) (t : Tree) → stack_tokens fs (ts ++ t ∷ []) ≡ stack_tokens fs ts ++ tokens_of t
stack_tokens_push [] ts t = tokens_push ts t
stack_tokens_push (f ∷ fs) ts t = rw (stack_tokens_push fs ts t) (sym (append_assoc (tokens_of_all f.before.items) (Opens f.at ∷ stack_tokens fs ts) (tokens_of t)))

-- the tokens with one list more
pub stack_tokens_open : (fs : List Frame) (f : Frame) (ts : List Tree) → stack_tokens (fs ++ f ∷ []) ts ≡ stack_tokens fs f.before.items ++ Opens f.at ∷ tokens_of_all ts
stack_tokens_open [] f ts = refl
stack_tokens_open (g ∷ fs) f ts = rw (stack_tokens_open fs f ts) (sym (append_assoc (tokens_of_all g.before.items) (Opens g.at ∷ stack_tokens fs f.before.items) (Opens f.at ∷ tokens_of_all ts)))

fit_push : (room : ℕ) (ts : List Tree) (t : Tree) → IsTrue (all_fit_in room ts) → IsTrue (fits_in room t) → IsTrue (all_fit_in room (ts ++ t ∷ []))
fit_push room [] t h k = and_from (fits_in room t) true k refl
fit_push room (u ∷ ts) t h k = let p = and_parts (fits_in room u) (all_fit_in room ts) h in and_from (fits_in room u) (all_fit_in room (ts ++ t ∷ [])) p.0 (fit_push room ts t p.1 k)

-- what stands on the stack fits with one item more
pub stack_push : (room : ℕ) (fs : List Frame) (ts : List Tree) (t : Tree) → IsTrue (stack_fits room fs ts) → IsTrue (fits_in (room - length fs) t) → IsTrue (stack_fits room fs (ts ++ t ∷ []))
stack_push room [] ts t h k = let e : room - 0 ≡ room = omega arith in fit_push room ts t h (rw e at k)
stack_push room (f ∷ fs) ts t h k =
    let p = and_parts (all_fit_in room f.before.items) (ltb 0 room && stack_fits (room - 1) fs ts) h in
    let q = and_parts (ltb 0 room) (stack_fits (room - 1) fs ts) p.1 in
    let e : room - suc (length fs) ≡ room - 1 - length fs = omega arith in
    and_from (all_fit_in room f.before.items) _ p.0 (and_from (ltb 0 room) _ q.0 (stack_push (room - 1) fs ts t q.1 (rw e at k)))

-- what stands on the stack fits with one list more
pub stack_open : (room : ℕ) (fs : List Frame) (f : Frame) → IsTrue (stack_fits room fs f.before.items) → length fs < room → IsTrue (stack_fits room (fs ++ f ∷ []) [])
stack_open room [] f h k = and_from (all_fit_in room f.before.items) (ltb 0 room && true) h (and_from (ltb 0 room) true (lt-ltb 0 room k) refl)
stack_open room (g ∷ fs) f h k =
    let p = and_parts (all_fit_in room g.before.items) (ltb 0 room && stack_fits (room - 1) fs f.before.items) h in
    let q = and_parts (ltb 0 room) (stack_fits (room - 1) fs f.before.items) p.1 in
    and_from (all_fit_in room g.before.items) _ p.0 (and_from (ltb 0 room) _ q.0 (stack_open (room - 1) fs f q.1 (omega arith)))

-- what stood before the last list fits, and so does what stands in it
pub stack_close : (room : ℕ) (fs : List Frame) (f : Frame) (ts : List Tree) → IsTrue (stack_fits room (fs ++ f ∷ []) ts)
    → IsTrue (stack_fits room fs f.before.items) × IsTrue (ltb 0 (room - length fs) && all_fit_in (room - length fs - 1) ts)
stack_close room [] f ts h =
    let p = and_parts (all_fit_in room f.before.items) (ltb 0 room && all_fit_in (room - 1) ts) h in
    let e : room - 0 ≡ room = omega arith in
    (p.0, rw e p.1)
stack_close room (g ∷ fs) f ts h =
    let p = and_parts (all_fit_in room g.before.items) (ltb 0 room && stack_fits (room - 1) (fs ++ f ∷ []) ts) h in
    let q = and_parts (ltb 0 room) (stack_fits (room - 1) (fs ++ f ∷ []) ts) p.1 in
    let r : IsTrue (stack_fits (room - 1) fs f.before.items) × IsTrue (ltb 0 (room - 1 - length fs) && all_fit_in (room - 1 - length fs - 1) ts) = stack_close (room - 1) fs f ts q.1 in
    let e : room - suc (length fs) ≡ room - 1 - length fs = omega arith in
    (and_from (all_fit_in room g.before.items) _ p.0 (and_from (ltb 0 room) _ q.0 r.0), rw e r.1)

-- a word that becomes an item still stands alone
pub alone_flush : (fs : List Frame) (ts : List Tree) (t : Tree) (word : List ℕ) (begun : Bool) → is_empty word ≡ false → StandsAlone fs ts word begun → StandsAlone fs (ts ++ t ∷ []) [] begun
alone_flush [] ts t word begun e h = let k : length ts + one_if (not (is_empty word)) ≡ one_if begun = h in omega (arith, length-append ts (t ∷ []), rw e at k)
alone_flush (f ∷ fs) ts t word begun e h = h

-- a list that is opened stands alone
pub alone_open : (fs : List Frame) (f : Frame) (begun : Bool) → begun && is_empty fs ≡ false → StandsAlone fs f.before.items [] begun → StandsAlone (fs ++ f ∷ []) [] [] true
alone_open [] f true e h = absurd cc
alone_open [] f false e h = (nil_from_length f.before.items (omega (arith, h)), refl)
alone_open (g ∷ fs) f begun e h = (h.0, refl)

-- a list that is closed stands alone
pub alone_close : (fs : List Frame) (f : Frame) (ts : List Tree) (t : Tree) (begun : Bool) → StandsAlone (fs ++ f ∷ []) ts [] begun → StandsAlone fs (f.before.items ++ t ∷ []) [] begun
alone_close [] f ts t begun h = rw (h.0, h.1) refl
alone_close (g ∷ fs) f ts t begun h = h
