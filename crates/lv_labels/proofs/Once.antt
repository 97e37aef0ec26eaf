-- Lists in which each item counts once, and what holds of each item of a list.
use Rattle.std.proofs.Common.{◌≡◌, ℕ, zero, suc, ◌<◌, Bool, true, false, ◌||◌, cond, List, [], ◌∷◌, ◌++◌, map, length, get_or, refl, sym, ap, ap₂, ◌∙◌, arith, inl, inr}
use Rattle.std.proofs.lemmas.Bool.{or_cases, or_left, or_right, false≢true, cond_both}
use Rattle.lv_formula.proofs.Induction.{Each}
use Rattle.lv_labels.specs.Once.{is_among, once_behind, each_once, place_of}

module _ {X : Type 0} where
  -- what follows of each item from what holds of it
  pub each_weaker : (P Q : X → Type 0) → ((x : X) → P x → Q x) → (xs : List X) → Each P xs → Each Q xs
  each_weaker P Q h [] a = tt
  each_weaker P Q h (x ∷ xs) a = (h x a.0, each_weaker P Q h xs a.1)

  -- what holds of each item of two lists holds of each item of both
  pub each_both : (P : X → Type 0) (xs ys : List X) → Each P xs → Each P ys → Each P (xs ++ ys)
  each_both P [] ys a b = b
  each_both P (x ∷ xs) ys a b = (a.0, each_both P xs ys a.1 b)

  -- and back, for the first list
  pub each_first : (P : X → Type 0) (xs ys : List X) → Each P (xs ++ ys) → Each P xs
  each_first P [] ys a = tt
  each_first P (x ∷ xs) ys a = (a.0, each_first P xs ys a.1)

  -- and for the second
  pub each_second : (P : X → Type 0) (xs ys : List X) → Each P (xs ++ ys) → Each P ys
  each_second P [] ys a = a
  each_second P (x ∷ xs) ys a = each_second P xs ys a.1

  -- what holds of each item holds at each place
  pub each_at : (P : X → Type 0) (d : X) (xs : List X) → Each P xs → (i : ℕ) → i < length xs → P (get_or xs i d)
  each_at P d [] a i lt = absurd (omega arith)
  each_at P d (x ∷ xs) a zero lt = a.0
  each_at P d (x ∷ xs) a (suc i) lt = each_at P d xs a.1 i (omega arith)

  -- what holds at each place holds of each item
  pub each_from : (P : X → Type 0) (d : X) (xs : List X) → ((i : ℕ) → i < length xs → P (get_or xs i d)) → Each P xs
  each_from P d [] h = tt
  each_from P d (x ∷ xs) h = (h 0 (omega arith), each_from P d xs (λ i lt. h (suc i) (omega arith)))

  -- a test that tells two items to be the same only if they are equal, and each to be the same as itself
  pub record Decides (same : X → X → Bool) : Type 0 where
    pub sound : (x y : X) → same x y ≡ true → x ≡ y
    pub reflexive : (x : X) → same x x ≡ true

  module _ (same : X → X → Bool) where
    -- an item of the first list is among both
    pub among_first : (x : X) (xs ys : List X) → is_among same x xs ≡ true → is_among same x (xs ++ ys) ≡ true
    among_first x [] ys h = absurd (false≢true h)
    among_first x (y ∷ xs) ys h = elim (or_cases (same x y) (is_among same x xs) h) [ inl a ↦ or_left (same x y) _ a | inr a ↦ or_right (same x y) _ (among_first x xs ys a) ]

    -- an item of the second list is among both
    pub among_second : (x : X) (xs ys : List X) → is_among same x ys ≡ true → is_among same x (xs ++ ys) ≡ true
    among_second x [] ys h = h
    among_second x (y ∷ xs) ys h = or_right (same x y) _ (among_second x xs ys h)

    -- what is known stays
    pub known_stays : (x : X) (known xs : List X) → is_among same x known ≡ true → is_among same x (once_behind same known xs) ≡ true
    known_stays x known [] h = h
    known_stays x known (y ∷ xs) h = known_stays x (cond (is_among same y known) known (known ++ y ∷ [])) xs
        (cond_both (is_among same y known) known (known ++ y ∷ []) (λ ys. is_among same x ys ≡ true) (λ e. h) (λ e. among_first x known (y ∷ []) h))

    -- what holds of the known and of the further items holds of each item that is left
    pub each_behind : (P : X → Type 0) (known xs : List X) → Each P known → Each P xs → Each P (once_behind same known xs)
    each_behind P known [] a b = a
    each_behind P known (y ∷ xs) a b = each_behind P (cond (is_among same y known) known (known ++ y ∷ [])) xs
        (cond_both (is_among same y known) known (known ++ y ∷ []) (λ ys. Each P ys) (λ e. a) (λ e. each_both P known (y ∷ []) a (b.0, tt))) b.1

    -- what holds of each item holds of each item that is left
    pub each_kept : (P : X → Type 0) (xs : List X) → Each P xs → Each P (each_once same xs)
    each_kept P xs a = each_behind P [] xs tt a

    module _ (decides : Decides same) where
      -- each further item is among those that are left
      pub behind_has : (known xs : List X) → Each (λ x. is_among same x (once_behind same known xs) ≡ true) xs
      behind_has known [] = tt
      behind_has known (y ∷ xs) = (
        known_stays y (cond (is_among same y known) known (known ++ y ∷ [])) xs
            (cond_both (is_among same y known) known (known ++ y ∷ []) (λ ys. is_among same y ys ≡ true) (λ e. e) (λ e. among_second y known (y ∷ []) (or_left (same y y) false (decides.reflexive y)))),
        behind_has (cond (is_among same y known) known (known ++ y ∷ [])) xs,
      )

      -- each item is among those that are left
      pub once_has : (xs : List X) → Each (λ x. is_among same x (each_once same xs) ≡ true) xs
      once_has xs = behind_has [] xs

      -- an item of the list stands at its place
      pub placed : (d x : X) (xs : List X) → is_among same x xs ≡ true → (place_of same x xs < length xs) × (get_or xs (place_of same x xs) d ≡ x)
      placed d x [] h = absurd (false≢true h)
      placed d x (y ∷ ys) h = go (same x y) refl h (placed d x ys)
        where
          go : (b : Bool) → same x y ≡ b → (b || is_among same x ys) ≡ true → (is_among same x ys ≡ true → (place_of same x ys < length ys) × (get_or ys (place_of same x ys) d ≡ x))
              → (cond b 0 (suc (place_of same x ys)) < suc (length ys)) × (get_or (y ∷ ys) (cond b 0 (suc (place_of same x ys))) d ≡ x)
          go true e k ih = (omega arith, sym (decides.sound x y e))
          go false e k ih = (omega (arith, (ih k).0), (ih k).1)

-- a function over two lists joined
pub append_mapped : {X Y : Type 0} (to : X → Y) (xs ys : List X) → map to (xs ++ ys) ≡ map to xs ++ map to ys
append_mapped to [] ys = refl
append_mapped to (x ∷ xs) ys = ap (λ zs. to x ∷ zs) (append_mapped to xs ys)

-- a function between two types of items that keeps what is the same
module _ {X Y : Type 0} (same : X → X → Bool) (like : Y → Y → Bool) (to : X → Y) (keeps : (x y : X) → like (to x) (to y) ≡ same x y) where
  -- the image of an item is among the images exactly where the item is among the items
  pub among_mapped : (x : X) (xs : List X) → is_among like (to x) (map to xs) ≡ is_among same x xs
  among_mapped x [] = refl
  among_mapped x (y ∷ xs) = ap₂ (λ a b. a || b) (keeps x y) (among_mapped x xs)

  -- and it stands at the same place
  pub place_mapped : (x : X) (xs : List X) → place_of like (to x) (map to xs) ≡ place_of same x xs
  place_mapped x [] = refl
  place_mapped x (y ∷ xs) = ap₂ (λ b n. cond b 0 (suc n)) (keeps x y) (place_mapped x xs)

  cond_mapped : (b : Bool) (xs ys : List X) → cond b (map to xs) (map to ys) ≡ map to (cond b xs ys)
  cond_mapped true xs ys = refl
  cond_mapped false xs ys = refl

  behind_mapped : (known xs : List X) → once_behind like (map to known) (map to xs) ≡ map to (once_behind same known xs)
  behind_mapped known [] = refl
  behind_mapped known (y ∷ xs) =
      ap (λ ks. once_behind like ks (map to xs)) (ap₂ (λ b ks. cond b (map to known) ks) (among_mapped y known) (sym (append_mapped to known (y ∷ []))) ∙ cond_mapped (is_among same y known) known (known ++ y ∷ []))
      ∙ behind_mapped (cond (is_among same y known) known (known ++ y ∷ [])) xs

  -- of the images each once there are the images of the items each once
  pub once_mapped : (xs : List X) → each_once like (map to xs) ≡ map to (each_once same xs)
  once_mapped xs = behind_mapped [] xs
