-- Trees that are the same but for places.
use Rattle.std.proofs.Common.{◌≡◌, ℕ, List, [], ◌∷◌, ◌++◌, map, Some, refl, sym, ap, ◌∙◌}
use Rattle.lv_tree.specs.declared.tree.Tree.{Tree, Tree-F, roll-Tree, out-Tree, roll-out-Tree, out-roll-Tree, fold-roll-Tree}
use Rattle.lv_tree.specs.declared.tree.Tree.TheOpen.{Word, Group}
use Rattle.lv_tree.specs.declared.tree.Tree.TheVariants.{rolls-Word, rolls-Group}
use Rattle.lv_tree.specs.Writing.{bare, bare_step}
use Rattle.lv_grammar.specs.Trees.{word_layer, items_layer}
use Rattle.lv_grammar.specs.Grammar.{IsWord, IsList}
use Rattle.lv_grammar.specs.ShownFormulas.{word, list}

-- a layer without its places
abbrev bare_layer : Tree-F Tree → Tree-F Tree
bare_layer (Word at text) = Word 0 text
bare_layer (Group at end items) = Group 0 0 (map bare items)

layer_bare : (x : Tree-F Tree) → out-Tree (bare (roll-Tree x)) ≡ bare_layer x
layer_bare (Word at text) = ap out-Tree (fold-roll-Tree Tree bare_step (Word at text)) ∙ out-roll-Tree (Word 0 text)
layer_bare (Group at end items) = ap out-Tree (fold-roll-Tree Tree bare_step (Group at end items)) ∙ out-roll-Tree (Group 0 0 (map bare items))

like_layer : (u : Tree) (y : Tree-F Tree) → bare u ≡ bare (roll-Tree y) → bare_layer (out-Tree u) ≡ bare_layer y
like_layer u y e = sym (layer_bare (out-Tree u)) ∙ ap (λ t. out-Tree (bare t)) (roll-out-Tree u) ∙ ap out-Tree e ∙ layer_bare y

-- the places aside, the tree is that word
pub like_word : (u : Tree) (text : List ℕ) → bare u ≡ bare (word text) → IsWord text u
like_word u text e = go text (out-Tree u) (like_layer u (Word 0 text) (e ∙ ap bare (sym (rolls-Word 0 text)))) where
  go : (text : List ℕ) (x : Tree-F Tree) → bare_layer x ≡ Word 0 text → word_layer x ≡ Some text
  go text (Word at own) h = cc
  go text (Group at end items) h = absurd cc

-- the items of the tree are those, the places aside
pub record Items (u : Tree) (items : List Tree) : Type 0 where
  pub own : List Tree
  pub is : IsList own u
  pub same : map bare own ≡ map bare items

pub like_list : (u : Tree) (items : List Tree) → bare u ≡ bare (list items) → Items u items
like_list u items e =
    let p = go items (out-Tree u) (like_layer u (Group 0 0 items) (e ∙ ap bare (sym (rolls-Group 0 0 items)))) in
    record { own = p.0; is = p.1; same = p.2 }
  where
    go : (items : List Tree) (x : Tree-F Tree) → bare_layer x ≡ Group 0 0 (map bare items) → (own : List Tree) × (items_layer x ≡ Some own) × (map bare own ≡ map bare items)
    go items (Word at text) h = absurd cc
    go items (Group at end own) h = (own, refl, cc)

-- lists by how many items they have

pub record Front (u x : Tree) (xs : List Tree) : Type 0 where
  pub a : Tree
  pub rest : List Tree
  pub is : IsList (a ∷ rest) u
  pub first : bare a ≡ bare x
  pub others : map bare rest ≡ map bare xs

pub front : (u x : Tree) (xs : List Tree) → bare u ≡ bare (list (x ∷ xs)) → Front u x xs
front u x xs e = let l = like_list u (x ∷ xs) e in go u x xs l.own l.is l.same where
  go : (u x : Tree) (xs us : List Tree) → IsList us u → map bare us ≡ map bare (x ∷ xs) → Front u x xs
  go u x xs [] l h = absurd cc
  go u x xs (a ∷ rest) l h = record { a = a; rest = rest; is = l; first = cc; others = cc }

pub record Two (u x y : Tree) : Type 0 where
  pub a : Tree
  pub b : Tree
  pub is : IsList (a ∷ b ∷ []) u
  pub first : bare a ≡ bare x
  pub second : bare b ≡ bare y

pub two : (u x y : Tree) → bare u ≡ bare (list (x ∷ y ∷ [])) → Two u x y
two u x y e = let l = like_list u (x ∷ y ∷ []) e in go u x y l.own l.is l.same where
  go : (u x y : Tree) (us : List Tree) → IsList us u → map bare us ≡ map bare (x ∷ y ∷ []) → Two u x y
  go u x y [] l h = absurd cc
  go u x y (a ∷ []) l h = absurd cc
  go u x y (a ∷ b ∷ []) l h = record { a = a; b = b; is = l; first = cc; second = cc }
  go u x y (a ∷ b ∷ c ∷ rest) l h = absurd cc

pub record Three (u x y z : Tree) : Type 0 where
  pub a : Tree
  pub b : Tree
  pub c : Tree
  pub is : IsList (a ∷ b ∷ c ∷ []) u
  pub first : bare a ≡ bare x
  pub second : bare b ≡ bare y
  pub third : bare c ≡ bare z

pub three : (u x y z : Tree) → bare u ≡ bare (list (x ∷ y ∷ z ∷ [])) → Three u x y z
three u x y z e = let l = like_list u (x ∷ y ∷ z ∷ []) e in go u x y z l.own l.is l.same where
  go : (u x y z : Tree) (us : List Tree) → IsList us u → map bare us ≡ map bare (x ∷ y ∷ z ∷ []) → Three u x y z
  go u x y z [] l h = absurd cc
  go u x y z (a ∷ []) l h = absurd cc
  go u x y z (a ∷ b ∷ []) l h = absurd cc
  go u x y z (a ∷ b ∷ c ∷ []) l h = record { a = a; b = b; c = c; is = l; first = cc; second = cc; third = cc }
  go u x y z (a ∷ b ∷ c ∷ d ∷ rest) l h = absurd cc

-- at least three items
pub record ThreeFirst (u x y z : Tree) (xs : List Tree) : Type 0 where
  pub a : Tree
  pub b : Tree
  pub c : Tree
  pub rest : List Tree
  pub is : IsList (a ∷ b ∷ c ∷ rest) u
  pub first : bare a ≡ bare x
  pub second : bare b ≡ bare y
  pub third : bare c ≡ bare z
  pub others : map bare rest ≡ map bare xs

pub three_first : (u x y z : Tree) (xs : List Tree) → bare u ≡ bare (list (x ∷ y ∷ z ∷ xs)) → ThreeFirst u x y z xs
three_first u x y z xs e = let l = like_list u (x ∷ y ∷ z ∷ xs) e in go u x y z xs l.own l.is l.same where
  go : (u x y z : Tree) (xs us : List Tree) → IsList us u → map bare us ≡ map bare (x ∷ y ∷ z ∷ xs) → ThreeFirst u x y z xs
  go u x y z xs [] l h = absurd cc
  go u x y z xs (a ∷ []) l h = absurd cc
  go u x y z xs (a ∷ b ∷ []) l h = absurd cc
  go u x y z xs (a ∷ b ∷ c ∷ rest) l h = record { a = a; b = b; c = c; rest = rest; is = l; first = cc; second = cc; third = cc; others = cc }

pub record Four (u x y z w : Tree) : Type 0 where
  pub a : Tree
  pub b : Tree
  pub c : Tree
  pub d : Tree
  pub is : IsList (a ∷ b ∷ c ∷ d ∷ []) u
  pub first : bare a ≡ bare x
  pub second : bare b ≡ bare y
  pub third : bare c ≡ bare z
  pub fourth : bare d ≡ bare w

pub four : (u x y z w : Tree) → bare u ≡ bare (list (x ∷ y ∷ z ∷ w ∷ [])) → Four u x y z w
four u x y z w e = let l = three_first u x y z (w ∷ []) e in go u x y z w l l.rest refl l.others where
  go : (u x y z w : Tree) (l : ThreeFirst u x y z (w ∷ [])) (ds : List Tree) → l.rest ≡ ds → map bare ds ≡ bare w ∷ [] → Four u x y z w
  go u x y z w l [] e h = absurd cc
  go u x y z w l (d ∷ []) e h = record { a = l.a; b = l.b; c = l.c; d = d; is = rw e at l.is; first = l.first; second = l.second; third = l.third; fourth = cc }
  go u x y z w l (d ∷ d' ∷ rest) e h = absurd cc

-- at least two items
pub record TwoFirst (u x y : Tree) (xs : List Tree) : Type 0 where
  pub a : Tree
  pub b : Tree
  pub rest : List Tree
  pub is : IsList (a ∷ b ∷ rest) u
  pub first : bare a ≡ bare x
  pub second : bare b ≡ bare y
  pub others : map bare rest ≡ map bare xs

pub two_first : (u x y : Tree) (xs : List Tree) → bare u ≡ bare (list (x ∷ y ∷ xs)) → TwoFirst u x y xs
two_first u x y xs e = let l = like_list u (x ∷ y ∷ xs) e in go u x y xs l.own l.is l.same where
  go : (u x y : Tree) (xs us : List Tree) → IsList us u → map bare us ≡ map bare (x ∷ y ∷ xs) → TwoFirst u x y xs
  go u x y xs [] l h = absurd cc
  go u x y xs (a ∷ []) l h = absurd cc
  go u x y xs (a ∷ b ∷ rest) l h = record { a = a; b = b; rest = rest; is = l; first = cc; second = cc; others = cc }

-- at least four items
pub record FourFirst (u x y z w : Tree) (xs : List Tree) : Type 0 where
  pub a : Tree
  pub b : Tree
  pub c : Tree
  pub d : Tree
  pub rest : List Tree
  pub is : IsList (a ∷ b ∷ c ∷ d ∷ rest) u
  pub first : bare a ≡ bare x
  pub second : bare b ≡ bare y
  pub third : bare c ≡ bare z
  pub fourth : bare d ≡ bare w
  pub others : map bare rest ≡ map bare xs

pub four_first : (u x y z w : Tree) (xs : List Tree) → bare u ≡ bare (list (x ∷ y ∷ z ∷ w ∷ xs)) → FourFirst u x y z w xs
four_first u x y z w xs e = let l = three_first u x y z (w ∷ xs) e in go u x y z w xs l l.rest refl l.others where
  go : (u x y z w : Tree) (xs : List Tree) (l : ThreeFirst u x y z (w ∷ xs)) (ds : List Tree) → l.rest ≡ ds → map bare ds ≡ map bare (w ∷ xs) → FourFirst u x y z w xs
  go u x y z w xs l [] e h = absurd cc
  go u x y z w xs l (d ∷ ds) e h =
      record { a = l.a; b = l.b; c = l.c; d = d; rest = ds; is = rw e at l.is; first = l.first; second = l.second; third = l.third; fourth = cc; others = cc }

-- trees that are the same but for places, part by part
pub none_like : (us : List Tree) → map bare us ≡ [] → us ≡ []
none_like [] e = refl
none_like (u ∷ us) e = absurd cc

pub record Parted (us xs ys : List Tree) : Type 0 where
  pub left : List Tree
  pub right : List Tree
  pub whole : us ≡ left ++ right
  pub left_same : map bare left ≡ map bare xs
  pub right_same : map bare right ≡ map bare ys

pub parted : (us xs ys : List Tree) → map bare us ≡ map bare (xs ++ ys) → Parted us xs ys
parted us [] ys e = record { left = []; right = us; whole = refl; left_same = refl; right_same = e }
parted [] (x ∷ xs) ys e = absurd cc
parted (u ∷ us) (x ∷ xs) ys e =
    let p = parted us xs ys (cc) in
    let first : bare u ≡ bare x = cc in
    record { left = u ∷ p.left; right = p.right; whole = ap (λ l. u ∷ l) p.whole; left_same = rw (first, p.left_same) refl; right_same = p.right_same }
