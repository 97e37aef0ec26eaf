-- Which symbols have words where the names of a system are names.
use Rattle.std.proofs.Common.{◌≡◌, ℕ, zero, suc, ◌-◌, ◌^◌, ◌<◌, ◌≤◌, Bool, true, false, cond, not, ◌&&◌, leb, ltb, eqb, List, [], ◌∷◌, ◌++◌, map, length, get_or, Option, None, Some, refl, sym, subst, ◌∙◌, arith}
use Rattle.std.specs.Prelude.{codes, decimal, ◌||◌, reverse}
use Rattle.std.specs.List.{list_all}
use Rattle.std.proofs.lemmas.List.{length-append, length-map}
use Rattle.std.proofs.lemmas.List.Folds.{list_all-append}
use Rattle.std.proofs.lemmas.Bool.{and_parts, leb-true, lt-ltb, le-leb, ltb-true}
use Rattle.lv_tree.specs.Bytes.{is_word_byte}
use Rattle.lv_tree.specs.Spelling.{is_text}
use Rattle.lv_formula.specs.declared.symbols.SortId.{SortId}
use Rattle.lv_formula.specs.declared.symbols.Sym.TheVariants.{Own, Witness, Label, Touched, Kept, Due, Copy, CopyLabel, Next, Param}
use Rattle.lv_system.specs.declared.parts.Parts.{Parts}
use Rattle.lv_system.specs.declared.parts.LabelDecl.{LabelDecl}
use Rattle.lv_system.specs.Names.{is_name_byte, are_name_bytes, begins_small, is_reserved, is_name, are_names, names_of, names_fit, each_stands_once}
use Rattle.lv_system.proofs.NameLaws.{names_parted}
use Rattle.lv_labels.specs.declared.key.Key.{Key}
use Rattle.lv_labels.specs.Labels.{keys_of, labels_of}
use Rattle.lv_grammar.specs.Words.{has_number, declared_name, label_name, name_or_number, label_word, sort_name, own_name, justice_name}
use Rattle.lv_grammar.specs.HaveWords.{has_word}
use Rattle.lv_grammar.proofs.FormulaFits.{decimal_bytes, decimal_short}

-- word bytes, at least one and at most as many as a name has
pub record Short (text : List ℕ) : Type 0 where
  pub some : 0 < length text
  pub few : length text ≤ 48
  pub bytes : list_all is_word_byte text ≡ true

text_of : (text : List ℕ) → 0 < length text → length text ≤ 64 → list_all is_word_byte text ≡ true → is_text text ≡ true
text_of text some few bytes = rw (lt-ltb 0 (length text) some, le-leb (length text) 64 few, bytes) refl

pub short_text : {text : List ℕ} → Short text → is_text text ≡ true
short_text {text = text} s = let few = s.few in text_of text s.some (omega (arith, few)) s.bytes

-- the same behind a few bytes
pub behind : (front : List ℕ) {text : List ℕ} → length front ≤ 16 → list_all is_word_byte front ≡ true → Short text → is_text (front ++ text) ≡ true
behind front {text = text} le stand s =
    let some = s.some in
    let few = s.few in
    let long = length-append front text in
    text_of (front ++ text) (omega (arith, some, long)) (omega (arith, few, long, le)) (list_all-append is_word_byte front text ∙ rw (stand, s.bytes) refl)

name_bytes_stand : (text : List ℕ) → are_name_bytes text ≡ true → list_all is_word_byte text ≡ true
name_bytes_stand [] h = refl
name_bytes_stand (b ∷ bs) h =
    let both = and_parts (is_name_byte b) (are_name_bytes bs) h in
    rw (stands b both.0, name_bytes_stand bs both.1) refl
  where
    stands : (b : ℕ) → is_name_byte b ≡ true → is_word_byte b ≡ true
    stands b h = go (is_name_byte b) (eqb b 46) (eqb b 61) h where
      go : (a x y : Bool) → a ≡ true → ((a || x) || y) ≡ true
      go true x y h = refl
      go false x y h = absurd cc

pub short_name : (text : List ℕ) → is_name text ≡ true → Short text
short_name [] h = absurd cc
short_name (b ∷ bs) h =
    let text = b ∷ bs in
    let p = and_parts (begins_small text && are_name_bytes text && leb (length text) 48) (not (is_reserved text)) h in
    let q = and_parts (begins_small text && are_name_bytes text) (leb (length text) 48) p.0 in
    let r = and_parts (begins_small text) (are_name_bytes text) q.0 in
    record { some = omega arith; few = leb-true (length text) 48 q.1; bytes = name_bytes_stand text r.1 }

short_among : (names : List (List ℕ)) (i : ℕ) → are_names names ≡ true → i < length names → Short (get_or names i [])
short_among [] i h lt = absurd (omega (arith, lt))
short_among (n ∷ ns) zero h lt = short_name n (and_parts (is_name n) (are_names ns) h).0
short_among (n ∷ ns) (suc i) h lt = short_among ns i (and_parts (is_name n) (are_names ns) h).1 (omega (arith, lt))

-- the names of a system, kind by kind
pub record HaveNames (p : Parts) : Type 0 where
  pub system : is_name p.name ≡ true
  pub sorts : are_names (map (λ s. s.name) p.sorts) ≡ true
  pub symbols : are_names (map (λ s. s.name) p.symbols) ≡ true
  pub actions : are_names (map (λ a. a.name) p.actions) ≡ true
  pub fairs : are_names (map (λ c. c.name) p.fairs) ≡ true
  pub labels : are_names (map (λ l. l.name) p.labels) ≡ true
  pub witnesses : are_names (map (λ w. w.name) p.witnesses) ≡ true
  pub invariants : are_names (map (λ i. i.name) p.invariants) ≡ true

pub have_names : (p : Parts) → names_fit p ≡ true → HaveNames p
have_names p h =
    let all = sym (names_parted p) ∙ (and_parts (are_names (names_of p)) (each_stands_once (names_of p) (names_of p)) h).0 in
    let a = and_parts (is_name p.name) _ all in
    let b = and_parts (are_names (map (λ s. s.name) p.sorts)) _ a.1 in
    let c = and_parts (are_names (map (λ s. s.name) p.symbols)) _ b.1 in
    let d = and_parts (are_names (map (λ a. a.name) p.actions)) _ c.1 in
    let e = and_parts (are_names (map (λ c. c.name) p.fairs)) _ d.1 in
    let f = and_parts (are_names (map (λ l. l.name) p.labels)) _ e.1 in
    let g = and_parts (are_names (map (λ w. w.name) p.witnesses)) (are_names (map (λ i. i.name) p.invariants)) f.1 in
    record { system = a.0; sorts = b.0; symbols = c.0; actions = d.0; fairs = e.0; labels = f.0; witnesses = g.0; invariants = g.1 }

declared_short : (table : List Key) (k : ℕ) (ls : List LabelDecl) (name : List ℕ) → are_names (map (λ l. l.name) ls) ≡ true → declared_name table k ls ≡ Some name → Short name
declared_short table k [] name h e = absurd cc
declared_short table k (l ∷ ls) name h e =
    let both = and_parts (is_name l.name) (are_names (map (λ l. l.name) ls)) h in
    go (has_number table k (keys_of l.formula (reverse l.params))) (short_name l.name both.0) (declared_short table k ls name both.1) e
  where
    go : (b : Bool) → Short l.name → (declared_name table k ls ≡ Some name → Short name) → cond b (Some l.name) (declared_name table k ls) ≡ Some name → Short name
    go true first rest e = let q : l.name ≡ name = cc in subst Short q first
    go false first rest e = rest e

short_label : (p : Parts) → HaveNames p → (k : ℕ) → k < 2 ^ 64 → Short (label_word p k)
short_label p n k lt = go (label_name p k) (λ name. declared_short (labels_of p) k p.labels name n.labels) where
  go : (o : Option (List ℕ)) → ((name : List ℕ) → o ≡ Some name → Short name) → Short (name_or_number k o)
  go None h =
      let short = decimal_short k lt in
      let long = length-append (codes "label.") (decimal k) in
      record { some = omega (arith, long); few = omega (arith, long, short); bytes = list_all-append is_word_byte (codes "label.") (decimal k) ∙ rw (decimal_bytes k lt) refl }
  go (Some name) h = h name refl

module _ (p : Parts) (n : HaveNames p) where
  pub short_sort : (s : SortId) → s.0 < length p.sorts → Short (sort_name p s)
  short_sort s lt = let e = length-map p.sorts (λ x. x.name) in short_among (map (λ x. x.name) p.sorts) s.0 n.sorts (omega (arith, lt, e))

  pub short_own : (i : ℕ) → i < length p.symbols → Short (own_name p i)
  short_own i lt = let e = length-map p.symbols (λ x. x.name) in short_among (map (λ x. x.name) p.symbols) i n.symbols (omega (arith, lt, e))

  short_justice : (j : ℕ) → j < 2 ^ 64 → Short (justice_name p j)
  short_justice j lt = go (ltb j (length p.fairs)) refl where
    go : (b : Bool) → ltb j (length p.fairs) ≡ b → Short (cond b (get_or (map (λ x. x.name) p.fairs) j []) (label_word p (j - length p.fairs)))
    go true e =
        let below = ltb-true j (length p.fairs) e in
        let k = length-map p.fairs (λ x. x.name) in
        short_among (map (λ x. x.name) p.fairs) j n.fairs (omega (arith, below, k))
    go false e = short_label p n (j - length p.fairs) (omega (arith, lt))

  pub own_has_word : (i : ℕ) → i < length p.symbols → has_word p (Own i) ≡ true
  own_has_word i lt = short_text (short_own i lt)

  pub copy_has_word : (i : ℕ) → i < length p.symbols → has_word p (Copy i) ≡ true
  copy_has_word i lt = behind (codes "saved.") (omega arith) refl (short_own i lt)

  pub witness_has_word : (i : ℕ) → i < length p.witnesses → has_word p (Witness i) ≡ true
  witness_has_word i lt = let e = length-map p.witnesses (λ x. x.name) in short_text (short_among (map (λ x. x.name) p.witnesses) i n.witnesses (omega (arith, lt, e)))

  pub touched_has_word : (s : SortId) → s.0 < length p.sorts → has_word p (Touched s) ≡ true
  touched_has_word s lt = behind (codes "touched.") (omega arith) refl (short_sort s lt)

  pub kept_has_word : (s : SortId) → s.0 < length p.sorts → has_word p (Kept s) ≡ true
  kept_has_word s lt = behind (codes "kept.") (omega arith) refl (short_sort s lt)

  pub due_has_word : (j : ℕ) → j < 2 ^ 64 → has_word p (Due j) ≡ true
  due_has_word j lt = behind (codes "due.") (omega arith) refl (short_justice j lt)

  pub label_has_word : (k : ℕ) → k < 2 ^ 64 → has_word p (Label k) ≡ true
  label_has_word k lt = short_text (short_label p n k lt)

  pub label_copy_has_word : (k : ℕ) → k < 2 ^ 64 → has_word p (CopyLabel k) ≡ true
  label_copy_has_word k lt = behind (codes "saved.") (omega arith) refl (short_label p n k lt)

  pub next_has_word : (k : ℕ) → k < 2 ^ 64 → has_word p (Next k) ≡ true
  next_has_word k lt = behind (codes "next.") (omega arith) refl (short_label p n k lt)

  pub param_has_word : (k : ℕ) → k < 2 ^ 64 → has_word p (Param k) ≡ true
  param_has_word k lt =
      let short = decimal_short k lt in
      let long = length-append (codes "param.") (decimal k) in
      text_of (codes "param." ++ decimal k) (omega (arith, long)) (omega (arith, long, short)) (list_all-append is_word_byte (codes "param.") (decimal k) ∙ rw (decimal_bytes k lt) refl)
