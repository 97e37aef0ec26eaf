-- What code keeps of the structure of classes agrees with it.
use Rattle.std.proofs.Common.{◌≡◌, ℕ, zero, suc, ◌+◌, ◌*◌, ◌<◌, ◌≤◌, Bool, true, false, ◌&&◌, cond, ltb, List, [], ◌∷◌, map, length, get_or, Option, Some, None, refl, sym, ap, ap₂, ◌∙◌, subst, arith}
use Rattle.std.specs.List.{All}
use Rattle.std.proofs.lemmas.Bool.{and_parts, ltb-true, cond-true, cond-false, cases_lt, false≢true}
use Rattle.std.proofs.lemmas.List.{get_or-map, get_or_past, length-map}
use Rattle.std.proofs.lemmas.List.Elements.{All-head, All-tail}
use Rattle.lv_formula.specs.declared.symbols.SortId.{SortId}
use Rattle.lv_formula.specs.declared.symbols.Sym.{Sym}
use Rattle.lv_formula.specs.declared.vocabulary.ConShape.{ConShape}
use Rattle.lv_formula.specs.declared.vocabulary.RelShape.{RelShape}
use Rattle.lv_formula.specs.declared.vocabulary.Sentences.{Sentences}
use Rattle.lv_formula.specs.declared.vocabulary.Vocabulary.{Vocabulary}
use Rattle.lv_formula.specs.Meaning.{AgreeOn, IsStructureOf, Meaning, in_range}
use Rattle.lv_formula.specs.Symbols.{sym_eq}
use Rattle.lv_formula.specs.Vocabulary.{IsSound, relation_in, constant_in}
use Rattle.lv_formula.proofs.SymbolLaws.{sym_eq-true}
use Rattle.lv_places.specs.Forms.{forms_of, occurs_some}
use Rattle.lv_places.specs.GroundForms.{naming_of}
use Rattle.lv_places.specs.Universes.{product, tuple_number, constant_id, constant_number, constant_sort}
use Rattle.lv_places.specs.declared.grounded.GroundAtom.TheVariants as make
use Rattle.lv_places.specs.declared.terms.TermId.{TermId}
use Rattle.lv_places.proofs.Tests.{either, by_cases}
use Rattle.lv_places.proofs.Universes.{AreTerms, IsTerm, ConstantsAreTerms, same_sorts}
use Rattle.lv_skolem.specs.Skolems.{IsSkolem, normal_forms}
use Rattle.lv_skolem.proofs.Sorted.{relations_kept}
use Rattle.lv_struct.proofs.Tabulate.{relation_found, constant_found}
use Rattle.lv_model.specs.declared.assigned.Assigned.{Assigned}
use Rattle.lv_model.specs.declared.classes.Classes.{Classes}
use Rattle.lv_model.specs.declared.rows.Row.{Row}
use Rattle.lv_model.specs.declared.structure.Element.{Element}
use Rattle.lv_model.specs.declared.structure.Quotient.{Quotient}
use Rattle.lv_model.specs.declared.truths.Head.TheVariants.{Relation}
use Rattle.lv_model.specs.Classes.{class_of, classes, member_of, equal_in, first_terms, class_holds, class_value, class_structure}
use Rattle.lv_model.specs.Quotients.{firsts_to, classes_of, classes_to, classes_in, no_classes, offsets_of, offset, row_holds, rows_hold, IsRow, AreRows, element_of, element_in, told, IsQuotientOf}
use Rattle.lv_model.specs.Truths.{sort, numbers, truth}
use Rattle.lv_model.proofs.Lists.{list_to_at, length-list_to, length-firsts_to, firsts_are_members}
use Rattle.lv_model.proofs.Model.{first_term_is, no_more}
use Rattle.lv_model.proofs.Quotient.{IsEquivalence, class_below}

-- ---- look-ups

-- a relation that does not occur has no row
no_row : (st : Assigned) (all : List Classes) (xs : List RelShape) (rs : List Row) (r : Sym) (es : List ℕ) → AreRows st all (length xs) xs rs
    → relation_in xs r ≡ None → rows_hold rs r es ≡ false
no_row st all [] [] r es are h = refl
no_row st all [] (y ∷ rs) r es are h = absurd (let l = are.len in omega arith)
no_row st all (x ∷ xs) [] r es are h = absurd (let l = are.len in omega arith)
no_row st all (x ∷ xs) (y ∷ rs) r es are h =
    let named = (are.each 0 x y refl refl).sym in
    by_cases (sym_eq x.sym r)
    (λ e. absurd (let w : Some x.sorts ≡ None = sym (cond-true (sym_eq x.sym r) (Some x.sorts) (relation_in xs r) e) ∙ h in cc))
    (λ e. cond-false (sym_eq y.sym r) (row_holds y es) (rows_hold rs r es) (ap (λ z. sym_eq z r) named ∙ e)
    ∙ no_row st all xs rs r es (record { len = let l = are.len in omega arith; each = λ i z w p q. are.each (suc i) z w p q })
    (sym (cond-false (sym_eq x.sym r) (Some x.sorts) (relation_in xs r) e) ∙ h))

pub record HasRow (st : Assigned) (all : List Classes) (rs : List Row) (r : Sym) (ss : List SortId) : Type 0 where
  pub row : Row
  pub is : IsRow st all (record { sym = r; sorts = ss }) row
  pub read : (es : List ℕ) → rows_hold rs r es ≡ row_holds row es

-- one that occurs has one
row_found : (st : Assigned) (all : List Classes) (xs : List RelShape) (rs : List Row) (r : Sym) (ss : List SortId) → AreRows st all (length xs) xs rs
    → relation_in xs r ≡ Some ss → HasRow st all rs r ss
row_found st all [] rs r ss are h = absurd (cc)
row_found st all (x ∷ xs) [] r ss are h = absurd (let l = are.len in omega arith)
row_found st all (x ∷ xs) (y ∷ rs) r ss are h =
    let is = are.each 0 x y refl refl in
    by_cases (sym_eq x.sym r)
    (λ e. let w : Some x.sorts ≡ Some ss = sym (cond-true (sym_eq x.sym r) (Some x.sorts) (relation_in xs r) e) ∙ h in
    let sorts : x.sorts ≡ ss = cc in
    let named : x.sym ≡ r = sym_eq-true x.sym r e in
    let same : x ≡ record { sym = r; sorts = ss } = ap₂ (λ q l. record { sym = q; sorts = l }) named sorts in
    record {
      row = y;
      is = subst (λ z. IsRow st all z y) same is;
      read = λ es. cond-true (sym_eq y.sym r) (row_holds y es) (rows_hold rs r es) (ap (λ z. sym_eq z r) is.sym ∙ e);
    })
    (λ e. let ih = row_found st all xs rs r ss (record { len = let l = are.len in omega arith; each = λ i z w p q. are.each (suc i) z w p q })
    (sym (cond-false (sym_eq x.sym r) (Some x.sorts) (relation_in xs r) e) ∙ h) in
    record {
      row = ih.row;
      is = ih.is;
      read = λ es. cond-false (sym_eq y.sym r) (row_holds y es) (rows_hold rs r es) (ap (λ z. sym_eq z r) is.sym ∙ e) ∙ ih.read es;
    })

no_element : (f : ConShape → Element) → ((c : ConShape) → (f c).sym ≡ c.sym) → (cs : List ConShape) (c : Sym) → constant_in cs c ≡ None
    → element_in (map f cs) c ≡ 0
no_element f named [] c h = refl
no_element f named (x ∷ cs) c h = by_cases (sym_eq x.sym c)
    (λ e. absurd (let w : Some x.sort ≡ None = sym (cond-true (sym_eq x.sym c) (Some x.sort) (constant_in cs c) e) ∙ h in cc))
    (λ e. cond-false (sym_eq (f x).sym c) (f x).element (element_in (map f cs) c) (ap (λ z. sym_eq z c) (named x) ∙ e)
    ∙ no_element f named cs c (sym (cond-false (sym_eq x.sym c) (Some x.sort) (constant_in cs c) e) ∙ h))

element_found : (f : ConShape → Element) → ((c : ConShape) → (f c).sym ≡ c.sym) → (cs : List ConShape) (c : Sym) (s : SortId) → constant_in cs c ≡ Some s
    → element_in (map f cs) c ≡ (f (record { sym = c; sort = s })).element
element_found f named [] c s h = absurd (cc)
element_found f named (x ∷ cs) c s h = by_cases (sym_eq x.sym c)
    (λ e. let w : Some x.sort ≡ Some s = sym (cond-true (sym_eq x.sym c) (Some x.sort) (constant_in cs c) e) ∙ h in
    let sorts : x.sort ≡ s = cc in
    let is : x ≡ record { sym = c; sort = s } = ap₂ (λ q l. record { sym = q; sort = l }) (sym_eq-true x.sym c e) sorts in
    cond-true (sym_eq (f x).sym c) (f x).element (element_in (map f cs) c) (ap (λ z. sym_eq z c) (named x) ∙ e) ∙ ap (λ z. (f z).element) is)
    (λ e. cond-false (sym_eq (f x).sym c) (f x).element (element_in (map f cs) c) (ap (λ z. sym_eq z c) (named x) ∙ e)
    ∙ element_found f named cs c s (sym (cond-false (sym_eq x.sym c) (Some x.sort) (constant_in cs c) e) ∙ h))

-- ---- the classes of a sort

module _ (st : Assigned) (eqv : (s : SortId) → IsEquivalence (equal_in (truth st) s) (numbers st s))
    (some : (s : SortId) → s.0 < st.sk.now.sorts → 0 < numbers st s) where
  abbrev all : List Classes
  all = classes_to st st.sk.now.sorts

  classes_at : (s : SortId) → s.0 < st.sk.now.sorts → classes_in all s ≡ classes_of st s
  classes_at s l = list_to_at st.sk.now.sorts (λ i. classes_of st (sort i)) s.0 no_classes l ∙ ap (classes_of st) (same_sorts (sort s.0) s refl)

  abbrev count : SortId → ℕ
  count s = classes (equal_in (truth st) s) (numbers st s)

  some_class : (s : SortId) → s.0 < st.sk.now.sorts → 0 < count s
  some_class s l = let b = class_below (equal_in (truth st) s) (numbers st s) (eqv s) 0 (some s l) in omega (arith, b)

  size_is : (s : SortId) → s.0 < st.sk.now.sorts → (class_structure st.sk.now (numbers st) (truth st)).size s ≡ count s
  size_is s l = no_more st.sk.now (numbers st) (truth st) eqv (count s) (some_class s l)

  -- the number of the tuple of first terms
  offset_is : (ss : List SortId) (es : List ℕ) → All (λ s. s.0 < st.sk.now.sorts) ss
      → in_range (class_structure st.sk.now (numbers st) (truth st)) ss es ≡ true
      → AreTerms (numbers st) ss (first_terms (numbers st) (truth st) ss es)
      × (map (λ (t : TermId). t.sort) (first_terms (numbers st) (truth st) ss es) ≡ ss)
      × (offset (offsets_of (numbers st) all ss) es ≡ tuple_number (numbers st) (first_terms (numbers st) (truth st) ss es))
  offset_is [] [] inside h = (tt, refl, refl)
  offset_is [] (e ∷ es) inside h = absurd (false≢true h)
  offset_is (s ∷ ss) [] inside h = absurd (false≢true h)
  offset_is (s ∷ ss) (e ∷ es) inside h =
      let n = numbers st in
      let v = truth st in
      let m = class_structure st.sk.now n v in
      let l = All-head (λ s. s.0 < st.sk.now.sorts) s ss inside in
      let both = and_parts (ltb e (m.size s)) (in_range m ss es) h in
      let below : e < count s = let q = ltb-true e (m.size s) both.0 in let z = size_is s l in omega (arith, q, z) in
      let rest = offset_is ss es (All-tail (λ s. s.0 < st.sk.now.sorts) s ss inside) both.1 in
      let eq = equal_in v s in
      let firsts : (classes_in all s).firsts ≡ firsts_to (n s) eq = ap (λ (c : Classes). c.firsts) (classes_at s l) in
      let len : e < length (firsts_to (n s) eq) = let z = length-firsts_to eq (n s) in omega (arith, z, below) in
      let here : get_or (map (λ place. place * product n ss) (classes_in all s).firsts) e 0 ≡ member_of eq (n s) e * product n ss =
      ap (λ l. get_or (map (λ place. place * product n ss) l) e 0) firsts
      ∙ get_or-map (λ place. place * product n ss) (firsts_to (n s) eq) e 0 0 len
      ∙ ap (λ place. place * product n ss) (firsts_are_members eq (n s) e 0 below) in
      let weight : product n ss ≡ product n (map (λ (t : TermId). t.sort) (first_terms n v ss es)) = ap (product n) (sym rest.1) in (
        (first_term_is st.sk.now n v eqv s e below, rest.0),
        ap (λ l. s ∷ l) rest.1,
        ap₂ (λ a b. a + b) (here ∙ ap (λ w. member_of eq (n s) e * w) weight) rest.2,
      )

  module _ (q : Quotient) (is : IsQuotientOf st q) where
    size_told : (s : SortId) → s.0 < st.sk.now.sorts → (told q).size s ≡ (class_structure st.sk.now (numbers st) (truth st)).size s
    size_told s l =
        let f = λ (c : Classes). length c.firsts in
        let long : s.0 < length all = let z = length-list_to st.sk.now.sorts (λ i. classes_of st (sort i)) in omega (arith, z, l) in
        ap (λ l. get_or l s.0 1) is.sizes ∙ get_or-map f all s.0 no_classes 1 long ∙ ap f (classes_at s l)
        ∙ length-firsts_to (equal_in (truth st) s) (numbers st s) ∙ sym (size_is s l)

    holds_told : (r : Sym) (ss : List SortId) → All (λ s. s.0 < st.sk.now.sorts) ss → (o : Option (List SortId)) → relation_in st.sk.now.relations r ≡ o
        → ((ts : List SortId) → o ≡ Some ts → ts ≡ ss) → (es : List ℕ)
        → in_range (class_structure st.sk.now (numbers st) (truth st)) ss es ≡ true
        → (told q).holds r es ≡ class_holds (numbers st) (truth st) r o es
    holds_told r ss inside None e known es h = no_row st all st.sk.now.relations q.rows r es is.rows e
    holds_told r ss inside (Some ts) e known es h =
        let same = known ts refl in
        let f = row_found st all st.sk.now.relations q.rows r ss is.rows (e ∙ ap Some same) in
        let o = offset_is ss es inside h in
        f.read es ∙ ap (λ (l : List (List ℕ)). get_or f.row.truths (offset l es) false) (f.is).offsets
        ∙ ap (λ k. get_or f.row.truths k false) o.2
        ∙ (f.is).truths.each (first_terms (numbers st) (truth st) ss es) o.0
        ∙ ap (λ l. truth st (make.Relation r (first_terms (numbers st) (truth st) l es))) (sym same)

    value_told : ConstantsAreTerms (naming_of st.sk.now (numbers st)) st.sk.now.constants
        → (c : Sym) (o : Option SortId) → constant_in st.sk.now.constants c ≡ o
        → ((s : SortId) → o ≡ Some s → s.0 < st.sk.now.sorts)
        → (told q).value c ≡ class_value (truth st) (constant_id st.sk.now c) o
    value_told terms c None e there =
        ap (λ l. element_in l c) is.elements ∙ no_element (element_of st all) (λ c. refl) st.sk.now.constants c e
    value_told terms c (Some s) e there =
        let l = there s refl in
        let t : IsTerm (numbers st) s (constant_id st.sk.now c) = terms c s e in
        let sorts : constant_sort st.sk.now.constants c ≡ s = t.sort_is in
        let k = constant_number s st.sk.now.constants c in
        let at : (constant_id st.sk.now c).place ≡ k = ap (λ z. constant_number z st.sk.now.constants c) sorts in
        let below : k < numbers st s = let w = t.within in omega (arith, w, at) in
        ap (λ l. element_in l c) is.elements ∙ element_found (element_of st all) (λ c. refl) st.sk.now.constants c s e
        ∙ ap (λ (z : Classes). get_or z.numbers k 0) (classes_at s l)
        ∙ list_to_at (numbers st s) (class_of (equal_in (truth st) s)) k 0 below
        ∙ ap₂ (λ z j. class_of (equal_in (truth st) z) j) (sym sorts) (sym at)

module _ (voc : Vocabulary) (s : Sentences) (st : Assigned) (q : Quotient) (sound : IsSound voc) (skolem : IsSkolem voc s st.sk.now)
    (eqv : (s : SortId) → IsEquivalence (equal_in (truth st) s) (numbers st s))
    (some : (s : SortId) → s.0 < st.sk.now.sorts → 0 < numbers st s)
    (terms : ConstantsAreTerms (naming_of st.sk.now (numbers st)) st.sk.now.constants)
    (was : (c : Sym) (t : SortId) → constant_in st.sk.now.constants c ≡ Some t → constant_in voc.constants c ≡ Some t)
    (is : IsQuotientOf st q) where
  abbrev m : Meaning
  m = class_structure st.sk.now (numbers st) (truth st)

  there : (k : ℕ) → k < voc.sorts → k < st.sk.now.sorts
  there k l = let e = skolem.sorts in omega (arith, e, l)

  kept : (r : Sym) (ss ts : List SortId) → relation_in voc.relations r ≡ Some ss → relation_in st.sk.now.relations r ≡ Some ts → ts ≡ ss
  kept r ss ts h k =
      let fs = forms_of (normal_forms s) in
      let e = relations_kept fs voc.relations r in
      let w = sym k ∙ ap (λ l. relation_in l r) skolem.relations ∙ e in
      step (occurs_some r fs) w
    where
      step : (b : Bool) → Some ts ≡ cond b (relation_in voc.relations r) None → ts ≡ ss
      step true w = let z : Some ts ≡ Some ss = w ∙ h in cc
      step false w = absurd (cc)

  sorts_there : (r : Sym) (ss : List SortId) → relation_in voc.relations r ≡ Some ss → All (λ x. x.0 < st.sk.now.sorts) ss
  sorts_there r ss h =
      let a = relation_found (λ r ss. All (λ (x : SortId). x.0 < voc.sorts) ss) voc.relations (λ k d l. (sound.relations k d l).1) r ss h in
      λ k d l. there (get_or ss k d).0 (a k d l)

  sort_there : (c : Sym) (x : SortId) → constant_in voc.constants c ≡ Some x → x.0 < voc.sorts
  sort_there c x h = constant_found (λ c x. x.0 < voc.sorts) voc.constants sound.constants c x h

  pub told_agrees : AgreeOn voc (told q) m
  told_agrees = record {
    sizes = λ x l. size_told st eqv some q is x (there x.0 l);
    relations = λ r ss here es h. holds_told st eqv some q is r ss (sorts_there r ss here) (relation_in st.sk.now.relations r) refl
        (λ ts e. kept r ss ts here e) es (range_same r ss here es h);
    constants = λ c x here. value_told st eqv some q is terms c (constant_in st.sk.now.constants c) refl
        (λ t e. there t.0 (sort_there c t (was c t e)));
  }
    where
      over_same : (ss : List SortId) (es : List ℕ) → All (λ x. x.0 < st.sk.now.sorts) ss → in_range (told q) ss es ≡ in_range m ss es
      over_same [] [] inside = refl
      over_same [] (e ∷ es) inside = refl
      over_same (x ∷ ss) [] inside = refl
      over_same (x ∷ ss) (e ∷ es) inside =
          ap₂ (λ a b. a && b) (ap (ltb e) (size_told st eqv some q is x (All-head (λ x. x.0 < st.sk.now.sorts) x ss inside)))
          (over_same ss es (All-tail (λ x. x.0 < st.sk.now.sorts) x ss inside))

      range_same : (r : Sym) (ss : List SortId) → relation_in voc.relations r ≡ Some ss → (es : List ℕ) → in_range (told q) ss es ≡ true
          → in_range m ss es ≡ true
      range_same r ss here es h = sym (over_same ss es (sorts_there r ss here)) ∙ h

  pub told_is_structure : IsStructureOf voc m → IsStructureOf voc (told q)
  told_is_structure h = record { sizes = sizes; constants = constants }
    where
      sizes : (x : SortId) → 0 < (told q).size x
      sizes x = either (cases_lt x.0 st.sk.now.sorts)
          (λ l. let e = size_told st eqv some q is x l in let p = h.sizes x in omega (arith, e, p))
          (λ l. let len : length q.sizes ≡ st.sk.now.sorts =
          ap length is.sizes ∙ length-map (classes_to st st.sk.now.sorts) (λ (c : Classes). length c.firsts)
          ∙ length-list_to st.sk.now.sorts (λ i. classes_of st (sort i)) in
          let e = get_or_past q.sizes x.0 1 (omega arith) in
          omega (arith, e))

      constants : (c : Sym) (x : SortId) → constant_in voc.constants c ≡ Some x → (told q).value c < (told q).size x
      constants c x here =
          let e = told_agrees.constants c x here in
          let z = told_agrees.sizes x (sort_there c x here) in
          let p = h.constants c x here in
          omega (arith, e, z, p)
