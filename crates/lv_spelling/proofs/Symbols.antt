-- The sections of sorts, and of relations and constants.
use Rattle.std.proofs.Common.{◌≡◌, ℕ, ◌+◌, ◌≤◌, Bool, true, false, ◌||◌, if◌then◌else◌, leb, List, [], ◌∷◌, length, codes, refl, ap, subst, ◌∙◌, arith}
use Rattle.std.proofs.lemmas.Bool.{leb-false, leb-true, le-leb}
use Rattle.lv_tree.specs.declared.tree.Tree.{Tree}
use Rattle.lv_formula.specs.declared.symbols.SortId.{SortId}
use Rattle.lv_system.specs.declared.parts.Sort.{Sort}
use Rattle.lv_system.specs.declared.parts.Symbol.{Symbol}
use Rattle.lv_system.specs.declared.parts.Shape.TheVariants as S
use Rattle.lv_system.specs.Names.{same_text}
use Rattle.lv_fault.specs.Given.{Headed, headed, list_in}
use Rattle.lv_grammar.specs.Grammar.{Each, nothing, first_and_rest, IsList}
use Rattle.lv_grammar.specs.Known.{Known, IsSortName}
use Rattle.lv_grammar.specs.ReadWords.{sort_in}
use Rattle.lv_grammar.specs.ReadItems.{mark_in, sorts_from, sorts_in, name_in, sort_item, relation_item, constant_item}
use Rattle.lv_grammar.specs.Rules.{Begins, IsSort, IsShape, relation, constant, IsDeclared}
use Rattle.lv_grammar.specs.Reading.{begins_with, sort_kind, symbol_kind}
use Rattle.lv_grammar.proofs.Steps.{done, ok_is, bound, passed, one_more, list_found}
use Rattle.lv_grammar.proofs.TreesAgain.{list_again}
use Rattle.lv_spelling.specs.Laws.{Agree}
use Rattle.lv_spelling.proofs.Heads.{head_same, kind_found, begins_again, kind_again, head_again, name_is, name_again}
use Rattle.lv_spelling.proofs.Marks.{mark_right, mark_again}
use Rattle.lv_spelling.proofs.SectionLaw as Law
use Rattle.lv_spelling.proofs.Tests.{not_four}
use Rattle.lv_spelling.proofs.WordAgain.{sort_name_again}
use Rattle.lv_spelling.proofs.WordSays.{sort_is}

-- ---- sorts

sort_found : (k : Known) (s : Sort) (t : Tree) → begins_with (codes "sort") t ≡ true → sort_kind.read k t ≡ done s → IsSort k s t
unfolding sort_item
sort_found k s t b e =
    let h = bound (headed t) _ s e in
    let n = bound (name_in k h.0.end h.0.rest) _ s h.2 in
    let m = bound (mark_in (codes "finite") n.0.1) _ s n.2 in
    let x = name_is k h.0.end h.0.rest n.0 n.1 in
    subst (λ z. IsSort k z t) (ok_is (record { name = n.0.0; finite = m.0 }) s m.2) (record {
      n = x.0;
      mark = n.0.1;
      list = subst (λ z. Begins (codes "sort") z t) x.1 (kind_found (codes "sort") t h.0 h.1 b);
      name = x.2;
      finite = mark_right (codes "finite") n.0.1 m.0 m.1;
    })

sort_again : (k : Known) (s : Sort) (t : Tree) → IsSort k s t → sort_kind.read k t ≡ done s
unfolding sort_item
sort_again k s t is =
    let h = head_again (codes "sort") (is.n ∷ is.mark) t is.list in
    rw (h.is, name_again k h.end s.name is.n is.mark is.name, mark_again (codes "finite") s.finite is.mark is.finite) refl

pub sorts_agree : Agree sort_kind IsSort
sorts_agree = Law.sections_agree sort_kind IsSort (λ k s t. ((λ is. (kind_again (codes "sort") (is.n ∷ is.mark) t is.list, sort_again k s t is)), (λ x. sort_found k s t x.0 x.1)))

-- ---- the names of sorts

sorts_are : (k : Known) (n : ℕ) (ts : List Tree) (ss : List SortId) → sorts_from k n ts ≡ done ss → Each (IsSortName k) ss ts × (n ≤ 4 → n + length ss ≤ 4)
unfolding sorts_from
sorts_are k n [] ss e = subst (λ z. Each (IsSortName k) z [] × (n ≤ 4 → n + length z ≤ 4)) (ok_is [] ss e) (nothing, λ le. omega (arith, le))
sorts_are k n (t ∷ ts) ss e =
    let s = bound (sort_in k t) _ ss e in
    let q = passed (leb 4 n) _ _ _ ss s.2 in
    let r = bound (sorts_from k (n + 1) ts) _ ss q.1 in
    let rest = sorts_are k (n + 1) ts r.0 r.1 in
    let below = leb-false 4 n q.0 in
    let more = rest.1 (omega (arith, below)) in
    subst (λ z. Each (IsSortName k) z (t ∷ ts) × (n ≤ 4 → n + length z ≤ 4)) (ok_is (s.0 ∷ r.0) ss r.2) (first_and_rest (sort_is k t s.0 s.1) rest.0, λ le. omega (arith, more))

sorts_again : (k : Known) (n : ℕ) (ss : List SortId) (ts : List Tree) → Each (IsSortName k) ss ts → n + length ss ≤ 4 → sorts_from k n ts ≡ done ss
unfolding sorts_from
sorts_again k n [] ts nothing few = refl
sorts_again k n (s ∷ ss) ts (first_and_rest {t = t} {ts = us} is rest) few =
    rw (sort_name_again k s t is, not_four n (length ss) few, sorts_again k (n + 1) ss us rest (omega (arith, few))) refl

-- ---- relations and constants

relation_found : (k : Known) (s : Symbol) (t : Tree) (h : Headed) → Begins (codes "relation") h.rest t → relation_item k h ≡ done s → IsDeclared k s t
unfolding relation_item sorts_in
relation_found k s t h begins e =
    let n = bound (name_in k h.end h.rest) _ s e in
    let b = one_more h.end n.0.1 _ s n.2 in
    let ss = bound (sorts_in k b.0) _ s b.3 in
    let l = bound (list_in b.0) _ ss.0 ss.1 in
    let m = bound (mark_in (codes "fixed") b.1) _ s ss.2 in
    let x = name_is k h.end h.rest n.0 n.1 in
    let each = sorts_are k 0 l.0.items ss.0 l.2 in
    let le = each.1 (omega arith) in
    subst (λ z. IsDeclared k z t) (ok_is (record { name = n.0.0; shape = S.Relation ss.0; fixed = m.0 }) s m.2) (record {
      word = codes "relation";
      n = x.0;
      a = b.0;
      mark = b.1;
      list = subst (λ z. Begins (codes "relation") z t) (x.1 ∙ ap (λ z. x.0 ∷ z) b.2) begins;
      name = x.2;
      shape = relation l.0.items (list_found b.0 l.0 l.1) each.0 (le-leb (length ss.0) 4 (omega (arith, le)));
      fixed = mark_right (codes "fixed") b.1 m.0 m.1;
    })

constant_found : (k : Known) (s : Symbol) (t : Tree) (h : Headed) → Begins (codes "constant") h.rest t → constant_item k h ≡ done s → IsDeclared k s t
unfolding constant_item
constant_found k s t h begins e =
    let n = bound (name_in k h.end h.rest) _ s e in
    let b = one_more h.end n.0.1 _ s n.2 in
    let c = bound (sort_in k b.0) _ s b.3 in
    let m = bound (mark_in (codes "fixed") b.1) _ s c.2 in
    let x = name_is k h.end h.rest n.0 n.1 in
    subst (λ z. IsDeclared k z t) (ok_is (record { name = n.0.0; shape = S.Constant c.0; fixed = m.0 }) s m.2) (record {
      word = codes "constant";
      n = x.0;
      a = b.0;
      mark = b.1;
      list = subst (λ z. Begins (codes "constant") z t) (x.1 ∙ ap (λ z. x.0 ∷ z) b.2) begins;
      name = x.2;
      shape = constant (sort_is k b.0 c.0 c.1);
      fixed = mark_right (codes "fixed") b.1 m.0 m.1;
    })

symbol_found : (k : Known) (s : Symbol) (t : Tree) → symbol_kind.is t ≡ true → symbol_kind.read k t ≡ done s → IsDeclared k s t
symbol_found k s t b e = let h = bound (headed t) _ s e in go h.0 h.1 (same_text h.0.word.text (codes "relation")) refl h.2 where
  go : (h : Headed) → headed t ≡ done h → (c : Bool) → same_text h.word.text (codes "relation") ≡ c → (if c then relation_item k h else constant_item k h) ≡ done s → IsDeclared k s t
  go h q true c e = relation_found k s t h (kind_found (codes "relation") t h q (head_same (codes "relation") t h q ∙ c)) e
  go h q false c e =
      let other : begins_with (codes "relation") t ≡ false = head_same (codes "relation") t h q ∙ c in
      constant_found k s t h (kind_found (codes "constant") t h q (subst (λ z. (z || begins_with (codes "constant") t) ≡ true) other b)) e

symbol_again : (k : Known) (s : Symbol) (t : Tree) → IsDeclared k s t → (symbol_kind.is t ≡ true) × (symbol_kind.read k t ≡ done s)
unfolding relation_item constant_item sorts_in
symbol_again k s t is = go s.shape refl is.word is.shape is.list where
  go : (shape : _) → s.shape ≡ shape → (word : List ℕ) → IsShape k shape word is.a → Begins word (is.n ∷ is.a ∷ is.mark) t → (symbol_kind.is t ≡ true) × (symbol_kind.read k t ≡ done s)
  go (S.Relation sorts) q word (relation items list each few) begins =
      let h = head_again (codes "relation") (is.n ∷ is.a ∷ is.mark) t begins in
      let l = list_again is.a items list in
      let le = leb-true (length sorts) 4 few in (
        rw (begins_again (codes "relation") (is.n ∷ is.a ∷ is.mark) t begins) refl,
        rw (h.is, name_again k h.end s.name is.n (is.a ∷ is.mark) is.name, l.1, sorts_again k 0 sorts items each (omega (arith, le)), mark_again (codes "fixed") s.fixed is.mark is.fixed, q) refl,
      )
  go (S.Constant sort) q word (constant name) begins =
      let h = head_again (codes "constant") (is.n ∷ is.a ∷ is.mark) t begins in (
        rw (begins_again (codes "constant") (is.n ∷ is.a ∷ is.mark) t begins) refl,
        rw (h.is, name_again k h.end s.name is.n (is.a ∷ is.mark) is.name, sort_name_again k sort is.a name, mark_again (codes "fixed") s.fixed is.mark is.fixed, q) refl,
      )

pub symbols_agree : Agree symbol_kind IsDeclared
symbols_agree = Law.sections_agree symbol_kind IsDeclared (λ k s t. (symbol_again k s t, (λ x. symbol_found k s t x.0 x.1)))
