-- Where some tree is a formula by the rules, so is each tree that is the shown one but for places.
use Rattle.std.proofs.Common.{◌≡◌, ℕ, suc, ◌+◌, ◌-◌, ◌^◌, ◌<◌, Bool, true, ◌&&◌, leb, Some, List, [], ◌∷◌, map, length, get_or, refl, sym, ap, subst, ◌∙◌, arith}
use Rattle.std.specs.Prelude.{codes}
use Rattle.std.proofs.lemmas.Bool.{and_parts}
use Rattle.lv_tree.specs.declared.tree.Tree.{Tree}
use Rattle.lv_tree.specs.Writing.{bare}
use Rattle.lv_formula.specs.declared.symbols.SortId.{SortId}
use Rattle.lv_formula.specs.declared.symbols.Sym.{Sym}
use Rattle.lv_formula.specs.declared.terms.Term.{Term}
use Rattle.lv_formula.specs.declared.terms.Term.TheVariants.{Var}
use Rattle.lv_formula.specs.declared.temporal.Temporal.{Temporal}
use Rattle.lv_formula.specs.declared.temporal.Temporal.TheVariants as T
use Rattle.lv_formula.specs.Measures.{largest}
use Rattle.lv_formula.proofs.TemporalFolds.{fold-Not, fold-And, fold-Or, fold-Implies, fold-Iff, fold-All, fold-Any, fold-Always, fold-Eventually, fold_at-True, fold_at-False, fold_at-Atom, fold_at-Same, fold_at-Not, fold_at-And, fold_at-Or, fold_at-Implies, fold_at-Iff, fold_at-All, fold_at-Any, fold_at-Always, fold_at-Eventually}
use Rattle.lv_system.specs.declared.parts.Parts.{Parts}
use Rattle.lv_system.specs.declared.parts.Shape.{Shape}
use Rattle.lv_system.specs.TemporalLimits.{temporal_lists_step, temporal_lists_of}
use Rattle.lv_grammar.specs.declared.reading.Named.TheVariants as N
use Rattle.lv_grammar.specs.declared.reading.Role.{Role}
use Rattle.lv_grammar.specs.Words.{Variable, begins_capital, symbol_word, sort_name, own_name}
use Rattle.lv_system.specs.Names.{are_name_bytes}
use Rattle.lv_grammar.specs.Grammar.{IsWord, IsList}
use Rattle.lv_grammar.specs.Known.{Known, named, looks_capital, Said, Relation, Constant, Says, IsSortName}
use Rattle.lv_grammar.specs.KnownOf.{sym_of}
use Rattle.lv_grammar.specs.Rules.{sorts_of, sort_at, IsTerm, variable, constant, AreTerms, no_terms, terms, Begins, Binds, IsFormula, truth, falsity, bare_atom, atom, equation, negation, conjunction, disjunction, implication, equivalence, universal, existential, always, eventually, AreFormulas, no_formulas, formulas}
use Rattle.lv_grammar.specs.ShownFormulas.{word, list, variable_name, deeper, shown_term, shown_step, shown_temporal, shown_temporals}
use Rattle.lv_grammar.proofs.Likeness.{like_word, none_like, front, two, three, four}
use Rattle.lv_layout.proofs.Variables.{shown_variables, find_shown, shown_is_variable, shown_is_new}

-- the words of symbols, of sorts and of own symbols are those that say them
pub record Speaks (p : Parts) (k : Known) (role : Role) : Type 0 where
  pub symbol : (text : List ℕ) (said : Said) → Says k role text said → symbol_word p (sym_of said) ≡ text
  pub sort : (s : SortId) (t : Tree) (is : IsSortName k s t) → sort_name p s ≡ is.text
  pub own : (n : ℕ) (text : List ℕ) (shape : Shape) (fixed : Bool) → named k text ≡ Some (N.Symbol n shape fixed) → own_name p n ≡ text

-- the list begins with this word
pub begins : (word : List ℕ) (head u : Tree) (items : List Tree) → IsList (head ∷ items) u → IsWord word head → Begins word items u
begins word head u items list first = record { head = head; list = list; first = first }

-- ---- the sorts of variables

pub shown_sorts : (vs : List Variable) → sorts_of (shown_variables vs) ≡ sorts_of vs
shown_sorts [] = refl
shown_sorts (v ∷ vs) = ap (λ z. v.sort ∷ z) (shown_sorts vs)

shown_sort_at : (vs : List Variable) (i : ℕ) → sort_at (shown_variables vs) i ≡ sort_at vs i
shown_sort_at vs i = ap (λ ss. get_or ss i (record { 0 = 0 })) (shown_sorts vs)

capital : (n : ℕ) → n < 2 ^ 64 → looks_capital (variable_name n) ≡ true
capital n lt = (and_parts (begins_capital (variable_name n) && are_name_bytes (variable_name n)) (leb (length (variable_name n)) 48) (shown_is_variable n lt)).0

module _ (p : Parts) (k : Known) (role : Role) (s : Speaks p k role) where
  pub sort_shown : (sort : SortId) (t u : Tree) → IsSortName k sort t → bare u ≡ bare (word (sort_name p sort)) → IsSortName k sort u
  sort_shown sort t u is e = record { text = is.text; word = like_word u (sort_name p sort) e ∙ ap Some (s.sort sort t is); small = is.small; is = is.is }

  said : (text : List ℕ) (x : Said) → Says k role text x → Says k role (symbol_word p (sym_of x)) x
  said text x says = subst (λ z. Says k role z x) (sym (s.symbol text x says)) says

  pub term_shown : {vs : List Variable} {x : Term} {sort : SortId} {t : Tree} → length vs < 2 ^ 64 → IsTerm k role vs x sort t → (u : Tree) → bare u ≡ bare (shown_term p (length vs) x) → IsTerm k role (shown_variables vs) x sort u
  term_shown {vs = vs} lt (variable {i = i} name w cap n) u e =
      let f = find_shown vs name i lt n in
      let d = length vs - 1 - i in
      subst (λ z. IsTerm k role (shown_variables vs) (Var i) z u) (shown_sort_at vs i) (variable (variable_name d) (like_word u (variable_name d) e) (capital d (omega (arith, lt))) f.again)
  term_shown lt (constant {sym = c} {sort = sort} text w says) u e = constant (symbol_word p c) (like_word u (symbol_word p c) e) (said text (Constant c sort) says)

  terms_shown : {vs : List Variable} {xs : List Term} {ss : List SortId} {ts : List Tree} → length vs < 2 ^ 64 → AreTerms k role vs xs ss ts → (us : List Tree) → map bare us ≡ map bare (map (shown_term p (length vs)) xs) → AreTerms k role (shown_variables vs) xs ss us
  terms_shown lt no_terms us e = rw (none_like us e) no_terms
  terms_shown lt (terms h hs) [] e = absurd cc
  terms_shown lt (terms h hs) (u ∷ us) e = terms (term_shown lt h u (cc)) (terms_shown lt hs us (cc))

  not_empty : {vs : List Variable} {xs : List Term} {ss : List SortId} {t : Tree} {ts : List Tree} → AreTerms k role vs xs ss (t ∷ ts) → (x : Term) × (rest : List Term) × (xs ≡ x ∷ rest)
  not_empty (terms {x = x} {xs = xs} h hs) = (x, xs, refl)

  atom_shown : {room iffs : ℕ} {vs : List Variable} (r : Sym) (sorts : List SortId) (x : Term) (xs : List Term) {ts : List Tree} → length vs < 2 ^ 64 → Says k role (symbol_word p r) (Relation r sorts) → AreTerms k role vs (x ∷ xs) sorts ts → (u : Tree)
      → bare u ≡ bare (shown_temporal p (T.Atom r (x ∷ xs)) (length vs)) → IsFormula k role (suc room) iffs (shown_variables vs) (T.Atom r (x ∷ xs)) u
  atom_shown {room = room} {iffs = iffs} {vs = vs} r sorts x xs lt h q u e =
      let d = length vs in
      let l = front u (word (symbol_word p r)) (map (shown_term p d) (x ∷ xs)) (e ∙ ap bare (fold_at-Atom Tree ℕ (shown_step p) r (x ∷ xs) d)) in
      go l.a l.rest sorts l.is (like_word l.a (symbol_word p r) l.first) h (terms_shown lt q l.rest l.others)
    where
      go : (a : Tree) (rest : List Tree) (ss : List SortId) → IsList (a ∷ rest) u → IsWord (symbol_word p r) a → Says k role (symbol_word p r) (Relation r ss) → AreTerms k role (shown_variables vs) (x ∷ xs) ss rest → IsFormula k role (suc room) iffs (shown_variables vs) (T.Atom r (x ∷ xs)) u
      go a rest ss l m says (terms {t = b} {ts = bs} h' hs) = atom (symbol_word p r) b bs (begins (symbol_word p r) a u (b ∷ bs) l m) says (terms h' hs)

  pub binds_shown : (vs : List Variable) (x : Variable) (v r w z : Tree) → length vs < 2 ^ 64 → Binds k vs x v r → bare w ≡ bare (word (variable_name (length vs))) → bare z ≡ bare (word (sort_name p x.sort))
      → Binds k (shown_variables vs) (record { name = variable_name (length vs); sort = x.sort }) w z
  binds_shown vs x v r w z lt b e f = record { name = like_word w (variable_name (length vs)) e; new = shown_is_new vs lt; sort = sort_shown x.sort r z b.sort f }

  mutual
    pub formula_shown : {room iffs : ℕ} {vs : List Variable} {f : Temporal} {t : Tree} → length vs + temporal_lists_of f < 2 ^ 64 - 1 → IsFormula k role room iffs vs f t → (u : Tree) → bare u ≡ bare (shown_temporal p f (length vs))
        → IsFormula k role room iffs (shown_variables vs) f u
    formula_shown {vs = vs} lt (truth w) u e = truth (like_word u (codes "true") (e ∙ ap bare (fold_at-True Tree ℕ (shown_step p) (length vs))))
    formula_shown {vs = vs} lt (falsity w) u e = falsity (like_word u (codes "false") (e ∙ ap bare (fold_at-False Tree ℕ (shown_step p) (length vs))))
    formula_shown {vs = vs} lt (bare_atom {sym = r} text w says) u e =
        bare_atom (symbol_word p r) (like_word u (symbol_word p r) (e ∙ ap bare (fold_at-Atom Tree ℕ (shown_step p) r [] (length vs)))) (said text (Relation r []) says)
    formula_shown {vs = vs} lt (atom {room = room} {iffs = iffs} {sym = r} {sorts = ss} {xs = xs} text a as' b says ts) u e =
        let q = not_empty ts in
        subst (λ (ys : List Term). AreTerms k role vs ys ss (a ∷ as') → bare u ≡ bare (shown_temporal p (T.Atom r ys) (length vs)) → IsFormula k role (suc room) iffs (shown_variables vs) (T.Atom r ys) u) (sym q.2)
        (λ ts e. atom_shown r ss q.0 q.1 (omega (arith, lt)) (said text (Relation r ss) says) ts u e) ts e
    formula_shown {vs = vs} lt (equation {x = x} {y = y} a b w q r) u e =
        let l = three u _ _ _ (e ∙ ap bare (fold_at-Same Tree ℕ (shown_step p) x y (length vs))) in
        equation l.b l.c (begins (codes "=") l.a u (l.b ∷ l.c ∷ []) l.is (like_word l.a (codes "=") l.first)) (term_shown (omega (arith, lt)) q l.b l.second) (term_shown (omega (arith, lt)) r l.c l.third)
    formula_shown {vs = vs} lt (negation {f = f} a w q) u e =
        let l = two u _ _ (e ∙ ap bare (fold_at-Not Tree ℕ (shown_step p) f (length vs))) in
        let n = fold-Not ℕ temporal_lists_step f in
        negation l.b (begins (codes "not") l.a u (l.b ∷ []) l.is (like_word l.a (codes "not") l.first)) (formula_shown (omega (arith, lt, n)) q l.b l.second)
    formula_shown {vs = vs} lt (conjunction {fs = fs} as' w q) u e =
        let l = front u _ _ (e ∙ ap bare (fold_at-And Tree ℕ (shown_step p) fs (length vs))) in
        let n = fold-And ℕ temporal_lists_step fs in
        conjunction l.rest (begins (codes "and") l.a u l.rest l.is (like_word l.a (codes "and") l.first)) (formulas_shown (omega (arith, lt, n)) q l.rest l.others)
    formula_shown {vs = vs} lt (disjunction {fs = fs} as' w q) u e =
        let l = front u _ _ (e ∙ ap bare (fold_at-Or Tree ℕ (shown_step p) fs (length vs))) in
        let n = fold-Or ℕ temporal_lists_step fs in
        disjunction l.rest (begins (codes "or") l.a u l.rest l.is (like_word l.a (codes "or") l.first)) (formulas_shown (omega (arith, lt, n)) q l.rest l.others)
    formula_shown {vs = vs} lt (implication {f = f} {g = g} a b w q r) u e =
        let l = three u _ _ _ (e ∙ ap bare (fold_at-Implies Tree ℕ (shown_step p) f g (length vs))) in
        let n = fold-Implies ℕ temporal_lists_step f g in
        implication l.b l.c (begins (codes "implies") l.a u (l.b ∷ l.c ∷ []) l.is (like_word l.a (codes "implies") l.first)) (formula_shown (omega (arith, lt, n)) q l.b l.second) (formula_shown (omega (arith, lt, n)) r l.c l.third)
    formula_shown {vs = vs} lt (equivalence {f = f} {g = g} a b w q r) u e =
        let l = three u _ _ _ (e ∙ ap bare (fold_at-Iff Tree ℕ (shown_step p) f g (length vs))) in
        let n = fold-Iff ℕ temporal_lists_step f g in
        equivalence l.b l.c (begins (codes "iff") l.a u (l.b ∷ l.c ∷ []) l.is (like_word l.a (codes "iff") l.first)) (formula_shown (omega (arith, lt, n)) q l.b l.second) (formula_shown (omega (arith, lt, n)) r l.c l.third)
    formula_shown {vs = vs} lt (universal {f = f} x v r a w binds q) u e =
        let d = length vs in
        let l = four u _ _ _ _ (e ∙ ap bare (fold_at-All Tree ℕ (shown_step p) x.sort f d)) in
        let n = fold-All ℕ temporal_lists_step x.sort f in
        let more : deeper d ≡ suc d = omega (arith, lt, n) in
        universal (record { name = variable_name d; sort = x.sort }) l.b l.c l.d (begins (codes "all") l.a u (l.b ∷ l.c ∷ l.d ∷ []) l.is (like_word l.a (codes "all") l.first)) (binds_shown vs x v r l.b l.c (omega (arith, lt)) binds l.second l.third)
        (formula_shown (omega (arith, lt, n)) q l.d (l.fourth ∙ ap (λ m. bare (shown_temporal p f m)) more))
    formula_shown {vs = vs} lt (existential {f = f} x v r a w binds q) u e =
        let d = length vs in
        let l = four u _ _ _ _ (e ∙ ap bare (fold_at-Any Tree ℕ (shown_step p) x.sort f d)) in
        let n = fold-Any ℕ temporal_lists_step x.sort f in
        let more : deeper d ≡ suc d = omega (arith, lt, n) in
        existential (record { name = variable_name d; sort = x.sort }) l.b l.c l.d (begins (codes "some") l.a u (l.b ∷ l.c ∷ l.d ∷ []) l.is (like_word l.a (codes "some") l.first)) (binds_shown vs x v r l.b l.c (omega (arith, lt)) binds l.second l.third)
        (formula_shown (omega (arith, lt, n)) q l.d (l.fourth ∙ ap (λ m. bare (shown_temporal p f m)) more))
    formula_shown {vs = vs} lt (always {f = f} a w may q) u e =
        let l = two u _ _ (e ∙ ap bare (fold_at-Always Tree ℕ (shown_step p) f (length vs))) in
        let n = fold-Always ℕ temporal_lists_step f in
        always l.b (begins (codes "always") l.a u (l.b ∷ []) l.is (like_word l.a (codes "always") l.first)) may (formula_shown (omega (arith, lt, n)) q l.b l.second)
    formula_shown {vs = vs} lt (eventually {f = f} a w may q) u e =
        let l = two u _ _ (e ∙ ap bare (fold_at-Eventually Tree ℕ (shown_step p) f (length vs))) in
        let n = fold-Eventually ℕ temporal_lists_step f in
        eventually l.b (begins (codes "eventually") l.a u (l.b ∷ []) l.is (like_word l.a (codes "eventually") l.first)) may (formula_shown (omega (arith, lt, n)) q l.b l.second)

    formulas_shown : {room iffs : ℕ} {vs : List Variable} {fs : List Temporal} {ts : List Tree} → length vs + largest (map temporal_lists_of fs) < 2 ^ 64 - 1 → AreFormulas k role room iffs vs fs ts → (us : List Tree)
        → map bare us ≡ map bare (shown_temporals p fs (length vs)) → AreFormulas k role room iffs (shown_variables vs) fs us
    formulas_shown lt no_formulas us e = rw (none_like us e) no_formulas
    formulas_shown lt (formulas h hs) [] e = absurd cc
    formulas_shown lt (formulas h hs) (u ∷ us) e = formulas (formula_shown (omega (arith, lt)) h u (cc)) (formulas_shown (omega (arith, lt)) hs us (cc))
