-- The tree that is shown for a formula can be written where its symbols have words.
use Rattle.std.proofs.Common.{◌≡◌, ℕ, ◌-◌, ◌^◌, ◌<◌, ◌≤◌, Bool, true, false, List, [], ◌∷◌, map, length, refl, sym, ap, ◌∙◌, arith}
use Rattle.std.specs.Prelude.{codes, decimal, ◌||◌, eqb}
use Rattle.std.specs.List.{list_all}
use Rattle.std.specs.Str.Parse.{AllDigits}
use Rattle.std.proofs.lemmas.Str.Parse.{digit_from_value}
use Rattle.std.proofs.lemmas.Fmt.{decimal_is_IsNumeral, length-decimal-le}
use Rattle.std.proofs.lemmas.Bool.{and_parts, lt-ltb, le-leb}
use Rattle.lv_tree.specs.declared.tree.Tree.{Tree}
use Rattle.lv_tree.specs.declared.tree.Tree.TheOpen as layers
use Rattle.lv_tree.specs.declared.tree.Tree.TheVariants.{rolls-Word, rolls-Group}
use Rattle.lv_tree.specs.Bytes.{is_in, is_word_byte}
use Rattle.lv_tree.specs.Spelling.{is_text, fits_in, all_fit_in}
use Rattle.lv_tree.proofs.Trees.{fits_roll}
use Rattle.lv_formula.specs.declared.symbols.Sym.{Sym}
use Rattle.lv_formula.specs.declared.terms.Term.{Term}
use Rattle.lv_formula.specs.declared.terms.Term.TheVariants.{Var, Const}
use Rattle.lv_formula.specs.declared.formula.Formula.{Formula}
use Rattle.lv_formula.specs.declared.temporal.Temporal.{Temporal}
use Rattle.lv_formula.specs.declared.temporal.Temporal.TheVariants as T
use Rattle.lv_formula.specs.Measures.{largest}
use Rattle.lv_formula.proofs.Induction.{Each}
use Rattle.lv_formula.proofs.TemporalInduction.{Cases, by_cases}
use Rattle.lv_formula.proofs.TemporalFolds.{fold-Atom, fold-Same, fold-Not, fold-And, fold-Or, fold-Implies, fold-Iff, fold-All, fold-Any, fold-Always, fold-Eventually, fold_at-True, fold_at-False, fold_at-Atom, fold_at-Same, fold_at-Not, fold_at-And, fold_at-Or, fold_at-Implies, fold_at-Iff, fold_at-All, fold_at-Any, fold_at-Always, fold_at-Eventually}
use Rattle.lv_system.specs.declared.parts.Parts.{Parts}
use Rattle.lv_system.specs.Limits.{lists_of}
use Rattle.lv_system.specs.TemporalLimits.{temporal_lists_step, temporal_lists_of}
use Rattle.lv_grammar.specs.Words.{sort_name, symbol_word}
use Rattle.lv_grammar.specs.Lifted.{lifted}
use Rattle.lv_grammar.specs.ShownFormulas.{word, list, variable_name, deeper, shown_term, shown_step, shown_temporal, shown_temporals, shown_formula}
use Rattle.lv_grammar.specs.HaveWords.{has_word, term_has_word, terms_have_words, has_words_step, has_words, have_words}
use Rattle.lv_grammar.proofs.Lifting.{shown_lifted, lists_lifted}

pub fits_word : (room : ℕ) (text : List ℕ) → fits_in room (word text) ≡ is_text text
fits_word room text = ap (fits_in room) (sym (rolls-Word 0 text)) ∙ fits_roll room (layers.Word 0 text)

pub word_fits : (room : ℕ) (text : List ℕ) → is_text text ≡ true → fits_in room (word text) ≡ true
word_fits room text h = fits_word room text ∙ h

pub list_fits : (room : ℕ) (items : List Tree) → 0 < room → all_fit_in (room - 1) items ≡ true → fits_in room (list items) ≡ true
list_fits room items lt h =
    ap (fits_in room) (sym (rolls-Group 0 0 items)) ∙ fits_roll room (layers.Group 0 0 items) ∙ rw (lt-ltb 0 room lt, h) refl

pub items_fit : (room : ℕ) (t : Tree) (ts : List Tree) → fits_in room t ≡ true → all_fit_in room ts ≡ true → all_fit_in room (t ∷ ts) ≡ true
items_fit room t ts h k = rw (h, k) refl

digit_stands : (d : ℕ) → 48 ≤ d → d ≤ 57 → is_word_byte d ≡ true
digit_stands d p q = go (is_in 97 122 d) (is_in 65 90 d) (is_in 48 57 d) (eqb d 95) (eqb d 45) (eqb d 46) (eqb d 61) (rw (le-leb 48 d p, le-leb d 57 q) refl) where
  go : (a b c x y z w : Bool) → c ≡ true → ((((((a || b) || c) || x) || y) || z) || w) ≡ true
  go true b c x y z w h = refl
  go false true c x y z w h = refl
  go false false c x y z w h = rw h refl

pub digits_stand : (ds : List ℕ) → AllDigits 10 ds → list_all is_word_byte ds ≡ true
digits_stand [] a = refl
digits_stand (d ∷ ds) a = let r = digit_from_value d a.0 in rw (digit_stands d r.0 r.1, digits_stand ds a.1) refl

pub decimal_bytes : (k : ℕ) → k < 2 ^ 64 → list_all is_word_byte (decimal k) ≡ true
decimal_bytes k lt = digits_stand (decimal k) (decimal_is_IsNumeral k lt).0.1

pub decimal_short : (k : ℕ) → k < 2 ^ 64 → length (decimal k) ≤ 20
decimal_short k lt = length-decimal-le 20 k (omega arith) (omega (arith, lt)) lt

pub variable_text : (k : ℕ) → k < 2 ^ 64 → is_text (variable_name k) ≡ true
variable_text k lt =
    let short = decimal_short k lt in
    rw (lt-ltb 0 (length (variable_name k)) (omega arith), le-leb (length (variable_name k)) 64 (omega (arith, short)), decimal_bytes k lt) refl

pub variable_fits : (room k : ℕ) → k < 2 ^ 64 → fits_in room (word (variable_name k)) ≡ true
variable_fits room k lt = word_fits room (variable_name k) (variable_text k lt)

pub deeper_below : (depth : ℕ) → deeper depth < 2 ^ 64
deeper_below depth = omega arith

-- a list of a word and other items
pub many_parts : (text : List ℕ) (ts : List Tree) (room : ℕ) → is_text text ≡ true → 0 < room → all_fit_in (room - 1) ts ≡ true → fits_in room (list (word text ∷ ts)) ≡ true
many_parts text ts room h lt f = list_fits room (word text ∷ ts) lt (items_fit (room - 1) (word text) ts (word_fits (room - 1) text h) f)

-- (WORD T)
pub one_part : (text : List ℕ) (t : Tree) (room : ℕ) → is_text text ≡ true → 0 < room → fits_in (room - 1) t ≡ true → fits_in room (list (word text ∷ t ∷ [])) ≡ true
one_part text t room h lt f = many_parts text (t ∷ []) room h lt (items_fit (room - 1) t [] f refl)

-- (WORD T T)
pub two_parts : (text : List ℕ) (t u : Tree) (room : ℕ) → is_text text ≡ true → 0 < room → fits_in (room - 1) t ≡ true → fits_in (room - 1) u ≡ true → fits_in room (list (word text ∷ t ∷ u ∷ [])) ≡ true
two_parts text t u room h lt f g = many_parts text (t ∷ u ∷ []) room h lt (items_fit (room - 1) t (u ∷ []) f (items_fit (room - 1) u [] g refl))

-- (WORD VAR SORT T)
bound_part : (text name : List ℕ) (t : Tree) (room depth : ℕ) → is_text text ≡ true → is_text name ≡ true → 0 < room → depth < 2 ^ 64 → fits_in (room - 1) t ≡ true
    → fits_in room (list (word text ∷ word (variable_name depth) ∷ word name ∷ t ∷ [])) ≡ true
bound_part text name t room depth h k lt low f =
    let r = room - 1 in
    many_parts text (word (variable_name depth) ∷ word name ∷ t ∷ []) room h lt
    (items_fit r (word (variable_name depth)) (word name ∷ t ∷ []) (variable_fits r depth low) (items_fit r (word name) (t ∷ []) (word_fits r name k) (items_fit r t [] f refl)))

module _ (p : Parts) where
  pub term_fits : (t : Term) (room depth : ℕ) → term_has_word p t ≡ true → depth < 2 ^ 64 → fits_in room (shown_term p depth t) ≡ true
  term_fits (Var i) room depth h lt = variable_fits room (depth - 1 - i) (omega (arith, lt))
  term_fits (Const c) room depth h lt = word_fits room (symbol_word p c) h

  terms_fit : (ts : List Term) (room depth : ℕ) → terms_have_words p ts ≡ true → depth < 2 ^ 64 → all_fit_in room (map (shown_term p depth) ts) ≡ true
  terms_fit [] room depth h lt = refl
  terms_fit (t ∷ ts) room depth h lt =
      let both = and_parts (term_has_word p t) (terms_have_words p ts) h in
      items_fit room (shown_term p depth t) (map (shown_term p depth) ts) (term_fits t room depth both.0 lt) (terms_fit ts room depth both.1 lt)

  abbrev CanBeWritten : Temporal → Type 0
  CanBeWritten f = (room depth : ℕ) → has_words p f ≡ true → temporal_lists_of f ≤ room → depth < 2 ^ 64 → fits_in room (shown_temporal p f depth) ≡ true

  all_can_be_written : (fs : List Temporal) → Each CanBeWritten fs → (room depth : ℕ) → have_words p fs ≡ true → largest (map temporal_lists_of fs) ≤ room → depth < 2 ^ 64
      → all_fit_in room (shown_temporals p fs depth) ≡ true
  all_can_be_written [] each room depth h le lt = refl
  all_can_be_written (f ∷ fs) each room depth h le lt =
      let both = and_parts (has_words p f) (have_words p fs) h in
      items_fit room (shown_temporal p f depth) (shown_temporals p fs depth) (each.0 room depth both.0 (omega (arith, le)) lt) (all_can_be_written fs each.1 room depth both.1 (omega (arith, le)) lt)

  atom_fits : (s : Sym) (ts : List Term) → CanBeWritten (T.Atom s ts)
  atom_fits s [] room depth h le lt =
      let both = and_parts (has_word p s) true (sym (fold-Atom Bool (has_words_step p) s []) ∙ h) in
      ap (fits_in room) (fold_at-Atom Tree ℕ (shown_step p) s [] depth) ∙ word_fits room (symbol_word p s) both.0
  atom_fits s (t ∷ ts) room depth h le lt =
      let both = and_parts (has_word p s) (terms_have_words p (t ∷ ts)) (sym (fold-Atom Bool (has_words_step p) s (t ∷ ts)) ∙ h) in
      let n = fold-Atom ℕ temporal_lists_step s (t ∷ ts) in
      ap (fits_in room) (fold_at-Atom Tree ℕ (shown_step p) s (t ∷ ts) depth)
      ∙ many_parts (symbol_word p s) (map (shown_term p depth) (t ∷ ts)) room both.0 (omega (arith, le, n)) (terms_fit (t ∷ ts) (room - 1) depth both.1 lt)

  cases : Cases CanBeWritten
  cases = record {
    at_true = λ room depth h le lt. ap (fits_in room) (fold_at-True Tree ℕ (shown_step p) depth) ∙ word_fits room (codes "true") refl;
    at_false = λ room depth h le lt. ap (fits_in room) (fold_at-False Tree ℕ (shown_step p) depth) ∙ word_fits room (codes "false") refl;
    at_atom = atom_fits;
    at_same = λ a b room depth h le lt.
        let both = and_parts (term_has_word p a) (term_has_word p b) (sym (fold-Same Bool (has_words_step p) a b) ∙ h) in
        let n = fold-Same ℕ temporal_lists_step a b in
        ap (fits_in room) (fold_at-Same Tree ℕ (shown_step p) a b depth) ∙ two_parts (codes "=") _ _ room refl (omega (arith, le, n)) (term_fits a (room - 1) depth both.0 lt) (term_fits b (room - 1) depth both.1 lt);
    at_not = λ f ih room depth h le lt.
        let n = fold-Not ℕ temporal_lists_step f in
        ap (fits_in room) (fold_at-Not Tree ℕ (shown_step p) f depth) ∙ one_part (codes "not") _ room refl (omega (arith, le, n)) (ih (room - 1) depth (sym (fold-Not Bool (has_words_step p) f) ∙ h) (omega (arith, le, n)) lt);
    at_and = λ fs each room depth h le lt.
        let n = fold-And ℕ temporal_lists_step fs in
        ap (fits_in room) (fold_at-And Tree ℕ (shown_step p) fs depth) ∙ many_parts (codes "and") _ room refl (omega (arith, le, n)) (all_can_be_written fs each (room - 1) depth (sym (fold-And Bool (has_words_step p) fs) ∙ h) (omega (arith, le, n)) lt);
    at_or = λ fs each room depth h le lt.
        let n = fold-Or ℕ temporal_lists_step fs in
        ap (fits_in room) (fold_at-Or Tree ℕ (shown_step p) fs depth) ∙ many_parts (codes "or") _ room refl (omega (arith, le, n)) (all_can_be_written fs each (room - 1) depth (sym (fold-Or Bool (has_words_step p) fs) ∙ h) (omega (arith, le, n)) lt);
    at_implies = λ f g ihf ihg room depth h le lt.
        let both = and_parts (has_words p f) (has_words p g) (sym (fold-Implies Bool (has_words_step p) f g) ∙ h) in
        let n = fold-Implies ℕ temporal_lists_step f g in
        ap (fits_in room) (fold_at-Implies Tree ℕ (shown_step p) f g depth) ∙ two_parts (codes "implies") _ _ room refl (omega (arith, le, n)) (ihf (room - 1) depth both.0 (omega (arith, le, n)) lt) (ihg (room - 1) depth both.1 (omega (arith, le, n)) lt);
    at_iff = λ f g ihf ihg room depth h le lt.
        let both = and_parts (has_words p f) (has_words p g) (sym (fold-Iff Bool (has_words_step p) f g) ∙ h) in
        let n = fold-Iff ℕ temporal_lists_step f g in
        ap (fits_in room) (fold_at-Iff Tree ℕ (shown_step p) f g depth) ∙ two_parts (codes "iff") _ _ room refl (omega (arith, le, n)) (ihf (room - 1) depth both.0 (omega (arith, le, n)) lt) (ihg (room - 1) depth both.1 (omega (arith, le, n)) lt);
    at_all = λ s f ih room depth h le lt.
        let both = and_parts (is_text (sort_name p s)) (has_words p f) (sym (fold-All Bool (has_words_step p) s f) ∙ h) in
        let n = fold-All ℕ temporal_lists_step s f in
        ap (fits_in room) (fold_at-All Tree ℕ (shown_step p) s f depth) ∙ bound_part (codes "all") (sort_name p s) _ room depth refl both.0 (omega (arith, le, n)) lt (ih (room - 1) (deeper depth) both.1 (omega (arith, le, n)) (deeper_below depth));
    at_any = λ s f ih room depth h le lt.
        let both = and_parts (is_text (sort_name p s)) (has_words p f) (sym (fold-Any Bool (has_words_step p) s f) ∙ h) in
        let n = fold-Any ℕ temporal_lists_step s f in
        ap (fits_in room) (fold_at-Any Tree ℕ (shown_step p) s f depth) ∙ bound_part (codes "some") (sort_name p s) _ room depth refl both.0 (omega (arith, le, n)) lt (ih (room - 1) (deeper depth) both.1 (omega (arith, le, n)) (deeper_below depth));
    at_always = λ f ih room depth h le lt.
        let n = fold-Always ℕ temporal_lists_step f in
        ap (fits_in room) (fold_at-Always Tree ℕ (shown_step p) f depth) ∙ one_part (codes "always") _ room refl (omega (arith, le, n)) (ih (room - 1) depth (sym (fold-Always Bool (has_words_step p) f) ∙ h) (omega (arith, le, n)) lt);
    at_eventually = λ f ih room depth h le lt.
        let n = fold-Eventually ℕ temporal_lists_step f in
        ap (fits_in room) (fold_at-Eventually Tree ℕ (shown_step p) f depth) ∙ one_part (codes "eventually") _ room refl (omega (arith, le, n)) (ih (room - 1) depth (sym (fold-Eventually Bool (has_words_step p) f) ∙ h) (omega (arith, le, n)) lt);
  }

  pub temporal_can_be_written : (f : Temporal) (room depth : ℕ) → has_words p f ≡ true → temporal_lists_of f ≤ room → depth < 2 ^ 64 → fits_in room (shown_temporal p f depth) ≡ true
  temporal_can_be_written = by_cases CanBeWritten cases

  pub formula_can_be_written : (f : Formula) (room depth : ℕ) → has_words p (lifted f) ≡ true → lists_of f ≤ room → depth < 2 ^ 64 → fits_in room (shown_formula p f depth) ≡ true
  formula_can_be_written f room depth h le lt =
      let n = lists_lifted f in
      ap (fits_in room) (shown_lifted p f depth) ∙ temporal_can_be_written (lifted f) room depth h (omega (arith, le, n)) lt
