-- Where the symbols of a vocabulary have words, formulas over it can be written.
use Rattle.std.proofs.Common.{◌≡◌, ◌<◌, Bool, true, false, cond, ◌&&◌, ltb, List, [], ◌∷◌, Option, None, Some, refl, sym, subst, ◌∙◌}
use Rattle.std.specs.List.{list_all}
use Rattle.std.proofs.lemmas.Bool.{and_parts, and_from, ltb-true}
use Rattle.lv_tree.specs.Spelling.{is_text}
use Rattle.lv_formula.specs.declared.symbols.SortId.{SortId}
use Rattle.lv_formula.specs.declared.symbols.Sym.{Sym}
use Rattle.lv_formula.specs.declared.terms.Term.{Term}
use Rattle.lv_formula.specs.declared.terms.Term.TheVariants.{Var, Const}
use Rattle.lv_formula.specs.declared.temporal.Temporal.{Temporal}
use Rattle.lv_formula.specs.declared.vocabulary.RelShape.{RelShape}
use Rattle.lv_formula.specs.declared.vocabulary.ConShape.{ConShape}
use Rattle.lv_formula.specs.declared.vocabulary.Vocabulary.{Vocabulary}
use Rattle.lv_formula.specs.Symbols.{sym_eq}
use Rattle.lv_formula.specs.Vocabulary.{relation_in, constant_in}
use Rattle.lv_formula.specs.Fits.{sort_of, is_sort, agree, have_sorts, are_arguments}
use Rattle.lv_formula.specs.TemporalFits.{temporal_fits_step, temporal_fits_in, all_temporal_fit_in}
use Rattle.lv_formula.proofs.SymbolLaws.{sym_eq-true}
use Rattle.lv_formula.proofs.Induction.{Each}
use Rattle.lv_formula.proofs.TemporalInduction.{Cases, by_cases}
use Rattle.lv_formula.proofs.TemporalFolds.{fold-True, fold-False, fold-Atom, fold-Same, fold-Not, fold-And, fold-Or, fold-Implies, fold-Iff, fold-All, fold-Any, fold-Always, fold-Eventually, fold_at-Atom, fold_at-Same, fold_at-Not, fold_at-And, fold_at-Or, fold_at-Implies, fold_at-Iff, fold_at-All, fold_at-Any, fold_at-Always, fold_at-Eventually}
use Rattle.lv_system.specs.declared.parts.Parts.{Parts}
use Rattle.lv_grammar.specs.Words.{sort_name}
use Rattle.lv_grammar.specs.HaveWords.{has_word, term_has_word, terms_have_words, has_words_step, has_words, have_words}

-- each symbol and each sort of the vocabulary has a word
pub record AreSpoken (p : Parts) (voc : Vocabulary) : Type 0 where
  pub relations : list_all (λ r. has_word p r.sym) voc.relations ≡ true
  pub constants : list_all (λ c. has_word p c.sym) voc.constants ≡ true
  pub sorts : (s : SortId) → s.0 < voc.sorts → is_text (sort_name p s) ≡ true

module _ (p : Parts) (voc : Vocabulary) (spoken : AreSpoken p voc) where
  relation_has_word : (rs : List RelShape) (s : Sym) (sorts : List SortId) → list_all (λ r. has_word p r.sym) rs ≡ true → relation_in rs s ≡ Some sorts → has_word p s ≡ true
  relation_has_word [] s sorts h e = absurd cc
  relation_has_word (r ∷ rs) s sorts h e =
      let both = and_parts (has_word p r.sym) (list_all (λ r. has_word p r.sym) rs) h in
      go (sym_eq r.sym s) refl both.0 (relation_has_word rs s sorts both.1) e
    where
      go : (b : Bool) → sym_eq r.sym s ≡ b → has_word p r.sym ≡ true → (relation_in rs s ≡ Some sorts → has_word p s ≡ true) → cond b (Some r.sorts) (relation_in rs s) ≡ Some sorts → has_word p s ≡ true
      go true q first rest e = subst (λ z. has_word p z ≡ true) (sym_eq-true r.sym s q) first
      go false q first rest e = rest e

  constant_has_word : (cs : List ConShape) (s : Sym) (sort : SortId) → list_all (λ c. has_word p c.sym) cs ≡ true → constant_in cs s ≡ Some sort → has_word p s ≡ true
  constant_has_word [] s sort h e = absurd cc
  constant_has_word (c ∷ cs) s sort h e =
      let both = and_parts (has_word p c.sym) (list_all (λ c. has_word p c.sym) cs) h in
      go (sym_eq c.sym s) refl both.0 (constant_has_word cs s sort both.1) e
    where
      go : (b : Bool) → sym_eq c.sym s ≡ b → has_word p c.sym ≡ true → (constant_in cs s ≡ Some sort → has_word p s ≡ true) → cond b (Some c.sort) (constant_in cs s) ≡ Some sort → has_word p s ≡ true
      go true q first rest e = subst (λ z. has_word p z ≡ true) (sym_eq-true c.sym s q) first
      go false q first rest e = rest e

  pub sorted_has_word : (context : List SortId) (t : Term) (sort : SortId) → sort_of voc context t ≡ Some sort → term_has_word p t ≡ true
  sorted_has_word context (Var i) sort e = refl
  sorted_has_word context (Const c) sort e = constant_has_word voc.constants c sort spoken.constants e

  pub is_sorted : (o : Option SortId) (s : SortId) → is_sort o s ≡ true → (sort : SortId) × (o ≡ Some sort)
  is_sorted None s h = absurd cc
  is_sorted (Some sort) s h = (sort, refl)

  pub agree_sorted : (a b : Option SortId) → agree a b ≡ true → ((sort : SortId) × (a ≡ Some sort)) × ((sort : SortId) × (b ≡ Some sort))
  agree_sorted a None h = absurd cc
  agree_sorted a (Some s) h = (is_sorted a s h, (s, refl))

  sorted_have_words : (context : List SortId) (ts : List Term) (ss : List SortId) → have_sorts voc context ts ss ≡ true → terms_have_words p ts ≡ true
  sorted_have_words context [] ss h = refl
  sorted_have_words context (t ∷ ts) [] h = absurd cc
  sorted_have_words context (t ∷ ts) (s ∷ ss) h =
      let both = and_parts (is_sort (sort_of voc context t) s) (have_sorts voc context ts ss) h in
      let o = is_sorted (sort_of voc context t) s both.0 in
      and_from (term_has_word p t) (terms_have_words p ts) (sorted_has_word context t o.0 o.1) (sorted_have_words context ts ss both.1)

  abbrev HasWords : Temporal → Type 0
  HasWords f = (context : List SortId) → temporal_fits_in voc context f ≡ true → has_words p f ≡ true

  all_have_words : (fs : List Temporal) → Each HasWords fs → (context : List SortId) → all_temporal_fit_in voc context fs ≡ true → have_words p fs ≡ true
  all_have_words [] each context h = refl
  all_have_words (f ∷ fs) each context h =
      let both = and_parts (temporal_fits_in voc context f) (all_temporal_fit_in voc context fs) h in
      and_from (has_words p f) (have_words p fs) (each.0 context both.0) (all_have_words fs each.1 context both.1)

  pub atom_has_words : (s : Sym) (ts : List Term) (context : List SortId) (o : Option (List SortId)) → relation_in voc.relations s ≡ o → are_arguments voc context ts o ≡ true → (has_word p s && terms_have_words p ts) ≡ true
  atom_has_words s ts context None e h = absurd cc
  atom_has_words s ts context (Some sorts) e h =
      and_from (has_word p s) (terms_have_words p ts) (relation_has_word voc.relations s sorts spoken.relations e) (sorted_have_words context ts sorts h)

  -- a binder's sort and its body
  bound_has_words : (s : SortId) (f : Temporal) (context : List SortId) → HasWords f → (ltb s.0 voc.sorts && temporal_fits_in voc (s ∷ context) f) ≡ true → (is_text (sort_name p s) && has_words p f) ≡ true
  bound_has_words s f context ih h =
      let both = and_parts (ltb s.0 voc.sorts) (temporal_fits_in voc (s ∷ context) f) h in
      and_from (is_text (sort_name p s)) (has_words p f) (spoken.sorts s (ltb-true s.0 voc.sorts both.0)) (ih (s ∷ context) both.1)

  pair_has_words : (f g : Temporal) (context : List SortId) → HasWords f → HasWords g → (temporal_fits_in voc context f && temporal_fits_in voc context g) ≡ true → (has_words p f && has_words p g) ≡ true
  pair_has_words f g context ihf ihg h =
      let both = and_parts (temporal_fits_in voc context f) (temporal_fits_in voc context g) h in
      and_from (has_words p f) (has_words p g) (ihf context both.0) (ihg context both.1)

  cases : Cases HasWords
  cases = record {
    at_true = λ context h. fold-True Bool (has_words_step p);
    at_false = λ context h. fold-False Bool (has_words_step p);
    at_atom = λ s ts context h. fold-Atom Bool (has_words_step p) s ts ∙ atom_has_words s ts context (relation_in voc.relations s) refl (sym (fold_at-Atom Bool (List SortId) (temporal_fits_step voc) s ts context) ∙ h);
    at_same = λ a b context h.
        let o = agree_sorted (sort_of voc context a) (sort_of voc context b) (sym (fold_at-Same Bool (List SortId) (temporal_fits_step voc) a b context) ∙ h) in
        fold-Same Bool (has_words_step p) a b ∙ and_from (term_has_word p a) (term_has_word p b) (sorted_has_word context a o.0.0 o.0.1) (sorted_has_word context b o.1.0 o.1.1);
    at_not = λ f ih context h. fold-Not Bool (has_words_step p) f ∙ ih context (sym (fold_at-Not Bool (List SortId) (temporal_fits_step voc) f context) ∙ h);
    at_and = λ fs each context h. fold-And Bool (has_words_step p) fs ∙ all_have_words fs each context (sym (fold_at-And Bool (List SortId) (temporal_fits_step voc) fs context) ∙ h);
    at_or = λ fs each context h. fold-Or Bool (has_words_step p) fs ∙ all_have_words fs each context (sym (fold_at-Or Bool (List SortId) (temporal_fits_step voc) fs context) ∙ h);
    at_implies = λ f g ihf ihg context h. fold-Implies Bool (has_words_step p) f g ∙ pair_has_words f g context ihf ihg (sym (fold_at-Implies Bool (List SortId) (temporal_fits_step voc) f g context) ∙ h);
    at_iff = λ f g ihf ihg context h. fold-Iff Bool (has_words_step p) f g ∙ pair_has_words f g context ihf ihg (sym (fold_at-Iff Bool (List SortId) (temporal_fits_step voc) f g context) ∙ h);
    at_all = λ s f ih context h. fold-All Bool (has_words_step p) s f ∙ bound_has_words s f context ih (sym (fold_at-All Bool (List SortId) (temporal_fits_step voc) s f context) ∙ h);
    at_any = λ s f ih context h. fold-Any Bool (has_words_step p) s f ∙ bound_has_words s f context ih (sym (fold_at-Any Bool (List SortId) (temporal_fits_step voc) s f context) ∙ h);
    at_always = λ f ih context h. fold-Always Bool (has_words_step p) f ∙ ih context (sym (fold_at-Always Bool (List SortId) (temporal_fits_step voc) f context) ∙ h);
    at_eventually = λ f ih context h. fold-Eventually Bool (has_words_step p) f ∙ ih context (sym (fold_at-Eventually Bool (List SortId) (temporal_fits_step voc) f context) ∙ h);
  }

  pub fitting_has_words : (f : Temporal) (context : List SortId) → temporal_fits_in voc context f ≡ true → has_words p f ≡ true
  fitting_has_words = by_cases HasWords cases
