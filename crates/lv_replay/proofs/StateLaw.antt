-- What an action makes of a structure is a structure of the system's own symbols.
use Rattle.std.proofs.Common.{◌≡◌, ℕ, ◌<◌, true, eqb, List, [], ◌∷◌, reverse, Some, refl, sym, subst, ◌∙◌, ⊎_elim, eqb-true}
use Rattle.std.proofs.lemmas.Bool.{and_parts, ltb-true, cases_Bool, cond-true, cond-false}
use Rattle.lv_formula.specs.declared.symbols.SortId.{SortId}
use Rattle.lv_formula.specs.declared.symbols.Sym.{Sym}
use Rattle.lv_formula.specs.declared.symbols.Sym.TheVariants.{Own, Witness, Label, Frozen, Saved, Touched, Kept, Due, Copy, CopyLabel, Next, Param}
use Rattle.lv_formula.specs.declared.terms.Term.{Term}
use Rattle.lv_formula.specs.declared.terms.Term.TheVariants.{Var, Const}
use Rattle.lv_formula.specs.declared.vocabulary.Vocabulary.{Vocabulary}
use Rattle.lv_formula.specs.Vocabulary.{constant_in}
use Rattle.lv_formula.specs.Fits.{sort_of}
use Rattle.lv_formula.specs.Meaning.{IsStructureOf, Meaning, in_range, is_element}
use Rattle.lv_formula.specs.Truth.{Env, value_of}
use Rattle.lv_formula.proofs.AgreeLaw.{element_of, same_sort}
use Rattle.lv_system.specs.declared.parts.Parts.{Parts}
use Rattle.lv_system.specs.declared.parts.Action.{Action}
use Rattle.lv_system.specs.declared.parts.ActionUpdate.{ActionUpdate}
use Rattle.lv_system.specs.declared.parts.ActionUpdate.TheVariants.{Relation, Constant}
use Rattle.lv_system.specs.Fits.{update_fits, updates_fit}
use Rattle.lv_system.specs.Step.{IsPerformed, performed, set_value}
use Rattle.lv_system.specs.Vocabularies.{own_vocabulary}
use Rattle.lv_system.proofs.FitsFacts.{fit_constant}
use Rattle.lv_exec.proofs.RangeLaw.{over_reverse, own_sort}

term_in : (voc : Vocabulary) (m : Meaning) → IsStructureOf voc m → (context : List SortId) (env : Env) (t : Term) (s : SortId) → sort_of voc context t ≡ Some s → in_range m context env ≡ true → value_of m env t < m.size s
term_in voc m structure context env (Var i) s is range = ltb-true _ _ (element_of m context env i s is range)
term_in voc m structure context env (Const c) s is range = structure.constants c s is

module _ (p : Parts) (params : List SortId) (elements : List ℕ) (m : Meaning) (structure : IsStructureOf (own_vocabulary p) m) (range : in_range m params elements ≡ true) where
  set_in : (us : List ActionUpdate) → updates_fit p params us ≡ true → (c : ℕ) (s : SortId) → constant_in (own_vocabulary p).constants (Own c) ≡ Some s → set_value elements m us c < m.size s
  set_in [] fits c s is = structure.constants (Own c) s is
  set_in (Relation symbol body ∷ us) fits c s is = set_in us (and_parts (update_fits p params (Relation symbol body)) (updates_fit p params us) fits).1 c s is
  set_in (Constant symbol term ∷ us) fits c s is =
      let both = and_parts (update_fits p params (Constant symbol term)) (updates_fit p params us) fits in
      let f = fit_constant p params symbol term both.0 in
      ⊎_elim
      (λ e. let same : symbol ≡ c = eqb-true symbol c e in
      let found : constant_in (own_vocabulary p).constants (Own c) ≡ Some f.sort = subst (λ n. constant_in (own_vocabulary p).constants (Own n) ≡ Some f.sort) same (own_sort p symbol f.sort f.changing f.is) in
      let sorts : Some f.sort ≡ Some s = sym found ∙ is in
      let it : f.sort ≡ s = cc in
      subst (λ n. n < m.size s) (sym (cond-true (eqb symbol c) (value_of m (reverse elements) term) (set_value elements m us c) e))
      (subst (λ t. value_of m (reverse elements) term < m.size t) it
      (term_in (own_vocabulary p) m structure (reverse params) (reverse elements) term f.sort (same_sort (sort_of (own_vocabulary p) (reverse params) term) f.sort f.fits) (over_reverse (is_element m) params elements range))))
      (λ e. subst (λ n. n < m.size s) (sym (cond-false (eqb symbol c) (value_of m (reverse elements) term) (set_value elements m us c) e)) (set_in us both.1 c s is))
      (cases_Bool (eqb symbol c))

pub performed_is_structure : (p : Parts) (a : Action) (elements : List ℕ) (m : Meaning) → updates_fit p a.params a.updates ≡ true → in_range m a.params elements ≡ true
    → IsStructureOf (own_vocabulary p) m → IsStructureOf (own_vocabulary p) (performed p a elements m)
performed_is_structure p a elements m fits range structure = record { sizes = structure.sizes; constants = each }
  where
    each : (c : Sym) (s : SortId) → constant_in (own_vocabulary p).constants c ≡ Some s → (performed p a elements m).value c < m.size s
    each (Own c) s is = set_in p a.params elements m structure range a.updates fits c s is
    each (Witness c) s is = structure.constants (Witness c) s is
    each (Label c) s is = structure.constants (Label c) s is
    each Frozen s is = structure.constants Frozen s is
    each Saved s is = structure.constants Saved s is
    each (Touched c) s is = structure.constants (Touched c) s is
    each (Kept c) s is = structure.constants (Kept c) s is
    each (Due c) s is = structure.constants (Due c) s is
    each (Copy c) s is = structure.constants (Copy c) s is
    each (CopyLabel c) s is = structure.constants (CopyLabel c) s is
    each (Next c) s is = structure.constants (Next c) s is
    each (Param c) s is = structure.constants (Param c) s is

pub performed_is : (p : Parts) (a : Action) (elements : List ℕ) (m next : Meaning) → next ≡ performed p a elements m → IsPerformed p a elements m next
performed_is p a elements m next e = subst (λ x. IsPerformed p a elements m x) (sym e) (record { sizes = λ s. refl; relations = λ r tuple. refl; constants = λ c. refl })
