-- The updates of an action are read exactly where they are spelled.
use Rattle.std.proofs.Common.{◌≡◌, ℕ, Bool, true, false, not, ◌&&◌, List, [], ◌∷◌, ◌++◌, map, reverse, codes, Option, Some, None, refl, sym, ap, subst, ◌∙◌}
use Rattle.std.proofs.lemmas.Bool.{and_from}
use Rattle.std.proofs.lemmas.List.{append-nil}
use Rattle.std.proofs.Common.{append_assoc}
use Rattle.lv_tree.specs.declared.tree.Tree.{Tree}
use Rattle.lv_formula.specs.declared.symbols.SortId.{SortId}
use Rattle.lv_system.specs.declared.parts.ActionUpdate.{ActionUpdate}
use Rattle.lv_system.specs.declared.parts.ActionUpdate.TheVariants as U
use Rattle.lv_system.specs.declared.parts.Shape.{Shape}
use Rattle.lv_system.specs.declared.parts.Shape.TheVariants as S
use Rattle.lv_system.specs.Fits.{is_target}
use Rattle.lv_system.specs.Names.{same_text}
use Rattle.lv_fault.specs.Given.{word_in, list_in, headed, Worded}
use Rattle.lv_grammar.specs.declared.reading.Family.{Family}
use Rattle.lv_grammar.specs.declared.reading.Family.TheVariants as Fam
use Rattle.lv_grammar.specs.declared.reading.Named.{Named}
use Rattle.lv_grammar.specs.declared.reading.Named.TheVariants as N
use Rattle.lv_grammar.specs.declared.reading.Role.TheVariants as R
use Rattle.lv_grammar.specs.Grammar.{Each, nothing, first_and_rest, IsWord}
use Rattle.lv_grammar.specs.Words.{Variable, is_new_variable, are_new_variables}
use Rattle.lv_grammar.specs.WordKinds.{family_of}
use Rattle.lv_grammar.specs.Known.{Known, named, looks_small}
use Rattle.lv_grammar.specs.ReadWords.{new_variable}
use Rattle.lv_grammar.specs.ReadFormulas.{term_of_sort, lone_formula}
use Rattle.lv_grammar.specs.ReadItems.{Target, target_symbol, target_named, target_by, target_in, arguments_from, arguments_in, relation_update, constant_update, update_by, update_in, updates_in}
use Rattle.lv_grammar.specs.Rules.{sorts_of, Begins, IsTarget, AreNames, IsUpdate, relation, constant, AreUpdates, no_updates, updates}
use Rattle.lv_grammar.proofs.Steps.{done, ok_is, bound, passed, nothing_left, one_more, word_found, list_found}
use Rattle.lv_grammar.proofs.TreesAgain.{word_again, list_again}
use Rattle.lv_spelling.proofs.Families.{family_says, Says as FamilySays}
use Rattle.lv_spelling.proofs.FormulaReplay.{sorted_again}
use Rattle.lv_spelling.proofs.FormulaRules.{sorted_is}
use Rattle.lv_spelling.proofs.Heads.{word_begins, head_again}
use Rattle.lv_spelling.proofs.Variables.{variable_found, new_again}
use Rattle.lv_spelling.proofs.Wholes.{lone_is, lone_again}
use Rattle.lv_spelling.proofs.WordAgain.{small_family}
use Rattle.lv_spelling.proofs.WordKinds.{and_first, and_second}
use Rattle.lv_spelling.proofs.WordSays.{small_of}

-- ---- the variables that stand for the arguments

arguments_are : (vs : List Variable) (ss : List SortId) (end : ℕ) (ts : List Tree) (xs : List Variable) → arguments_from vs ss end ts ≡ done xs
    → Each (λ x a. IsWord x.name a) xs ts × (are_new_variables vs xs ≡ true) × (sorts_of xs ≡ ss)
unfolding arguments_from
arguments_are vs [] end [] xs e = subst (λ z. Each (λ x a. IsWord x.name a) z [] × (are_new_variables vs z ≡ true) × (sorts_of z ≡ [])) (ok_is [] xs e) (nothing, refl, refl)
arguments_are vs [] end (t ∷ ts) xs e = absurd cc
arguments_are vs (s ∷ ss) end [] xs e = absurd cc
arguments_are vs (s ∷ ss) end (t ∷ ts) xs e =
    let name = bound (new_variable vs t) _ xs e in
    let r = bound (arguments_from (record { name = name.0; sort = s } ∷ vs) ss end ts) _ xs name.2 in
    let found = variable_found vs t name.0 name.1 in
    let rest = arguments_are (record { name = name.0; sort = s } ∷ vs) ss end ts r.0 r.1 in
    subst (λ z. Each (λ x a. IsWord x.name a) z (t ∷ ts) × (are_new_variables vs z ≡ true) × (sorts_of z ≡ s ∷ ss)) (ok_is (record { name = name.0; sort = s } ∷ r.0) xs r.2)
    (first_and_rest found.word rest.0, and_from (is_new_variable vs name.0) _ found.new rest.1, ap (λ z. s ∷ z) rest.2)

argument_list_is : (vs : List Variable) (ss : List SortId) (t : Tree) (xs : List Variable) → arguments_in vs ss t ≡ done xs → AreNames vs ss xs t
unfolding arguments_in
argument_list_is vs ss t xs e =
    let l = bound (list_in t) _ xs e in
    let r = arguments_are vs ss l.0.end l.0.items xs l.2 in
    record { items = l.0.items; list = list_found t l.0 l.1; names = r.0; new = r.1; ranges = r.2 }

arguments_again : (vs : List Variable) (sorts : List SortId) (end : ℕ) (xs : List Variable) (ts : List Tree) → Each (λ x a. IsWord x.name a) xs ts → are_new_variables vs xs ≡ true
    → sorts_of xs ≡ sorts → arguments_from vs sorts end ts ≡ done xs
unfolding arguments_from
arguments_again vs [] end [] ts nothing new e = refl
arguments_again vs (s ∷ ss) end [] ts nothing new e = absurd cc
arguments_again vs [] end (x ∷ xs) ts (first_and_rest is rest) new e = absurd cc
arguments_again vs (s ∷ ss) end (x ∷ xs) ts (first_and_rest {t = t} {ts = us} is rest) new e =
    let q : s ≡ x.sort = cc in
    let r : sorts_of xs ≡ ss = cc in
    let one = new_again vs x.name t is (and_first (is_new_variable vs x.name) _ new) in
    let more = arguments_again (x ∷ vs) ss end xs us rest (and_second (is_new_variable vs x.name) _ new) r in
    rw (one, q, more) refl

argument_list_again : (vs : List Variable) (sorts : List SortId) (xs : List Variable) (t : Tree) → AreNames vs sorts xs t → arguments_in vs sorts t ≡ done xs
unfolding arguments_in
argument_list_again vs sorts xs t a =
    let l = list_again t a.items a.list in
    rw (l.1, arguments_again vs sorts l.0 xs a.items a.names a.new a.ranges) refl

module _ (k : Known) where
  -- ---- targets

  abbrev TargetIs : List ActionUpdate → Tree → Target → Type 0
  TargetIs acc t x = IsTarget k acc x.symbol x.shape t

  target_symbol_is : (acc : List ActionUpdate) (at n : ℕ) (shape : Shape) (fixed : Bool) (text : List ℕ) (t : Tree) (x : Target) → IsWord text t → looks_small text ≡ true
      → named k text ≡ Some (N.Symbol n shape fixed) → target_symbol acc at n shape fixed ≡ done x → TargetIs acc t x
  target_symbol_is acc at n shape fixed text t x is small name e =
      let q = passed fixed _ _ _ x e in
      let r = passed (is_target n acc) _ _ _ x q.1 in
      subst (TargetIs acc t) (ok_is (record { symbol = n; shape = shape }) x r.1) (record { text = text; word = is; small = small; changing = name ∙ ap (λ b. Some (N.Symbol n shape b)) q.0; once = r.0 })

  target_named_is : (acc : List ActionUpdate) (at : ℕ) (o : Option Named) (text : List ℕ) (t : Tree) (x : Target) → IsWord text t → looks_small text ≡ true → named k text ≡ o → target_named acc at o ≡ done x → TargetIs acc t x
  target_named_is acc at None text t x is small name e = absurd cc
  target_named_is acc at (Some (N.Symbol n shape fixed)) text t x is small name e = target_symbol_is acc at n shape fixed text t x is small name e
  target_named_is acc at (Some N.System) text t x is small name e = absurd cc
  target_named_is acc at (Some (N.Sort n)) text t x is small name e = absurd cc
  target_named_is acc at (Some N.Action) text t x is small name e = absurd cc
  target_named_is acc at (Some (N.Fair n sorts)) text t x is small name e = absurd cc
  target_named_is acc at (Some (N.Label n sorts)) text t x is small name e = absurd cc
  target_named_is acc at (Some (N.Witness n sort)) text t x is small name e = absurd cc
  target_named_is acc at (Some N.Invariant) text t x is small name e = absurd cc

  target_by_is : (acc : List ActionUpdate) (w : Worded) (f : Family) (t : Tree) (x : Target) → IsWord w.text t → FamilySays w.text f → target_by k acc w.at w.text f ≡ done x → TargetIs acc t x
  target_by_is acc w Fam.Name t x is says e = target_named_is acc w.at (named k w.text) w.text t x is (small_of w.text says) refl e
  target_by_is acc w Fam.Frozen t x is says e = absurd cc
  target_by_is acc w Fam.Saved t x is says e = absurd cc
  target_by_is acc w Fam.Dotted t x is says e = absurd cc
  target_by_is acc w Fam.Variable t x is says e = absurd cc
  target_by_is acc w Fam.Other t x is says e = absurd cc

  target_is : (acc : List ActionUpdate) (t : Tree) (x : Target) → target_in k acc t ≡ done x → TargetIs acc t x
  unfolding target_in
  target_is acc t x e =
      let w = bound (word_in t) _ x e in
      target_by_is acc w.0 (family_of w.0.text) t x (word_found t w.0 w.1) (family_says w.0.text) w.2

  target_again : (acc : List ActionUpdate) (n : ℕ) (shape : Shape) (t : Tree) → IsTarget k acc n shape t → target_in k acc t ≡ done (record { symbol = n; shape = shape })
  unfolding target_in
  target_again acc n shape t is = let w = word_again t is.text is.word in rw (w.1, small_family is.text is.small, is.changing, is.once) refl

  -- ---- updates

  update_by_is : (vs : List Variable) (acc : List ActionUpdate) (symbol end : ℕ) (items : List Tree) (shape : Shape) (r t : Tree) (u : ActionUpdate) → Begins (codes "set") (r ∷ items) t
      → IsTarget k acc symbol shape r → update_by k vs symbol end items shape ≡ done u → IsUpdate k vs acc u t
  unfolding relation_update constant_update
  update_by_is vs acc symbol end items (S.Relation sorts) r t u begins target e =
      let a = one_more end items _ u e in
      let xs = bound (arguments_in vs sorts a.0) _ u a.3 in
      let f = bound (lone_formula k R.State 57 (reverse xs.0 ++ vs) end a.1) _ u xs.2 in
      let body = lone_is k R.State refl 57 (reverse xs.0 ++ vs) end a.1 f.0 f.1 in
      subst (λ z. IsUpdate k vs acc z t) (ok_is (U.Relation symbol f.0) u f.2)
      (relation xs.0 r a.0 body.0 (subst (λ z. Begins (codes "set") (r ∷ z) t) (a.2 ∙ ap (λ z. a.0 ∷ z) body.1) begins) target (argument_list_is vs sorts a.0 xs.0 xs.1) body.2)
  update_by_is vs acc symbol end items (S.Constant sort) r t u begins target e =
      let a = one_more end items _ u e in
      let x = bound (term_of_sort k R.State vs sort a.0) _ u a.3 in
      let z = nothing_left a.1 _ u x.2 in
      subst (λ y. IsUpdate k vs acc y t) (ok_is (U.Constant symbol x.0) u z.1)
      (constant r a.0 (subst (λ y. Begins (codes "set") (r ∷ y) t) (a.2 ∙ ap (λ y. a.0 ∷ y) z.0) begins) target (sorted_is k R.State vs sort a.0 x.0 x.1))

  update_is : (vs : List Variable) (acc : List ActionUpdate) (t : Tree) (u : ActionUpdate) → update_in k vs acc t ≡ done u → IsUpdate k vs acc u t
  unfolding update_in
  update_is vs acc t u e =
      let h = bound (headed t) _ u e in
      let q = passed (not (same_text h.0.word.text (codes "set"))) _ _ _ u h.2 in
      let a = one_more h.0.end h.0.rest _ u q.1 in
      let x = bound (target_in k acc a.0) _ u a.3 in
      let begins = subst (λ z. Begins (codes "set") z t) a.2 (word_begins (codes "set") t h.0 h.1 q.0) in
      update_by_is vs acc x.0.symbol h.0.end a.1 x.0.shape a.0 t u begins (target_is acc a.0 x.0 x.1) x.2

  update_again : (vs : List Variable) (acc : List ActionUpdate) (u : ActionUpdate) (t : Tree) → IsUpdate k vs acc u t → update_in k vs acc t ≡ done u
  unfolding update_in relation_update constant_update
  update_again vs acc u t (relation {n = n} {sorts = sorts} {body = body} xs r args a begins target names is) =
      let h = head_again (codes "set") (r ∷ args ∷ a ∷ []) t begins in
      rw (h.is, target_again acc n (S.Relation sorts) r target, argument_list_again vs sorts xs args names, lone_again k R.State refl 57 (reverse xs ++ vs) h.end a body is) refl
  update_again vs acc u t (constant {n = n} {sort = sort} {term = x} c a begins target is) =
      let h = head_again (codes "set") (c ∷ a ∷ []) t begins in
      rw (h.is, target_again acc n (S.Constant sort) c target, sorted_again k R.State vs x sort a is) refl

  -- ---- all updates of an action, behind those that are done

  pub updates_are : (vs : List Variable) (acc : List ActionUpdate) (ts : List Tree) (us : List ActionUpdate) → updates_in k vs acc ts ≡ done us
      → (more : List ActionUpdate) × (us ≡ acc ++ more) × AreUpdates k vs acc more ts
  unfolding updates_in
  updates_are vs acc [] us e = ([], sym (ok_is acc us e) ∙ sym (append-nil acc), no_updates)
  updates_are vs acc (t ∷ ts) us e =
      let u = bound (update_in k vs acc t) _ us e in
      let rest = updates_are vs (acc ++ u.0 ∷ []) ts us u.2 in
      (u.0 ∷ rest.0, rest.1 ∙ append_assoc acc (u.0 ∷ []) rest.0, updates (update_is vs acc t u.0 u.1) rest.2)

  pub updates_again : (vs : List Variable) (acc more : List ActionUpdate) (ts : List Tree) → AreUpdates k vs acc more ts → updates_in k vs acc ts ≡ done (acc ++ more)
  unfolding updates_in
  updates_again vs acc more ts no_updates = ap (λ z. done z) (sym (append-nil acc))
  updates_again vs acc more ts (updates {us = us} {u = u} {t = t} {ts = rest} is are) =
      rw (update_again vs acc u t is) (updates_again vs (acc ++ u ∷ []) us rest are ∙ ap (λ z. done z) (append_assoc acc (u ∷ []) us))
