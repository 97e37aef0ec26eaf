-- Where some tree spells a system, so does each that is the shown one but for places.
use Rattle.std.proofs.Common.{◌≡◌, ℕ, ◌≤◌, true, false, List, [], ◌∷◌, ◌++◌, map, length, refl, sym, ap, subst, ◌∙◌, append_assoc, arith}
use Rattle.std.specs.Prelude.{codes}
use Rattle.lv_tree.specs.declared.tree.Tree.{Tree}
use Rattle.lv_tree.specs.Writing.{bare}
use Rattle.lv_formula.specs.declared.formula.Formula.{Formula}
use Rattle.lv_system.specs.declared.parts.Parts.{Parts}
use Rattle.lv_system.specs.declared.parts.ActionUpdate.{ActionUpdate}
use Rattle.lv_system.specs.declared.parts.ActionUpdate.TheVariants as U
use Rattle.lv_grammar.specs.declared.reading.Role.{Role}
use Rattle.lv_grammar.specs.declared.reading.Role.TheVariants as R
use Rattle.lv_grammar.specs.Grammar.{Items, in_order, IsWord}
use Rattle.lv_grammar.specs.Known.{Known, is_invariant}
use Rattle.lv_grammar.specs.KnownOf.{AllRight}
use Rattle.lv_grammar.specs.Sections.{Spell, none, one}
use Rattle.lv_grammar.specs.Rules.{Begins, IsLone, add_nothing, IsSystem, add_property}
use Rattle.lv_grammar.specs.ShownSystems.{shown_sort, shown_symbol, shown_lone, shown_action, shown_fair, shown_label, shown_witness, shown_invariant, shown_kinds, shown_items, shown_system}
use Rattle.lv_grammar.proofs.Likeness.{like_word, two_first, parted, none_like}
use Rattle.lv_grammar.proofs.FittingParts.{few_of_shape}
use Rattle.lv_fitting.proofs.Entries.{along}
use Rattle.lv_fitting.proofs.LabelStages.{AtLabel, AtWitness, AtInvariant, LabelFacts, WitnessFits, InvariantFacts, label_step, witness_step, invariant_step}
use Rattle.lv_fitting.proofs.SaidWords.{says_word, sort_word, own_word}
use Rattle.lv_fitting.proofs.Stages.{Stage, sort_step, symbol_step, action_step, fair_step}
use Rattle.lv_fitting.proofs.SystemFits as Fits
use Rattle.lv_layout.proofs.FormulaLaw.{Speaks, begins}
use Rattle.lv_layout.proofs.ItemLaws.{IsSmallUpdate, sort_item_shown, symbol_item_shown, closed_shown, action_shown, fair_shown, label_shown, witness_shown, property_shown, invariant_shown}

-- items that are those of another list but for places, kind by kind
pub record Kinds (us : List Tree) (k : Items) : Type 0 where
  pub items : Items
  pub whole : us ≡ in_order items
  pub sorts : map bare items.sorts ≡ map bare k.sorts
  pub symbols : map bare items.symbols ≡ map bare k.symbols
  pub axioms : map bare items.axioms ≡ map bare k.axioms
  pub inits : map bare items.inits ≡ map bare k.inits
  pub actions : map bare items.actions ≡ map bare k.actions
  pub fairs : map bare items.fairs ≡ map bare k.fairs
  pub labels : map bare items.labels ≡ map bare k.labels
  pub witnesses : map bare items.witnesses ≡ map bare k.witnesses
  pub property : bare items.property ≡ bare k.property
  pub invariants : map bare items.invariants ≡ map bare k.invariants

-- the first item, and the others
record First (us : List Tree) (x : Tree) (xs : List Tree) : Type 0 where
  pub first : Tree
  pub rest : List Tree
  pub whole : us ≡ first ∷ rest
  pub first_same : bare first ≡ bare x
  pub rest_same : map bare rest ≡ map bare xs

first_of : (us : List Tree) (x : Tree) (xs : List Tree) → map bare us ≡ map bare (x ∷ xs) → First us x xs
first_of [] x xs e = absurd cc
first_of (u ∷ us) x xs e = record { first = u; rest = us; whole = refl; first_same = cc; rest_same = cc }

joined : {us right more : List Tree} (left : List Tree) → us ≡ left ++ right → right ≡ more → us ≡ left ++ more
joined left e f = e ∙ ap (λ l. left ++ l) f

kinds : (us : List Tree) (k : Items) → map bare us ≡ map bare (in_order k) → Kinds us k
kinds us k e =
    let a = parted us k.sorts _ e in
    let b = parted a.right k.symbols _ a.right_same in
    let c = parted b.right k.axioms _ b.right_same in
    let d = parted c.right k.inits _ c.right_same in
    let f = parted d.right k.actions _ d.right_same in
    let g = parted f.right k.fairs _ f.right_same in
    let h = parted g.right k.labels _ g.right_same in
    let i = parted h.right k.witnesses _ h.right_same in
    let j = first_of i.right k.property k.invariants i.right_same in
    record {
      items = record {
        sorts = a.left;
        symbols = b.left;
        axioms = c.left;
        inits = d.left;
        actions = f.left;
        fairs = g.left;
        labels = h.left;
        witnesses = i.left;
        property = j.first;
        invariants = j.rest;
      };
      whole = joined a.left a.whole (joined b.left b.whole (joined c.left c.whole (joined d.left d.whole (joined f.left f.whole (joined g.left g.whole (joined h.left h.whole (joined i.left i.whole j.whole)))))));
      sorts = a.left_same;
      symbols = b.left_same;
      axioms = c.left_same;
      inits = d.left_same;
      actions = f.left_same;
      fairs = g.left_same;
      labels = h.left_same;
      witnesses = i.left_same;
      property = j.first_same;
      invariants = j.rest_same;
    }

-- ---- a section, item by item

module _ {X : Type 0} {Is : Known → X → Tree → Type 0} {add : Known → X → Known} (whole : List X) (At : List X → Known → Type 0) (P : List X → X → Type 0)
    (step : (front rest : List X) (k : Known) (x : X) (t : Tree) → whole ≡ front ++ x ∷ rest → At front k → Is k x t → P front x × At (front ++ x ∷ []) (add k x))
    (form : X → Tree) (shown : (front : List X) (k : Known) (x : X) (t u : Tree) → At front k → Is k x t → bare u ≡ bare (form x) → Is k x u) where
  pub spell_shown : {room : ℕ} {k d : Known} {xs : List X} {ts : List Tree} → Spell Is add room k xs ts d → (front : List X) → whole ≡ front ++ xs → At front k → (us : List Tree) → map bare us ≡ map bare (map form xs) → Spell Is add room k xs us d
  spell_shown none front e at us f = rw (none_like us f) none
  spell_shown (one is more) front e at [] f = absurd cc
  spell_shown {k = k} (one {x = x} {xs = xs} {t = t} is more) front e at (u ∷ us) f =
      let next = step front xs k x t e at is in
      one (shown front k x t u at is (cc)) (spell_shown more (front ++ x ∷ []) (e ∙ sym (append_assoc front (x ∷ []) xs)) next.1 us (cc))

-- formulas without an item of their own
lones_shown : (p : Parts) (text : List ℕ) (role : Role) {room : ℕ} {k d : Known} {xs : List Formula} {ts : List Tree} → Speaks p k role → Spell (IsLone text role 58 []) add_nothing room k xs ts d → (us : List Tree)
    → map bare us ≡ map bare (map (shown_lone p text 0) xs) → Spell (IsLone text role 58 []) add_nothing room k xs us d
lones_shown p text role s none us f = rw (none_like us f) none
lones_shown p text role s (one is more) [] f = absurd cc
lones_shown p text role {k = k} s (one {x = x} {t = t} is more) (u ∷ us) f = one (closed_shown p k role s text x t u is (cc)) (lones_shown p text role s more us (cc))

-- words outside invariants, and in them
speaks : (p : Parts) (k : Known) (role : Role) → AllRight p k.names → (is_invariant role ≡ true → k.fairs ≡ length p.fairs) → Speaks p k role
speaks p k role a fairs = record { symbol = λ text said says. (says_word k p a role fairs text said says).0; sort = sort_word k p a; own = own_word k p a }

never : {A : Type 0} → false ≡ true → A
never e = absurd cc

module _ (p : Parts) (t : Tree) (s : IsSystem p t) where
  small : (x : ActionUpdate) → IsSmallUpdate p x
  small (U.Relation n body) = few_of_shape (length p.sorts) p.symbols n (Fits.shapes p t s)
  small (U.Constant n term) = tt

  pub system_shown : (u : Tree) → bare u ≡ bare (shown_system p) → IsSystem p u
  system_shown u e =
      let l = two_first u _ _ (shown_items p) e in
      let k = kinds l.rest (shown_kinds p) l.others in
      let n = length p.sorts in
      let y = length p.symbols in
      let f = length p.fairs in
      let plain = Fits.symbols p t s in
      record {
        n = l.b;
        sort_trees = k.items.sorts;
        symbol_trees = k.items.symbols;
        axiom_trees = k.items.axioms;
        init_trees = k.items.inits;
        action_trees = k.items.actions;
        fair_trees = k.items.fairs;
        label_trees = k.items.labels;
        witness_trees = k.items.witnesses;
        property_tree = k.items.property;
        invariant_trees = k.items.invariants;
        list = subst (λ is'. Begins (codes "system") (l.b ∷ is') u) k.whole (begins (codes "system") l.a u (l.b ∷ l.rest) l.is (like_word l.a (codes "system") l.first));
        name = like_word l.b p.name l.second;
        named = s.named;
        with_sorts = s.with_sorts;
        with_symbols = s.with_symbols;
        with_actions = s.with_actions;
        with_fairs = s.with_fairs;
        with_labels = s.with_labels;
        with_witnesses = s.with_witnesses;
        with_all = s.with_all;
        sorts = spell_shown p.sorts (λ front k. Stage p (length front) 0 0 0 [] [] k) (λ front x. Unit {0}) (sort_step p) shown_sort (λ front k x t u at is h. sort_item_shown p k x t u is h) s.sorts [] refl (Fits.first p t s) k.items.sorts k.sorts;
        symbols = spell_shown p.symbols (λ front k. Stage p n (length front) 0 0 [] [] k) _ (symbol_step p n) (shown_symbol p) (λ front k x t u at is h. symbol_item_shown p k R.State (speaks p k R.State at.right never) x t u is h) s.symbols [] refl (Fits.sorts p t s) k.items.symbols k.symbols;
        axioms = lones_shown p (codes "axiom") R.Axiom (speaks p s.with_symbols R.Axiom plain.right never) s.axioms k.items.axioms k.axioms;
        inits = lones_shown p (codes "init") R.State (speaks p s.with_symbols R.State plain.right never) s.inits k.items.inits k.inits;
        actions = spell_shown p.actions (λ front k. Stage p n y 0 0 [] [] k) _ (action_step p n y) (shown_action p) (λ front k x t u at is h. action_shown p k at.right (speaks p k R.State at.right never) x t u small is h) s.actions [] refl plain k.items.actions k.actions;
        fairs = spell_shown p.fairs (λ front k. Stage p n y (length front) 0 [] [] k) _ (fair_step p n y) (shown_fair p) (λ front k x t u at is h. fair_shown p k at.right (speaks p k R.State at.right never) x t u is h) s.fairs [] refl (Fits.actions_along p t s).1 k.items.fairs k.fairs;
        labels = spell_shown p.labels (AtLabel p n y f) (LabelFacts p n y f) (label_step p n y f) (shown_label p) (λ front k x t u at is h. label_shown p k (speaks p k R.Path at.stage.right never) x t u is h) s.labels [] refl (Fits.before_labels p t s) k.items.labels k.labels;
        witnesses = spell_shown p.witnesses (AtWitness p n y f (Fits.numbers p t s)) (WitnessFits p n y f (Fits.numbers p t s)) (witness_step p n y f (Fits.numbers p t s)) (shown_witness p)
            (λ front k x t u at is h. witness_shown p k (speaks p k R.Witness at.stage.right never) x t u is h) s.witnesses [] refl (Fits.labels_along p t s).1 k.items.witnesses k.witnesses;
        property = property_shown p s.with_witnesses (speaks p s.with_witnesses R.Path (Fits.witnesses_along p t s).1.stage.right never) s.property_tree k.items.property s.property k.property;
        invariants = spell_shown p.invariants (AtInvariant p n y f (Fits.numbers p t s)) (InvariantFacts p n y f (Fits.numbers p t s)) (invariant_step p n y f (Fits.numbers p t s) refl) (shown_invariant p)
            (λ front k x t u at is h. invariant_shown p k (speaks p k R.Invariant at.right (λ i. at.fairs)) x t u is h) s.invariants [] refl (Fits.all_known p t s) k.items.invariants k.invariants;
      }
