-- What is read as a system is spelled.
use Rattle.std.proofs.Common.{◌≡◌, ℕ, true, not, ◌&&◌, leb, ltb, Some, List, [], ◌∷◌, ◌++◌, length, codes, refl, sym, ap, subst, ◌∙◌}
use Rattle.std.specs.Prelude.{Result, Ok}
use Rattle.std.proofs.lemmas.Bool.{and_from}
use Rattle.std.proofs.lemmas.List.{append-nil}
use Rattle.lv_tree.specs.declared.tree.Tree.{Tree}
use Rattle.lv_formula.specs.declared.formula.Formula.{Formula}
use Rattle.lv_formula.specs.declared.temporal.Temporal.{Temporal}
use Rattle.lv_system.specs.declared.parts.Parts.{Parts}
use Rattle.lv_system.specs.declared.parts.Action.{Action}
use Rattle.lv_system.specs.declared.parts.Fair.{Fair}
use Rattle.lv_system.specs.declared.parts.Invariant.{Invariant}
use Rattle.lv_system.specs.declared.parts.LabelDecl.{LabelDecl}
use Rattle.lv_system.specs.declared.parts.Sort.{Sort}
use Rattle.lv_system.specs.declared.parts.Symbol.{Symbol}
use Rattle.lv_system.specs.declared.parts.WitnessDecl.{WitnessDecl}
use Rattle.lv_system.specs.Names.{same_text, is_name, are_name_bytes, begins_small}
use Rattle.lv_fault.specs.Given.{◌>>=◌, Worded, word_in, headed}
use Rattle.lv_fault.specs.declared.fault.SyntaxFault.{SyntaxFault}
use Rattle.lv_grammar.specs.declared.reading.Family.{Family}
use Rattle.lv_grammar.specs.declared.reading.Family.TheVariants as Fam
use Rattle.lv_grammar.specs.declared.reading.Role.TheVariants as R
use Rattle.lv_grammar.specs.Grammar.{IsWord}
use Rattle.lv_grammar.specs.WordKinds.{family_of}
use Rattle.lv_grammar.specs.Known.{Known}
use Rattle.lv_grammar.specs.Sections.{Section, section, Spell, none, one}
use Rattle.lv_grammar.specs.Rules.{Begins, IsSort, add_sort, IsDeclared, add_symbol, IsLone, add_nothing, IsAction, add_action, IsFair, add_fair, IsLabel, add_label, IsWitness, add_witness, IsProperty, add_property, IsInvariant, add_invariant, known_first, IsSystem}
use Rattle.lv_grammar.specs.Reading.{sort_kind, symbol_kind, axiom_kind, init_kind, action_kind, fair_kind, label_kind, witness_kind, property_kind, invariant_kind, left_over, none_left, the_one, parts_of, system_name_by, system_name, system_of}
use Rattle.lv_grammar.proofs.Steps.{done, ok_is, bound, passed, one_more, word_found}
use Rattle.lv_spelling.proofs.Declarations.{actions_agree, fairs_agree, invariants_agree}
use Rattle.lv_spelling.proofs.Families.{family_says, short, Says as FamilySays}
use Rattle.lv_spelling.proofs.Heads.{word_begins}
use Rattle.lv_spelling.proofs.ItemLaw.{axioms_agree, inits_agree}
use Rattle.lv_spelling.proofs.Paths.{labels_agree, witnesses_agree, properties_agree}
use Rattle.lv_spelling.proofs.Symbols.{sorts_agree, symbols_agree}

-- ---- the system's name

named_by : (t : Tree) (w : Worded) (f : Family) (name : List ℕ) → IsWord w.text t → FamilySays w.text f → system_name_by w.at w.text f ≡ done name → IsWord name t × (is_name name ≡ true)
named_by t w Fam.Name name is says e =
    let b = passed (ltb 48 (length w.text)) _ _ _ name e in
    let form : is_name w.text ≡ true = and_from (begins_small w.text && are_name_bytes w.text && leb (length w.text) 48) _
    (and_from (begins_small w.text && are_name_bytes w.text) _ says.1 (short (length w.text) b.0)) (ap not says.0) in
    subst (λ z. IsWord z t × (is_name z ≡ true)) (ok_is w.text name b.1) (is, form)
named_by t w Fam.Frozen name is says e = absurd cc
named_by t w Fam.Saved name is says e = absurd cc
named_by t w Fam.Dotted name is says e = absurd cc
named_by t w Fam.Variable name is says e = absurd cc
named_by t w Fam.Other name is says e = absurd cc

name_found : (t : Tree) (name : List ℕ) → system_name t ≡ done name → IsWord name t × (is_name name ≡ true)
unfolding system_name
name_found t name e =
    let w = bound (word_in t) _ name e in
    named_by t w.0 (family_of w.0.text) name (word_found t w.0 w.1) (family_says w.0.text) w.2

-- ---- sections that add nothing, and the one of the property

nothing_added : {X : Type 0} {Is : Known → X → Tree → Type 0} {room : ℕ} {k d : Known} {xs : List X} {ts : List Tree} → Spell Is add_nothing room k xs ts d → d ≡ k
nothing_added none = refl
nothing_added (one is more) = nothing_added more

unchanged : {X : Type 0} (Is : Known → X → Tree → Type 0) (room : ℕ) (k d : Known) (xs : List X) (ts : List Tree) → Spell Is add_nothing room k xs ts d → Spell Is add_nothing room k xs ts k
unchanged Is room k d xs ts s = subst (λ z. Spell Is add_nothing room k xs ts z) (nothing_added s) s

pub record TheProperty (k d : Known) (front : List Tree) (f : Temporal) : Type 0 where
  pub tree : Tree
  pub whole : front ≡ tree ∷ []
  pub is : IsProperty k f tree
  pub known : d ≡ add_property k f

no_room : {X : Type 0} {Is : Known → X → Tree → Type 0} {add : Known → X → Known} (k d : Known) (xs : List X) (ts : List Tree) → Spell Is add 0 k xs ts d → (ts ≡ []) × (d ≡ k)
no_room k d xs ts none = (refl, refl)

only_one : (k d : Known) (front : List Tree) (f : Temporal) (fs : List Temporal) → Spell IsProperty add_property 1 k (f ∷ fs) front d → TheProperty k d front f
only_one k d front f fs (one {t = t} {ts = ts} is more) = let z = no_room (add_property k f) d fs ts more in record { tree = t; whole = ap (λ us. t ∷ us) z.0; is = is; known = z.1 }

alone : (k d : Known) (front : List Tree) (end : ℕ) (fs : List Temporal) (rest : List Tree) (f : Temporal) → Spell IsProperty add_property 1 k fs front d → the_one end fs rest ≡ done f → TheProperty k d front f
unfolding the_one left_over
alone k d front end [] [] f s e = absurd cc
alone k d front end [] (t ∷ ts) f s e = let h = bound (headed t) _ f e in absurd cc
alone k d front end (g ∷ fs) rest f s e = subst (TheProperty k d front) (ok_is g f e) (only_one k d front g fs s)

no_left : (ts : List Tree) (u : Unit {0}) → none_left ts ≡ done u → ts ≡ []
unfolding none_left left_over
no_left [] u e = refl
no_left (t ∷ ts) u e = let h = bound (headed t) _ u e in absurd cc

-- ---- systems

-- the sections that were read, each behind the one before it
record Sectioned (name : List ℕ) (end : ℕ) (items : List Tree) (p : Parts) : Type 0 where
  sorts : Section Sort
  symbols : Section Symbol
  axioms : Section Formula
  inits : Section Formula
  actions : Section Action
  fairs : Section Fair
  labels : Section LabelDecl
  witnesses : Section WitnessDecl
  properties : Section Temporal
  invariants : Section Invariant
  property : Temporal
  nothing_left : Unit {0}
  sorts_read : section sort_kind 16 (known_first name) items ≡ done sorts
  symbols_read : section symbol_kind 256 sorts.known sorts.rest ≡ done symbols
  axioms_read : section axiom_kind 64 symbols.known symbols.rest ≡ done axioms
  inits_read : section init_kind 64 axioms.known axioms.rest ≡ done inits
  actions_read : section action_kind 32 inits.known inits.rest ≡ done actions
  fairs_read : section fair_kind 16 actions.known actions.rest ≡ done fairs
  labels_read : section label_kind 32 fairs.known fairs.rest ≡ done labels
  witnesses_read : section witness_kind 16 labels.known labels.rest ≡ done witnesses
  properties_read : section property_kind 1 witnesses.known witnesses.rest ≡ done properties
  invariants_read : section invariant_kind 256 properties.known properties.rest ≡ done invariants
  property_read : the_one end properties.items properties.rest ≡ done property
  all_read : none_left invariants.rest ≡ done nothing_left
  is : record { name = name; sorts = sorts.items; symbols = symbols.items; axioms = axioms.items; inits = inits.items; actions = actions.items; fairs = fairs.items; labels = labels.items; witnesses = witnesses.items; property = property; invariants = invariants.items } ≡ p

-- what is read behind some sections
module _ (name : List ℕ) (end : ℕ) where
  abbrev behind_invariants : Section Sort → Section Symbol → Section Formula → Section Formula → Section Action → Section Fair → Section LabelDecl → Section WitnessDecl → Section Temporal → Temporal → Section Invariant → Result Parts SyntaxFault
  behind_invariants sorts symbols axioms inits actions fairs labels witnesses properties property invariants = none_left invariants.rest >>= λ _. Ok (record { name = name; sorts = sorts.items; symbols = symbols.items; axioms = axioms.items; inits = inits.items; actions = actions.items; fairs = fairs.items; labels = labels.items; witnesses = witnesses.items; property = property; invariants = invariants.items })

  abbrev behind_property : Section Sort → Section Symbol → Section Formula → Section Formula → Section Action → Section Fair → Section LabelDecl → Section WitnessDecl → Section Temporal → Temporal → Result Parts SyntaxFault
  behind_property sorts symbols axioms inits actions fairs labels witnesses properties property = section invariant_kind 256 properties.known properties.rest >>= behind_invariants sorts symbols axioms inits actions fairs labels witnesses properties property

  abbrev behind_properties : Section Sort → Section Symbol → Section Formula → Section Formula → Section Action → Section Fair → Section LabelDecl → Section WitnessDecl → Section Temporal → Result Parts SyntaxFault
  behind_properties sorts symbols axioms inits actions fairs labels witnesses properties = the_one end properties.items properties.rest >>= behind_property sorts symbols axioms inits actions fairs labels witnesses properties

  abbrev behind_witnesses : Section Sort → Section Symbol → Section Formula → Section Formula → Section Action → Section Fair → Section LabelDecl → Section WitnessDecl → Result Parts SyntaxFault
  behind_witnesses sorts symbols axioms inits actions fairs labels witnesses = section property_kind 1 witnesses.known witnesses.rest >>= behind_properties sorts symbols axioms inits actions fairs labels witnesses

  abbrev behind_labels : Section Sort → Section Symbol → Section Formula → Section Formula → Section Action → Section Fair → Section LabelDecl → Result Parts SyntaxFault
  behind_labels sorts symbols axioms inits actions fairs labels = section witness_kind 16 labels.known labels.rest >>= behind_witnesses sorts symbols axioms inits actions fairs labels

  abbrev behind_fairs : Section Sort → Section Symbol → Section Formula → Section Formula → Section Action → Section Fair → Result Parts SyntaxFault
  behind_fairs sorts symbols axioms inits actions fairs = section label_kind 32 fairs.known fairs.rest >>= behind_labels sorts symbols axioms inits actions fairs

  abbrev behind_actions : Section Sort → Section Symbol → Section Formula → Section Formula → Section Action → Result Parts SyntaxFault
  behind_actions sorts symbols axioms inits actions = section fair_kind 16 actions.known actions.rest >>= behind_fairs sorts symbols axioms inits actions

  abbrev behind_inits : Section Sort → Section Symbol → Section Formula → Section Formula → Result Parts SyntaxFault
  behind_inits sorts symbols axioms inits = section action_kind 32 inits.known inits.rest >>= behind_actions sorts symbols axioms inits

  abbrev behind_axioms : Section Sort → Section Symbol → Section Formula → Result Parts SyntaxFault
  behind_axioms sorts symbols axioms = section init_kind 64 axioms.known axioms.rest >>= behind_inits sorts symbols axioms

  abbrev behind_symbols : Section Sort → Section Symbol → Result Parts SyntaxFault
  behind_symbols sorts symbols = section axiom_kind 64 symbols.known symbols.rest >>= behind_axioms sorts symbols

  abbrev behind_sorts : Section Sort → Result Parts SyntaxFault
  behind_sorts sorts = section symbol_kind 256 sorts.known sorts.rest >>= behind_symbols sorts

module _ (name : List ℕ) (end : ℕ) (items : List Tree) (p : Parts) where
  module _ (sorts : Section Sort) (sorts_read : section sort_kind 16 (known_first name) items ≡ done sorts) where
    module _ (symbols : Section Symbol) (symbols_read : section symbol_kind 256 sorts.known sorts.rest ≡ done symbols) where
      module _ (axioms : Section Formula) (axioms_read : section axiom_kind 64 symbols.known symbols.rest ≡ done axioms) where
        module _ (inits : Section Formula) (inits_read : section init_kind 64 axioms.known axioms.rest ≡ done inits) where
          module _ (actions : Section Action) (actions_read : section action_kind 32 inits.known inits.rest ≡ done actions) where
            module _ (fairs : Section Fair) (fairs_read : section fair_kind 16 actions.known actions.rest ≡ done fairs) where
              module _ (labels : Section LabelDecl) (labels_read : section label_kind 32 fairs.known fairs.rest ≡ done labels) where
                module _ (witnesses : Section WitnessDecl) (witnesses_read : section witness_kind 16 labels.known labels.rest ≡ done witnesses) where
                  module _ (properties : Section Temporal) (properties_read : section property_kind 1 witnesses.known witnesses.rest ≡ done properties) where
                    module _ (property : Temporal) (property_read : the_one end properties.items properties.rest ≡ done property) where
                      after_invariants : (invariants : Section Invariant) → section invariant_kind 256 properties.known properties.rest ≡ done invariants → behind_invariants name end sorts symbols axioms inits actions fairs labels witnesses properties property invariants ≡ done p → Sectioned name end items p
                      after_invariants invariants invariants_read e =
                          let left = bound (none_left invariants.rest) _ p e in
                          record { sorts = sorts; sorts_read = sorts_read; symbols = symbols; symbols_read = symbols_read; axioms = axioms; axioms_read = axioms_read; inits = inits; inits_read = inits_read; actions = actions; actions_read = actions_read; fairs = fairs; fairs_read = fairs_read; labels = labels; labels_read = labels_read; witnesses = witnesses; witnesses_read = witnesses_read; properties = properties; properties_read = properties_read; property = property; property_read = property_read; invariants = invariants; invariants_read = invariants_read; nothing_left = left.0; all_read = left.1; is = ok_is _ p left.2 }

                      after_property : behind_property name end sorts symbols axioms inits actions fairs labels witnesses properties property ≡ done p → Sectioned name end items p
                      after_property e = let s = bound (section invariant_kind 256 properties.known properties.rest) (behind_invariants name end sorts symbols axioms inits actions fairs labels witnesses properties property) p e in after_invariants s.0 s.1 s.2

                    after_properties : behind_properties name end sorts symbols axioms inits actions fairs labels witnesses properties ≡ done p → Sectioned name end items p
                    after_properties e = let s = bound (the_one end properties.items properties.rest) (behind_property name end sorts symbols axioms inits actions fairs labels witnesses properties) p e in after_property s.0 s.1 s.2

                  after_witnesses : behind_witnesses name end sorts symbols axioms inits actions fairs labels witnesses ≡ done p → Sectioned name end items p
                  after_witnesses e = let s = bound (section property_kind 1 witnesses.known witnesses.rest) (behind_properties name end sorts symbols axioms inits actions fairs labels witnesses) p e in after_properties s.0 s.1 s.2

                after_labels : behind_labels name end sorts symbols axioms inits actions fairs labels ≡ done p → Sectioned name end items p
                after_labels e = let s = bound (section witness_kind 16 labels.known labels.rest) (behind_witnesses name end sorts symbols axioms inits actions fairs labels) p e in after_witnesses s.0 s.1 s.2

              after_fairs : behind_fairs name end sorts symbols axioms inits actions fairs ≡ done p → Sectioned name end items p
              after_fairs e = let s = bound (section label_kind 32 fairs.known fairs.rest) (behind_labels name end sorts symbols axioms inits actions fairs) p e in after_labels s.0 s.1 s.2

            after_actions : behind_actions name end sorts symbols axioms inits actions ≡ done p → Sectioned name end items p
            after_actions e = let s = bound (section fair_kind 16 actions.known actions.rest) (behind_fairs name end sorts symbols axioms inits actions) p e in after_fairs s.0 s.1 s.2

          after_inits : behind_inits name end sorts symbols axioms inits ≡ done p → Sectioned name end items p
          after_inits e = let s = bound (section action_kind 32 inits.known inits.rest) (behind_actions name end sorts symbols axioms inits) p e in after_actions s.0 s.1 s.2

        after_axioms : behind_axioms name end sorts symbols axioms ≡ done p → Sectioned name end items p
        after_axioms e = let s = bound (section init_kind 64 axioms.known axioms.rest) (behind_inits name end sorts symbols axioms) p e in after_inits s.0 s.1 s.2

      after_symbols : behind_symbols name end sorts symbols ≡ done p → Sectioned name end items p
      after_symbols e = let s = bound (section axiom_kind 64 symbols.known symbols.rest) (behind_axioms name end sorts symbols) p e in after_axioms s.0 s.1 s.2

    after_sorts : behind_sorts name end sorts ≡ done p → Sectioned name end items p
    after_sorts e = let s = bound (section symbol_kind 256 sorts.known sorts.rest) (behind_symbols name end sorts) p e in after_symbols s.0 s.1 s.2

  sectioned : parts_of name end items ≡ done p → Sectioned name end items p
  unfolding parts_of
  sectioned e = let s = bound (section sort_kind 16 (known_first name) items) (behind_sorts name end) p e in after_sorts s.0 s.1 s.2

behind : {ts us vs : List Tree} (front : List Tree) → ts ≡ front ++ us → us ≡ vs → ts ≡ front ++ vs
behind front e f = e ∙ ap (λ z. front ++ z) f

parts_found : (name : List ℕ) (end : ℕ) (items : List Tree) (p : Parts) (t n : Tree) → IsWord name n → is_name name ≡ true → Begins (codes "system") (n ∷ items) t → Sectioned name end items p → IsSystem p t
parts_found name end items p t n word form begins x =
    let a = (sorts_agree 16 (known_first name) items x.sorts).0 x.sorts_read in
    let b = (symbols_agree 256 x.sorts.known x.sorts.rest x.symbols).0 x.symbols_read in
    let c = (axioms_agree 64 x.symbols.known x.symbols.rest x.axioms).0 x.axioms_read in
    let d = (inits_agree 64 x.axioms.known x.axioms.rest x.inits).0 x.inits_read in
    let f = (actions_agree 32 x.inits.known x.inits.rest x.actions).0 x.actions_read in
    let g = (fairs_agree 16 x.actions.known x.actions.rest x.fairs).0 x.fairs_read in
    let h = (labels_agree 32 x.fairs.known x.fairs.rest x.labels).0 x.labels_read in
    let i = (witnesses_agree 16 x.labels.known x.labels.rest x.witnesses).0 x.witnesses_read in
    let j = (properties_agree 1 x.witnesses.known x.witnesses.rest x.properties).0 x.properties_read in
    let l = (invariants_agree 256 x.properties.known x.properties.rest x.invariants).0 x.invariants_read in
    let one = alone x.witnesses.known x.properties.known j.front end x.properties.items x.properties.rest x.property j.items x.property_read in
    let none = no_left x.invariants.rest x.nothing_left x.all_read in
    let same = nothing_added c.items in
    let again = nothing_added d.items ∙ same in
    let whole =
    behind a.front a.whole (behind b.front b.whole (behind c.front c.whole (behind d.front d.whole (behind f.front f.whole (behind g.front g.whole (behind h.front h.whole (behind i.front i.whole
    (j.whole ∙ ap (λ z. z ++ x.properties.rest) one.whole ∙ ap (λ z. one.tree ∷ z) (l.whole ∙ ap (λ z. l.front ++ z) none ∙ append-nil l.front))))))))) in
    subst (λ z. IsSystem z t) x.is (record {
      n = n;
      sort_trees = a.front;
      symbol_trees = b.front;
      axiom_trees = c.front;
      init_trees = d.front;
      action_trees = f.front;
      fair_trees = g.front;
      label_trees = h.front;
      witness_trees = i.front;
      property_tree = one.tree;
      invariant_trees = l.front;
      list = subst (λ z. Begins (codes "system") (n ∷ z) t) whole begins;
      name = word;
      named = form;
      with_sorts = x.sorts.known;
      with_symbols = x.symbols.known;
      with_actions = x.actions.known;
      with_fairs = x.fairs.known;
      with_labels = x.labels.known;
      with_witnesses = x.witnesses.known;
      with_all = x.invariants.known;
      sorts = a.items;
      symbols = b.items;
      axioms = unchanged (IsLone (codes "axiom") R.Axiom 58 []) 64 x.symbols.known x.axioms.known x.axioms.items c.front c.items;
      inits = unchanged (IsLone (codes "init") R.State 58 []) 64 x.symbols.known x.inits.known x.inits.items d.front (subst (λ z. Spell (IsLone (codes "init") R.State 58 []) add_nothing 64 z x.inits.items d.front x.inits.known) same d.items);
      actions = subst (λ z. Spell IsAction add_action 32 z x.actions.items f.front x.actions.known) again f.items;
      fairs = g.items;
      labels = h.items;
      witnesses = i.items;
      property = one.is;
      invariants = subst (λ z. Spell IsInvariant add_invariant 256 z x.invariants.items l.front x.invariants.known) one.known l.items;
    })

pub system_found : (t : Tree) (p : Parts) → system_of t ≡ done p → IsSystem p t
unfolding system_of
system_found t p e =
    let h = bound (headed t) _ p e in
    let q = passed (not (same_text h.0.word.text (codes "system"))) _ _ _ p h.2 in
    let a = one_more h.0.end h.0.rest _ p q.1 in
    let name = bound (system_name a.0) _ p a.3 in
    let x = name_found a.0 name.0 name.1 in
    parts_found name.0 h.0.end a.1 p t a.0 x.0 x.1 (subst (λ z. Begins (codes "system") z t) a.2 (word_begins (codes "system") t h.0 h.1 q.0)) (sectioned name.0 h.0.end a.1 p name.2)
