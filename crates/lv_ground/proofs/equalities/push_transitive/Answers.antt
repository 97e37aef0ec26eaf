use Rattle.std.proofs.Common.{◌≡◌, ◌∷◌, ◌++◌, [], ap, ◌∙◌, eqb, true}
use Rattle.std.specs.Prelude.{◌||◌}
use Rattle.std.proofs.lemmas.Bool.{eq-eqb, ne_eqb, or_left, or_right, or_from}
use Rattle.lv_cnf.specs.Literals.{negative_literal}
use Rattle.lv_places.specs.declared.grounded.GroundAtom.TheVariants.{Equal}
use Rattle.lv_places.specs.Universes.{term}
use Rattle.lv_places.specs.Equality.{is, is_not}
use Rattle.lv_ground.proofs.Making.{made_three, on_ok, makes_skip, makes_unless}
use Rattle.lv_ground.proofs.equalities.push_transitive.Goals.{then-a-b-via-then-a-b, then-a-b-via-else-a-b+then-b-c, then-a-b-via-else-a-b+else-b-c+then-a-c}
use Rattle.lv_ground.proofs.equalities.push_transitive.Goals as goal

pub returns-then-a-b : goal.returns-then-a-b
returns-then-a-b c =
    let x = c.args.a in
    let y = c.args.b in
    let z = c.args.c in
    let skipped : (eqb x y || (eqb y z || eqb x z)) ≡ true = elim c.then-a-b.branch [
      | then-a-b-via-then-a-b w ↦ or_left _ _ (eq-eqb x y w.if-a-b.true)
      | then-a-b-via-else-a-b+then-b-c w ↦ or_right _ _ (or_left _ _ (eq-eqb y z w.if-b-c.true))
      | then-a-b-via-else-a-b+else-b-c+then-a-c w ↦ or_right _ _ (or_right _ _ (eq-eqb x z w.if-a-c.true))
    ] in
    makes_skip c.args.setting.now c.args.made.now (eqb x y || (eqb y z || eqb x z)) _ skipped c.requires.marked

pub returns : goal.returns
returns c =
    let out = c.args.made.now.clauses.items in
    let s = c.args.sort in
    let x = c.args.a in
    let y = c.args.b in
    let z = c.args.c in
    let a = is_not (Equal (term s x) (term s y)) in
    let b = is_not (Equal (term s y) (term s z)) in
    let d = is (Equal (term s x) (term s z)) in
    let test = eqb x y || (eqb y z || eqb x z) in
    on_ok c.push_clause.result c.push_clause.ensures (λ e. makes_unless c.args.setting.now c.args.made.now _ test ((a ∷ b ∷ d ∷ []) ∷ [])
    (or_from _ _ (ne_eqb x y c.if-a-b.false) (or_from _ _ (ne_eqb y z c.if-b-c.false) (ne_eqb x z c.if-a-c.false))) (record {
      made = made_three c.args.made.now.atoms.list.items out c.push_clause.new.clauses.items a b d c.equal.new.atoms.list.items
          c.equal-2.new.atoms.list.items c.equal-3.new.atoms.list.items
          c.in_ok-first.first c.in_ok-second.second c.in_ok-both.both c.in_ok-first.ensures.list c.in_ok-second.ensures.list c.in_ok-both.ensures.list
          c.in_ok-first.ensures.number c.in_ok-second.ensures.number c.in_ok-both.ensures.number
          (e ∙ ap (λ l. out ++ (l ∷ c.negative-2.result ∷ c.positive.result ∷ []) ∷ []) c.negative.ensures
          ∙ ap (λ l. out ++ (negative_literal c.in_ok-first.first ∷ l ∷ c.positive.result ∷ []) ∷ []) c.negative-2.ensures
          ∙ ap (λ l. out ++ (negative_literal c.in_ok-first.first ∷ negative_literal c.in_ok-second.second ∷ l ∷ []) ∷ []) c.positive.ensures);
      marked = c.in_ok-both.ensures.marked;
    }))
