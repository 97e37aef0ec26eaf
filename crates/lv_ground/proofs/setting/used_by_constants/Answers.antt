use Rattle.std.proofs.Common.{◌≡◌, ◌<◌, ◌+◌, length, take, get_or, Some, sym, subst, arith}
use Rattle.std.specs.Prelude.{slice_get}
use Rattle.std.proofs.lemmas.Option.{slice_get-get_or}
use Rattle.lv_formula.specs.declared.symbols.Sym.TheVariants.{Own}
use Rattle.lv_formula.specs.declared.vocabulary.ConShape.{ConShape}
use Rattle.lv_places.specs.Universes.{constant_terms}
use Rattle.lv_ground.specs.Settings.{AreUsed}
use Rattle.lv_ground.proofs.Starts.{constant_range, constants_more}
use Rattle.lv_ground.proofs.setting.used_by_constants.Goals as goal

pub use_more-requires : goal.use_more-requires
use_more-requires c =
    let d : ConShape = record { sym = Own 0; sort = record { 0 = 0 } } in
    let i = c.loop-shape.shape-index in
    let h = slice_get-get_or c.as_slice-shape-items.result.now i d c.loop-shape-test.true in
    let there : slice_get c.args.sk.now.constants i ≡ Some (get_or c.as_slice-shape-items.result.now i d) = subst
    (λ l. slice_get l i ≡ Some (get_or c.as_slice-shape-items.result.now i d)) c.as_slice-shape-items.ensures h in
    omega (arith, constant_range c.args.sk.now c.requires i (get_or c.as_slice-shape-items.result.now i d) there, c.loop-shape.invariant.len)

pub loop-shape-preserved : goal.loop-shape-preserved
loop-shape-preserved c =
    let d : ConShape = record { sym = Own 0; sort = record { 0 = 0 } } in
    let i = c.loop-shape.shape-index in
    let x = get_or c.as_slice-shape-items.result.now i d in
    let h = slice_get-get_or c.as_slice-shape-items.result.now i d c.loop-shape-test.true in
    let there : slice_get c.args.sk.now.constants i ≡ Some x = subst (λ l. slice_get l i ≡ Some x) c.as_slice-shape-items.ensures h in
    let l : i < length c.args.sk.now.constants = subst (λ xs. i < length xs) c.as_slice-shape-items.ensures c.loop-shape-test.true in
    subst (AreUsed c.args.sk.now (λ s. length (constant_terms s (take (i + 1) c.args.sk.now.constants)))) (sym c.in_ok-use_more.ensures.after)
    (constants_more c.args.sk.now c.requires c.loop-shape.used.items i x l there c.loop-shape.invariant)
