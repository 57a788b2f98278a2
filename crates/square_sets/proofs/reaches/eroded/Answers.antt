-- The strips lose columns and are turned; so do the strips of what is left.
use Rattle.square_sets.proofs.Common.{◌≡◌, List, w64, to_z, of_z, sym, ◌∙◌, ap, subst, rules, All, to_z-of_z, IfOk-weaker, PLANE_EDGE, Rect}
use Rattle.square_sets.proofs.Common.{IsProper, IsInUnion, IsStrips, AreSameSquares, IsBounded, IsEroded}
use Rattle.square_sets.proofs.ErosionLaws.{cores, cores_bounded, cores_proper, eroded_same, strips_cover, strips_within}
use Rattle.square_sets.proofs.reaches.eroded.Goals as goal

pub upright_cores-requires-clause-proper : goal.upright_cores-requires-clause-proper
upright_cores-requires-clause-proper c = (strips_cover (IsInUnion c.args.whole.now) c.args.whole.now c.requires.strips).0

pub upright_cores-requires-2-clause-proper : goal.upright_cores-requires-2-clause-proper
upright_cores-requires-2-clause-proper c =
    subst (All IsProper) (sym c.as_slice-2.ensures.value) (strips_cover _ c.in_ok-columns.columns.items c.in_ok-columns.ensures).0

pub upright_cores-requires-2-clause-bounded : goal.upright_cores-requires-2-clause-bounded
upright_cores-requires-2-clause-bounded c =
    let low : to_z w64 (of_z w64 c.args.low) ≡ c.args.low = to_z-of_z w64 c.args.low (search rules) in
    let high : to_z w64 (of_z w64 c.args.high) ≡ c.args.high = to_z-of_z w64 c.args.high (search rules) in
    let columns = c.in_ok-columns.columns.items in
    let rows = c.as_slice.result.now in
    let are = c.as_slice.ensures.value ∙ (rw (low, high) at c.in_ok-rows.ensures) in
    let bounded = subst (All (IsBounded PLANE_EDGE)) (sym are)
    (cores_bounded PLANE_EDGE c.args.low c.args.high c.args.whole.now c.requires.low c.requires.high c.requires.bounded) in
    subst (All (IsBounded PLANE_EDGE)) (sym c.as_slice-2.ensures.value)
    (strips_within rows columns _ bounded c.in_ok-columns.ensures)

pub returns-clause-cover : goal.returns-clause-cover
returns-clause-cover c =
    let low : to_z w64 (of_z w64 c.args.low) ≡ c.args.low = to_z-of_z w64 c.args.low (search rules) in
    let high : to_z w64 (of_z w64 c.args.high) ≡ c.args.high = to_z-of_z w64 c.args.high (search rules) in
    let whole = c.args.whole.now in
    let columns = c.in_ok-columns.columns.items in
    let rows = c.as_slice.ensures.value ∙ (rw (low, high) at c.in_ok-rows.ensures) in
    let upright = subst (λ (v : List Rect). IsStrips (IsInUnion v) columns) rows c.in_ok-columns.ensures in
    let covers = eroded_same (IsInUnion whole) c.args.low c.args.high whole columns c.requires.low c.requires.high c.requires.strips upright in
    IfOk-weaker c.upright_cores-2.result _ (λ found. AreSameSquares (IsInUnion found.items) (IsEroded c.args.low c.args.high (IsInUnion whole)))
    (λ found made. subst (λ (v : List Rect). AreSameSquares (IsInUnion v) (IsEroded c.args.low c.args.high (IsInUnion whole)))
    (sym ((rw (low, high) at made) ∙ ap (cores c.args.low c.args.high) c.as_slice-2.ensures.value)) covers) c.upright_cores-2.ensures

pub returns-clause-proper : goal.returns-clause-proper
returns-clause-proper c =
    IfOk-weaker c.upright_cores-2.result _ (λ found. All IsProper found.items)
    (λ found made. subst (All IsProper) (sym made) (cores_proper _ _ c.as_slice-2.result.now)) c.upright_cores-2.ensures
