use Rattle.run_plane.proofs.Common.{ℤ, List, sym, subst, All, IsSmall, edge, AreAbove, AreRowsFor}
use Rattle.run_plane.proofs.BandLaws.{heights_above, heights_small, rows_next, set_next}
use Rattle.run_plane.proofs.changes.change_for.Goals as goal

pub returns-clause-rows : goal.returns-clause-rows
returns-clause-rows c =
    let for = subst (λ (heights : List ℤ). AreRowsFor c.args.rows.now c.args.pieces.now heights c.in_ok-changed.changed.items) c.as_slice.ensures.value
    c.in_ok-changed.ensures in
    rows_next c.args.rows.now c.args.pieces.now c.requires.rows c.requires.proper c.requires.near c.in-Some.span c.in-Some.ensures.some
    c.band_of-band.result c.band_of-band.ensures c.in_ok-heights.heights.items c.in_ok-heights.ensures c.in_ok-changed.changed.items for

pub returns-clause-set : goal.returns-clause-set
returns-clause-set c =
    let for = subst (λ (heights : List ℤ). AreRowsFor c.args.rows.now c.args.pieces.now heights c.in_ok-changed.changed.items) c.as_slice.ensures.value
    c.in_ok-changed.ensures in
    set_next c.args.rows.now c.args.pieces.now c.requires.rows c.requires.proper c.requires.near c.in-Some.span c.in-Some.ensures.some
    c.band_of-band.result c.band_of-band.ensures c.in_ok-heights.heights.items c.in_ok-heights.ensures c.in_ok-changed.changed.items for

pub rows_for-requires-clause-above : goal.rows_for-requires-clause-above
rows_for-requires-clause-above c =
    subst (AreAbove edge) (sym c.as_slice.ensures.value)
    (heights_above c.args.rows.now c.args.pieces.now c.requires.rows c.requires.proper c.requires.near c.in-Some.span c.in-Some.ensures.some
    c.band_of-band.result c.band_of-band.ensures c.in_ok-heights.heights.items c.in_ok-heights.ensures)

pub rows_for-requires-clause-small : goal.rows_for-requires-clause-small
rows_for-requires-clause-small c =
    subst (All IsSmall) (sym c.as_slice.ensures.value)
    (heights_small c.args.rows.now c.args.pieces.now c.requires.rows c.requires.proper c.requires.near c.in-Some.span c.in-Some.ensures.some
    c.band_of-band.result c.band_of-band.ensures c.in_ok-heights.heights.items c.in_ok-heights.ensures)
