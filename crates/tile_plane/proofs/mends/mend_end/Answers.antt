use Rattle.tile_plane.proofs.Common.{◌∙◌, ap, subst, opposite, Side, LeadTo, along}
use Rattle.tile_plane.proofs.MendedLaws.{near_partition, near_side, far_partition, far_side, end_redirected}
use Rattle.tile_plane.proofs.mends.mend_end.Goals as goal
use Rattle.tile_plane.proofs.mends.mend_end.Goals.{After-mend_side-2}

second : (c : After-mend_side-2) → LeadTo (opposite (along c.args.side)) c.args.end.now.area c.args.id c.mend_side.new.store c.mend_side-2.new.store
second c = subst (λ (s : Side). LeadTo (opposite s) c.args.end.now.area c.args.id c.mend_side.new.store c.mend_side-2.new.store) c.along-near.ensures
    c.mend_side-2.ensures

pub mend_side-requires-2-clause-partition : goal.mend_side-requires-2-clause-partition
mend_side-requires-2-clause-partition c = near_partition c.requires.partition c.requires.end c.mend_side.ensures

pub mend_side-requires-2-clause-side : goal.mend_side-requires-2-clause-side
mend_side-requires-2-clause-side c =
    rw (c.stitch-2.ensures, c.along-near.ensures) (near_side c.requires.partition c.requires.end c.mend_side.ensures)

pub mend_side-requires-3-clause-partition : goal.mend_side-requires-3-clause-partition
mend_side-requires-3-clause-partition c =
    far_partition c.requires.partition c.requires.end c.mend_side.ensures (second (goal.at.mend_side-requires-3-clause-partition c).After-mend_side-2)

pub mend_side-requires-3-clause-side : goal.mend_side-requires-3-clause-side
mend_side-requires-3-clause-side c =
    rw (c.stitch-3.ensures, c.opposite-far.ensures, c.along-near.ensures)
    (far_side c.requires.partition c.requires.end c.mend_side.ensures (second (goal.at.mend_side-requires-3-clause-side c).After-mend_side-2))

pub returns : goal.returns
returns c =
    let third = subst (λ (s : Side). LeadTo (opposite s) c.args.end.now.area c.args.id c.mend_side-2.new.store c.mend_side-3.new.store)
    (c.opposite-far.ensures ∙ ap opposite c.along-near.ensures) c.mend_side-3.ensures in
    end_redirected c.requires.partition c.requires.end c.mend_side.ensures (second (goal.at.returns c).After-mend_side-2) third
