use Rattle.tile_plane.proofs.Common.{◌≡◌, ℤ, w64, to_z, of_z, subst, arith, ints, to_z-of_z, IsCutAcross}
use Rattle.tile_plane.proofs.cuts.cut_in_two.Goals as goal

pub overflow_sub-below : goal.overflow_sub-below
overflow_sub-below c =
    let within = c.requires.partition.within c.args.id c.requires.taken in
    rw c.get.ensures (omega (arith, ints))

pub overflow_sub-above : goal.overflow_sub-above
overflow_sub-above c =
    let within = c.requires.partition.within c.args.id c.requires.taken in
    rw c.get.ensures (omega (arith, ints))

pub returns-then-below-above-clause-cut : goal.returns-then-below-above-clause-cut
returns-then-below-above-clause-cut c =
    let same : to_z w64 (of_z w64 c.args.y) ≡ c.args.y = to_z-of_z w64 c.args.y c.ranges.y in
    subst (λ (v : ℤ). IsCutAcross c.args.id c.in_ok-lower.lower c.args.id v c.args.store.now c.split_off.new.store) same c.in_ok-lower.ensures.cut

pub returns-clause-cut : goal.returns-clause-cut
returns-clause-cut c =
    let same : to_z w64 (of_z w64 c.args.y) ≡ c.args.y = to_z-of_z w64 c.args.y c.ranges.y in
    subst (λ (v : ℤ). IsCutAcross c.args.id c.args.id c.in_ok-upper.upper v c.args.store.now c.split_off-2.new.store) same c.in_ok-upper.ensures.cut
