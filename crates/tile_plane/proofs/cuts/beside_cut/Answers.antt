use Rattle.tile_plane.proofs.Common.{◌≡◌, ℤ, pos, ◌-ℤ◌, ◌<ℤ◌, w64, to_z, of_z, subst, arith, ints, to_z-of_z, tile_at, Leads, square_at, low_of}
use Rattle.tile_plane.proofs.Common.{Side}
use Rattle.tile_plane.specs.steps.Cuts.{high_of}
use Rattle.tile_plane.proofs.cuts.beside_cut.Goals as goal

pub overflow_sub-at-in-Left : goal.overflow_sub-at-in-Left
overflow_sub-at-in-Left c =
    let within = c.requires.partition.within c.args.id c.requires.taken in
    let same : to_z w64 (of_z w64 c.args.at) ≡ c.args.at = to_z-of_z w64 c.args.at c.ranges.at in
    let from = subst (λ (s : Side). low_of s (tile_at c.args.store.now c.args.id).area <ℤ c.args.at) c.in-Left.is c.requires.from in
    omega (arith, ints)

pub above_at-requires-clause-to : goal.above_at-requires-clause-to
above_at-requires-clause-to c =
    let same : to_z w64 (of_z w64 c.args.at) ≡ c.args.at = to_z-of_z w64 c.args.at c.ranges.at in
    let within = c.requires.partition.within c.args.id c.requires.taken in
    let from = subst (λ (s : Side). low_of s (tile_at c.args.store.now c.args.id).area <ℤ c.args.at) c.in-Left.is c.requires.from in
    let to = subst (λ (s : Side). c.args.at <ℤ high_of s (tile_at c.args.store.now c.args.id).area) c.in-Left.is c.requires.to in
    omega (arith, ints)

pub returns-in-Above : goal.returns-in-Above
returns-in-Above c =
    rw c.in-Above.is (subst (λ (v : ℤ). Leads c.args.store.now c.left_at.result (square_at ((tile_at c.args.store.now c.args.id).area.xlo -ℤ pos 1) v))
    (to_z-of_z w64 c.args.at c.ranges.at) c.left_at.ensures)

pub returns-in-Right : goal.returns-in-Right
returns-in-Right c =
    rw c.in-Right.is (subst (λ (v : ℤ). Leads c.args.store.now c.below_at.result (square_at v ((tile_at c.args.store.now c.args.id).area.ylo -ℤ pos 1)))
    (to_z-of_z w64 c.args.at c.ranges.at) c.below_at.ensures)

pub returns-in-Below : goal.returns-in-Below
returns-in-Below c =
    let same : to_z w64 (of_z w64 c.args.at) ≡ c.args.at = to_z-of_z w64 c.args.at c.ranges.at in
    let within = c.requires.partition.within c.args.id c.requires.taken in
    let from = subst (λ (s : Side). low_of s (tile_at c.args.store.now c.args.id).area <ℤ c.args.at) c.in-Below.is c.requires.from in
    let before : to_z w64 (of_z w64 (to_z w64 (of_z w64 c.args.at) -ℤ pos 1)) ≡ c.args.at -ℤ pos 1 = omega (arith, ints) in
    rw c.in-Below.is (subst (λ (v : ℤ). Leads c.args.store.now c.right_at.result (square_at (tile_at c.args.store.now c.args.id).area.xhi v))
    before
    c.right_at.ensures)

pub returns-in-Left : goal.returns-in-Left
returns-in-Left c =
    let same : to_z w64 (of_z w64 c.args.at) ≡ c.args.at = to_z-of_z w64 c.args.at c.ranges.at in
    let within = c.requires.partition.within c.args.id c.requires.taken in
    let from = subst (λ (s : Side). low_of s (tile_at c.args.store.now c.args.id).area <ℤ c.args.at) c.in-Left.is c.requires.from in
    let before : to_z w64 (of_z w64 (to_z w64 (of_z w64 c.args.at) -ℤ pos 1)) ≡ c.args.at -ℤ pos 1 = omega (arith, ints) in
    rw c.in-Left.is (subst (λ (v : ℤ). Leads c.args.store.now c.above_at.result (square_at v (tile_at c.args.store.now c.args.id).area.yhi))
    before
    c.above_at.ensures)
