use Rattle.tile_plane.proofs.Common.{◌≡◌, ℤ, w64, to_z, of_z, refl, sym, ◌∙◌, ap, subst, arith, rules, ints, to_z-of_z, Tile, tile_at, Owns}
use Rattle.tile_plane.proofs.Common.{square_at}
use Rattle.tile_plane.proofs.TileLaws.{owner_taken}
use Rattle.tile_plane.proofs.WalkLaws.{extent_falls}
use Rattle.tile_plane.proofs.RowCuts.{IsSamePlane, IsRowStep, row_step, row_next}
use Rattle.tile_plane.proofs.cuts.cut_across.Goals as goal
use Rattle.tile_plane.proofs.cuts.cut_across.Goals.{After-get-x}

end : (c : After-get-x) → to_z w64 (of_z w64 c.get-x.result.area.xhi) ≡ (tile_at c.part_from.new.store c.in_ok-id.id).area.xhi
end c = to_z-of_z w64 c.get-x.result.area.xhi (search rules) ∙ ap (λ (t : Tile). t.area.xhi) c.get-x.ensures

-- the part is cut, and the row is done up to its end
stepped : (c : After-get-x) → IsRowStep c.args.area.now (to_z w64 (of_z w64 c.args.y)) (to_z w64 c.row.x-bits) c.args.store.now c.part_from.new.store
    c.in_ok-id.id (to_z w64 (of_z w64 c.get-x.result.area.xhi))
stepped c =
    let part = c.in_ok-id.ensures in
    row_step c.args.area.now _ _ c.args.store.now c.row.store c.part_from.new.store c.row.id c.in_ok-id.id _ c.row.invariant.cutting c.row.invariant.walk
    (omega (arith, ints)) part.partition part.part (end c)

plane : (c : After-get-x) → IsSamePlane c.args.store.now c.part_from.new.store
plane c =
    let part = c.in_ok-id.ensures in
    record { partition = part.partition; stitches = part.stitches; same = λ s. part.same s ∙ c.row.invariant.plane.same s }

pub get-x-requires : goal.get-x-requires
get-x-requires c =
    let part = c.in_ok-id.ensures in
    let step = row_step c.args.area.now _ _ c.args.store.now c.row.store c.part_from.new.store c.row.id c.in_ok-id.id
    (tile_at c.part_from.new.store c.in_ok-id.id).area.xhi
    c.row.invariant.cutting c.row.invariant.walk (omega (arith, ints)) part.partition part.part refl in
    step.taken

pub right_at-id-requires-clause-taken : goal.right_at-id-requires-clause-taken
right_at-id-requires-clause-taken c = (stepped (goal.at.right_at-id-requires-clause-taken c).After-get-x).taken

pub right_at-id-requires-clause-to : goal.right_at-id-requires-clause-to
right_at-id-requires-clause-to c = (stepped (goal.at.right_at-id-requires-clause-to c).After-get-x).owns.covers.below_yhi

pub row-preserved-then-x-area : goal.row-preserved-then-x-area
row-preserved-then-x-area c =
    let at = (goal.at.row-preserved-then-x-area c).After-get-x in
    let step = stepped at in
    let walk = c.row.invariant.walk in
    let ahead = step.ahead in
    let is = end at in
    let within = c.in_ok-id.ensures.partition.within c.in_ok-id.id step.taken in
    let next = c.right_at-id.ensures (let branch = c.if-x-area.true in let bounds = c.requires in let from = walk.bound in omega (arith, ints)) in
    record {
      plane = plane at;
      cutting = step.cutting;
      walk = row_next c.args.area.now _ _ c.args.store.now _ _ _ _ step walk.bound is (λ again. next) (owner_taken _ _ _ next);
    }

pub row-preserved : goal.row-preserved
row-preserved c =
    let at = (goal.at.row-preserved c).After-get-x in
    let step = stepped at in
    record {
      plane = plane at;
      cutting = step.cutting;
      walk = row_next c.args.area.now _ _ c.args.store.now _ _ _ _ step c.row.invariant.walk.bound (end at) (λ again. absurd (omega (arith, ints))) step.taken;
    }

pub row-smaller-then-x-area : goal.row-smaller-then-x-area
row-smaller-then-x-area c =
    extent_falls _ _ c.args.area.now.xhi (stepped (goal.at.row-smaller-then-x-area c).After-get-x).ahead (omega (arith, ints))

pub row-smaller : goal.row-smaller
row-smaller c =
    extent_falls _ _ c.args.area.now.xhi (stepped (goal.at.row-smaller c).After-get-x).ahead (omega (arith, ints))

pub returns-clause-at : goal.returns-clause-at
returns-clause-at c =
    let walk = c.row.invariant.walk in
    let same_y : to_z w64 (of_z w64 c.args.y) ≡ c.args.y = to_z-of_z w64 c.args.y c.ranges.y in
    record {
      begin = λ k x p q owns. walk.at.begin k x p (omega (arith, ints)) (subst (λ (v : ℤ). Owns c.row.store k (square_at x v)) (sym same_y) owns)
          ∙ same_y;
    }
