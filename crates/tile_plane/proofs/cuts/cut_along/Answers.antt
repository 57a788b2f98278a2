use Rattle.tile_plane.proofs.Common.{◌≡◌, ℤ, w64, to_z, of_z, refl, sym, ◌∙◌, ap, subst, arith, rules, ints, to_z-of_z, Tile, tile_at, Owns}
use Rattle.tile_plane.proofs.Common.{square_at}
use Rattle.tile_plane.proofs.TileLaws.{owner_taken}
use Rattle.tile_plane.proofs.WalkLaws.{extent_falls}
use Rattle.tile_plane.proofs.RowCuts.{IsSamePlane}
use Rattle.tile_plane.proofs.ColumnCuts.{IsColumnStep, column_step, column_next}
use Rattle.tile_plane.proofs.cuts.cut_along.Goals as goal
use Rattle.tile_plane.proofs.cuts.cut_along.Goals.{After-get-y}

end : (c : After-get-y) → to_z w64 (of_z w64 c.get-y.result.area.yhi) ≡ (tile_at c.part_after.new.store c.in_ok-id.id).area.yhi
end c = to_z-of_z w64 c.get-y.result.area.yhi (search rules) ∙ ap (λ (t : Tile). t.area.yhi) c.get-y.ensures

-- the part is cut, and the column is done up to its end
stepped : (c : After-get-y) → IsColumnStep c.args.area.now (to_z w64 (of_z w64 c.args.x)) (to_z w64 c.column.y-bits) c.args.store.now c.part_after.new.store
    c.in_ok-id.id (to_z w64 (of_z w64 c.get-y.result.area.yhi))
stepped c =
    let part = c.in_ok-id.ensures in
    column_step c.args.area.now _ _ c.args.store.now c.column.store c.part_after.new.store c.column.id c.in_ok-id.id _ c.column.invariant.cutting
    c.column.invariant.walk (omega (arith, ints)) part.partition part.part (end c)

plane : (c : After-get-y) → IsSamePlane c.args.store.now c.part_after.new.store
plane c =
    let part = c.in_ok-id.ensures in
    record { partition = part.partition; stitches = part.stitches; same = λ s. part.same s ∙ c.column.invariant.plane.same s }

pub get-y-requires : goal.get-y-requires
get-y-requires c =
    let part = c.in_ok-id.ensures in
    let step = column_step c.args.area.now _ _ c.args.store.now c.column.store c.part_after.new.store c.column.id c.in_ok-id.id
    (tile_at c.part_after.new.store c.in_ok-id.id).area.yhi
    c.column.invariant.cutting c.column.invariant.walk (omega (arith, ints)) part.partition part.part refl in
    step.taken

pub above_at-id-requires-clause-taken : goal.above_at-id-requires-clause-taken
above_at-id-requires-clause-taken c = (stepped (goal.at.above_at-id-requires-clause-taken c).After-get-y).taken

pub above_at-id-requires-clause-to : goal.above_at-id-requires-clause-to
above_at-id-requires-clause-to c = (stepped (goal.at.above_at-id-requires-clause-to c).After-get-y).owns.covers.left_of_xhi

pub column-preserved-then-y-area : goal.column-preserved-then-y-area
column-preserved-then-y-area c =
    let at = (goal.at.column-preserved-then-y-area c).After-get-y in
    let step = stepped at in
    let walk = c.column.invariant.walk in
    let ahead = step.ahead in
    let is = end at in
    let within = c.in_ok-id.ensures.partition.within c.in_ok-id.id step.taken in
    let next = c.above_at-id.ensures (let branch = c.if-y-area.true in let bounds = c.requires in let from = walk.bound in omega (arith, ints)) in
    record {
      plane = plane at;
      cutting = step.cutting;
      walk = column_next c.args.area.now _ _ c.args.store.now _ _ _ _ step walk.bound is (λ again. next) (owner_taken _ _ _ next);
    }

pub column-preserved : goal.column-preserved
column-preserved c =
    let at = (goal.at.column-preserved c).After-get-y in
    let step = stepped at in
    record {
      plane = plane at;
      cutting = step.cutting;
      walk = column_next c.args.area.now _ _ c.args.store.now _ _ _ _ step c.column.invariant.walk.bound (end at)
          (λ again. absurd (omega (arith, ints))) step.taken;
    }

pub column-smaller-then-y-area : goal.column-smaller-then-y-area
column-smaller-then-y-area c =
    extent_falls _ _ c.args.area.now.yhi (stepped (goal.at.column-smaller-then-y-area c).After-get-y).ahead (omega (arith, ints))

pub column-smaller : goal.column-smaller
column-smaller c =
    extent_falls _ _ c.args.area.now.yhi (stepped (goal.at.column-smaller c).After-get-y).ahead (omega (arith, ints))

pub returns-clause-at : goal.returns-clause-at
returns-clause-at c =
    let walk = c.column.invariant.walk in
    let same_x : to_z w64 (of_z w64 c.args.x) ≡ c.args.x = to_z-of_z w64 c.args.x c.ranges.x in
    record {
      begin = λ k y p q owns. walk.at.begin k y p (omega (arith, ints)) (subst (λ (v : ℤ). Owns c.column.store k (square_at v y)) (sym same_x) owns)
          ∙ same_x;
    }
