use Rattle.hier_merge.proofs.Common.{List, sym, subst, arith, All, AllPairs, Rect, AreDisjoint, IsNear, IsStrips, IsShared, IsLawfulBox, tree_at}
use Rattle.hier_merge.proofs.Common.{seen, AreVisits}
use Rattle.geo_core.proofs.StripSets.{strips_apart}
use Rattle.hier_merge.proofs.NearAreas.{areas_are_near, strips_are_proper}
use Rattle.hier_merge.proofs.WorkLaws.{visited_work, within_work}
use Rattle.hier_merge.proofs.interactions.meeting_tiles.Goals as goal

pub visit_all-requires-clause-near : goal.visit_all-requires-clause-near
visit_all-requires-clause-near g c =
    subst (All IsNear) (sym c.as_slice-2.ensures.value)
    (areas_are_near c.as_slice.result.now c.in_ok-areas.areas.items
    (subst (All IsLawfulBox) (sym c.as_slice.ensures.value) c.in_ok-boxes.ensures.lawful)
    (strips_are_proper (IsShared c.as_slice.result.now) c.in_ok-areas.areas.items c.in_ok-areas.ensures.strips)
    c.in_ok-areas.ensures.within)

pub returns-in_err-found-clause-steps : goal.returns-in_err-found-clause-steps
returns-in_err-found-clause-steps g c work is =
    let bound =
    within_work c.args.library.now c.lawful.ensures c.args.cell.0 c.in_ok-boxes.boxes.items c.as_slice.result.now c.in_ok-areas.areas.items
    c.as_slice-2.result.now c.part_boxes.new.steps c.visit_all.new.steps c.in_ok-boxes.ensures.boxes c.as_slice.ensures.value
    c.in_ok-areas.ensures.strips c.as_slice-2.ensures.value c.visit_all.ensures.steps work is in
    omega (arith, bound, c.part_boxes.ensures.step)

pub returns-clause-tiles : goal.returns-clause-tiles
returns-clause-tiles g c =
    let library = c.args.library.now in
    let boxes = c.in_ok-boxes.boxes.items in
    let areas = c.in_ok-areas.areas.items in
    record {
      boxes = boxes;
      hold = c.in_ok-boxes.ensures.hold;
      areas = areas;
      are_areas = subst (λ (b : List Rect). IsStrips (IsShared b) areas) c.as_slice.ensures.value c.in_ok-areas.ensures.strips;
      near = areas_are_near c.as_slice.result.now areas
          (subst (All IsLawfulBox) (sym c.as_slice.ensures.value) c.in_ok-boxes.ensures.lawful)
          (strips_are_proper (IsShared c.as_slice.result.now) areas c.in_ok-areas.ensures.strips)
          c.in_ok-areas.ensures.within;
      visits = subst (λ (a : List Rect). AreVisits library.tech (tree_at (seen library) c.args.cell.0) a c.in_ok-found.found.tiles.items)
          c.as_slice-2.ensures.value c.in_ok-found.ensures.tiles;
    }

pub returns-clause-seams : goal.returns-clause-seams
returns-clause-seams g c =
    c.in_ok-found.ensures.seams (subst (AllPairs AreDisjoint) (sym c.as_slice-2.ensures.value)
    (strips_apart (IsShared c.as_slice.result.now) c.in_ok-areas.areas.items c.in_ok-areas.ensures.strips))

pub returns-clause-steps : goal.returns-clause-steps
returns-clause-steps g c work is =
    let bound =
    within_work c.args.library.now c.lawful.ensures c.args.cell.0 c.in_ok-boxes.boxes.items c.as_slice.result.now c.in_ok-areas.areas.items
    c.as_slice-2.result.now c.part_boxes.new.steps c.visit_all.new.steps c.in_ok-boxes.ensures.boxes c.as_slice.ensures.value
    c.in_ok-areas.ensures.strips c.as_slice-2.ensures.value c.visit_all.ensures.steps work is in
    omega (arith, bound, c.part_boxes.ensures.step)

pub returns-clause-counted : goal.returns-clause-counted
returns-clause-counted g c =
    let counted = c.in_ok-found.ensures.counted in
    omega (arith, counted, c.part_boxes.ensures.step)

pub returns-clause-work : goal.returns-clause-work
returns-clause-work g c =
    visited_work c.args.library.now c.lawful.ensures c.args.cell.0 c.in_ok-boxes.boxes.items c.as_slice.result.now c.in_ok-areas.areas.items
    c.as_slice-2.result.now c.in_ok-found.found.tiles.items c.in_ok-boxes.ensures.boxes c.as_slice.ensures.value c.in_ok-areas.ensures.strips
    c.as_slice-2.ensures.value c.in_ok-found.ensures.tiles
