-- The tiles of the next plane are a run, and contacts of it are added to those of the planes before.
use Rattle.flood_nodes.proofs.RunLaws.{run_ordered, run_apart, shared_none, shared_more, shared_all}
use Rattle.flood_nodes.proofs.sharing.contacts_of.Goals as goal

pub loop-plane-init : goal.loop-plane-init
loop-plane-init c = shared_none c.args.tiles.now _ c.new-contacts.ensures.items

pub slice_bounds-add_contacts-count : goal.slice_bounds-add_contacts-count
slice_bounds-add_contacts-count c =
    run_ordered c.args.tiles.now c.loop-plane.plane c.loop-plane.start c.tiles_up_to-end.result _ c.loop-plane.invariant c.tiles_up_to-end.ensures.within
    c.tiles_up_to-end.ensures.below c.tiles_up_to-end.ensures.above

pub slice_bounds-add_contacts-start : goal.slice_bounds-add_contacts-start
slice_bounds-add_contacts-start c =
    run_ordered c.args.tiles.now c.loop-plane.plane c.loop-plane.start c.tiles_up_to-end.result _ c.loop-plane.invariant c.tiles_up_to-end.ensures.within
    c.tiles_up_to-end.ensures.below c.tiles_up_to-end.ensures.above

pub add_contacts-requires-clause-apart : goal.add_contacts-requires-clause-apart
add_contacts-requires-clause-apart c =
    run_apart c.args.tiles.now c.loop-plane.plane c.loop-plane.start c.tiles_up_to-end.result _ c.loop-plane.invariant c.tiles_up_to-end.ensures.within
    c.tiles_up_to-end.ensures.below c.tiles_up_to-end.ensures.above c.requires.spread.apart

pub loop-plane-preserved : goal.loop-plane-preserved
loop-plane-preserved c =
    shared_more c.args.tiles.now c.loop-plane.plane c.loop-plane.start c.tiles_up_to-end.result _ c.loop-plane.invariant c.tiles_up_to-end.ensures.within
    c.tiles_up_to-end.ensures.below c.tiles_up_to-end.ensures.above _ c.in_ok-add_contacts.ensures

pub returns : goal.returns
returns c = shared_all c.args.tiles.now c.loop-plane.plane c.args.planes c.loop-plane.start _ c.requires.planes c.loop-plane-test.false c.loop-plane.invariant
