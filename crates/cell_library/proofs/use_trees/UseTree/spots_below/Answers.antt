use Rattle.cell_library.proofs.Common.{◌+◌, get_or, refl, subst, arith, rules, UsePlace, AddsSpots, spots_of_use, IsApart}
use Rattle.cell_library.proofs.UseSearches.{found_below, place_fits, place_found, room_found, search_end, search_next, search_of, start_there}
use Rattle.cell_library.proofs.UseSums.{use_known}
use Rattle.cell_library.proofs.use_trees.UseTree.spots_below.Goals as goal

pub index-requires : goal.index-requires
index-requires c =
    let search = search_of _ _ _ _ _ _ _ c.requires.lawful c.requires.room c.requires.uses c.in_ok-met.ensures c.deref-k-items.ensures.value in
    omega (arith, start_there _ _ _ _ _ _ search c.loop-k.k-index c.loop-k-test.true, c.args.self.now.starts.ok.0)

pub place_at-from-requires : goal.place_at-from-requires
place_at-from-requires c =
    let search = search_of _ _ _ _ _ _ _ c.requires.lawful c.requires.room c.requires.uses c.in_ok-met.ensures c.deref-k-items.ensures.value in
    let fits = place_fits _ _ _ _ _ _ search c.loop-k.k-index c.index.result.now c.loop-k-test.true c.index.ensures in
    record { part = fits.0; element = fits.1 }

pub use_of-requires-clause-place : goal.use_of-requires-clause-place
use_of-requires-clause-place c =
    let search = search_of _ _ _ _ _ _ _ c.requires.lawful c.requires.room c.requires.uses c.in_ok-met.ensures c.deref-k-items.ensures.value in
    found_below _ _ _ _ _ _ search c.loop-k.k-index c.loop-k-test.true

pub add_use-requires : goal.add_use-requires
add_use-requires c =
    let sought = search_of _ _ _ _ _ _ _ c.requires.lawful c.requires.room c.requires.uses c.in_ok-met.ensures c.deref-k-items.ensures.value in
    let at = use_known _ _ _ c.use_of.result.now c.requires.lawful c.requires.room.cell c.use_of.ensures in
    let room =
    room_found _ _ _ _ _ _ sought c.loop-k.k-index c.index.result.now c.place_at-from.result _ c.loop-k-test.true c.index.ensures c.place_at-from.ensures
    at in
    record {
      lawful = c.requires.lawful;
      child = at.child;
      used = at.lawful;
      moves = search rules;
      parts = room.parts;
      elements = room.elements;
      back = c.requires.back;
    }

pub loop-k-preserved : goal.loop-k-preserved
loop-k-preserved c =
    let search = search_of _ _ _ _ _ _ _ c.requires.lawful c.requires.room c.requires.uses c.in_ok-met.ensures c.deref-k-items.ensures.value in
    let used = c.use_of.result.now in
    let at = use_known _ _ _ used c.requires.lawful c.requires.room.cell c.use_of.ensures in
    let placed =
    place_found _ _ _ _ _ _ search c.loop-k.k-index c.index.result.now c.place_at-from.result c.loop-k-test.true c.index.ensures
    c.place_at-from.ensures in
    search_next _ _ _ _ _ _ search c.loop-k.k-index (c.loop-k.k-index + 1) (get_or c.deref-k-items.result.now c.loop-k.k-index 0) used
    c.loop-k.found.items c.add_use.new.found.items c.loop-k.invariant c.loop-k-test.true refl refl at
    (subst (λ (from : UsePlace). AddsSpots (IsApart c.args.tree.now.sizes from.outer c.args.back) (spots_of_use c.args.tree.now.sizes from used)
    c.loop-k.found.items c.add_use.new.found.items) placed c.in_ok-add_use.ensures)

pub returns : goal.returns
returns c =
    let search = search_of _ _ _ _ _ _ _ c.requires.lawful c.requires.room c.requires.uses c.in_ok-met.ensures c.deref-k-items.ensures.value in
    search_end _ _ _ _ _ _ search c.loop-k.k-index c.loop-k.found.items c.loop-k.invariant c.loop-k-test.false
