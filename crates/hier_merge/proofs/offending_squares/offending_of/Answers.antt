use Rattle.hier_merge.proofs.Common.{List, length, sym, subst, arith, RawTech, parts_in, OffendsOn, PartTile, tree_at, seen, HaveTypedParts}
use Rattle.hier_merge.proofs.Common.{parts_of_plane, AreSeams, AreStripsByPlane}
use Rattle.meeting_laws.specs.HierarchyModel.Laws.{CleanCellsKeepWhatTheyHave}
use Rattle.hier_merge.proofs.FoundPieces.{typed_parts}
use Rattle.hier_merge.proofs.MeetingOffences.{clean_without_strips, meeting_tiles_are_of_parts, meeting_tiles_have_types, offences_of_tiles}
use Rattle.hier_merge.proofs.offending_squares.offending_of.Goals as goal

pub offending_by_plane-requires-clause-typed : goal.offending_by_plane-requires-clause-typed
offending_by_plane-requires-clause-typed g c =
    let library = c.args.library.now in
    let tree = tree_at (seen library) c.args.cell.0 in
    let tiles = c.in_ok-tiles.field-0.tiles.items in
    subst (λ (raw : RawTech). HaveTypedParts raw c.as_slice.result.now) (sym c.tech-2.ensures)
    (subst (HaveTypedParts library.tech) (sym c.as_slice.ensures.value)
    (typed_parts library.tech tree c.lawful.ensures.well_formed c.lawful.ensures.rules c.typed.ensures c.requires.clean tiles
    c.in_ok-tiles.ensures.tiles))

pub offending_by_plane-requires-clause-seams : goal.offending_by_plane-requires-clause-seams
offending_by_plane-requires-clause-seams g c =
    let seams = c.in_ok-tiles.field-0.seams.items in
    subst (λ (t : List PartTile). AreSeams t c.as_slice-2.result.now) (sym c.as_slice.ensures.value)
    (subst (AreSeams c.in_ok-tiles.field-0.tiles.items) (sym c.as_slice-2.ensures.value) c.in_ok-tiles.ensures.seams)

pub returns-clause-squares : goal.returns-clause-squares
returns-clause-squares g c =
    let library = c.args.library.now in
    let tree = tree_at (seen library) c.args.cell.0 in
    let tiles = c.in_ok-tiles.field-0.tiles.items in
    let found = c.in_ok-found.found.items in
    let typed : HaveTypedParts library.tech tiles = record {
      count = length (parts_in library.tech tree);
      of_parts = meeting_tiles_are_of_parts library.tech tree tiles c.lawful.ensures.well_formed c.lawful.ensures.rules c.typed.ensures c.requires.clean
          c.in_ok-tiles.ensures.tiles;
      types = meeting_tiles_have_types library.tech tree tiles c.lawful.ensures.well_formed c.lawful.ensures.rules c.typed.ensures c.requires.clean
          c.in_ok-tiles.ensures.tiles;
    } in
    let of_raw = subst (λ (t : List PartTile). (typed : HaveTypedParts c.tech-2.result.now t) → AreStripsByPlane
    (λ plane. OffendsOn c.tech-2.result.now (parts_of_plane c.tech-2.result.now t typed.count plane) plane)
    (length c.tech-2.result.now.planes) found) c.as_slice.ensures.value c.in_ok-found.ensures in
    let of_tiles = subst (λ (raw : RawTech). (typed : HaveTypedParts raw tiles) → AreStripsByPlane
    (λ plane. OffendsOn raw (parts_of_plane raw tiles typed.count plane) plane) (length raw.planes) found) c.tech-2.ensures of_raw in
    offences_of_tiles library.tech tree tiles c.lawful.ensures.well_formed c.lawful.ensures.rules c.typed.ensures c.requires.clean
    c.in_ok-tiles.ensures.tiles (length library.tech.planes) found (of_tiles typed)

pub returns-clause-clean : goal.returns-clause-clean
returns-clause-clean g c =
    clean_without_strips c.args.library.now.tech (tree_at (seen c.args.library.now) c.args.cell.0) c.in_ok-found.found.items
    c.lawful.ensures.well_formed c.typed.ensures c.requires.clean (returns-clause-squares g c)

pub returns-clause-keeps : goal.returns-clause-keeps
returns-clause-keeps g c none =
    let library = c.args.library.now in
    let law = subst CleanCellsKeepWhatTheyHave c.tech.ensures c.clean_cells_keep_what_they_have.ensures in
    law c.lawful.ensures.well_formed c.lawful.ensures.rules (tree_at (seen library) c.args.cell.0) c.typed.ensures
    ((returns-clause-clean g c).0 none)

pub returns-in_err-tiles-clause-steps : goal.returns-in_err-tiles-clause-steps
returns-in_err-tiles-clause-steps g c work is = let bound = c.meeting_tiles.ensures.steps work is in omega (arith, bound)

pub returns-in_err-found-clause-steps : goal.returns-in_err-found-clause-steps
returns-in_err-found-clause-steps g c work is = let bound = c.meeting_tiles.ensures.steps work is in omega (arith, bound)

pub returns-clause-steps : goal.returns-clause-steps
returns-clause-steps g c work is = let bound = c.meeting_tiles.ensures.steps work is in omega (arith, bound)
