use Rattle.hier_merge.proofs.Common.{List, length, sym, subst, RawTech, PartTile, tree_at, seen, ArePlanePieces, HaveTypedParts, AreSeams}
use Rattle.hier_merge.proofs.MeetingOffences.{clean_without_strips}
use Rattle.hier_merge.proofs.FoundPieces.{are_meeting_pieces, offending_strips, typed_parts}
use Rattle.hier_merge.proofs.meetings.meeting_of.Goals as goal

pub pieces_of-requires-clause-typed : goal.pieces_of-requires-clause-typed
pieces_of-requires-clause-typed g c =
    let library = c.args.library.now in
    let tree = tree_at (seen library) c.args.cell.0 in
    subst (λ (raw : RawTech). HaveTypedParts raw c.as_slice.result.now) (sym c.tech.ensures)
    (subst (HaveTypedParts library.tech) (sym c.as_slice.ensures.value)
    (typed_parts library.tech tree c.lawful.ensures.well_formed c.lawful.ensures.rules c.typed.ensures c.requires.clean
    c.in_ok-tiles.field-0.tiles.items c.in_ok-tiles.ensures.tiles))

pub pieces_of-requires-clause-seams : goal.pieces_of-requires-clause-seams
pieces_of-requires-clause-seams g c =
    subst (λ (tiles : List PartTile). AreSeams tiles c.as_slice-2.result.now) (sym c.as_slice.ensures.value)
    (subst (AreSeams c.in_ok-tiles.field-0.tiles.items) (sym c.as_slice-2.ensures.value) c.in_ok-tiles.ensures.seams)

pub returns-clause-pieces : goal.returns-clause-pieces
returns-clause-pieces g c =
    let library = c.args.library.now in
    let tree = tree_at (seen library) c.args.cell.0 in
    let pieces = c.in_ok-stacks.field-0 in
    let tiles = c.in_ok-tiles.field-0.tiles.items in
    let found : ArePlanePieces library.tech tiles (length library.tech.planes) pieces =
    subst (λ (raw : RawTech). ArePlanePieces raw tiles (length raw.planes) pieces) c.tech.ensures
    (subst (λ (t : List PartTile). ArePlanePieces c.tech.result.now t (length c.tech.result.now.planes) pieces) c.as_slice.ensures.value
    c.in_ok-stacks.ensures) in
    are_meeting_pieces library.tech tree c.lawful.ensures.well_formed c.lawful.ensures.rules c.typed.ensures c.requires.clean tiles
    c.in_ok-tiles.ensures.tiles pieces.stacks.items pieces.offending.items found

pub returns-clause-squares : goal.returns-clause-squares
returns-clause-squares g c =
    let library = c.args.library.now in
    let tree = tree_at (seen library) c.args.cell.0 in
    let pieces = c.in_ok-stacks.field-0 in
    let tiles = c.in_ok-tiles.field-0.tiles.items in
    let found : ArePlanePieces library.tech tiles (length library.tech.planes) pieces =
    subst (λ (raw : RawTech). ArePlanePieces raw tiles (length raw.planes) pieces) c.tech.ensures
    (subst (λ (t : List PartTile). ArePlanePieces c.tech.result.now t (length c.tech.result.now.planes) pieces) c.as_slice.ensures.value
    c.in_ok-stacks.ensures) in
    offending_strips library.tech tree c.lawful.ensures.well_formed c.lawful.ensures.rules c.typed.ensures c.requires.clean tiles
    c.in_ok-tiles.ensures.tiles pieces.stacks.items pieces.offending.items found

pub returns-clause-clean : goal.returns-clause-clean
returns-clause-clean g c =
    clean_without_strips c.args.library.now.tech (tree_at (seen c.args.library.now) c.args.cell.0) c.in_ok-stacks.field-0.offending.items
    c.lawful.ensures.well_formed c.typed.ensures c.requires.clean (returns-clause-squares g c)
