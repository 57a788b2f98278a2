use Rattle.drc_check.proofs.Common.{◌≡◌, ◌+◌, ℕ, Bool, List, pos, take, sym, subst, ◌∙◌, arith, slice_index_or, take_all, In, Lists, In-get_or, Rect}
use Rattle.drc_check.proofs.Common.{Covers, IsInUnion, RawTech, Place, PartTile, LibraryParts, seen, IsPartTileIn, set_of_part, set_of_tiles}
use Rattle.drc_check.proofs.Common.{ListedPiece, AreBandsOf, AreListedPiecesIn, IsMarkedType, AddsListed}
use Rattle.cell_library.specs.LayoutTrees.{tree_at}
use Rattle.drc_check.proofs.VisitPieces.{bands_are_hull, next_band, pieces_of_visit}
use Rattle.drc_check.proofs.cell_pieces.pieces_in.Goals as goal

-- what is past the end of a list of rectangles
abbrev none : Rect
none = record { xlo = pos 0; ylo = pos 0; xhi = pos 0; yhi = pos 0 }

pub visit-requires-clause-near : goal.visit-requires-clause-near
visit-requires-clause-near g c =
    let bands = c.as_slice-band-items.result.now in
    let k = c.loop-band.band-index in
    let among : In (slice_index_or bands k none) c.in_ok-bands.bands.items =
    subst (In (slice_index_or bands k none)) c.as_slice-band-items.ensures.value (In-get_or bands k none c.loop-band-test.true) in
    c.in_ok-bands.ensures.near (slice_index_or bands k none) among

pub add_listed-requires-clause-marked : goal.add_listed-requires-clause-marked
add_listed-requires-clause-marked g c plane kind listed =
    subst (λ (marks : List Bool). IsMarkedType marks kind.0) (sym c.as_slice.ensures.value) (c.in_ok-marks.ensures.marked plane kind listed)

pub loop-band-preserved : goal.loop-band-preserved
loop-band-preserved g c =
    let library = c.args.library.now in
    let raw = library.tech in
    let tree = tree_at (seen library) c.args.cell.0 in
    let rules = c.args.rules.now in
    let bands = c.as_slice-band-items.result.now in
    let k = c.loop-band.band-index in
    let band = slice_index_or bands k none in
    let so_far = c.loop-band.invariant in
    let old = c.loop-band.pieces.items in
    let new = c.add_listed.new.pieces.items in
    let tiles = c.in_ok-tiles.tiles.items in
    let among : In band c.in_ok-bands.bands.items =
    subst (In band) c.as_slice-band-items.ensures.value (In-get_or bands k none c.loop-band-test.true) in
    let lists : Lists (IsPartTileIn tree band) tiles =
    subst (λ (l : LibraryParts). Lists (IsPartTileIn (tree_at (seen l) c.args.cell.0) band) tiles) so_far.library c.in_ok-tiles.ensures.tiles in
    let sets : (part : ℕ) (place : Place) → Covers band place.square → set_of_tiles raw tiles part place ≡ set_of_part raw tree part place =
    subst (λ (l : LibraryParts). (part : ℕ) (place : Place) → Covers band place.square
    → set_of_tiles l.tech tiles part place ≡ set_of_part l.tech (tree_at (seen l) c.args.cell.0) part place) so_far.library c.in_ok-tiles.ensures.sets in
    let adds : AddsListed raw rules tiles old new =
    subst (λ (t : List PartTile). AddsListed raw rules t old new) c.as_slice-in-loop-band.ensures.value
    (subst (λ (r : RawTech). AddsListed r rules c.as_slice-in-loop-band.result.now old new) c.tech.ensures c.in_ok-add_listed.ensures) in
    let here = pieces_of_visit raw tree rules band tiles old new lists sets adds in
    let more = c.in_ok-tiles.ensures.steps in
    let before = so_far.steps in
    record {
      pieces = subst (λ (l : List ListedPiece). AreListedPiecesIn raw tree rules (IsInUnion (take (k + 1) bands)) c.args.hull.now l) (sym here.1.0)
          (next_band raw tree rules c.args.hull.now bands k band none old here.0 c.loop-band-test.true (λ i. band)
          (c.in_ok-bands.ensures.within band among) so_far.pieces here.1.1);
      library = c.visit.ensures.same ∙ so_far.library;
      steps = omega (arith, more, before);
    }

pub returns-clause-pieces : goal.returns-clause-pieces
returns-clause-pieces g c =
    let library = c.args.library.now in
    let raw = library.tech in
    let tree = tree_at (seen library) c.args.cell.0 in
    let rules = c.args.rules.now in
    let hull = c.args.hull.now in
    let bands = c.as_slice-band-items.result.now in
    let pieces = c.loop-band.pieces.items in
    bands_are_hull raw tree rules hull bands pieces (subst (AreBandsOf hull) (sym c.as_slice-band-items.ensures.value) c.in_ok-bands.ensures)
    (subst (λ (l : List Rect). AreListedPiecesIn raw tree rules (IsInUnion l) hull pieces)
    (take_all c.loop-band.band-index bands c.loop-band-test.false) c.loop-band.invariant.pieces)
