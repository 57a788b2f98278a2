use Rattle.tile_members.proofs.Common.{◌≡◌, ◌+◌, ℕ, List, length, refl, sym, subst, arith, slice_get-get_or, Distinct, seen, HasMembers}
use Rattle.tile_members.proofs.Common.{AreTileMembers}
use Rattle.element_paths.specs.LibraryTrees.NamedCells.{named_tree_at}
use Rattle.tile_members.proofs.FinderLaws.{finder_members, finder_tile, finding_more, finding_none}
use Rattle.tile_members.proofs.FoundTiles.{found_all}
use Rattle.tile_members.proofs.members.tile_members.Goals as goal

pub loop-tile-init : goal.loop-tile-init
loop-tile-init g c = (
  finding_none c.args.library.now c.args.records.now c.args.cell c.args.tiles.now c.of-finder.result c.in_ok-numbers.numbers.items
      c.of-finder.ensures.cell c.of-finder.ensures.records c.of-finder.ensures.finder c.of-finder.ensures.names c.in_ok-numbers.ensures.items,
  omega arith,
)

pub number_of-requires-clause-members : goal.number_of-requires-clause-members
number_of-requires-clause-members g c =
    let library = c.args.library.now in
    let has : HasMembers library c.args.records.now c.args.cell.0 = record {
      there = c.requires.cell;
      clean = c.clean_cell_has_clean_tree.ensures c.requires.clean;
      records = c.requires.records;
    } in
    finder_members library c.args.records.now c.args.cell.0 c.loop-tile.finder c.loop-tile.invariant.0.cell_is c.loop-tile.invariant.0.table_is has

pub number_of-requires-clause-finder : goal.number_of-requires-clause-finder
number_of-requires-clause-finder g c = c.loop-tile.invariant.0.is

pub number_of-requires-clause-tile : goal.number_of-requires-clause-tile
number_of-requires-clause-tile g c =
    finder_tile c.args.library.now c.args.cell.0 c.args.tiles.now c.loop-tile.finder _ c.loop-tile.invariant.0.cell_is
    (c.requires.tiles c.loop-tile.tile-index _ c.loop-tile-test.true)

pub returns-in_err-number-clause-steps : goal.returns-in_err-number-clause-steps
returns-in_err-number-clause-steps g c = omega (arith, c.number_of.ensures.steps, c.loop-tile.invariant.1, c.loop-tile-test.true)

pub returns-in_err-push-clause-steps : goal.returns-in_err-push-clause-steps
returns-in_err-push-clause-steps g c = omega (arith, c.number_of.ensures.steps, c.loop-tile.invariant.1, c.loop-tile-test.true)

pub loop-tile-preserved : goal.loop-tile-preserved
loop-tile-preserved g c = (
  finding_more c.args.library.now c.args.records.now c.args.cell.0 c.args.tiles.now c.loop-tile.tile-index (c.loop-tile.tile-index + 1)
      c.loop-tile.finder c.number_of.new.self c.loop-tile.numbers.items c.push.new.self.items _ c.in_ok-number.number
      c.loop-tile.invariant.0 refl c.in_ok-push.ensures.items
      (slice_get-get_or c.args.tiles.now c.loop-tile.tile-index _ c.loop-tile-test.true) c.in_ok-number.ensures.finder
      c.number_of.ensures.cell c.number_of.ensures.records c.in_ok-number.ensures.added c.in_ok-number.ensures.has,
  omega (arith, c.number_of.ensures.steps, c.loop-tile.invariant.1),
)

pub into_names-names-requires : goal.into_names-names-requires
into_names-names-requires g c = c.loop-tile.invariant.0.is.known.indexed

pub returns-clause-members : goal.returns-clause-members
returns-clause-members g c =
    let library = c.args.library.now in
    let tree = named_tree_at (seen library) c.args.cell.0 in
    let names = c.into_names-names.result.items in
    let tiles = c.args.tiles.now in
    let same : names ≡ c.loop-tile.finder.known.names.items = c.into_names-names.ensures.names in
    let whole : c.loop-tile.tile-index ≡ length tiles = omega (arith, c.loop-tile-test.false, c.loop-tile.auto) in
    subst (λ (ns : List (List ℕ)). AreTileMembers library.tech tree tiles ns c.loop-tile.numbers.items) (sym same)
    (found_all library.tech tree tiles c.loop-tile.tile-index c.loop-tile.finder.known.names.items c.loop-tile.numbers.items
    (subst (λ (ns : List (List ℕ)). Distinct ns) same c.into_names-names.ensures.distinct) whole c.loop-tile.invariant.0.found)

pub returns-clause-steps : goal.returns-clause-steps
returns-clause-steps g c = omega (arith, c.loop-tile.invariant.1, c.loop-tile.auto, c.loop-tile-test.false)
