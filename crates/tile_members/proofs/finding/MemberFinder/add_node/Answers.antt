use Rattle.tile_members.proofs.Common.{List, ℕ, Some, subst, ◌≡◌, ◌∙◌, slice_get, slice_get_within, standings, seen}
use Rattle.element_paths.specs.CellLibrary.LayoutTrees.{tree_at}
use Rattle.tile_members.proofs.FoundTiles.{new_member}
use Rattle.tile_members.proofs.KnownLaws.{added_or_none, known_more}
use Rattle.tile_members.proofs.NodesFound.{node_below}
use Rattle.tile_members.proofs.TileCorners.{tile_corner}
use Rattle.tile_members.proofs.finding.MemberFinder.add_node.Goals as goal

pub name_of-requires : goal.name_of-requires
name_of-requires c =
    node_below c.args.library.now c.args.self.now.opened c.args.tile.now c.at-opened.result.now c.args.node c.at-opened.ensures c.requires.node

pub name_of-requires-2-clause-element : goal.name_of-requires-2-clause-element
name_of-requires-2-clause-element c =
    let library = c.args.library.now in
    let cell = c.args.self.now.cell.0 in
    let tile = c.args.tile.now in
    let corner = tile_corner library c.lawful.ensures cell c.requires.members.there tile c.requires.tile in
    slice_get_within (standings (tree_at (seen library) cell)) tile.element corner.standing corner.stands

pub returns-clause-is : goal.returns-clause-is
returns-clause-is c =
    let library = c.args.library.now in
    let cell = c.args.self.now.cell.0 in
    let tile = c.args.tile.now in
    let corner = tile_corner library c.lawful.ensures cell c.requires.members.there tile c.requires.tile in
    let names = c.add.new.self.names.items in
    new_member library cell c.args.self.now.opened tile c.at-opened.result.now names c.args.node c.in_ok-number.number c.name_of.result.now
    c.in_ok-name.name.items corner c.requires.node c.at-opened.ensures c.name_of.ensures c.in_ok-name.ensures.leads
    (subst (λ (n : List ℕ). slice_get names c.in_ok-number.number ≡ Some n) c.as_slice.ensures.value c.in_ok-number.ensures.added.there)

pub returns-clause-added : goal.returns-clause-added
returns-clause-added c =
    added_or_none c.args.self.now.known.names.items c.add.new.self.names.items c.as_slice.result.now c.in_ok-number.number c.in_ok-number.ensures.added

pub returns-clause-finder : goal.returns-clause-finder
returns-clause-finder c =
    let library = c.args.library.now in
    let self = c.args.self.now in
    record {
      paths = c.name_of-2.ensures.paths ∙ c.requires.finder.paths;
      opened = c.requires.finder.opened;
      groups = c.name_of-2.ensures.groups;
      known = known_more (seen library) self.cell.0 self.opened self.known c.add.new.self (c.args.tile.now.element, c.args.node) c.in_ok-number.number
          c.requires.finder.known c.in_ok-number.ensures.index (returns-clause-added c) c.in_ok-number.ensures.numbers (returns-clause-is c);
    }
