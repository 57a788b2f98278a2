-- Tiles and the members that have them.
use Rattle.tile_members.proofs.Common.{◌≡◌, ◌⊎◌, ◌+◌, ◌<◌, ℕ, List, [], ◌∷◌, ◌++◌, length, get_or, inl, inr, Some, sym, ap, subst, ◌∙◌, arith}
use Rattle.tile_members.proofs.Common.{nat_eq, option_map, slice_get, slice_index, get, slice_get_within, Distinct, In, In-append_left}
use Rattle.tile_members.proofs.Common.{In-append_right, slice_get-one, Transform, NodeRec, Table, RawTech, CellTree, Standing, place_back, standings}
use Rattle.tile_members.proofs.Common.{PartTile, LibraryParts, IsLawfulLibrary, seen, IsPartTileIn, view_at, IsOfNode, IsMemberOfPart}
use Rattle.tile_members.proofs.Common.{layouts_of_cell, MembersHaveWholeTiles, OpenedCell, OpenedCells, HasMembers, AddsNameOrNone, IsOfMember}
use Rattle.tile_members.proofs.Common.{LeadsToMember, HasOpenNode, corner_place, AreTileMembers, HasTile, IsPartTile}
use Rattle.std.proofs.lemmas.List.{get_or_append_left, get_or_push, length-append}
use Rattle.element_paths.specs.CellLibrary.LayoutTrees.{tree_at}
use Rattle.element_paths.specs.LibraryTrees.TreeRecords.NamedTrees.{NamedTree, layouts_of}
use Rattle.element_paths.specs.LibraryTrees.NamedCells.{named_tree_at}
use Rattle.tile_members.proofs.KnownLaws.{name_kept}
use Rattle.tile_members.proofs.TileCorners.{HasCorner}

-- ---- one tile

-- a node of what has the corner of a tile is of the member of the tile's part there
pub node_member : (library : LibraryParts) (cell : ℕ) (opened : OpenedCells) (tile : PartTile) (number : ℕ) (name : List ℕ) (node : List ℕ)
    → HasCorner library cell tile
    → IsOfNode library.tech (view_at (seen library) tile.of.0).own (view_at (seen library) tile.of.0).labels node
    (place_back tile.to_cell (corner_place tile))
    → LeadsToMember (seen library) cell tile.element node name
    → IsMemberOfPart library.tech (named_tree_at (seen library) cell) tile.part (corner_place tile) name
node_member library cell opened tile number name node corner is leads =
    let view = seen library in
    let tech = library.tech in
    let place = corner_place tile in
    let here : IsOfNode tech (view_at view corner.standing.own.cell).own (view_at view corner.standing.own.cell).labels node
    (place_back corner.standing.placed place) =
    subst (λ (n : ℕ). IsOfNode tech (view_at view n).own (view_at view n).labels node (place_back corner.standing.placed place)) (sym corner.of)
    (subst (λ (t : Transform). IsOfNode tech (view_at view tile.of.0).own (view_at view tile.of.0).labels node (place_back t place))
    (sym corner.placed) is) in
    subst (λ (part : ℕ). IsMemberOfPart tech (named_tree_at view cell) part place name) (sym corner.part)
    (leads.has corner.standing place corner.stands here)

-- the member that has the corner of a tile has the tile
pub whole_tile : (library : LibraryParts) → IsLawfulLibrary library → MembersHaveWholeTiles library.tech → (records : Table) (cell : ℕ) (tile : PartTile)
    (names : List (List ℕ)) (number : ℕ) (name : List ℕ) → HasMembers library records cell → IsPartTile (tree_at (seen library) cell) tile
    → HasCorner library cell tile
    → slice_get names number ≡ Some name
    → IsMemberOfPart library.tech (named_tree_at (seen library) cell) tile.part (corner_place tile) name
    → HasTile library.tech (named_tree_at (seen library) cell) names number tile
whole_tile library lawful whole records cell tile names number name has (area, is) corner there member =
    let tree = named_tree_at (seen library) cell in
    let in_tree : IsPartTileIn (layouts_of tree) area tile =
    subst (λ (t : CellTree). IsPartTileIn t area tile) (sym (layouts_of_cell (seen library) cell)) is in
    record {
      name = name;
      there = there;
      has = λ place lies.
          whole lawful.well_formed lawful.rules tree has.clean area tile in_tree (corner_place tile) place corner.inside lies name member;
    }

-- a node of the tile's cell that is known to be of a member tells the tile's member
pub known_tile : (library : LibraryParts) → IsLawfulLibrary library → MembersHaveWholeTiles library.tech → (records : Table) (cell : ℕ) (tile : PartTile)
    (opened : OpenedCells) (names : List (List ℕ)) (node number : ℕ) → HasMembers library records cell → IsPartTile (tree_at (seen library) cell) tile
    → HasCorner library cell tile → HasOpenNode library opened tile node
    → IsOfMember (seen library) cell opened names (tile.element, node) number
    → HasTile library.tech (named_tree_at (seen library) cell) names number tile
known_tile library lawful whole records cell tile opened names node number has is corner held of =
    let view = seen library in
    let same_standing : of.standing ≡ corner.standing =
    slice_get-one (standings (tree_at view cell)) tile.element of.standing corner.standing of.stands corner.stands in
    let cell_is : of.standing.own.cell ≡ tile.of.0 = ap (λ (s : Standing). s.own.cell) same_standing ∙ corner.of in
    let open_is : get nat_eq opened.entries tile.of.0 ≡ Some of.of =
    subst (λ (n : ℕ). get nat_eq opened.entries n ≡ Some of.of) cell_is of.is_open in
    let one : Some of.of ≡ Some held.of = sym open_is ∙ held.is_open in
    let same : of.of ≡ held.of = cc in
    let node_is : slice_get held.of.found.nodes node ≡ Some of.node =
    subst (λ (o : OpenedCell). slice_get o.found.nodes node ≡ Some of.node) same of.node_there in
    let same_node = slice_get-one held.of.found.nodes node held.has.node of.node held.has.there node_is in
    let goes : IsOfNode library.tech (view_at view tile.of.0).own (view_at view tile.of.0).labels of.node.name
    (place_back tile.to_cell (corner_place tile)) =
    subst (λ n. IsOfNode library.tech (view_at view tile.of.0).own (view_at view tile.of.0).labels n.name
    (place_back tile.to_cell (corner_place tile))) same_node held.has.is in
    whole_tile library lawful whole records cell tile names number of.name has is corner of.name_there
    (node_member library cell opened tile number of.name of.node.name corner goes of.leads)

-- a node whose member was found is known
pub new_member : (library : LibraryParts) (cell : ℕ) (opened : OpenedCells) (tile : PartTile) (of : OpenedCell) (names : List (List ℕ)) (node number : ℕ)
    (goes name : List ℕ) → HasCorner library cell tile → HasOpenNode library opened tile node → get nat_eq opened.entries tile.of.0 ≡ Some of
    → option_map (λ (found : NodeRec). found.name) (slice_get of.found.nodes node) ≡ Some goes
    → LeadsToMember (seen library) cell tile.element goes name → slice_get names number ≡ Some name
    → IsOfMember (seen library) cell opened names (tile.element, node) number
new_member library cell opened tile of names node number goes name corner held is_open told leads there =
    let one : Some of ≡ Some held.of = sym is_open ∙ held.is_open in
    let same : of ≡ held.of = cc in
    let named : option_map (λ (found : NodeRec). found.name) (slice_get held.of.found.nodes node) ≡ Some goes =
    subst (λ (o : OpenedCell). option_map (λ (found : NodeRec). found.name) (slice_get o.found.nodes node) ≡ Some goes) same told in
    let both : Some held.has.node.name ≡ Some goes = sym (ap (option_map (λ (found : NodeRec). found.name)) held.has.there) ∙ named in
    let name_is : goes ≡ held.has.node.name = cc in
    record {
      standing = corner.standing;
      stands = corner.stands;
      of = held.of;
      is_open = subst (λ (n : ℕ). get nat_eq opened.entries n ≡ Some held.of) (sym corner.of) held.is_open;
      node = held.has.node;
      node_there = held.has.there;
      name = name;
      name_there = there;
      leads = subst (λ (n : List ℕ). LeadsToMember (seen library) cell tile.element n name) name_is leads;
    }

-- ---- all tiles

-- These are the numbers of the members that have the first tiles, and each name has one of the numbers.
pub record AreFound (raw : RawTech) (tree : NamedTree) (tiles : List PartTile) (count : ℕ) (names : List (List ℕ)) (numbers : List ℕ) : Type 0 where
  pub one_each : length numbers ≡ count
  pub each : (index : ℕ) (tile : PartTile) → index < count → slice_get tiles index ≡ Some tile → HasTile raw tree names (slice_index numbers index) tile
  pub used : (number : ℕ) → number < length names → In number numbers

-- a tile that a member has it has with more names
tile_kept : (raw : RawTech) (tree : NamedTree) (old new : List (List ℕ)) (added number : ℕ) (tile : PartTile) → AddsNameOrNone old new added
    → HasTile raw tree old number tile → HasTile raw tree new number tile
tile_kept raw tree old new added number tile adds has = record {
  name = has.name;
  there = name_kept old new added adds number has.name has.there;
  has = has.has;
}

-- each name has a number once more
still_used : (old new : List (List ℕ)) (numbers : List ℕ) (added : ℕ) → AddsNameOrNone old new added
    → ((number : ℕ) → number < length old → In number numbers) → (number : ℕ) → number < length new → In number (numbers ++ added ∷ [])
still_used old new numbers added (inl same) used number below =
    In-append_left number numbers (added ∷ []) (used number (subst (λ (names : List (List ℕ)). number < length names) same below))
still_used old new numbers added (inr (name, same, at)) used number below =
    let count : length new ≡ length old + 1 = ap (λ (names : List (List ℕ)). length names) same ∙ length-append old (name ∷ []) in
    elim (last_or_before number (length old) (omega (arith, count, below))) [
      | inl before ↦ In-append_left number numbers (added ∷ []) (used number before)
      | inr last ↦ In-append_right number numbers (added ∷ []) (inl (at ∙ sym last))
    ]
  where
    last_or_before : (j k : ℕ) → j < k + 1 → (j < k) ⊎ (j ≡ k)
    last_or_before j k less = grind arith

-- no tiles yet
pub found_none : (raw : RawTech) (tree : NamedTree) (tiles : List PartTile) (names : List (List ℕ)) (numbers : List ℕ) → names ≡ [] → numbers ≡ []
    → AreFound raw tree tiles 0 names numbers
found_none raw tree tiles names numbers no_names no_numbers = record {
  one_each = ap (λ (ns : List ℕ). length ns) no_numbers;
  each = λ index tile below there. absurd (omega arith);
  used = λ number below. absurd (omega (arith, ap (λ (ns : List (List ℕ)). length ns) no_names, below));
}

-- one tile more
pub found_more : (raw : RawTech) (tree : NamedTree) (tiles : List PartTile) (count next : ℕ) (old new : List (List ℕ)) (numbers more : List ℕ)
    (tile : PartTile) (number : ℕ) → AreFound raw tree tiles count old numbers → next ≡ count + 1 → more ≡ numbers ++ number ∷ []
    → slice_get tiles count ≡ Some tile → AddsNameOrNone old new number → HasTile raw tree new number tile
    → AreFound raw tree tiles next new more
found_more raw tree tiles count next old new numbers more tile number found after is there adds has =
    subst (λ (ns : List ℕ). AreFound raw tree tiles next new ns) (sym is)
    (subst (λ (n : ℕ). AreFound raw tree tiles n new (numbers ++ number ∷ [])) (sym after) all)
  where
    last_or_before : (j k : ℕ) → j < k + 1 → (j < k) ⊎ (j ≡ k)
    last_or_before j k less = grind arith

    each : (index : ℕ) (other : PartTile) → index < count + 1 → slice_get tiles index ≡ Some other
        → HasTile raw tree new (slice_index (numbers ++ number ∷ []) index) other
    each index other below at = elim (last_or_before index count below) [
      | inl before ↦
          let same : get_or (numbers ++ number ∷ []) index 0 ≡ get_or numbers index 0 =
          get_or_append_left numbers (number ∷ []) 0 index (let long = found.one_each in omega (arith, long, before)) in
          subst (λ (n : ℕ). HasTile raw tree new n other) (sym same)
          (tile_kept raw tree old new number (get_or numbers index 0) other adds (found.each index other before at))
      | inr last ↦
          let same : get_or (numbers ++ number ∷ []) index 0 ≡ number =
          get_or_push numbers number 0 index (found.one_each ∙ sym last) in
          let one : tile ≡ other =
          slice_get-one tiles count tile other there (subst (λ (n : ℕ). slice_get tiles n ≡ Some other) last at) in
          subst (λ (n : ℕ). HasTile raw tree new n other) (sym same) (subst (HasTile raw tree new number) one has)
    ]

    all : AreFound raw tree tiles (count + 1) new (numbers ++ number ∷ [])
    all = record {
      one_each = length-append numbers (number ∷ []) ∙ ap (λ (n : ℕ). n + 1) found.one_each;
      each = each;
      used = still_used old new numbers number adds found.used;
    }

-- when all tiles are done
pub found_all : (raw : RawTech) (tree : NamedTree) (tiles : List PartTile) (count : ℕ) (names : List (List ℕ)) (numbers : List ℕ) → Distinct names
    → count ≡ length tiles → AreFound raw tree tiles count names numbers → AreTileMembers raw tree tiles names numbers
found_all raw tree tiles count names numbers distinct all found = record {
  distinct = distinct;
  one_each = found.one_each ∙ all;
  each = λ index tile there.
      let below = slice_get_within tiles index tile there in
      found.each index tile (omega (arith, below, all)) there;
  used = found.used;
}
