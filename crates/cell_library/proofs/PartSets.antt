-- The tiles of a cell have the sets of its parts.
use Rattle.cell_library.proofs.Common.{◌≡◌, ◌≢◌, ◌+◌, ◌<◌, ℕ, zero, suc, Bool, true, false, List, [], ◌∷◌, ◌++◌, refl, sym, ap, subst, ◌∙◌, arith}
use Rattle.cell_library.proofs.Common.{inl, inr, slice_get, slice_index_or, if◌then◌else◌, bit_at, cases_Bool, cases_eq, and_parts, In, Lists}
use Rattle.cell_library.proofs.Common.{In-slice_get, Rect, Transform, Covers, is_covered, composed, identity, image, inverted, RawTech, parts_of}
use Rattle.cell_library.proofs.Common.{Place, CellTree, Standing, place_back, cell_tree, no_elements, element_and, flat_sets, sets_below}
use Rattle.cell_library.proofs.Common.{element_parts, MOST_DEPTH, PartTile, tree_to, LibraryView, set_of_part, set_of_tiles, IsPartTileIn}
use Rattle.cell_library.proofs.Common.{placed_cells, placed_below, AddsTiles, IsCutOf, HasThere, AreTold}
use Rattle.std.proofs.Common.{cond, eqb, bit_or, Some}
use Rattle.std.specs.Prelude.{◌==◌, ◌&&◌}
use Rattle.std.proofs.lemmas.Bool.{eq-eqb, eqb-true}
use Rattle.std.proofs.lemmas.Nat.Bits.{bit_at-zero, bit_at_or, bit_at-lt, same_from_bits}
use Rattle.geo_core.proofs.CoveringLaws.{Covers-is_covered, is_covered-Covers}
use Rattle.cell_bodies.specs.LayoutModel.CellTrees.{Elements}
use Rattle.cell_library.specs.LayoutTrees.{tree_at}
use Rattle.cell_library.specs.PartTiles.{set_from}
use Rattle.cell_library.proofs.PlacedCells.{standings_placed}
use Rattle.cell_library.proofs.PlacedRects.{back_on, identity_back, then_identity}
use Rattle.cell_bodies.proofs.LayoutModel.SetUnions.{union_none, none_union, union_assoc}
use Rattle.cell_library.proofs.ToldTiles.{cut_type}

-- ---- part tiles

-- the tiles that were told of a tree are its part tiles
pub told_parts : (tree : CellTree) (area : Rect) (tiles : List PartTile) → AreTold (placed_cells 1 0 identity tree) 0 area tiles
    → Lists (IsPartTileIn tree area) tiles
told_parts tree area tiles told = (
  told.distinct,
  (λ tile is. told.every tile (record {
    k = tile.element;
    at = omega arith;
    standing = is.standing;
    there = ap (λ (cells : List Standing). slice_get cells tile.element) (sym (standings_placed tree)) ∙ is.there;
    cut = record {
      part = is.part;
      of = is.of;
      to_cell = is.to_cell;
      strip = is.strip;
      is_strip = is.is_strip;
      material = is.material;
      cut = is.cut;
      meets = is.meets;
    };
  })),
  (λ tile stands.
      let is = told.each tile stands in
      let is_at = is.at in
      let number : tile.element ≡ is.k = omega (arith, is_at) in
      record {
        standing = is.standing;
        there = ap (λ (cells : List Standing). slice_get cells tile.element) (standings_placed tree)
            ∙ ap (slice_get (placed_cells 1 0 identity tree)) number ∙ is.there;
        part = is.cut.part;
        of = is.cut.of;
        to_cell = is.cut.to_cell;
        strip = is.cut.strip;
        is_strip = is.cut.is_strip;
        material = is.cut.material;
        cut = is.cut.cut;
        meets = is.cut.meets;
      }),
)

-- ---- sets of standing cells

-- the union of the sets of all
abbrev union_of : {X : Type 0} → (X → ℕ) → List X → ℕ
union_of set_of [] = 0
union_of set_of (x ∷ xs) = bit_or (set_of x) (union_of set_of xs)

-- the set that a standing cell has at a place, if it stands in the part
abbrev set_there : RawTech → ℕ → Standing → Place → ℕ
set_there raw part standing place = if standing.part == part then parts_of raw (standing.own.layout (place_back standing.placed place)) else 0

-- the union of those of standing cells
abbrev sets_at : RawTech → List Standing → ℕ → Place → ℕ
sets_at raw cells part place = union_of (λ standing. set_there raw part standing place) cells

sets_at-append : (raw : RawTech) (xs ys : List Standing) (part : ℕ) (place : Place)
    → sets_at raw (xs ++ ys) part place ≡ bit_or (sets_at raw xs part place) (sets_at raw ys part place)
sets_at-append raw [] ys part place = sym (none_union (sets_at raw ys part place))
sets_at-append raw (x ∷ xs) ys part place =
    ap (bit_or (set_there raw part x place)) (sets_at-append raw xs ys part place)
    ∙ sym (union_assoc (set_there raw part x place) (sets_at raw xs part place) (sets_at raw ys part place))

chosen_same : (a b n : ℕ) → a ≡ b → cond (eqb a b) n 0 ≡ n
chosen_same a b n same = ap (λ (t : Bool). cond t n 0) (eq-eqb a b same)

differs : (a b : ℕ) → a ≢ b → eqb a b ≡ false
differs a b other = elim (cases_Bool (eqb a b)) [
  | inl passes ↦ absurd (other (eqb-true a b passes))
  | inr fails ↦ fails
]

chosen_other : (a b n : ℕ) → a ≢ b → cond (eqb a b) n 0 ≡ 0
chosen_other a b n other = ap (λ (t : Bool). cond t n 0) (differs a b other)

mutual
  sets_inside : (raw : RawTech) (part : ℕ) (placed : Transform) (tree : CellTree) (place : Place)
      → sets_at raw (placed_cells 0 part placed tree) part place ≡ flat_sets raw tree (place_back placed place)
  sets_inside raw part placed (cell_tree own elements) place =
      ap (λ (n : ℕ). bit_or n (sets_at raw (placed_below 0 (part + 0) placed elements) part place))
      (chosen_same part part (parts_of raw (own.layout (place_back placed place))) refl)
      ∙ ap (λ (p : ℕ). bit_or (parts_of raw (own.layout (place_back placed place))) (sets_at raw (placed_below 0 p placed elements) part place))
      (let e : part + 0 ≡ part = omega arith in e)
      ∙ ap (bit_or (parts_of raw (own.layout (place_back placed place)))) (sets_inside_below raw part placed elements place)

  sets_inside_below : (raw : RawTech) (part : ℕ) (outer : Transform) (elements : Elements) (place : Place)
      → sets_at raw (placed_below 0 part outer elements) part place ≡ sets_below raw elements (place_back outer place)
  sets_inside_below raw part outer no_elements place = refl
  sets_inside_below raw part outer (element_and placed tree rest) place =
      sets_at-append raw (placed_cells 0 part (composed placed outer) tree) (placed_below 0 (part + 0) outer rest) part place
      ∙ ap (λ (n : ℕ). bit_or n (sets_at raw (placed_below 0 (part + 0) outer rest) part place))
      (sets_inside raw part (composed placed outer) tree place ∙ ap (flat_sets raw tree) (back_on placed outer place))
      ∙ ap (λ (p : ℕ). bit_or (flat_sets raw tree (place_back placed (place_back outer place))) (sets_at raw
      (placed_below 0 p outer rest) part place))
      (let e : part + 0 ≡ part = omega arith in e)
      ∙ ap (bit_or (flat_sets raw tree (place_back placed (place_back outer place)))) (sets_inside_below raw part outer rest place)

mutual
  sets_elsewhere : (raw : RawTech) (own_part part : ℕ) (placed : Transform) (tree : CellTree) (place : Place) → own_part ≢ part
      → sets_at raw (placed_cells 0 own_part placed tree) part place ≡ 0
  sets_elsewhere raw own_part part placed (cell_tree own elements) place other =
      ap (λ (n : ℕ). bit_or n (sets_at raw (placed_below 0 (own_part + 0) placed elements) part place))
      (chosen_other own_part part (parts_of raw (own.layout (place_back placed place))) other)
      ∙ none_union (sets_at raw (placed_below 0 (own_part + 0) placed elements) part place)
      ∙ ap (λ (p : ℕ). sets_at raw (placed_below 0 p placed elements) part place) (let e : own_part + 0 ≡ own_part = omega arith in e)
      ∙ sets_elsewhere_below raw own_part part placed elements place other

  sets_elsewhere_below : (raw : RawTech) (own_part part : ℕ) (outer : Transform) (elements : Elements) (place : Place) → own_part ≢ part
      → sets_at raw (placed_below 0 own_part outer elements) part place ≡ 0
  sets_elsewhere_below raw own_part part outer no_elements place other = refl
  sets_elsewhere_below raw own_part part outer (element_and placed tree rest) place other =
      sets_at-append raw (placed_cells 0 own_part (composed placed outer) tree) (placed_below 0 (own_part + 0) outer rest) part place
      ∙ ap (λ (n : ℕ). bit_or n (sets_at raw (placed_below 0 (own_part + 0) outer rest) part place))
      (sets_elsewhere raw own_part part (composed placed outer) tree place other)
      ∙ none_union (sets_at raw (placed_below 0 (own_part + 0) outer rest) part place)
      ∙ ap (λ (p : ℕ). sets_at raw (placed_below 0 p outer rest) part place) (let e : own_part + 0 ≡ own_part = omega arith in e)
      ∙ sets_elsewhere_below raw own_part part outer rest place other

-- elements whose parts are counted have nothing in an earlier part
sets_before : (raw : RawTech) (first part : ℕ) (elements : Elements) (place : Place) → part < first
    → sets_at raw (placed_below 1 first identity elements) part place ≡ 0
sets_before raw first part no_elements place low = refl
sets_before raw first part (element_and placed tree rest) place low =
    sets_at-append raw (placed_cells 0 first (composed placed identity) tree) (placed_below 1 (first + 1) identity rest) part place
    ∙ ap (λ (n : ℕ). bit_or n (sets_at raw (placed_below 1 (first + 1) identity rest) part place))
    (sets_elsewhere raw first part (composed placed identity) tree place (λ same. absurd (omega (arith, same, low))))
    ∙ none_union (sets_at raw (placed_below 1 (first + 1) identity rest) part place)
    ∙ sets_before raw (first + 1) part rest place (omega arith)

-- and each has its own part
sets_of_element : (raw : RawTech) (first part j : ℕ) (elements : Elements) (place : Place) → part ≡ first + j
    → sets_at raw (placed_below 1 first identity elements) part place ≡ slice_index_or (element_parts raw elements) j (λ p. 0) place
sets_of_element raw first part j no_elements place at = refl
sets_of_element raw first part zero (element_and placed tree rest) place at =
    let here : part ≡ first = omega (arith, at) in
    let in_part : sets_at raw (placed_cells 0 first (composed placed identity) tree) part place ≡ flat_sets raw tree (place_back placed place) =
    ap (λ (p : ℕ). sets_at raw (placed_cells 0 first (composed placed identity) tree) p place) here
    ∙ sets_inside raw first (composed placed identity) tree place
    ∙ ap (λ (t : Transform). flat_sets raw tree (place_back t place)) (then_identity placed) in
    sets_at-append raw (placed_cells 0 first (composed placed identity) tree) (placed_below 1 (first + 1) identity rest) part place
    ∙ ap (bit_or (sets_at raw (placed_cells 0 first (composed placed identity) tree) part place)) (sets_before raw (first + 1) part rest place
    (omega (arith, here)))
    ∙ union_none (sets_at raw (placed_cells 0 first (composed placed identity) tree) part place) ∙ in_part
sets_of_element raw first part (suc j) (element_and placed tree rest) place at =
    sets_at-append raw (placed_cells 0 first (composed placed identity) tree) (placed_below 1 (first + 1) identity rest) part place
    ∙ ap (λ (n : ℕ). bit_or n (sets_at raw (placed_below 1 (first + 1) identity rest) part place))
    (sets_elsewhere raw first part (composed placed identity) tree place (λ same. absurd (omega (arith, same, at))))
    ∙ none_union (sets_at raw (placed_below 1 (first + 1) identity rest) part place)
    ∙ sets_of_element raw (first + 1) part j rest place (omega (arith, at))

-- the cells of a tree together have the sets of its parts
sets_of_tree : (raw : RawTech) (tree : CellTree) (part : ℕ) (place : Place)
    → sets_at raw (placed_cells 1 0 identity tree) part place ≡ set_of_part raw tree part place
sets_of_tree raw (cell_tree own elements) zero place =
    ap (bit_or (parts_of raw (own.layout (place_back identity place)))) (sets_before raw 1 0 elements place (omega arith))
    ∙ union_none (parts_of raw (own.layout (place_back identity place))) ∙ ap (λ (p : Place). parts_of raw (own.layout p)) (identity_back place)
sets_of_tree raw (cell_tree own elements) (suc j) place =
    ap (λ (n : ℕ). bit_or n (sets_at raw (placed_below 1 1 identity elements) (suc j) place))
    (chosen_other 0 (suc j) (parts_of raw (own.layout (place_back identity place))) (λ same. absurd (omega (arith, same))))
    ∙ none_union (sets_at raw (placed_below 1 1 identity elements) (suc j) place)
    ∙ sets_of_element raw 1 (suc j) j elements place (omega arith)

-- ---- bits of unions

not_one : (n : ℕ) → n < 2 → n ≢ 1 → n ≡ 0
not_one n small none = omega arith

-- one of them has the bit
bit_found : {X : Type 0} (set_of : X → ℕ) (xs : List X) (i : ℕ) → bit_at (union_of set_of xs) i ≡ 1
    → (k : ℕ) × (x : X) × (slice_get xs k ≡ Some x) × (bit_at (set_of x) i ≡ 1)
bit_found set_of [] i bit = absurd (let none = bit_at-zero i in omega arith)
bit_found set_of (x ∷ xs) i bit = elim (cases_eq (bit_at (set_of x) i) 1) [
  | inl here ↦ (0, x, refl, here)
  | inr none ↦ (
      let join = bit_at_or (set_of x) (union_of set_of xs) i in
      let clear : bit_at (set_of x) i ≡ 0 = not_one (bit_at (set_of x) i) (bit_at-lt (set_of x) i) none in
      let found = bit_found set_of xs i (omega (arith, join, clear, bit)) in (suc found.0, found.1, found.2, found.3))
]

-- and the bit of one is that of all
bit_kept : {X : Type 0} (set_of : X → ℕ) (xs : List X) (i : ℕ) (x : X) → In x xs → bit_at (set_of x) i ≡ 1 → bit_at (union_of set_of xs) i ≡ 1
bit_kept set_of [] i x none bit = absurd none
bit_kept {X} set_of (first ∷ xs) i x (inl same) bit =
    let here : bit_at (set_of first) i ≡ 1 = subst (λ (y : X). bit_at (set_of y) i ≡ 1) (sym same) bit in
    omega (arith, bit_at_or (set_of first) (union_of set_of xs) i, bit_at-lt (union_of set_of xs) i, here)
bit_kept set_of (first ∷ xs) i x (inr later) bit =
    omega (arith, bit_at_or (set_of first) (union_of set_of xs) i, bit_at-lt (set_of first) i, bit_kept set_of xs i x later bit)

-- the set of tiles is the union of theirs
tiles_union : (raw : RawTech) (tiles : List PartTile) (part : ℕ) (place : Place)
    → set_of_tiles raw tiles part place ≡ union_of (λ tile. set_from raw part tile place) tiles
tiles_union raw [] part place = refl
tiles_union raw (tile ∷ tiles) part place = ap (bit_or (set_from raw part tile place)) (tiles_union raw tiles part place)

-- where a choice has a bit, the test passed
test_passed : (test : Bool) (set i : ℕ) → bit_at (cond test set 0) i ≡ 1 → (test ≡ true) × (bit_at set i ≡ 1)
test_passed true set i bit = (refl, bit)
test_passed false set i bit = absurd (let none = bit_at-zero i in omega arith)

-- what a tile has of a part at a place
record TileHas (raw : RawTech) (part : ℕ) (tile : PartTile) (place : Place) (i : ℕ) : Type 0 where
  part_is : tile.part ≡ part
  plane_is : place.plane ≡ tile.plane
  covers : Covers tile.area place.square
  bit : bit_at (parts_of raw tile.kind.0) i ≡ 1

tile_has : (raw : RawTech) (part : ℕ) (tile : PartTile) (place : Place) (i : ℕ) → bit_at (set_from raw part tile place) i ≡ 1
    → TileHas raw part tile place i
tile_has raw part tile place i bit =
    let passed = test_passed (tile.part == part && place.plane == tile.plane && is_covered tile.area place.square) (parts_of raw tile.kind.0) i bit in
    let outer = and_parts (tile.part == part && place.plane == tile.plane) (is_covered tile.area place.square) passed.0 in
    let inner = and_parts (tile.part == part) (place.plane == tile.plane) outer.0 in
    record {
      part_is = eqb-true tile.part part inner.0;
      plane_is = eqb-true place.plane tile.plane inner.1;
      covers = Covers-is_covered tile.area place.square outer.1;
      bit = passed.1;
    }

has_tile : (raw : RawTech) (part : ℕ) (tile : PartTile) (place : Place) (i : ℕ) → TileHas raw part tile place i
    → bit_at (set_from raw part tile place) i ≡ 1
has_tile raw part tile place i has =
    ap (λ (t : Bool). bit_at (cond (t && place.plane == tile.plane && is_covered tile.area place.square) (parts_of raw tile.kind.0) 0) i)
    (eq-eqb tile.part part has.part_is)
    ∙ ap (λ (t : Bool). bit_at (cond (true && t && is_covered tile.area place.square) (parts_of raw tile.kind.0) 0) i)
    (eq-eqb place.plane tile.plane has.plane_is)
    ∙ ap (λ (t : Bool). bit_at (cond (true && true && t) (parts_of raw tile.kind.0) 0) i) (is_covered-Covers tile.area place.square has.covers)
    ∙ has.bit

-- at a place that a tile of a standing cell covers, the cell has the tile's type
type_there : (standing : Standing) (area : Rect) (tile : PartTile) (place : Place) → IsCutOf standing area tile → Covers tile.area place.square
    → place.plane ≡ tile.plane
    → standing.own.layout (place_back standing.placed place) ≡ tile.kind.0
type_there standing area tile place cut covers on =
    ap (λ (p : ℕ). standing.own.layout (record { plane = p; square = image (inverted standing.placed) place.square })) on
    ∙ cut_type standing area tile place.square cut covers

tiles_to_cells : (raw : RawTech) (cells : List Standing) (first : ℕ) (area : Rect) (tiles : List PartTile) (part : ℕ) (place : Place) (i : ℕ)
    → AreTold cells first area tiles → bit_at (set_of_tiles raw tiles part place) i ≡ 1 → bit_at (sets_at raw cells part place) i ≡ 1
tiles_to_cells raw cells first area tiles part place i told bit =
    let found =
    bit_found (λ tile. set_from raw part tile place) tiles i (ap (λ (set : ℕ). bit_at set i) (sym (tiles_union raw tiles part place)) ∙ bit) in
    let tile = found.1 in
    let has = tile_has raw part tile place i found.3 in
    let is = told.each tile (In-slice_get tiles found.0 tile found.2) in
    let type = type_there is.standing area tile place is.cut has.covers has.plane_is in
    bit_kept (λ standing. set_there raw part standing place) cells i is.standing (In-slice_get cells is.k is.standing is.there)
    (ap (λ (n : ℕ). bit_at n i) (chosen_same is.standing.part part (parts_of raw (is.standing.own.layout (place_back is.standing.placed place)))
    (sym is.cut.part ∙ has.part_is))
    ∙ ap (λ (t : ℕ). bit_at (parts_of raw t) i) type ∙ has.bit)

cells_to_tiles : (raw : RawTech) (cells : List Standing) (first : ℕ) (area : Rect) (tiles : List PartTile) (part : ℕ) (place : Place) (i : ℕ)
    → AreTold cells first area tiles → Covers area place.square → bit_at (sets_at raw cells part place) i ≡ 1
    → bit_at (set_of_tiles raw tiles part place) i ≡ 1
cells_to_tiles raw cells first area tiles part place i told covers bit =
    let found = bit_found (λ standing. set_there raw part standing place) cells i bit in
    let standing = found.1 in
    let type = standing.own.layout (place_back standing.placed place) in
    let passed = test_passed (standing.part == part) (parts_of raw type) i found.3 in
    let has : HasThere standing place = λ none.
    let clear : bit_at (parts_of raw type) i ≡ bit_at 0 i = ap (λ (t : ℕ). bit_at (parts_of raw t) i) none in
    let zeros = bit_at-zero i in
    let set = passed.1 in
    absurd (omega (arith, clear, zeros, set)) in
    let tile = told.whole found.0 standing found.2 place covers has in
    let is = told.each tile.tile tile.is_in in
    let is_at = is.at in
    let tile_at = tile.at in
    let same_k : is.k ≡ found.0 = omega (arith, is_at, tile_at) in
    let same_some : Some is.standing ≡ Some standing = sym is.there ∙ ap (slice_get cells) same_k ∙ found.2 in
    let same : is.standing ≡ standing = cc in
    let cut : IsCutOf standing area tile.tile = subst (λ (s : Standing). IsCutOf s area tile.tile) same is.cut in
    ap (λ (set : ℕ). bit_at set i) (tiles_union raw tiles part place)
    ∙ bit_kept (λ tile. set_from raw part tile place) tiles i tile.tile tile.is_in (has_tile raw part tile.tile place i (record {
      part_is = cut.part ∙ eqb-true standing.part part passed.0;
      plane_is = sym tile.plane;
      covers = tile.covers;
      bit = ap (λ (t : ℕ). bit_at (parts_of raw t) i) (sym (type_there standing area tile.tile place cut tile.covers (sym tile.plane))) ∙ passed.1;
    }))

same_bit : (a b : ℕ) → a < 2 → b < 2 → (a ≡ 1 → b ≡ 1) → (b ≡ 1 → a ≡ 1) → a ≡ b
same_bit a b small_a small_b to back = elim (cases_eq a 1) [
  | inl one ↦ one ∙ sym (to one)
  | inr none ↦ elim (cases_eq b 1) [
    | inl one ↦ back one ∙ sym one
    | inr other ↦ (let p = not_one a small_a none in let q = not_one b small_b other in omega arith)
  ]
]

-- At each place of the area the tiles of a part that were told of a tree together have the part's set.
pub told_sets : (raw : RawTech) (tree : CellTree) (area : Rect) (tiles : List PartTile) → AreTold (placed_cells 1 0 identity tree) 0 area tiles
    → (part : ℕ) (place : Place) → Covers area place.square → set_of_tiles raw tiles part place ≡ set_of_part raw tree part place
told_sets raw tree area tiles told part place covers =
    let cells = placed_cells 1 0 identity tree in
    same_from_bits (set_of_tiles raw tiles part place) (sets_at raw cells part place) (λ i.
    same_bit (bit_at (set_of_tiles raw tiles part place) i) (bit_at (sets_at raw cells part place) i)
    (bit_at-lt (set_of_tiles raw tiles part place) i) (bit_at-lt (sets_at raw cells part place) i)
    (tiles_to_cells raw cells 0 area tiles part place i told) (cells_to_tiles raw cells 0 area tiles part place i told covers))
    ∙ sets_of_tree raw tree part place

-- tiles that were added to none
added_are : (cells : List Standing) (area : Rect) (now : List PartTile) → AddsTiles cells 0 area [] now → AreTold cells 0 area now
added_are cells area now adds = subst (AreTold cells 0 area) (sym adds.is) adds.told

-- The tiles that a visit adds to none are the cell's part tiles.
pub added_parts : (tree : CellTree) (area : Rect) (now : List PartTile) → AddsTiles (placed_cells 1 0 identity tree) 0 area [] now
    → Lists (IsPartTileIn tree area) now
added_parts tree area now adds = told_parts tree area now (added_are (placed_cells 1 0 identity tree) area now adds)

-- And they have the sets of its parts.
pub added_sets : (raw : RawTech) (tree : CellTree) (area : Rect) (now : List PartTile) → AddsTiles (placed_cells 1 0 identity tree) 0 area [] now
    → (part : ℕ) (place : Place) → Covers area place.square → set_of_tiles raw now part place ≡ set_of_part raw tree part place
added_sets raw tree area now adds = told_sets raw tree area now (added_are (placed_cells 1 0 identity tree) area now adds)

-- ---- visits of a whole cell

-- what a visit of a cell adds to nothing are its part tiles
pub visited_parts : (view : LibraryView) (cell : ℕ) (area : Rect) (old tiles : List PartTile) → old ≡ []
    → AddsTiles (placed_cells 1 0 identity (tree_to view MOST_DEPTH cell)) 0 area old tiles → Lists (IsPartTileIn (tree_at view cell) area) tiles
unfolding tree_at
visited_parts view cell area old tiles none adds =
    let tree = tree_to view MOST_DEPTH cell in
    added_parts tree area tiles (subst (λ (before : List PartTile). AddsTiles (placed_cells 1 0 identity tree) 0 area before tiles) none adds)

-- and they make its parts
pub visited_sets : (raw : RawTech) (view : LibraryView) (cell : ℕ) (area : Rect) (old tiles : List PartTile) → old ≡ []
    → AddsTiles (placed_cells 1 0 identity (tree_to view MOST_DEPTH cell)) 0 area old tiles → (part : ℕ) (place : Place) → Covers area place.square
    → set_of_tiles raw tiles part place ≡ set_of_part raw (tree_at view cell) part place
unfolding tree_at
visited_sets raw view cell area old tiles none adds =
    let tree = tree_to view MOST_DEPTH cell in
    added_sets raw tree area tiles (subst (λ (before : List PartTile). AddsTiles (placed_cells 1 0 identity tree) 0 area before tiles) none adds)
