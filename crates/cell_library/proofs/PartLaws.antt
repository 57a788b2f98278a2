-- What the boxes of a cell's elements tell of its parts.
use Rattle.cell_library.proofs.Common.{◌≡◌, ◌≢◌, ◌<◌, ◌+◌, inl, inr, ℕ, zero, suc, List, [], ◌∷◌, map, length, sym, ap, ◌∙◌, arith, Some, slice_get}
use Rattle.cell_library.proofs.Common.{cases_lt, In, In-append_cases, In-map_source, In-slice_get, Rect, Covers, RawTech, Place, CellTree, Standing}
use Rattle.cell_library.proofs.Common.{standings, cell_tree, no_elements, element_and, element_parts, parts_in, hulls_below, size_at, PartTile}
use Rattle.cell_library.proofs.Common.{AreElementBoxes, HoldParts, IsLawfulLibrary, LibraryParts, seen, IsPartTileIn}
use Rattle.cell_bodies.specs.LayoutModel.CellTrees.{Elements, standings_from, under}
use Rattle.cell_library.proofs.BoxesBelow.{boxes_are, none_past}

-- ---- boxes of parts

-- Some box of the list covers the place.
pub record HasBoxAt (boxes : List Rect) (k : ℕ) (place : Place) : Type 0 where
  pub box : Rect
  pub there : slice_get boxes k ≡ Some box
  pub covers : Covers box place.square

-- Two boxes of the list cover a place each.
pub record HaveTwoBoxes (boxes : List Rect) (first second : Place) : Type 0 where
  pub j : ℕ
  pub k : ℕ
  pub apart : j ≢ k
  pub covers_first : HasBoxAt boxes j first
  pub covers_second : HasBoxAt boxes k second

-- The part at this position of the list has something at the place.
pub record HasPartAt (parts : List (Place → ℕ)) (k : ℕ) (place : Place) : Type 0 where
  pub part : Place → ℕ
  pub there : slice_get parts k ≡ Some part
  pub some : part place ≢ 0

first_part : (part : Place → ℕ) (parts : List (Place → ℕ)) (place : Place) → HasPartAt (part ∷ parts) 0 place → part place ≢ 0
first_part part parts place has none =
    let same : part ≡ has.part = (let there = has.there in cc) in has.some (sym (ap (λ (p : Place → ℕ). p place) same) ∙ none)

later_part : (part : Place → ℕ) (parts : List (Place → ℕ)) (k : ℕ) (place : Place) → HasPartAt (part ∷ parts) (suc k) place → HasPartAt parts k place
later_part part parts k place has = record { part = has.part; there = has.there; some = has.some }

later_box : (boxes : List Rect) (box : Rect) (rest : List Rect) (k : ℕ) (place : Place) → boxes ≡ box ∷ rest → HasBoxAt rest k place
    → HasBoxAt boxes (suc k) place
later_box boxes box rest k place is has = record {
  box = has.box;
  there = ap (λ (list : List Rect). slice_get list (suc k)) is ∙ has.there;
  covers = has.covers;
}

-- a part that has something at a place has a box, which covers it
pub box_of_part : (boxes : List Rect) (parts : List (Place → ℕ)) (k : ℕ) (place : Place) → HoldParts boxes parts → HasPartAt parts k place
    → (j : ℕ) × HasBoxAt boxes j place
box_of_part boxes [] k place held has = absurd (let never = has.there in cc)
box_of_part boxes (part ∷ parts) zero place (inl held) has = absurd (first_part part parts place has (held.0 place))
box_of_part boxes (part ∷ parts) (suc k) place (inl held) has = box_of_part boxes parts k place held.1 (later_part part parts k place has)
box_of_part boxes (part ∷ parts) zero place (inr held) has =
    (0, record { box = held.0; there = ap (λ (list : List Rect). slice_get list 0) held.2; covers = held.3 place (first_part part parts place has) })
box_of_part boxes (part ∷ parts) (suc k) place (inr held) has =
    let found = box_of_part held.1 parts k place held.4 (later_part part parts k place has) in
    (suc found.0, later_box boxes held.0 held.1 found.0 place held.2 found.1)

two_in_order : (boxes : List Rect) (parts : List (Place → ℕ)) (j k : ℕ) (first second : Place) → HoldParts boxes parts → j < k
    → HasPartAt parts j first
    → HasPartAt parts k second → HaveTwoBoxes boxes first second
two_in_order boxes [] j k first second held before has too = absurd (let never = has.there in cc)
two_in_order boxes (part ∷ parts) j zero first second held before has too = absurd (omega arith)
two_in_order boxes (part ∷ parts) zero (suc k) first second (inl held) before has too = absurd (first_part part parts first has (held.0 first))
two_in_order boxes (part ∷ parts) (suc j) (suc k) first second (inl held) before has too =
    two_in_order boxes parts j k first second held.1 (omega arith) (later_part part parts j first has) (later_part part parts k second too)
two_in_order boxes (part ∷ parts) zero (suc k) first second (inr held) before has too =
    let found = box_of_part held.1 parts k second held.4 (later_part part parts k second too) in
    record {
      j = 0;
      k = suc found.0;
      apart = omega arith;
      covers_first = record {
        box = held.0;
        there = ap (λ (list : List Rect). slice_get list 0) held.2;
        covers = held.3 first (first_part part parts first has);
      };
      covers_second = later_box boxes held.0 held.1 found.0 second held.2 found.1;
    }
two_in_order boxes (part ∷ parts) (suc j) (suc k) first second (inr held) before has too =
    let found =
    two_in_order held.1 parts j k first second held.4 (omega arith) (later_part part parts j first has) (later_part part parts k second too) in
    let apart = found.apart in
    record {
      j = suc found.j;
      k = suc found.k;
      apart = omega arith;
      covers_first = later_box boxes held.0 held.1 found.j first held.2 found.covers_first;
      covers_second = later_box boxes held.0 held.1 found.k second held.2 found.covers_second;
    }

-- Two parts that have something each have two boxes, which cover it.
pub parts_have_boxes : (boxes : List Rect) (parts : List (Place → ℕ)) (j k : ℕ) (first second : Place) → HoldParts boxes parts → j ≢ k
    → HasPartAt parts j first
    → HasPartAt parts k second → HaveTwoBoxes boxes first second
parts_have_boxes boxes parts j k first second held apart has too = elim (cases_lt j k) [
  | inl before ↦ two_in_order boxes parts j k first second held before has too
  | inr not_before ↦
      let found = two_in_order boxes parts k j second first held (omega arith) too has in
      record {
        j = found.k;
        k = found.j;
        apart = λ same. found.apart (sym same);
        covers_first = found.covers_second;
        covers_second = found.covers_first;
      }
]

-- ---- tiles of parts

stands_in_part : (raw : RawTech) (part : ℕ) (elements : Elements) (standing : Standing) → In standing (standings_from part elements)
    → standing.part < part + length (element_parts raw elements)
stands_in_part raw part no_elements standing stands = absurd stands
stands_in_part raw part (element_and placed tree rest) standing stands =
    elim (In-append_cases standing (map (under part placed) (standings tree)) (standings_from (suc part) rest) stands) [
      | inl here ↦
          let from = In-map_source (under part placed) standing (standings tree) here in
          let same : part ≡ standing.part = ap (λ (s : Standing). s.part) from.1.1 in
          omega arith
      | inr later ↦ let below = stands_in_part raw (suc part) rest standing later in omega arith
    ]

stands_in : (raw : RawTech) (tree : CellTree) (standing : Standing) → In standing (standings tree) → standing.part < length (parts_in raw tree)
stands_in raw (cell_tree own elements) standing (inl same) = let part : 0 ≡ standing.part = ap (λ (s : Standing). s.part) same in omega arith
stands_in raw (cell_tree own elements) standing (inr stands) = let below = stands_in_part raw 1 elements standing stands in omega arith

-- the part of a tile is one of the cell's
pub part_is_there : (raw : RawTech) (tree : CellTree) (area : Rect) (tile : PartTile) → IsPartTileIn tree area tile
    → tile.part < length (parts_in raw tree)
part_is_there raw tree area tile is =
    let below = stands_in raw tree is.standing (In-slice_get (standings tree) tile.element is.standing is.there) in
    let part = is.part in
    omega arith

-- ---- one list

-- A cell of a lawful library has one list of the boxes of its elements.
pub one_list_of_boxes : (library : LibraryParts) → IsLawfulLibrary library → (cell : ℕ) (boxes others : List Rect)
    → AreElementBoxes (seen library) cell boxes
    → AreElementBoxes (seen library) cell others → boxes ≡ others
one_list_of_boxes library lawful cell boxes others are too = elim (cases_lt cell (length library.contents)) [
  | inl below ↦ boxes_are library lawful cell boxes below are ∙ sym (boxes_are library lawful cell others below too)
  | inr past ↦
      let none = none_past library lawful cell past in
      are.are ∙ ap (hulls_below (size_at are.sizes)) none ∙ sym (too.are ∙ ap (hulls_below (size_at too.sizes)) none)
]
