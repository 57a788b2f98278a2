-- A cell with all that stands below it, as a tree.
use Rattle.std.specs.Prelude.{ℕ, zero, suc, List, [], ◌∷◌, ◌++◌, map}
use Rattle.layout_model.specs.GeoCore.declared.transforms.Transform.{Transform}
use Rattle.layout_model.specs.GeoCore.Images.{composed, identity, image, inverted}
use Rattle.layout_model.specs.Layouts.{Layout}
use Rattle.layout_model.specs.Places.{Place}

-- which cell it is, and its own layout
pub record OwnCell : Type 0 where
  pub cell : ℕ
  pub layout : Layout

mutual
  -- a cell, with the elements of its uses
  pub data CellTree : Type 0 where
    cell_tree : OwnCell → Elements → CellTree

  -- elements in order, each where its transform takes it
  pub data Elements : Type 0 where
    no_elements : Elements
    element_and : Transform → CellTree → Elements → Elements

-- the place of an element that the transform takes to a place
abbrev pub place_back : Transform → Place → Place
place_back placed place = record { plane = place.plane; square = image (inverted placed) place.square }

-- A cell that stands somewhere at or below another, and where. The part is that of the upper cell in which it stands: 0 is its own
-- layout, and its elements are counted from 1.
pub record Standing : Type 0 where
  pub part : ℕ
  pub own : OwnCell
  pub placed : Transform

-- the same for a cell above, one of whose elements, with this number, stands at the transform
abbrev pub under : ℕ → Transform → Standing → Standing
under part placed standing = record { part = part; own = standing.own; placed = composed standing.placed placed }

-- Where all cells at and below a cell stand: the cell itself first, and then, element by element, what stands at and below each.
abbrev mutual
  pub standings : CellTree → List Standing
  standings (cell_tree own elements) = record { part = 0; own = own; placed = identity } ∷ standings_from 1 elements

  pub standings_from : ℕ → Elements → List Standing
  standings_from part no_elements = []
  standings_from part (element_and placed tree rest) = map (under part placed) (standings tree) ++ standings_from (suc part) rest

-- the own types at a place, of all that stands there
abbrev mutual
  pub own_types : CellTree → Place → List ℕ
  own_types (cell_tree own elements) place = own.layout place ∷ own_types_below elements place

  pub own_types_below : Elements → Place → List ℕ
  own_types_below no_elements place = []
  own_types_below (element_and placed tree rest) place = own_types tree (place_back placed place) ++ own_types_below rest place
