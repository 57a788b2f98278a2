-- A cell with all that stands below it, as a tree that has the names of its elements and the labels of its cells.
use Rattle.std.specs.Prelude.{ℕ, List, [], ◌∷◌, ◌++◌, map}
use Rattle.offences.specs.GeoCore.declared.transforms.Transform.{Transform}
use Rattle.offences.specs.GeoCore.Images.{composed, identity, image}
use Rattle.offences.specs.TechModel.declared.raw.Label.{Label}
use Rattle.offences.specs.LayoutModel.Layouts.{Layout}
use Rattle.offences.specs.LayoutModel.Places.{Place}
use Rattle.offences.specs.LayoutModel.CellTrees.{CellTree, Elements}
use Rattle.offences.specs.LayoutModel.CellTrees.CellTree.{cell_tree}
use Rattle.offences.specs.LayoutModel.CellTrees.Elements.{no_elements, element_and}

-- what a cell has of its own: its position in its library, its name, the layout of its own paint, and its labels
pub record OwnBody : Type 0 where
  pub cell : ℕ
  pub name : List ℕ
  pub layout : Layout
  pub labels : List Label

mutual
  -- a cell, with the elements of its uses
  pub data NamedTree : Type 0 where
    named_tree : OwnBody → NamedElements → NamedTree

  -- Elements in order, each with its name, where its transform takes it. Each is one instance of a cell: an array has one for each pair of its
  -- indices.
  pub data NamedElements : Type 0 where
    no_more : NamedElements
    element_then : List ℕ → Transform → NamedTree → NamedElements → NamedElements

-- the tree without names and labels
abbrev mutual
  pub layouts_of : NamedTree → CellTree
  layouts_of (named_tree own elements) = cell_tree (record { cell = own.cell; layout = own.layout }) (layouts_below elements)

  pub layouts_below : NamedElements → Elements
  layouts_below no_more = no_elements
  layouts_below (element_then id placed tree rest) = element_and placed (layouts_of tree) (layouts_below rest)

-- what the cell at the top has of its own
abbrev pub own_body : NamedTree → OwnBody
own_body (named_tree own elements) = own

-- the elements of the cell at the top
abbrev pub named_elements_in : NamedTree → NamedElements
named_elements_in (named_tree own elements) = elements

-- the place that the transform takes a place to
abbrev pub place_forth : Transform → Place → Place
place_forth placed place = record { plane = place.plane; square = image placed place.square }

-- A cell that stands somewhere at or below another, as one instance: the names of the elements that lead to it, the outermost first, and where
-- it stands.
pub record NamedStanding : Type 0 where
  pub ids : List (List ℕ)
  pub placed : Transform
  pub own : OwnBody

-- the same from a cell above, one of whose elements, of this name, stands at the transform
abbrev pub named_above : List ℕ → Transform → NamedStanding → NamedStanding
named_above id placed standing = record {
  ids = id ∷ standing.ids;
  placed = composed standing.placed placed;
  own = standing.own;
}

-- All cells at and below a cell as they stand: the cell itself first, and then, element by element, what stands at and below each.
abbrev mutual
  pub named_standings : NamedTree → List NamedStanding
  named_standings (named_tree own elements) = record { ids = []; placed = identity; own = own } ∷ named_standings_below elements

  pub named_standings_below : NamedElements → List NamedStanding
  named_standings_below no_more = []
  named_standings_below (element_then id placed tree rest) = map (named_above id placed) (named_standings tree) ++ named_standings_below rest
