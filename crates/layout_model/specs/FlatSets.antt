-- The flat layout of a cell, as the set of tile parts at each place, and the parts that it is made of.
use Rattle.std.specs.Prelude.{ℕ, bit_or, List, [], ◌∷◌}
use Rattle.layout_model.specs.TechModel.declared.raw.RawTech.{RawTech}
use Rattle.layout_model.specs.TechModel.Types.{parts_of}
use Rattle.layout_model.specs.Layouts.{Layout}
use Rattle.layout_model.specs.LayerTypes.{HasTypesOf}
use Rattle.layout_model.specs.Places.{Place}
use Rattle.layout_model.specs.CellTrees.{CellTree, Elements, place_back}
use Rattle.layout_model.specs.CellTrees.CellTree.{cell_tree}
use Rattle.layout_model.specs.CellTrees.Elements.{no_elements, element_and}

-- the sets of the types of a layout
abbrev pub sets_in : RawTech → Layout → Place → ℕ
sets_in raw layout place = parts_of raw (layout place)

-- The set at a place of the flat layout: the union of the sets of the own types there of all that stands at and below the cell.
abbrev mutual
  pub flat_sets : RawTech → CellTree → Place → ℕ
  flat_sets raw (cell_tree own elements) place = bit_or (sets_in raw own.layout place) (sets_below raw elements place)

  pub sets_below : RawTech → Elements → Place → ℕ
  sets_below raw no_elements place = 0
  sets_below raw (element_and placed tree rest) place = bit_or (flat_sets raw tree (place_back placed place)) (sets_below raw rest place)

-- the flat layouts of elements, each under its transform
abbrev pub element_parts : RawTech → Elements → List (Place → ℕ)
element_parts raw no_elements = []
element_parts raw (element_and placed tree rest) = (λ place. flat_sets raw tree (place_back placed place)) ∷ element_parts raw rest

-- the parts of a cell: its own layout, and its elements
abbrev pub parts_in : RawTech → CellTree → List (Place → ℕ)
parts_in raw (cell_tree own elements) = sets_in raw own.layout ∷ element_parts raw elements

-- the elements of a cell
abbrev pub elements_in : CellTree → Elements
elements_in (cell_tree own elements) = elements

-- Each own layout of the tree has types of the technology alone, each on its plane.
abbrev mutual
  pub IsTyped : RawTech → CellTree → Type 0
  IsTyped raw (cell_tree own elements) = HasTypesOf raw own.layout × AreTyped raw elements

  pub AreTyped : RawTech → Elements → Type 0
  AreTyped raw no_elements = Unit {0}
  AreTyped raw (element_and placed tree rest) = IsTyped raw tree × AreTyped raw rest
