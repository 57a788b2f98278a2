-- Where there is material at and below a cell.
use Rattle.std.specs.Prelude.{◌⊎◌}
use Rattle.cell_bodies.specs.LayoutModel.Layouts.{IsMaterial}
use Rattle.cell_bodies.specs.LayoutModel.Places.{Place}
use Rattle.cell_bodies.specs.LayoutModel.CellTrees.{CellTree, Elements, place_back}
use Rattle.cell_bodies.specs.LayoutModel.CellTrees.CellTree.{cell_tree}
use Rattle.cell_bodies.specs.LayoutModel.CellTrees.Elements.{no_elements, element_and}

-- Something at or below the cell has material at the place.
abbrev mutual
  pub HasMaterial : CellTree → Place → Type 0
  HasMaterial (cell_tree own elements) place = IsMaterial own.layout place ⊎ HasMaterialBelow elements place

  pub HasMaterialBelow : Elements → Place → Type 0
  HasMaterialBelow no_elements place = ⊥
  HasMaterialBelow (element_and placed tree rest) place = HasMaterial tree (place_back placed place) ⊎ HasMaterialBelow rest place
