-- Which cells are clean.
use Rattle.std.specs.Prelude.{◌∷◌}
use Rattle.tech_model.specs.declared.raw.RawTech.{RawTech}
use Rattle.offences.specs.LayoutModel.Places.{Place}
use Rattle.offences.specs.Offences.{Offends}
use Rattle.offences.specs.LayoutModel.CellTrees.{CellTree, Elements}
use Rattle.offences.specs.LayoutModel.CellTrees.CellTree.{cell_tree}
use Rattle.offences.specs.LayoutModel.CellTrees.Elements.{no_elements, element_and}
use Rattle.offences.specs.LayoutModel.FlatSets.{sets_in, element_parts, elements_in}

-- A cell is clean where all cells below it are and no place of it offends.
abbrev mutual
  pub IsClean : RawTech → CellTree → Type 0
  IsClean raw (cell_tree own elements) = AreClean raw elements × ((place : Place) → Offends raw (sets_in raw own.layout ∷ element_parts raw elements) place → ⊥)

  pub AreClean : RawTech → Elements → Type 0
  AreClean raw no_elements = Unit {0}
  AreClean raw (element_and placed tree rest) = IsClean raw tree × AreClean raw rest

-- All cells below the cell are clean.
abbrev pub IsCleanBelow : RawTech → CellTree → Type 0
IsCleanBelow raw tree = AreClean raw (elements_in tree)
