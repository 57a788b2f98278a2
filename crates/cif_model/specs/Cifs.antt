-- The parts of a CIF text, and what holds of each text that is read.
use Rattle.std.specs.Prelude.{◌≡◌, ◌<◌, ◌^◌, ℕ, ℤ, unsigned_abs, List, length, slice_get, Some, All, ⊤}
use Rattle.finite_sets.specs.Lists.{Distinct}
use Rattle.geo_core.specs.declared.squares.Rect.{Rect}
use Rattle.cif_model.specs.declared.cifs.CifItem.{CifItem}
use Rattle.cif_model.specs.declared.cifs.CifItem.TheVariants.{Area, Call}
use Rattle.cif_model.specs.declared.cifs.CifMove.{CifMove}
use Rattle.cif_model.specs.declared.cifs.CifMove.TheVariants.{Shift, MirrorX, MirrorY, Turn}
use Rattle.cif_model.specs.declared.cifs.CifSymbol.{CifSymbol}

-- The layers in the order of their first boxes in the text, the symbols in the order of their definitions, and what stands at the top level.
pub record CifParts : Type 0 where
  pub layers : List (List ℕ)
  pub symbols : List CifSymbol
  pub top : List CifItem

-- a number of a text, scaled
abbrev pub IsScaledNumber : ℤ → Type 0
IsScaledNumber z = unsigned_abs z < 2 ^ 53

-- all edges are such numbers
pub record HasScaledEdges (area : Rect) : Type 0 where
  pub xlo : IsScaledNumber area.xlo
  pub ylo : IsScaledNumber area.ylo
  pub xhi : IsScaledNumber area.xhi
  pub yhi : IsScaledNumber area.yhi

-- a turn is one of four, and a shift has such numbers
abbrev pub IsLawfulMove : CifMove → Type 0
IsLawfulMove (Shift x y) = IsScaledNumber x × IsScaledNumber y
IsLawfulMove MirrorX = ⊤
IsLawfulMove MirrorY = ⊤
IsLawfulMove (Turn quarters) = quarters < 4

-- a box has one of so many layers, and a call one of so many symbols
abbrev pub IsLawfulItem : ℕ → ℕ → CifItem → Type 0
IsLawfulItem layers symbols (Area layer area) = (layer < layers) × HasScaledEdges area
IsLawfulItem layers symbols (Call symbol moves) = (symbol < symbols) × All IsLawfulMove moves

-- Each layer stands once, a symbol calls earlier symbols alone, and the top level calls any.
pub record IsLawfulCif (cif : CifParts) : Type 0 where
  pub layers : Distinct cif.layers
  pub symbols : (place : ℕ) (symbol : CifSymbol) → slice_get cif.symbols place ≡ Some symbol → All (IsLawfulItem (length cif.layers) place) symbol.items
  pub top : All (IsLawfulItem (length cif.layers) (length cif.symbols)) cif.top
