-- A CIF text as far as it is read.
use Rattle.std.specs.Prelude.{◌≡◌, ℕ, ℤ, pos, Bool, false, List, [], Option, Some, None, ⊤}
use Rattle.std.specs.List.{list_any, position_or_len}
use Rattle.std.specs.Ordering.{int_eq}
use Rattle.std.specs.Str.{bytes_eq}
use Rattle.cif_model.specs.declared.cifs.CifItem.{CifItem}
use Rattle.cif_model.specs.declared.cifs.CifSymbol.{CifSymbol}
use Rattle.cif_reading.specs.declared.drafts.Opened.{Opened}
use Rattle.cif_reading.specs.declared.scales.Scale.{Scale}
use Rattle.cif_reading.specs.Scales.{IsScale}

-- The layer; the symbol that is being defined, and what it has so far; the layers with a box, the symbols and the top level that have been
-- read; and whether the text has ended.
pub record Draft : Type 0 where
  pub layer : Option (List ℕ)
  pub opened : Option Opened
  pub items : List CifItem
  pub layers : List (List ℕ)
  pub symbols : List CifSymbol
  pub top : List CifItem
  pub ended : Bool

-- nothing yet
abbrev pub nothing_yet : Draft
nothing_yet = record { layer = None; opened = None; items = []; layers = []; symbols = []; top = []; ended = false }

-- the scale of the symbol that is being defined; numbers of the top level stand as they are
abbrev pub scale_of : Option Opened → Scale
scale_of None = record { up = pos 1; down = pos 1 }
scale_of (Some opened) = opened.scale

abbrev pub has_number : ℤ → CifSymbol → Bool
has_number n symbol = int_eq n symbol.number

-- a symbol of this number is defined
unfoldable pub has_symbol : ℤ → List CifSymbol → Bool
has_symbol n symbols = list_any (has_number n) symbols

-- its place among the symbols
abbrev pub symbol_place : ℤ → List CifSymbol → ℕ
symbol_place n symbols = position_or_len (has_number n) symbols

-- the place of a layer among the layers, which is behind them all where it is new
abbrev pub layer_place : List ℕ → List (List ℕ) → ℕ
layer_place name layers = position_or_len (bytes_eq name) layers

-- a symbol that is being defined has a scale, and a number of its own
abbrev pub IsLawfulOpened : List CifSymbol → Option Opened → Type 0
IsLawfulOpened symbols None = ⊤
IsLawfulOpened symbols (Some opened) = IsScale opened.scale × (has_symbol opened.number symbols ≡ false)
