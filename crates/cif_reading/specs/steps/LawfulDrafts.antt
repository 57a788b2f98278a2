-- What holds of a text as far as it is read.
use Rattle.std.specs.Prelude.{◌≡◌, ℕ, length, slice_get, Some, All}
use Rattle.finite_sets.specs.Lists.{Distinct}
use Rattle.cif_model.specs.Cifs.{IsLawfulItem}
use Rattle.cif_model.specs.declared.cifs.CifSymbol.{CifSymbol}
use Rattle.cif_reading.specs.Drafts.{Draft, IsLawfulOpened}

-- Each layer stands once, a symbol calls earlier symbols alone, and the symbol that is being defined and the top level call any that are defined.
pub record IsLawfulDraft (draft : Draft) : Type 0 where
  pub layers : Distinct draft.layers
  pub symbols : (place : ℕ) (symbol : CifSymbol) → slice_get draft.symbols place ≡ Some symbol
      → All (IsLawfulItem (length draft.layers) place) symbol.items
  pub items : All (IsLawfulItem (length draft.layers) (length draft.symbols)) draft.items
  pub top : All (IsLawfulItem (length draft.layers) (length draft.symbols)) draft.top
  pub opened : IsLawfulOpened draft.symbols draft.opened
