-- A command on a cell finds the cell, or is refused.
use Rattle.extract_commands.proofs.Common.{◌≡◌, ◌<◌, ◌⊎◌, ◌++◌, ℕ, List, [], ◌∷◌, length, Option, Some, None, inl, inr, refl, sym, ◌∙◌, MatchOption}
use Rattle.extract_commands.proofs.Common.{Effect, cell_named, refused, reply, no_cell, Extraction, RefusesUnclean, with_clean, State, Workspace}
use Rattle.extract_commands.proofs.Common.{ExtractsCell, extracted_text, ExtractedCellsAreNotRefused, ExtractionsAreUnique, UncleanRefusalsAreUnique}
use Rattle.extract_commands.proofs.Common.{IsSoundView, SeesSoundLibrary}
use Rattle.uniqueness.proofs.EditScript.CellLaws.{named_below}
use Rattle.workspace.specs.Extractions.{IsExtraction, OnCell}
use Rattle.extract_commands.specs.OneEffects.{ExtractMeansOneEffect}

-- what is meant of each cell of a lawful library is one effect
abbrev pub MeansOneOnCells : (Workspace → ℕ → Effect State → Type 0) → Type 0
MeansOneOnCells Means =
    (work : Workspace) (cell : ℕ) → IsSoundView work.editing.library → cell < length work.editing.library.cells → (effect other : Effect State)
    → Means work cell effect → Means work cell other → effect ≡ other

-- so what a command on the cell of a name means is
pub one_on_cell : (number : ℕ) (state : State) (name : List ℕ) (Means : Workspace → ℕ → Effect State → Type 0) → SeesSoundLibrary state
    → MeansOneOnCells Means → (effect other : Effect State) → OnCell number state name Means effect → OnCell number state name Means other
    → effect ≡ other
one_on_cell number None name Means sees one effect other p q = p ∙ sym q
one_on_cell number (Some work) name Means sees one effect other p q = by_found (cell_named work.editing.library name) refl p q
  where
    by_found : (found : Option ℕ) → cell_named work.editing.library name ≡ found
        → MatchOption found (effect ≡ refused number (Some work) (no_cell name) []) (λ cell. Means work cell effect)
        → MatchOption found (other ≡ refused number (Some work) (no_cell name) []) (λ cell. Means work cell other) → effect ≡ other
    by_found None is p q = p ∙ sym q
    by_found (Some cell) is p q = one work cell sees (named_below work.editing.library name cell is) effect other p q

module _ (one_extraction : ExtractionsAreUnique) (one_refusal : UncleanRefusalsAreUnique) (not_both : ExtractedCellsAreNotRefused) where
  -- a cell of which this is done that is extracted, or that is not clean
  pub one_extracted : (number : ℕ) (fetched : List (List ℕ)) (Extracts : Workspace → ℕ → Effect State → Type 0)
      → ((work : Workspace) (cell : ℕ) (effect : Effect State) → Extracts work cell effect
      → (extraction : Extraction) × IsExtraction work cell extraction)
      → MeansOneOnCells Extracts → MeansOneOnCells (λ work cell effect. Extracts work cell effect ⊎ RefusesUnclean number work fetched cell effect)
  one_extracted number fetched Extracts extracted one work cell sound there effect other (inl p) (inl q) = one work cell sound there effect other p q
  one_extracted number fetched Extracts extracted one work cell sound there effect other (inl p) (inr q) =
      let is = extracted work cell effect p in absurd (not_both number work fetched cell is.0 other sound.lawful there is.1 q)
  one_extracted number fetched Extracts extracted one work cell sound there effect other (inr p) (inl q) =
      let is = extracted work cell other q in absurd (not_both number work fetched cell is.0 effect sound.lawful there is.1 p)
  one_extracted number fetched Extracts extracted one work cell sound there effect other (inr p) (inr q) =
      one_refusal number work fetched cell effect other p q

  -- the cell is extracted with one effect
  same_extracts : (name : List ℕ) → MeansOneOnCells (ExtractsCell name)
  same_extracts name work cell sound there effect other p q =
      let same = one_extraction work cell p.extraction q.extraction sound there p.is_extraction q.is_extraction in
      let after : Extraction → List ℕ → Effect State = λ extraction order. record {
        state = Some (with_clean work order);
        lines = extraction.lines ++ reply (extracted_text name extraction.count) ∷ [];
        stores = extraction.stores;
        fetched = [];
      } in
      p.is ∙ (λ i. after (same.0 i) (same.1 i)) ∙ sym q.is

  -- so `extract` has one effect
  pub same_extract : ExtractMeansOneEffect
  same_extract number state name effect other sees =
      one_on_cell number state name (λ work cell after. ExtractsCell name work cell after ⊎ RefusesUnclean number work [] cell after) sees
      (one_extracted number [] (ExtractsCell name) (λ work cell after p. (p.extraction, p.is_extraction)) (same_extracts name)) effect other
