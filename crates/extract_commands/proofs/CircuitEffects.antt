-- What `flat` and `sim` write of the circuit of a cell.
use Rattle.extract_commands.proofs.Common.{◌≡◌, ◌<◌, ◌⊎◌, ◌++◌, ℕ, List, [], length, Some, inl, inr, refl, sym, ap, ◌∙◌, subst, Effect, Circuit}
use Rattle.extract_commands.proofs.Common.{CircuitLimit, LibraryView, IsCleanCell, CircuitFile, Written, Passed, Stored, IsWritten, lines_of}
use Rattle.extract_commands.proofs.Common.{stores_of, Extraction, IsCircuitAt, RefusesUnclean, with_clean, State, IsWrittenAt, WritesCircuit}
use Rattle.extract_commands.proofs.Common.{CellCircuitsAreUnique, CellCircuitsPassNoLimit, CellLimitsAreUnique, ExtractedCellsAreNotRefused}
use Rattle.extract_commands.proofs.Common.{ExtractionsAreUnique, UncleanRefusalsAreUnique, IsSoundView}
use Rattle.uniqueness.specs.CircuitCommands.declared.limits.Limit.TheVariants.{Circuit as OfCircuit, Switches, Text}
use Rattle.uniqueness.specs.Ext2simEffects.{WrittenCircuitsAreUnique}
use Rattle.workspace.specs.CellCircuits.{PassesAt}
use Rattle.extract_commands.specs.OneEffects.{CircuitMeansOneEffect}
use Rattle.extract_commands.proofs.OnCells.{MeansOneOnCells, one_extracted, one_on_cell}

-- what is written of the circuit of a cell
abbrev WritesCircuitAt : CircuitFile → LibraryView → ℕ → List ℕ → Written → Type 0
WritesCircuitAt file view cell name written = (circuit : Circuit) × IsCircuitAt view cell circuit × IsWritten file name circuit written

-- the limit is told that the cell passes
abbrev TellsPassed : LibraryView → ℕ → Written → Type 0
TellsPassed view cell written = (limit : CircuitLimit) × PassesAt view cell limit × (written ≡ Passed (OfCircuit limit))

-- it is one of both
circuit_or_limit : (file : CircuitFile) (view : LibraryView) (cell : ℕ) (name : List ℕ) (written : Written) → IsWrittenAt file view cell name written
    → WritesCircuitAt file view cell name written ⊎ TellsPassed view cell written
circuit_or_limit file view cell name (Stored lines store) p = inl p
circuit_or_limit file view cell name (Passed limit) (inr p) = inl p
circuit_or_limit file view cell name (Passed (OfCircuit limit)) (inl p) = inr (limit, p, refl)
circuit_or_limit file view cell name (Passed Switches) (inl p) = absurd p
circuit_or_limit file view cell name (Passed Text) (inl p) = absurd p

module _ (one_circuit : CellCircuitsAreUnique) (one_limit : CellLimitsAreUnique) (either : CellCircuitsPassNoLimit)
    (one_text : WrittenCircuitsAreUnique) where
  -- one thing is written at a clean cell
  same_written : (file : CircuitFile) (view : LibraryView) (cell : ℕ) (name : List ℕ) (written other : Written) → IsSoundView view
      → cell < length view.cells → IsCleanCell view cell → IsWrittenAt file view cell name written → IsWrittenAt file view cell name other
      → written ≡ other
  same_written file view cell name written other sound there clean p q =
      cases (circuit_or_limit file view cell name written p) (circuit_or_limit file view cell name other q)
    where
      cases : WritesCircuitAt file view cell name written ⊎ TellsPassed view cell written
          → WritesCircuitAt file view cell name other ⊎ TellsPassed view cell other → written ≡ other
      cases (inl a) (inl b) =
          let same = one_circuit view cell a.0 b.0 sound there clean a.1 b.1 in
          one_text file name a.0 written other a.2 (subst (λ (circuit : Circuit). IsWritten file name circuit other) (sym same) b.2)
      cases (inl a) (inr b) = absurd (either view cell a.0 b.0 sound there clean a.1 b.1)
      cases (inr a) (inl b) = absurd (either view cell b.0 a.0 sound there clean b.1 a.1)
      cases (inr a) (inr b) =
          a.2 ∙ ap (λ (limit : CircuitLimit). Passed (OfCircuit limit)) (one_limit view cell a.0 b.0 sound there clean a.1 b.1) ∙ sym b.2

  module _ (one_extraction : ExtractionsAreUnique) where
    -- the circuit of a cell is written with one effect
    same_writes : (file : CircuitFile) (number : ℕ) (name : List ℕ) → MeansOneOnCells (WritesCircuit file number name)
    same_writes file number name work cell sound there effect other p q =
        let same = one_extraction work cell p.extraction q.extraction sound there p.is_extraction q.is_extraction in
        let written = same_written file work.editing.library cell name p.written q.written sound there p.is_extraction.clean p.is_written q.is_written in
        let after : Extraction → List ℕ → Written → Effect State = λ extraction order told. record {
          state = Some (with_clean work order);
          lines = extraction.lines ++ lines_of number told;
          stores = extraction.stores ++ stores_of told;
          fetched = [];
        } in
        p.is ∙ (λ i. after (same.0 i) (same.1 i) (written i)) ∙ sym q.is

    -- so `flat` and `sim` have one effect
    pub same_circuit_command : UncleanRefusalsAreUnique → ExtractedCellsAreNotRefused → CircuitMeansOneEffect
    same_circuit_command one_refusal not_both file number state name effect other sees =
        one_on_cell number state name
        (λ work cell after. WritesCircuit file number name work cell after ⊎ RefusesUnclean number work [] cell after) sees
        (one_extracted one_extraction one_refusal not_both number [] (WritesCircuit file number name)
        (λ work cell after p. (p.extraction, p.is_extraction)) (same_writes file number name)) effect other
