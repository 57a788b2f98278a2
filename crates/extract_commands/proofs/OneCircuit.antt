-- A clean cell has one circuit, or passes one limit.
use Rattle.extract_commands.proofs.Common.{◌≡◌, ◌<◌, ℕ, List, length, CellExt, CircuitLimit, LibraryView, view_at, named_tree_at, IsCleanCell}
use Rattle.extract_commands.proofs.Common.{CellCircuitsAreUnique, CellCircuitsPassNoLimit, CellLimitsAreUnique, IsSoundView}
use Rattle.circuit_model.specs.declared.faults.FlatFault.TheVariants.{TooMany as FlatTooMany}
use Rattle.uniqueness.specs.LibraryTrees.TreeRecords.TreeRecords.{HasTreeRecords}
use Rattle.uniqueness.specs.RecordUniqueness.{RecordsOfTreesAreUnique}
use Rattle.uniqueness.specs.FlatCircuits.{AgreeBelow, FlatCircuitsAreUnique, FlatCircuitsHaveNoFault, FlatFaultsAreUnique}
use Rattle.extract_commands.proofs.ReachedRecords.{agree_below}
use Rattle.extract_commands.proofs.SoundLibraries.{clean_tree_seen, lawful_tech, tree_named}

-- a fault tells of one limit
one_limit : (limit other : CircuitLimit) → FlatTooMany limit ≡ FlatTooMany other → limit ≡ other
one_limit limit other same = cc

module _ (one_each : RecordsOfTreesAreUnique) where
  -- lists with the records of a clean cell and of all below it agree on what is reached from it
  agree_at : (view : LibraryView) (cell : ℕ) (exts others : List CellExt) → IsSoundView view → cell < length view.cells
      → IsCleanCell view cell → HasTreeRecords view.tech exts (named_tree_at view cell) → HasTreeRecords view.tech others (named_tree_at view cell)
      → AgreeBelow exts others (view_at view cell).name
  agree_at view cell exts others sound there clean p q =
      let tech = lawful_tech view sound.lawful in
      agree_below view.tech exts others one_each tech.0 tech.1 (view_at view cell).name (record {
        tree = named_tree_at view cell;
        clean = clean_tree_seen view sound cell clean;
        here = p;
        there = q;
        named = tree_named view sound.lawful cell there;
      })

  -- there is one circuit
  pub same_circuit : FlatCircuitsAreUnique → CellCircuitsAreUnique
  same_circuit one view cell circuit other sound there clean p q =
      one p.exts q.exts (view_at view cell).name (agree_at view cell p.exts q.exts sound there clean p.are_records q.are_records) circuit other
      p.is_flat q.is_flat

  -- or one limit
  pub same_limit : FlatFaultsAreUnique → CellLimitsAreUnique
  same_limit one view cell limit other sound there clean p q =
      one_limit limit other
      (one p.exts q.exts (view_at view cell).name (agree_at view cell p.exts q.exts sound there clean p.are_records q.are_records)
      (FlatTooMany limit) (FlatTooMany other) p.is_fault q.is_fault)

  -- and not both
  pub passes_none : FlatCircuitsHaveNoFault → CellCircuitsPassNoLimit
  passes_none none view cell circuit limit sound there clean p q =
      none p.exts q.exts (view_at view cell).name (agree_at view cell p.exts q.exts sound there clean p.are_records q.are_records) circuit
      (FlatTooMany limit) p.is_flat q.is_fault
