-- Which records a root reaches, and records in which the plain forms of those stand.
use Rattle.std.specs.Prelude.{◌≡◌, ℕ, Bool, if◌then◌else◌, Option, Some, None, List, [], ◌∷◌, ◌++◌, map, slice_get}
use Rattle.std.specs.Option.{option_or}
use Rattle.finite_sets.specs.Lists.{In}
use Rattle.ext_model.specs.declared.records.CellExt.{CellExt}
use Rattle.ext_model.specs.declared.arrays.ArrayUse.{ArrayUse}
use Rattle.ext_model.specs.declared.arrays.ArrayExt.{ArrayExt}
use Rattle.ext_model.specs.Plain.{plain, plain_uses}
use Rattle.circuit_model.specs.declared.faults.FlatFault.{FlatFault}
use Rattle.circuit_model.specs.Elements.{AreRecords}
use Rattle.circuit_model.specs.Refusals.{walk_fault}
use Rattle.flat_limits.specs.ElementTree.declared.graph.RecordGraph.{RecordGraph}
use Rattle.flat_limits.specs.ElementTree.Graphs.{IsGraphOf}
use Rattle.flat_limits.specs.ElementTree.Trees.{tree_fault}
use Rattle.plain_records.specs.Plains.{plains}

-- ---- the graph of plain records

-- the children of a record whose uses lead to these: each as often as its use has elements
abbrev pub spread : List ArrayUse → List ℕ → List ℕ
spread [] children = []
spread (used ∷ uses) [] = []
spread (used ∷ uses) (child ∷ children) = map (λ _. child) (plain_uses used) ++ spread uses children

-- so for each record
abbrev pub spreads : List ArrayExt → List (List ℕ) → List (List ℕ)
spreads [] lists = []
spreads (ext ∷ exts) [] = []
spreads (ext ∷ exts) (children ∷ lists) = spread ext.uses children ∷ spreads exts lists

-- the graph of the plain records where this is that of the uses
abbrev pub spread_graph : List ArrayExt → RecordGraph → RecordGraph
spread_graph exts graph = record { children = spreads exts graph.children; order = graph.order }

-- ---- the records reached

-- These are records with the root among them, whose uses lead to records that are among them too.
pub record AreReached (exts : List CellExt) (root : ℕ) (order : List ℕ) : Type 0 where
  pub children : List (List ℕ)
  pub is : IsGraphOf exts root (record { children = children; order = order })

-- a use leads nowhere or back, or there are too many cells in a chain or elements
abbrev pub reach_fault : List CellExt → CellExt → Option FlatFault
reach_fault exts top = option_or (walk_fault exts top) (tree_fault exts top)

abbrev pub HasNoReachFault : List CellExt → ℕ → Type 0
HasNoReachFault exts root = (top : CellExt) → slice_get exts root ≡ Some top → reach_fault exts top ≡ None

abbrev pub IsReachFaultOf : List CellExt → ℕ → FlatFault → Type 0
IsReachFaultOf exts root fault = (top : CellExt) → slice_get exts root ≡ Some top → reach_fault exts top ≡ Some fault

-- ---- plain records in their places

-- the record with its merges or without
abbrev pub with_merges : Bool → CellExt → CellExt
with_merges merged ext = record {
  cell = ext.cell;
  tech = ext.tech;
  classes = ext.classes;
  uses = ext.uses;
  nodes = ext.nodes;
  fets = ext.fets;
  merges = if merged then ext.merges else [];
}

-- the plain form of a record, with its merges or without
abbrev pub form : Bool → ArrayExt → CellExt
form merged ext = with_merges merged (plain ext)

-- The records are of the same cells.
abbrev pub AreCalled : List ArrayExt → List CellExt → Type 0
AreCalled exts records = map (λ ext. ext.cell) records ≡ map (λ ext. ext.cell) exts

-- The records are of the same cells, and the plain forms of those in the order stand in their places.
pub record AreExpanded (merged : Bool) (exts : List ArrayExt) (order : List ℕ) (records : List CellExt) : Type 0 where
  pub lawful : AreRecords records
  pub called : AreCalled exts records
  pub plain : (cell : ℕ) (ext : ArrayExt) → In cell order → slice_get exts cell ≡ Some ext → slice_get records cell ≡ Some (form merged ext)

-- The plain forms of all records that the root reaches stand in their places.
pub record IsExpandedAt (merged : Bool) (exts : List ArrayExt) (root : ℕ) (records : List CellExt) : Type 0 where
  pub order : List ℕ
  pub reached : AreReached (plains exts) root order
  pub expanded : AreExpanded merged exts order records
