-- Which record each use of a tree of records leads to.
use Rattle.std.specs.Prelude.{◌≡◌, ◌<◌, ℕ, Some, None, List, [], ◌∷◌, All, length, reverse, slice_get, slice_index_or}
use Rattle.name_index.specs.FiniteSets.Lists.{In, Distinct}
use Rattle.ext_model.specs.declared.records.UseRec.{UseRec}
use Rattle.ext_model.specs.declared.records.CellExt.{CellExt}
use Rattle.circuit_model.specs.declared.faults.FlatFault.{FlatFault}
use Rattle.circuit_model.specs.Elements.{ext_of}
use Rattle.circuit_model.specs.Refusals.{walk_fault}
use Rattle.element_tree.specs.declared.graph.RecordGraph.{RecordGraph}

-- Each use leads to the record of its cell, which is one of those that are done.
abbrev pub LeadTo : List CellExt → List ℕ → List UseRec → List ℕ → Type 0
LeadTo exts done [] [] = Unit {0}
LeadTo exts done [] (child ∷ children) = ⊥
LeadTo exts done (used ∷ uses) [] = ⊥
LeadTo exts done (used ∷ uses) (child ∷ children) =
    (slice_get exts child ≡ ext_of exts used.cell) × (In child done × LeadTo exts done uses children)

-- the records that the uses of one lead to
abbrev pub children_of : List (List ℕ) → ℕ → List ℕ
children_of children cell = slice_index_or children cell []

-- Of records in the order in which they are done, the last first: the uses of each lead to records that were done before.
abbrev pub AreDone : List CellExt → List (List ℕ) → List ℕ → Type 0
AreDone exts children [] = Unit {0}
AreDone exts children (cell ∷ done) =
    ((ext : CellExt) → slice_get exts cell ≡ Some ext → LeadTo exts done ext.uses (children_of children cell)) × AreDone exts children done

-- The graph says where the uses lead of each record at or below the root.
pub record IsGraphOf (exts : List CellExt) (root : ℕ) (graph : RecordGraph) : Type 0 where
  pub long : length graph.children ≡ length exts
  pub once : Distinct graph.order
  pub within : All (λ cell. cell < length exts) graph.order
  pub root_in : In root graph.order
  pub done : AreDone exts graph.children (reverse graph.order)

-- Each use at or below the root leads to a record, and none leads back.
abbrev pub HasNoWalkFault : List CellExt → ℕ → Type 0
HasNoWalkFault exts root = (top : CellExt) → slice_get exts root ≡ Some top → walk_fault exts top ≡ None

-- The first use that leads nowhere or back is this fault.
abbrev pub IsWalkFaultOf : List CellExt → ℕ → FlatFault → Type 0
IsWalkFaultOf exts root fault = (top : CellExt) → slice_get exts root ≡ Some top → walk_fault exts top ≡ Some fault
