-- The walk through the uses of cells, depth first.
use Rattle.std.specs.Prelude.{ℕ, zero, suc, ◌<◌, ◌==◌, if◌then◌else◌, Option, Some, None, List, [], ◌∷◌, length, slice_index_or, reverse}
use Rattle.std.specs.List.{list_any}
use Rattle.std.specs.Option.{option_or}
use Rattle.name_index.specs.FiniteSets.Lists.{In, Distinct}
use Rattle.element_tree.specs.declared.faults.WalkFault.{WalkFault}
use Rattle.element_tree.specs.declared.faults.WalkFault.TheVariants.{NoCell, Cycle}

-- for each cell where its uses lead, each to a cell or nowhere
abbrev pub Graph : Type 0
Graph = List (List (Option ℕ))

abbrev pub uses_of : Graph → ℕ → List (Option ℕ)
uses_of graph cell = slice_index_or graph cell []

-- Each use that leads to a cell leads to one of the graph.
abbrev pub IsGraph : Graph → Type 0
IsGraph graph = (cell child : ℕ) → In (Some child) (uses_of graph cell) → child < length graph

-- The first fault of a cell's uses from one on: one that leads nowhere, one that leads to a cell that is open, or one
-- below whose cell a fault is found.
abbrev pub fault_from : (ℕ → Option WalkFault) → List ℕ → ℕ → ℕ → List (Option ℕ) → Option WalkFault
fault_from below open_cells cell at [] = None
fault_from below open_cells cell at (None ∷ uses) = Some (NoCell (record { cell = cell; at = at }))
fault_from below open_cells cell at (Some child ∷ uses) =
    if list_any (λ other. other == child) open_cells then Some (Cycle (record { cell = cell; at = at }))
    else option_or (below child) (fault_from below open_cells cell (suc at) uses)

-- the first fault at or below a cell, depth first, where these cells are open; the first number bounds the depth
unfoldable pub fault_below : ℕ → Graph → List ℕ → ℕ → Option WalkFault
fault_below zero graph open_cells cell = None
fault_below (suc depth) graph open_cells cell =
    fault_from (λ child. fault_below depth graph (child ∷ open_cells) child) open_cells cell 0 (uses_of graph cell)

-- The first fault of the walk from a root. No chain of different cells is longer than there are cells.
abbrev pub walk_fault : Graph → ℕ → Option WalkFault
walk_fault graph root = fault_below (suc (length graph)) graph (root ∷ []) root

-- Each use of each cell of the list leads to a cell that stands before it.
abbrev pub IsDoneIn : List ℕ → List (Option ℕ) → Type 0
IsDoneIn order [] = Unit {0}
IsDoneIn order (None ∷ uses) = ⊥
IsDoneIn order (Some child ∷ uses) = In child order × IsDoneIn order uses

-- Of cells in the order in which they are done, the last first: each use of each leads to one that was done before.
abbrev pub IsClosed : Graph → List ℕ → Type 0
IsClosed graph [] = Unit {0}
IsClosed graph (cell ∷ before) = IsDoneIn before (uses_of graph cell) × IsClosed graph before

-- The cells at and below a root in the order in which they are done.
pub record IsOrder (graph : Graph) (root : ℕ) (order : List ℕ) : Type 0 where
  pub once : Distinct (reverse order)
  pub within : (cell : ℕ) → In cell (reverse order) → cell < length graph
  pub root_in : In root (reverse order)
  pub closed : IsClosed graph (reverse order)
