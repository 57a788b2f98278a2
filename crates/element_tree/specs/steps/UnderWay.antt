-- A walk under way.
use Rattle.std.specs.Prelude.{◌≡◌, ◌⊎◌, ℕ, suc, ◌<◌, ◌≤◌, ◌-◌, ◌+◌, Option, Some, None, List, [], ◌∷◌, ◌++◌, length, slice_index_or, take, drop}
use Rattle.std.specs.Option.{option_or}
use Rattle.name_index.specs.FiniteSets.Lists.{In, Distinct}
use Rattle.element_tree.specs.declared.faults.WalkFault.{WalkFault}
use Rattle.element_tree.specs.steps.Walks.{Graph, uses_of, fault_from, fault_below, walk_fault, IsDoneIn, IsClosed}
use Rattle.element_tree.specs.declared.walks.Mark.{Mark}
use Rattle.element_tree.specs.declared.walks.Mark.TheVariants.{New, Open, Done}

-- What is left to find: in the uses of the innermost open cell that have not been taken, and then in those of the others.
-- The numbers say of each cell which use is next.
abbrev pub fault_left : Graph → List ℕ → List ℕ → Option WalkFault
fault_left graph next [] = None
fault_left graph next (cell ∷ open_cells) =
    option_or
    (fault_from (λ child. fault_below (suc (length graph) - suc (length open_cells)) graph (child ∷ cell ∷ open_cells) child)
    (cell ∷ open_cells) cell (slice_index_or next cell 0) (drop (slice_index_or next cell 0) (uses_of graph cell)))
    (fault_left graph next open_cells)

-- The open cells from one on that waits for a child: the use before the next leads to the child, and all before that to
-- cells that are done.
abbrev pub IsWaiting : Graph → List ℕ → List ℕ → ℕ → List ℕ → Type 0
IsWaiting graph next order child [] = Unit {0}
IsWaiting graph next order child (cell ∷ open_cells) =
    (before : List (Option ℕ)) × ((take (slice_index_or next cell 0) (uses_of graph cell) ≡ before ++ (Some child ∷ []))
    × (IsDoneIn order before × ((slice_index_or next cell 0 ≤ length (uses_of graph cell)) × IsWaiting graph next order cell open_cells)))

-- The innermost open cell has taken uses that lead to cells that are done.
abbrev pub IsOpen : Graph → List ℕ → List ℕ → List ℕ → Type 0
IsOpen graph next order [] = Unit {0}
IsOpen graph next order (cell ∷ open_cells) =
    (slice_index_or next cell 0 ≤ length (uses_of graph cell))
    × (IsDoneIn order (take (slice_index_or next cell 0) (uses_of graph cell)) × IsWaiting graph next order cell open_cells)

-- how many uses are left to take
abbrev pub uses_left : Graph → List ℕ → ℕ
uses_left [] next = 0
uses_left (uses ∷ graph) [] = 0
uses_left (uses ∷ graph) (at ∷ next) = (length uses - at) + uses_left graph next

abbrev pub mark_of : List Mark → ℕ → Mark
mark_of marks cell = slice_index_or marks cell New

-- A walk under way: the open cells, the innermost first, and the done ones, the last first.
pub record IsUnderWay (graph : Graph) (root : ℕ) (marks : List Mark) (next open_cells done : List ℕ) : Type 0 where
  pub long : length marks ≡ length graph
  pub long_next : length next ≡ length graph
  pub open_once : Distinct open_cells
  pub done_once : Distinct done
  pub open_within : (cell : ℕ) → In cell open_cells → cell < length graph
  pub done_within : (cell : ℕ) → In cell done → cell < length graph
  pub marked_open : (cell : ℕ) → In cell open_cells → mark_of marks cell ≡ Open
  pub marked_done : (cell : ℕ) → In cell done → mark_of marks cell ≡ Done
  pub is_open : (cell : ℕ) → mark_of marks cell ≡ Open → In cell open_cells
  pub is_done : (cell : ℕ) → mark_of marks cell ≡ Done → In cell done
  pub fresh : (cell : ℕ) → cell < length graph → mark_of marks cell ≡ New → slice_index_or next cell 0 ≡ 0
  pub closed : IsClosed graph done
  pub stack : IsOpen graph next done open_cells
  pub left : walk_fault graph root ≡ fault_left graph next open_cells
  pub root_in : In root open_cells ⊎ In root done
