-- A walk down the uses, from state to state.
use Rattle.std.specs.Prelude.{◌≡◌, ◌≢◌, ℕ, ◌+◌, ◌-◌, ◌*◌, ◌<◌, ◌≤◌, Bool, true, false, ◌⊎◌, List, [], ◌∷◌, ◌++◌, map, reverse, length, drop, ⊤}
use Rattle.std.specs.Prelude.{slice_index, slice_index_or, slice_set, count_by, sum_by, if◌then◌else◌, nat_lt}
use Rattle.std.specs.List.{range_with_len}
use Rattle.finite_sets.specs.Chain.{Chain}
use Rattle.finite_sets.specs.Lists.{In, Distinct}
use Rattle.use_orders.specs.declared.walk.Mark.{Mark}
use Rattle.use_orders.specs.declared.walk.Mark.TheVariants.{Unmet, Open, Listed}
use Rattle.use_orders.specs.declared.walk.OpenCell.{OpenCell}
use Rattle.use_orders.specs.declared.walk.Walk.{Walk}
use Rattle.use_orders.specs.Uses.{used_by, UsesNewCell, IsDescendant}
use Rattle.use_orders.specs.LibraryOrder.{Visits}

-- What a walk has done: the marks of all cells, the open cells from the present one up, the cells that were listed, and whether an open cell
-- was met.
pub record WalkState : Type 0 where
  pub marks : List Mark
  pub way : List OpenCell
  pub order : List ℕ
  pub is_cyclic : Bool

abbrev pub walk_state : Walk → WalkState
walk_state walk = record { marks = walk.marks.items; way = reverse walk.path.items; order = walk.order.items; is_cyclic = walk.is_cyclic }

-- the mark of a cell
abbrev pub walk_mark : List Mark → ℕ → Mark
walk_mark marks cell = slice_index_or marks cell Unmet

-- the mark of a cell before the walk: those below the first are listed
abbrev pub mark_before : ℕ → ℕ → Mark
mark_before first cell = if nat_lt cell first then Listed else Unmet

abbrev pub is_unmet : Mark → Bool
is_unmet Unmet = true
is_unmet Open = false
is_unmet Listed = false

-- a cell of which no use was followed
abbrev pub just_opened : ℕ → OpenCell
just_opened cell = record { cell = cell; followed = 0 }

-- the cell, after one more of its uses was followed
abbrev pub one_further : OpenCell → OpenCell
one_further at = record { cell = at.cell; followed = at.followed + 1 }

-- the state in which this cell is the present one, over the others
abbrev pub with_open : OpenCell → WalkState → WalkState
with_open at s = record { marks = s.marks; way = at ∷ s.way; order = s.order; is_cyclic = s.is_cyclic }

-- the state after a cell of this mark was met
abbrev pub after_meeting : Mark → ℕ → WalkState → WalkState
after_meeting Unmet cell s =
    record { marks = slice_set s.marks cell Open; way = just_opened cell ∷ s.way; order = s.order; is_cyclic = s.is_cyclic }
after_meeting Open cell s = record { marks = s.marks; way = s.way; order = s.order; is_cyclic = true }
after_meeting Listed cell s = s

-- the state after the present cell was listed
abbrev pub after_listing : ℕ → WalkState → WalkState
after_listing cell s =
    record { marks = slice_set s.marks cell Listed; way = s.way; order = s.order ++ cell ∷ []; is_cyclic = s.is_cyclic }

-- the state after the next use of the present cell was followed, over the others
abbrev pub after_following : List (List ℕ) → OpenCell → WalkState → WalkState
after_following children at s =
    let child = slice_index (used_by children at.cell) at.followed in
    after_meeting (walk_mark s.marks child) child (with_open (one_further at) s)

-- the numbers below the first count as listed, and the order is listed behind them
abbrev pub listed_by : ℕ → List ℕ → List ℕ
listed_by first order = range_with_len 0 first ++ order

abbrev pub cells_of : List OpenCell → List ℕ
cells_of way = map (λ at. at.cell) way

-- steps lead from each of the cells to the one
abbrev pub AllLeadTo : List (List ℕ) → ℕ → List ℕ → ℕ → Type 0
AllLeadTo children first cells to = (cell : ℕ) → In cell cells → Chain (UsesNewCell children first) cell to

-- the cells above each open cell lead to it
abbrev pub AreNested : List (List ℕ) → ℕ → List OpenCell → Type 0
AreNested children first [] = ⊤
AreNested children first (at ∷ way) = AllLeadTo children first (cells_of way) at.cell × AreNested children first way

-- it is a cell, and no more of its uses were followed than there are
abbrev pub IsOpenCell : List (List ℕ) → OpenCell → Type 0
IsOpenCell children at = (at.cell < length children) × (at.followed ≤ length (used_by children at.cell))

-- The marks say which cells are listed and which are open, and the open cells are a way.
pub record IsWalking (children : List (List ℕ)) (first : ℕ) (s : WalkState) : Type 0 where
  pub fits : length s.marks ≡ length children
  pub listed : (cell : ℕ) → walk_mark s.marks cell ≡ Listed → In cell (listed_by first s.order)
  pub marked : (cell : ℕ) → In cell (listed_by first s.order) → walk_mark s.marks cell ≡ Listed
  pub on_way : (cell : ℕ) → walk_mark s.marks cell ≡ Open → In cell (cells_of s.way)
  pub are_open : (cell : ℕ) → In cell (cells_of s.way) → walk_mark s.marks cell ≡ Open
  pub once : Distinct (cells_of s.way)
  pub distinct : Distinct (listed_by first s.order)
  pub nested : AreNested children first s.way
  pub within : (at : OpenCell) → In at s.way → IsOpenCell children at

-- no cell is open
abbrev pub IsAtRest : List (List ℕ) → ℕ → WalkState → Type 0
IsAtRest children first s = (s.way ≡ []) × IsWalking children first s

-- what is left to do at the open cells lists the cells after, where some are listed
abbrev pub Continues : List (List ℕ) → List OpenCell → List ℕ → List ℕ → Type 0
Continues children [] listed after = listed ≡ after
Continues children (at ∷ way) listed after =
    (below : List ℕ) × Visits children listed (drop at.followed (used_by children at.cell)) below × (In at.cell below → ⊥)
    × Continues children way (below ++ at.cell ∷ []) after

-- unless an open cell was met, what is left to do in the later state and what was done since lists what was left in the earlier one
abbrev pub Advances : List (List ℕ) → ℕ → WalkState → WalkState → Type 0
Advances children first earlier later =
    later.is_cyclic ≡ false → (earlier.is_cyclic ≡ false)
    × ((after : List ℕ) → Continues children later.way (listed_by first later.order) after
    → Continues children earlier.way (listed_by first earlier.order) after)

-- the root leads to each open cell
abbrev pub LeadsToOpen : List (List ℕ) → ℕ → ℕ → WalkState → Type 0
LeadsToOpen children first root s = (cell : ℕ) → In cell (cells_of s.way) → Chain (UsesNewCell children first) root cell

-- a cell that the root leads to is its own descendant
abbrev pub HasCycle : List (List ℕ) → ℕ → ℕ → Type 0
HasCycle children first root = (cell : ℕ) × Chain (UsesNewCell children first) root cell × IsDescendant (UsesNewCell children first) cell cell

-- steps lead from each of the cells to the other
abbrev pub AreMutual : List (List ℕ) → ℕ → ℕ → ℕ → Type 0
AreMutual children first cell other = Chain (UsesNewCell children first) cell other × Chain (UsesNewCell children first) other cell

-- the one stands in the list, and the other at the same place or behind it
abbrev pub IsUpTo : List ℕ → ℕ → ℕ → Type 0
IsUpTo order cell other =
    (i : ℕ) × (j : ℕ) × (i ≤ j) × (j < length order) × (slice_index order i ≡ cell) × (slice_index order j ≡ other)

-- a cell is listed, or open, to and from which steps lead, and which stands no earlier than the other
abbrev pub ComesUpTo : List (List ℕ) → ℕ → WalkState → ℕ → ℕ → Type 0
ComesUpTo children first s cell other =
    ((last : ℕ) × (AreMutual children first cell last × IsUpTo s.order other last))
    ⊎ ((last : ℕ) × (AreMutual children first cell last × In last (cells_of s.way)))

-- the cell was met
abbrev pub WasMet : WalkState → ℕ → Type 0
WasMet s cell = walk_mark s.marks cell ≢ Unmet

-- The children of listed cells were met, and those of the uses that were followed. Where steps lead from a listed cell to another, that one is
-- listed no later than some cell of those from which and to which steps lead, unless one of these is still open.
pub record IsThorough (children : List (List ℕ)) (first : ℕ) (s : WalkState) : Type 0 where
  pub closed : (cell child : ℕ) → In cell s.order → UsesNewCell children first cell child → WasMet s child
  pub followed : (at : OpenCell) → In at s.way → (k : ℕ) → k < at.followed → WasMet s (slice_index (used_by children at.cell) k)
  pub together : (cell other : ℕ) → In cell s.order → Chain (UsesNewCell children first) cell other → ComesUpTo children first s cell other

-- One state of a walk comes after another.
pub record IsLater (children : List (List ℕ)) (first : ℕ) (earlier later : WalkState) : Type 0 where
  pub under_way : IsWalking children first later
  pub advances : Advances children first earlier later
  pub reached : (root : ℕ) → LeadsToOpen children first root earlier → LeadsToOpen children first root later
  pub cyclic : (root : ℕ) → LeadsToOpen children first root earlier → later.is_cyclic ≡ true
      → (earlier.is_cyclic ≡ true) ⊎ HasCycle children first root
  pub met : (cell : ℕ) → WasMet earlier cell → WasMet later cell
  pub grows : (more : List ℕ) × (later.order ≡ earlier.order ++ more)
  pub source : (root : ℕ) → LeadsToOpen children first root earlier → (cell : ℕ) → In cell later.order
      → In cell earlier.order ⊎ Chain (UsesNewCell children first) root cell
  pub thorough : IsThorough children first earlier → IsThorough children first later

-- The root was visited.
pub record HasVisited (children : List (List ℕ)) (first root : ℕ) (earlier later : WalkState) : Type 0 where
  pub rest : IsAtRest children first later
  pub visits : later.is_cyclic ≡ false → (earlier.is_cyclic ≡ false)
      × Visits children (listed_by first earlier.order) (root ∷ []) (listed_by first later.order)
  pub cyclic : later.is_cyclic ≡ true → (earlier.is_cyclic ≡ true) ⊎ HasCycle children first root
  pub listed : In root (listed_by first later.order)
  pub grows : (more : List ℕ) × (later.order ≡ earlier.order ++ more)
  pub source : (cell : ℕ) → In cell later.order → In cell earlier.order ⊎ Chain (UsesNewCell children first) root cell
  pub thorough : IsThorough children first earlier → IsThorough children first later

-- how many uses of an open cell are left to follow, and the step in which it is listed
abbrev pub left_at : List (List ℕ) → OpenCell → ℕ
left_at children at = length (used_by children at.cell) - at.followed + 1

-- a number that falls with each step: an unmet cell counts for more than all uses
abbrev pub work_left : List (List ℕ) → WalkState → ℕ
work_left children s = count_by is_unmet s.marks * (sum_by length children + 2) + sum_by (left_at children) s.way
