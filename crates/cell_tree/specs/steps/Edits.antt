-- What an edit of one cell leaves of the users that the cells know.
use Rattle.std.specs.Prelude.{◌≡◌, ◌≢◌, ◌↔◌, ℕ, ◌<◌, Bool, nat_eq, List, slice_get}
use Rattle.std.specs.List.{list_any}
use Rattle.std.specs.Option.{option_map_or}
use Rattle.std.specs.HashSet.{spare}
use Rattle.cell_tree.specs.declared.cells.TreeCell.{TreeCell}
use Rattle.cell_tree.specs.Uses.{HasChild}
use Rattle.cell_tree.specs.Cells.{states, users_of}
use Rattle.cell_tree.specs.Above.{IsUserOf}
use Rattle.cell_tree.specs.Trees.{cell_at}

-- Each cell knows the same users.
abbrev pub AreUsersKept : List TreeCell → List TreeCell → Type 0
AreUsersKept old new = (key : ℕ) → users_of new key ≡ users_of old key

-- Each cell knows the same users, but for one as a user of the child: it is known where it has a use of the child now.
pub record AreUsersBut (old new : List TreeCell) (cell child : ℕ) : Type 0 where
  pub others : (key user : ℕ) → key ≢ child → IsUserOf new key user ↔ IsUserOf old key user
  pub rest : (user : ℕ) → user ≢ cell → IsUserOf new child user ↔ IsUserOf old child user
  pub own : IsUserOf new child cell ↔ HasChild (cell_at (states new) cell).uses child

-- for how many more uses a cell has room
abbrev pub uses_room : List TreeCell → ℕ → ℕ
uses_room cells key = option_map_or (λ cell. cell.uses.spare) (slice_get cells key) 0

-- for how many more users a cell has room
abbrev pub users_room : List TreeCell → ℕ → ℕ
users_room cells key = option_map_or (λ cell. spare cell.users) (slice_get cells key) 0

-- the test whether the user is among these
abbrev pub knows : List ℕ → ℕ → Bool
knows users user = list_any (nat_eq user) users

-- There is room for one more use in the cell, and for one more user of the child.
pub record HasRoomFor (cells : List TreeCell) (cell child : ℕ) : Type 0 where
  pub uses : 0 < uses_room cells cell
  pub users : 0 < users_room cells child
