-- Uses that are placed otherwise: what becomes of the library, and what an edit is refused for.
use Rattle.cell_library.proofs.Common.{◌≡◌, ◌+◌, ◌<◌, ◌≤◌, ◌&&◌, ◌*◌, ℕ, zero, suc, true, false, Bool, List, [], ◌∷◌, length, map, Option, refl, sym}
use Rattle.cell_library.proofs.Common.{ap, subst, ◌∙◌, arith, inl, inr, true≢false, Some, not, ◌||◌, slice_get, slice_set, IsTrue, list_any}
use Rattle.cell_library.proofs.Common.{bytes_eq, cases_Bool, cases_eq, cases_lt, length-set, get_or-set_same, slice_get-get_or, bytes_eq-Decides, In}
use Rattle.cell_library.proofs.Common.{Distinct, All-from_In, All-In, slice_get-set_other, Grid, Transform, is_use_id, TreeFault, Crossing}
use Rattle.cell_library.proofs.Common.{TooManyUses, Passed, NoMemory, Depth, Elements, Hull, Size, UseBody, moved_at, displacements, CellState}
use Rattle.cell_library.proofs.Common.{AreSizes, size_at, elements_below, IsWithin, Tree, IsLawfulTree, WouldPass, cell_at, with_moved}
use Rattle.cell_library.proofs.Common.{child_is_lower, cell_is, LibFault, OutOfRange, NoUse, TooMany, MOST_EDITS, of_tree, HasUseAt, moved_use}
use Rattle.cell_library.proofs.Common.{with_use_changed, LibraryParts, IsLawfulLibrary, HasUseIds, cells_seen, seen, edits_of, AreStatesOf, GoesPast}
use Rattle.cell_library.proofs.Common.{FirstOf, NothingElse, EditIsRefused, has_id, stands_in_range, CellView, view_at}
use Rattle.std.specs.Prelude.{ℤ}
use Rattle.cell_tree.specs.Sizes.{size_of}
use Rattle.cell_tree.specs.Trees.{RefusesMove}
use Rattle.cell_tree.proofs.SizeLaws.{elements_below-alike}
use Rattle.cell_library.specs.declared.limits.LibraryLimit.TheVariants.{Elements as ElementsLimit, Edits}
use Rattle.cell_library.specs.steps.CellEdits.{IsArrayedIn, GridIsRefused, IsMovedIn, ShiftIsRefused}
use Rattle.cell_library.specs.Edits.{with_grid, moved}
use Rattle.cell_library.specs.Refusals.{ArrayIsRefused, MoveIsRefused, moves_too_far}
use Rattle.cell_library.proofs.ElementCounts.{size_elements}
use Rattle.cell_library.proofs.FaultLaws.{first_of_map, not_first, not_full}
use Rattle.cell_library.proofs.LimitLaws.{never_past, would_go_past, none_before}
use Rattle.cell_library.proofs.SizeLaws.{HaveChildren, tree_children, children_of_changed, some_depth, past_last}
use Rattle.cell_library.proofs.SizeLaws.{none_within}
use Rattle.cell_library.proofs.UseEdits.{uses_here, ids_differ, ids_here, child_below, cell_below, uses_edit_seen, uses_edit_lawful, uses_states}
use Rattle.cell_library.proofs.UseLists.{has_there, changed_use, use_in, id_same}

-- ---- a use placed otherwise, in a list

-- it keeps its id and its child
moved_in : (uses : List (List ℕ × UseBody)) (k : ℕ) (placed : Transform) (grid : Option Grid) (entry : List ℕ × UseBody)
    → In entry (moved_at uses k placed grid)
    → (old : List ℕ × UseBody) × (In old uses × (old.0 ≡ entry.0))
moved_in [] k placed grid entry none = absurd none
moved_in (first ∷ rest) zero placed grid entry (inl same) = (first, (inl refl, ap (λ (e : List ℕ × UseBody). e.0) same))
moved_in (first ∷ rest) zero placed grid entry (inr later) = (entry, (inr later, refl))
moved_in (first ∷ rest) (suc k) placed grid entry (inl same) = (first, (inl refl, ap (λ (e : List ℕ × UseBody). e.0) same))
moved_in (first ∷ rest) (suc k) placed grid entry (inr later) = let old = moved_in rest k placed grid entry later in (old.0, (inr old.1.0, old.1.1))

moved_child : (uses : List (List ℕ × UseBody)) (k : ℕ) (placed : Transform) (grid : Option Grid) (j : ℕ) (entry : List ℕ × UseBody)
    → slice_get (moved_at uses k placed grid) j ≡ Some entry → (old : List ℕ × UseBody) × ((slice_get uses j ≡ Some old) × (old.1.child.0 ≡ entry.1.child.0))
moved_child [] k placed grid j entry is = absurd (cc)
moved_child (first ∷ rest) zero placed grid zero entry is =
    let same : (first.0, record first.1 { placed = placed; grid = grid }) ≡ entry = cc in
    (first, (refl, ap (λ (e : List ℕ × UseBody). e.1.child.0) same))
moved_child (first ∷ rest) zero placed grid (suc j) entry is = (entry, (is, refl))
moved_child (first ∷ rest) (suc k) placed grid zero entry is =
    let same : first ≡ entry = cc in (first, (refl, ap (λ (e : List ℕ × UseBody). e.1.child.0) same))
moved_child (first ∷ rest) (suc k) placed grid (suc j) entry is = moved_child rest k placed grid j entry is

-- where ids differ, some use with the id passes a test exactly where the one at its place does
one_passes : (test : UseBody → Bool) (id : List ℕ) (uses : List (List ℕ × UseBody)) (k : ℕ) (used : UseBody) → Distinct (map (λ e. e.0) uses)
    → slice_get uses k ≡ Some (id, used) → list_any (λ entry. bytes_eq entry.0 id && test entry.1) uses ≡ test used
one_passes test id [] k used differ is = absurd (cc)
one_passes test id (first ∷ rest) zero used differ is =
    let same : first ≡ (id, used) = cc in
    let here : bytes_eq first.0 id ≡ true = ap (λ (e : List ℕ × UseBody). bytes_eq e.0 id) same ∙ id_same id in
    let name : first.0 ≡ id = ap (λ (e : List ℕ × UseBody). e.0) same in
    let none = nothing_else rest (λ later. differ.0 (subst (λ (n : List ℕ). In n (map (λ e. e.0) rest)) (sym name) later)) in
    (λ i. (here i && test (ap (λ (e : List ℕ × UseBody). e.1) same i)) || none i) ∙ or_nothing (test used)
  where
    nothing_else : (others : List (List ℕ × UseBody)) → (In id (map (λ e. e.0) others) → ⊥)
        → list_any (λ entry. bytes_eq entry.0 id && test entry.1) others ≡ false
    nothing_else [] absent = refl
    nothing_else (other ∷ others) absent = elim (cases_Bool (bytes_eq other.0 id)) [
      | inl there ↦ absurd (absent (inl ((bytes_eq-Decides other.0 id).0 there)))
      | inr away ↦ (λ i. (away i && test other.1) || nothing_else others (λ later. absent (inr later)) i)
    ]

    or_nothing : (b : Bool) → (b || false) ≡ b
    or_nothing true = refl
    or_nothing false = refl
one_passes test id (first ∷ rest) (suc k) used differ is =
    let apart : bytes_eq first.0 id ≡ false = elim (cases_Bool (bytes_eq first.0 id)) [
      | inr away ↦ away
      | inl here ↦ absurd (differ.0 (subst (λ (n : List ℕ). In n (map (λ e. e.0) rest)) (sym ((bytes_eq-Decides first.0 id).0 here))
          (use_in rest k (id, used) is)))
    ] in
    (λ i. (apart i && test first.1) || one_passes test id rest k used differ.1 is i)

-- ---- a move changes no number of elements

elements_moved : (s : ℕ → Size) (uses : List (List ℕ × UseBody)) (k : ℕ) (id : List ℕ) (used : UseBody) (placed : Transform)
    → slice_get uses k ≡ Some (id, used)
    → elements_below s (moved_at uses k placed used.grid) ≡ elements_below s uses
elements_moved s [] k id used placed is = absurd (cc)
elements_moved s (first ∷ rest) zero id used placed is =
    let same : first ≡ (id, used) = cc in
    ap (λ (e : List ℕ × UseBody). length (displacements e.1.grid) * (s first.1.child.0).elements + elements_below s rest) (sym same)
elements_moved s (first ∷ rest) (suc k) id used placed is =
    ap (λ (n : ℕ). length (displacements first.1.grid) * (s first.1.child.0).elements + n) (elements_moved s rest k id used placed is)

elements_stay_to : (cells : List CellState) (changed k : ℕ) (id : List ℕ) (used : UseBody) (placed : Transform) (a b : List Size) → HaveChildren cells
    → changed < length cells → slice_get (cell_at cells changed).uses k ≡ Some (id, used) → AreSizes cells a
    → AreSizes (slice_set cells changed (with_moved (cell_at cells changed) k placed used.grid)) b
    → (n key : ℕ) → key < length cells → (size_at a key).depth ≤ n → (size_at a key).elements ≡ (size_at b key).elements
elements_stay_to cells changed k id used placed a b children there is a_right b_right zero key below deep =
    let some = some_depth (size_at a) (cell_at cells key) in
    let here : (size_at a key).depth ≡ (size_of (size_at a) (cell_at cells key)).depth =
    ap (λ (s : Size). s.depth) (a_right key (cell_at cells key) (cell_is cells key below)) in
    absurd (omega arith)
elements_stay_to cells changed k id used placed a b children there is a_right b_right (suc n) key below deep =
    let state : CellState = with_moved (cell_at cells changed) k placed used.grid in
    let cell : CellState = cell_at cells key in
    let old = a_right key cell (cell_is cells key below) in
    let here : (size_at a key).depth ≡ (size_of (size_at a) cell).depth = ap (λ (s : Size). s.depth) old in
    let same : elements_below (size_at a) cell.uses ≡ elements_below (size_at b) cell.uses =
    elements_below-alike (size_at a) (size_at b) cell.uses (λ j entry at.
    let falls = child_is_lower (size_at a) cell j entry at in
    elements_stay_to cells changed k id used placed a b children there is a_right b_right n entry.1.child.0
    (children key cell (cell_is cells key below) j entry at) (omega arith)) in
    ap (λ (s : Size). s.elements) old ∙ size_elements (size_at a) cell ∙ ap suc same ∙ elim (cases_eq key changed) [
      | inr apart ↦
          sym (size_elements (size_at b) cell)
          ∙ ap (λ (s : Size). s.elements) (sym (b_right key cell (slice_get-set_other cells changed key state apart ∙ (cell_is cells key below))))
      | inl one ↦
          let long : length (slice_set cells changed state) ≡ length cells = length-set cells changed state in
          let put : slice_get (slice_set cells changed state) key ≡ Some state =
          ap (slice_get (slice_set cells changed state)) one ∙ slice_get-get_or (slice_set cells changed state) changed state (omega arith)
          ∙ ap (λ (c : CellState). Some c) (get_or-set_same cells changed state state there) in
          let uses : cell.uses ≡ (cell_at cells changed).uses = ap (λ (n : ℕ). (cell_at cells n).uses) one in
          ap suc (ap (elements_below (size_at b)) uses ∙ sym (elements_moved (size_at b) (cell_at cells changed).uses k id used placed is))
          ∙ sym (size_elements (size_at b) state) ∙ ap (λ (s : Size). s.elements) (sym (b_right key state put))
    ]

-- so a move of a lawful library's use passes no limit of elements
never_more : (tree : Tree) (cell k : ℕ) (id : List ℕ) (used : UseBody) (placed : Transform) → IsLawfulTree tree → cell < length tree.cells
    → slice_get (cell_at tree.cells cell).uses k ≡ Some (id, used) → WouldPass Elements tree cell (with_moved (cell_at tree.cells cell) k placed used.grid) → ⊥
never_more tree cell k id used placed lawful there is passes =
    let key = passes.passes.key in
    let count = passes.count in
    elim (cases_lt key (length tree.cells)) [
      | inl below ↦
          (let same = elements_stay_to tree.cells cell k id used placed tree.sizes passes.sizes (tree_children tree lawful) there is lawful.sizes.right
          passes.right
          (size_at tree.sizes key).depth key below (omega arith) in
          let within = lawful.sizes.within Elements key in
          passes.passes.passes (omega arith))
      | inr past ↦ passes.passes.passes (subst (IsWithin Elements) (sym (past_last passes.sizes key (omega arith))) (none_within Elements))
    ]

module _ (library : LibraryParts) (lawful : IsLawfulLibrary library) (cell : ℕ) (below : cell < length library.contents) (id : List ℕ) where
  -- the children of all uses are cells, where a use is placed otherwise
  moved_children : (k : ℕ) (placed : Transform) (grid : Option Grid)
      → HaveChildren (slice_set library.tree.cells cell (with_moved (cell_at library.tree.cells cell) k placed grid))
  moved_children k placed grid =
      children_of_changed library.tree.cells cell (with_moved (cell_at library.tree.cells cell) k placed grid) (tree_children library.tree lawful.tree)
      (λ j entry is.
      let old = moved_child (cell_at library.tree.cells cell).uses k placed grid j entry is in
      subst (λ (n : ℕ). n < length library.tree.cells) old.1.1 (child_below library lawful cell below j old.0 old.1.0))

  pub moved_ids : (k : ℕ) (placed : Transform) (grid : Option Grid) → HasUseIds (with_moved (cell_at library.tree.cells cell) k placed grid)
  moved_ids k placed grid =
      let P : List ℕ × UseBody → Type 0 = λ entry. IsTrue (is_use_id entry.0) in
      All-from_In P (moved_at (cell_at library.tree.cells cell).uses k placed grid) (λ entry entry_in.
      let old = moved_in (cell_at library.tree.cells cell).uses k placed grid entry entry_in in
      subst (λ (n : List ℕ). IsTrue (is_use_id n)) old.1.1 (All-In P (cell_at library.tree.cells cell).uses old.0 (ids_here library lawful cell below) old.1.0))

  has_here : (k : ℕ) (used : UseBody) → HasUseAt (cell_at library.tree.cells cell) id k used → has_id (view_at (seen library) cell).uses id ≡ true
  has_here k used has =
      ap (λ (uses : List (List ℕ × UseBody)). has_id uses id) (uses_here library lawful cell below)
      ∙ has_there (cell_at library.tree.cells cell).uses k id used has.is

  no_use : {A B : Type 0} (told : LibFault) → (A → B)
      → FirstOf (edits_of library ≡ MOST_EDITS) (TooMany Edits) (FirstOf (has_id (cell_at library.tree.cells cell).uses id ≡ false) NoUse (λ _. A)) told
      → FirstOf (edits_of library ≡ MOST_EDITS) (TooMany Edits) (FirstOf (has_id (view_at (seen library) cell).uses id ≡ false) NoUse (λ _. B)) told
  no_use {B = B} told change =
      first_of_map (λ few refused.
      subst (λ (uses : List (List ℕ × UseBody)). FirstOf (has_id uses id ≡ false) NoUse (λ _. B) told) (sym (uses_here library lawful cell below))
      (first_of_map (λ some. change) refused))

  -- ---- a grid

  module _ (grid : Grid) where
    gridded : UseBody → UseBody
    gridded used = record used { grid = Some grid }

    grid_is : (k : ℕ) (used : UseBody) → HasUseAt (cell_at library.tree.cells cell) id k used
        → moved_at (cell_at library.tree.cells cell).uses k used.placed (Some grid)
        ≡ with_use_changed (λ used. record used { grid = Some grid }) id (cell_at library.tree.cells cell).uses
    grid_is k used has =
        changed_use (λ used. record used { grid = Some grid }) id (cell_at library.tree.cells cell).uses k used (ids_differ library lawful cell below) has.is
        refl

    grid_states : (k : ℕ) (used : UseBody) → HasUseAt (cell_at library.tree.cells cell) id k used
        → AreStatesOf (with_grid (seen library) cell id grid).cells
        (slice_set library.tree.cells cell (with_moved (cell_at library.tree.cells cell) k used.placed (Some grid)))
    grid_states k used has =
        uses_states library lawful cell below (with_moved (cell_at library.tree.cells cell) k used.placed (Some grid))
        (with_use_changed (λ used. record used { grid = Some grid }) id) refl (grid_is k used has)

    tree_refuses_grid : (k : ℕ) (used : UseBody) → HasUseAt (cell_at library.tree.cells cell) id k used → (fault : TreeFault)
        → RefusesMove library.tree cell k used.placed (Some grid) fault → (told : LibFault) → told ≡ of_tree [] fault
        → FirstOf (GoesPast Elements (with_grid (seen library) cell id grid)) (TooMany ElementsLimit)
        (FirstOf (GoesPast Hull (with_grid (seen library) cell id grid)) OutOfRange NothingElse) told
    tree_refuses_grid k used has NoMemory refuses told is = absurd refuses
    tree_refuses_grid k used has (Crossing key) refuses told is = absurd refuses
    tree_refuses_grid k used has (Passed Elements) refuses told is =
        inl (
          would_go_past _ library.tree cell (with_moved (cell_at library.tree.cells cell) k used.placed (Some grid)) Elements (grid_states k used has)
              refuses,
          is,
        )
    tree_refuses_grid k used has TooManyUses refuses told is = absurd refuses
    tree_refuses_grid k used has (Passed Depth) refuses told is = absurd refuses
    tree_refuses_grid k used has (Passed Hull) refuses told is =
        let state = with_moved (cell_at library.tree.cells cell) k used.placed (Some grid) in
        inr (
          none_before _ library.tree cell state Hull Elements lawful.tree (moved_children k used.placed (Some grid)) (grid_states k used has) tt refuses,
          inl (would_go_past _ library.tree cell state Hull (grid_states k used has) refuses, is),
        )

    pub array_fault : (told : LibFault)
        → EditIsRefused (edits_of library) (FirstOf (has_id (cell_at library.tree.cells cell).uses id ≡ false) NoUse
        (GridIsRefused library.tree cell id grid)) told
        → EditIsRefused (edits_of library) (ArrayIsRefused (seen library) cell id grid) told
    array_fault told =
        no_use told (λ refused.
        first_of_map (λ near. first_of_map (λ few refuses.
        tree_refuses_grid refused.k refused.used refused.has refuses.fault refuses.refuses told refuses.told_is)) refused.why)

    module _ (tree : Tree) (done : IsArrayedIn cell id grid library.tree tree) (tree_lawful : IsLawfulTree tree) where
      pub arrayed_seen : cells_seen library.contents tree ≡ (with_grid (seen library) cell id grid).cells
      arrayed_seen =
          uses_edit_seen library lawful cell below tree (with_moved (cell_at library.tree.cells cell) done.k done.used.placed (Some grid))
          (with_use_changed (λ used. record used { grid = Some grid }) id) done.edited (grid_is done.k done.used done.has)

      pub arrayed_lawful : IsLawfulLibrary (record { tech = library.tech; scale = library.scale; contents = library.contents; tree = tree })
      arrayed_lawful =
          uses_edit_lawful library lawful cell below tree (with_moved (cell_at library.tree.cells cell) done.k done.used.placed (Some grid)) done.edited
          tree_lawful refl
          (moved_ids done.k done.used.placed (Some grid))

      pub arrayed_unrefused : (fault : LibFault) → EditIsRefused (edits_of library) (ArrayIsRefused (seen library) cell id grid) fault → ⊥
      arrayed_unrefused fault =
          let states : AreStatesOf (with_grid (seen library) cell id grid).cells tree.cells =
          subst (λ (cells : List CellView). AreStatesOf cells tree.cells) arrayed_seen arrayed_lawful.boxes in
          not_first (not_full _ done.edits)
          (not_first (λ none. true≢false (sym (has_here done.k done.used done.has) ∙ none))
          (not_first (λ far. true≢false (sym done.near ∙ far))
          (not_first (λ many. true≢false (sym done.few ∙ many))
          (not_first (never_past (with_grid (seen library) cell id grid) tree Elements tree_lawful states)
          (not_first (never_past (with_grid (seen library) cell id grid) tree Hull tree_lawful states) (λ none. none))))))

  -- ---- a move

  module _ (dx dy : ℤ) where
    move_is : (k : ℕ) (used : UseBody) → HasUseAt (cell_at library.tree.cells cell) id k used
        → moved_at (cell_at library.tree.cells cell).uses k (moved_use dx dy used).placed used.grid
        ≡ with_use_changed (moved_use dx dy) id (cell_at library.tree.cells cell).uses
    move_is k used has = changed_use (moved_use dx dy) id (cell_at library.tree.cells cell).uses k used (ids_differ library lawful cell below) has.is refl

    move_states : (k : ℕ) (used : UseBody) → HasUseAt (cell_at library.tree.cells cell) id k used
        → AreStatesOf (moved (seen library) cell id dx dy).cells
        (slice_set library.tree.cells cell (with_moved (cell_at library.tree.cells cell) k (moved_use dx dy used).placed used.grid))
    move_states k used has =
        uses_states library lawful cell below (with_moved (cell_at library.tree.cells cell) k (moved_use dx dy used).placed used.grid)
        (with_use_changed (moved_use dx dy) id) refl (move_is k used has)

    -- the use is the one that would stand too far
    too_far_is : (k : ℕ) (used : UseBody) → HasUseAt (cell_at library.tree.cells cell) id k used
        → moves_too_far (view_at (seen library) cell).uses id dx dy ≡ not (stands_in_range (moved_use dx dy used))
    too_far_is k used has =
        ap (λ (uses : List (List ℕ × UseBody)). moves_too_far uses id dx dy) (uses_here library lawful cell below)
        ∙ one_passes (λ u. not (stands_in_range (moved_use dx dy u))) id (cell_at library.tree.cells cell).uses k used (ids_differ library lawful cell below)
        has.is

    tree_refuses_move : (k : ℕ) (used : UseBody) → HasUseAt (cell_at library.tree.cells cell) id k used → (fault : TreeFault)
        → RefusesMove library.tree cell k (moved_use dx dy used).placed used.grid fault → (told : LibFault) → told ≡ of_tree [] fault
        → FirstOf (GoesPast Hull (moved (seen library) cell id dx dy)) OutOfRange NothingElse told
    tree_refuses_move k used has NoMemory refuses told is = absurd refuses
    tree_refuses_move k used has (Crossing key) refuses told is = absurd refuses
    tree_refuses_move k used has (Passed Elements) refuses told is =
        absurd (never_more library.tree cell k id used (moved_use dx dy used).placed lawful.tree (cell_below library lawful cell below) has.is refuses)
    tree_refuses_move k used has TooManyUses refuses told is = absurd refuses
    tree_refuses_move k used has (Passed Depth) refuses told is = absurd refuses
    tree_refuses_move k used has (Passed Hull) refuses told is =
        inl (
          would_go_past _ library.tree cell (with_moved (cell_at library.tree.cells cell) k (moved_use dx dy used).placed used.grid) Hull
              (move_states k used has) refuses,
          is,
        )

    far_true : (b : Bool) → b ≡ false → IsTrue (not b)
    far_true b is = ap not is

    near_false : (b : Bool) → (b ≡ false → ⊥) → not b ≡ false
    near_false true some = refl
    near_false false some = absurd (some refl)

    moved_far : (told : LibFault) (refused : ShiftIsRefused library.tree cell id dx dy told)
        → FirstOf (IsTrue (moves_too_far (view_at (seen library) cell).uses id dx dy)) OutOfRange
        (FirstOf (GoesPast Hull (moved (seen library) cell id dx dy)) OutOfRange NothingElse) told
    moved_far told refused = elim refused.why [
      | inl far ↦ inl (too_far_is refused.k refused.used refused.has ∙ far_true _ far.0, far.1)
      | inr near ↦ inr (
        λ far. true≢false (sym far ∙ too_far_is refused.k refused.used refused.has ∙ near_false _ near.0),
        tree_refuses_move refused.k refused.used refused.has near.1.fault near.1.refuses told near.1.told_is,
      )
    ]

    pub move_fault : (told : LibFault)
        → EditIsRefused (edits_of library) (FirstOf (has_id (cell_at library.tree.cells cell).uses id ≡ false) NoUse
        (ShiftIsRefused library.tree cell id dx dy)) told
        → EditIsRefused (edits_of library) (MoveIsRefused (seen library) cell id dx dy) told
    move_fault told = no_use told (moved_far told)

    module _ (tree : Tree) (done : IsMovedIn cell id dx dy library.tree tree) (tree_lawful : IsLawfulTree tree) where
      pub moved_seen : cells_seen library.contents tree ≡ (moved (seen library) cell id dx dy).cells
      moved_seen =
          uses_edit_seen library lawful cell below tree (with_moved (cell_at library.tree.cells cell) done.k (moved_use dx dy done.used).placed done.used.grid)
          (with_use_changed (moved_use dx dy) id) done.edited (move_is done.k done.used done.has)

      pub moved_lawful : IsLawfulLibrary (record { tech = library.tech; scale = library.scale; contents = library.contents; tree = tree })
      moved_lawful =
          uses_edit_lawful library lawful cell below tree
          (with_moved (cell_at library.tree.cells cell) done.k (moved_use dx dy done.used).placed done.used.grid) done.edited
          tree_lawful refl (moved_ids done.k (moved_use dx dy done.used).placed done.used.grid)

      pub moved_unrefused : (fault : LibFault) → EditIsRefused (edits_of library) (MoveIsRefused (seen library) cell id dx dy) fault → ⊥
      moved_unrefused fault =
          let states : AreStatesOf (moved (seen library) cell id dx dy).cells tree.cells =
          subst (λ (cells : List CellView). AreStatesOf cells tree.cells) moved_seen moved_lawful.boxes in
          not_first (not_full _ done.edits)
          (not_first (λ none. true≢false (sym (has_here done.k done.used done.has) ∙ none))
          (not_first (λ far. true≢false (sym far ∙ too_far_is done.k done.used done.has ∙ ap not done.near))
          (not_first (never_past (moved (seen library) cell id dx dy) tree Hull tree_lawful states) (λ none. none))))
