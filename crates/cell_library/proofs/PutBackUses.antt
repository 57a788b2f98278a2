-- Uses that are given back to a cell: where a use stands, which states of a cell a lawful library allows, and what becomes of the library.
use Rattle.cell_library.proofs.Common.{◌≡◌, ◌+◌, ◌<◌, ◌≤◌, ℕ, zero, suc, true, Bool, List, [], ◌∷◌, length, map, Option, refl, sym, ap, subst, ◌∙◌}
use Rattle.cell_library.proofs.Common.{false, arith, inl, inr, not, slice_get, slice_set, nat_lt, IfSome, position_or_len, bytes_eq, cases_Bool}
use Rattle.cell_library.proofs.Common.{length-set, get_or-set_same, slice_get_within, bytes_eq-Decides, In, Distinct, Grid, Transform, TreeFault}
use Rattle.cell_library.proofs.Common.{Crossing, TooManyUses, Passed, NoMemory, MOST_USES, Dimension, Depth, Elements, Hull, UseBody, HasIdAt}
use Rattle.cell_library.proofs.Common.{IsLawfulGrid, IsLawfulUse, moved_at, CellState, AreSizes, IsAbove, Tree, IsLawfulTree, RefusesInsertion}
use Rattle.cell_library.proofs.Common.{WouldPass, cell_at, empty_cell, with_moved, LibFault, MOST_EDITS, TreeRefusesMove, HasUseAt, with_use_changed}
use Rattle.cell_library.proofs.Common.{LibraryParts, IsLawfulLibrary, HasUseIds, cells_seen, seen, AreStatesOf, EditIsRefused, NothingElse}
use Rattle.cell_library.proofs.Common.{IsLawfulView, regridded, with_use_at, LibraryView, changed_at, with_cell_changed}
use Rattle.std.proofs.Common.{cond, Some, None}
use Rattle.std.specs.Prelude.{insert, IfNone}
use Rattle.std.proofs.lemmas.Bool.Decides.{nat_tests}
use Rattle.std.proofs.lemmas.List.Edits.{length-insert}
use Rattle.geo_core.proofs.FiniteSets.Places.{slice_get-set_same}
use Rattle.cell_tree.specs.Trees.{RefusesMove, with_inserted}
use Rattle.cell_tree.proofs.ShrinkLaws.{AreAmong}
use Rattle.cell_tree.proofs.StateLaws.{among_get, among_inserted, get_new}
use Rattle.cell_library.specs.PutBackUses.{place_of, MayTake, MayBeRegridded, IsInsertedIn, IsRegriddedIn}
use Rattle.cell_library.proofs.ArrivingCells.{not_found}
use Rattle.cell_library.proofs.EditLaws.{seen_cells}
use Rattle.cell_library.proofs.FaultLaws.{not_first, not_full}
use Rattle.cell_library.proofs.LimitLaws.{states_unique}
use Rattle.cell_library.proofs.MoveEdits.{moved_ids}
use Rattle.cell_library.proofs.SizeLaws.{HaveChildren, tree_children, fits_or_passes}
use Rattle.cell_library.proofs.UseEdits.{cell_below, ids_differ, uses_edit_seen, uses_edit_lawful, uses_states, free_before}
use Rattle.cell_library.proofs.UseLists.{changed_use, id_same, use_in}

-- ---- the place of a use

id_at : (uses : List (List ℕ × UseBody)) (id : List ℕ) (k : ℕ) → Distinct (map (λ e. e.0) uses) → HasIdAt uses k id
    → position_or_len (λ entry. bytes_eq entry.0 id) uses ≡ k
id_at [] id k differ has = absurd (let e : None ≡ Some has.entry = has.stands in cc)
id_at (first ∷ rest) id zero differ has =
    let there : Some first ≡ Some has.entry = has.stands in
    let same : first ≡ has.entry = cc in
    let here : bytes_eq first.0 id ≡ true = ap (λ (e : List ℕ × UseBody). bytes_eq e.0 id) same ∙ ap (λ (n : List ℕ). bytes_eq n id) has.same ∙ id_same id in
    ap (λ (b : Bool). cond (not b) (1 + position_or_len (λ entry. bytes_eq entry.0 id) rest) 0) here
id_at (first ∷ rest) id (suc k) differ has = elim (cases_Bool (bytes_eq first.0 id)) [
  | inl here ↦
      let later : In id (map (λ e. e.0) rest) = subst (λ (n : List ℕ). In n (map (λ e. e.0) rest)) has.same (use_in rest k has.entry has.stands) in
      absurd (differ.0 (subst (λ (n : List ℕ). In n (map (λ e. e.0) rest)) (sym ((bytes_eq-Decides first.0 id).0 here)) later))
  | inr away ↦
      let later = id_at rest id k differ.1 (record { entry = has.entry; stands = has.stands; same = has.same }) in
      ap (λ (b : Bool). cond (not b) (1 + position_or_len (λ entry. bytes_eq entry.0 id) rest) 0) away ∙ omega (arith, later)
]

id_nowhere : (uses : List (List ℕ × UseBody)) (id : List ℕ) → ((k : ℕ) → HasIdAt uses k id → ⊥)
    → position_or_len (λ entry. bytes_eq entry.0 id) uses ≡ length uses
id_nowhere [] id none = refl
id_nowhere (first ∷ rest) id none = elim (cases_Bool (bytes_eq first.0 id)) [
  | inl here ↦ absurd (none 0 (record { entry = first; stands = refl; same = (bytes_eq-Decides first.0 id).0 here }))
  | inr away ↦
      let later = id_nowhere rest id (λ k has. none (suc k) (record { entry = has.entry; stands = has.stands; same = has.same })) in
      ap (λ (b : Bool). cond (not b) (1 + position_or_len (λ entry. bytes_eq entry.0 id) rest) 0) away ∙ omega (arith, later)
]

found_before : (n k len : ℕ) → n ≡ k → k < len → Some k ≡ cond (nat_lt n len) (Some n) None
found_before n k len is below = elim (cases_Bool (nat_lt n len)) [
  | inl before ↦ rw before (ap Some (sym is))
  | inr past ↦ absurd (not_past n len (omega (arith, is, below)) past)
]
  where
    not_past : (a b : ℕ) → a < b → nat_lt a b ≡ false → ⊥
    not_past a b less past = grind (arith, nat_tests)

-- what a search for an id finds is the place of the use with it
pub found_place : (uses : List (List ℕ × UseBody)) (id : List ℕ) (found : Option ℕ) → Distinct (map (λ e. e.0) uses) → IfSome found (λ k. HasIdAt uses k id)
    → IfNone found ((k : ℕ) → HasIdAt uses k id → ⊥) → found ≡ place_of uses id
found_place uses id None differ some none =
    sym (not_found (position_or_len (λ entry. bytes_eq entry.0 id) uses) (length uses) (id_nowhere uses id none))
found_place uses id (Some k) differ has none =
    found_before (position_or_len (λ entry. bytes_eq entry.0 id) uses) k (length uses) (id_at uses id k differ has)
    (slice_get_within uses k has.entry has.stands)

-- ---- states that a cell may take

module _ (tree : Tree) (cell : ℕ) (state : CellState) (may : MayTake tree cell state) (below : cell < length tree.cells) where
  taken : slice_get may.other.cells cell ≡ Some state
  taken = ap (λ (cells : List CellState). slice_get cells cell) may.cells ∙ slice_get-set_same tree.cells cell state below

  as_many : length may.other.cells ≡ length tree.cells
  as_many = ap length may.cells ∙ length-set tree.cells cell state

  -- it passes no limit
  pub may_not_pass : (dimension : Dimension) → WouldPass dimension tree cell state → ⊥
  may_not_pass dimension =
      fits_or_passes tree cell state dimension (subst HaveChildren may.cells (tree_children may.other may.lawful))
      (record {
        sizes = may.other.sizes;
        count = may.lawful.sizes.count ∙ as_many;
        right = subst (λ (cells : List CellState). AreSizes cells may.other.sizes) may.cells may.lawful.sizes.right;
        within = may.lawful.sizes.within;
      })

  -- it has few uses
  pub may_have_few : length state.uses ≤ MOST_USES
  may_have_few = may.lawful.cells.few cell state taken

  -- each of which is lawful, and its child a cell
  pub may_use : (k : ℕ) (entry : List ℕ × UseBody) → slice_get state.uses k ≡ Some entry → IsLawfulUse entry.1 × (entry.1.child.0 < length tree.cells)
  may_use k entry is =
      let lawful = may.lawful.cells.uses cell state taken k entry is in
      (lawful.0, subst (λ (n : ℕ). entry.1.child.0 < n) as_many lawful.1)

  -- with ids of their own
  pub may_differ : Distinct (map (λ e. e.0) state.uses)
  may_differ = (may.lawful.each cell state taken).ids

  -- no child stands above the cell, where its old uses are among them
  pub may_be_free : AreAmong (cell_at tree.cells cell).uses state.uses → (k : ℕ) (entry : List ℕ × UseBody) → slice_get state.uses k ≡ Some entry
      → IsAbove tree.cells cell entry.1.child.0 → ⊥
  may_be_free among k entry is =
      free_before tree.cells may.other.cells may.other.sizes cell state k entry below may.cells may.lawful.sizes.right (among_get among) is

-- ---- a use that comes to a place

new_id_in : (uses : List (List ℕ × UseBody)) (at : ℕ) (entry : List ℕ × UseBody) → In entry.0 (map (λ e. e.0) (insert uses at entry))
new_id_in uses zero entry = inl refl
new_id_in [] (suc at) entry = inl refl
new_id_in (first ∷ rest) (suc at) entry = inr (new_id_in rest at entry)

new_id : (uses : List (List ℕ × UseBody)) (at : ℕ) (entry : List ℕ × UseBody) → Distinct (map (λ e. e.0) (insert uses at entry)) → (k : ℕ)
    → HasIdAt uses k entry.0 → ⊥
new_id uses zero entry differ k has = differ.0 (subst (λ (n : List ℕ). In n (map (λ e. e.0) uses)) has.same (use_in uses k has.entry has.stands))
new_id [] (suc at) entry differ k has = absurd (let e : None ≡ Some has.entry = has.stands in cc)
new_id (first ∷ rest) (suc at) entry differ zero has =
    let there : Some first ≡ Some has.entry = has.stands in
    let same : first ≡ has.entry = cc in
    let name : first.0 ≡ entry.0 = ap (λ (e : List ℕ × UseBody). e.0) same ∙ has.same in
    differ.0 (subst (λ (n : List ℕ). In n (map (λ e. e.0) (insert rest at entry))) (sym name) (new_id_in rest at entry))
new_id (first ∷ rest) (suc at) entry differ (suc k) has = new_id rest at entry differ.1 k (record { entry = has.entry; stands = has.stands; same = has.same })

module _ (tree : Tree) (cell at : ℕ) (id : List ℕ) (used : UseBody) (may : MayTake tree cell (with_inserted (cell_at tree.cells cell) at id used))
    (below : cell < length tree.cells) where
  there : (j : ℕ) × (slice_get (insert (cell_at tree.cells cell).uses at (id, used)) j ≡ Some (id, used))
  there = get_new (cell_at tree.cells cell).uses at (id, used)

  -- no use has its id
  pub inserted_new : (k : ℕ) → HasIdAt (cell_at tree.cells cell).uses k id → ⊥
  inserted_new = new_id (cell_at tree.cells cell).uses at (id, used) (may_differ tree cell (with_inserted (cell_at tree.cells cell) at id used) may below)

  -- it is lawful, and its child a cell
  pub inserted_use : IsLawfulUse used × (used.child.0 < length tree.cells)
  inserted_use = may_use tree cell (with_inserted (cell_at tree.cells cell) at id used) may below there.0 (id, used) there.1

  -- it makes no cycle
  pub inserted_free : IsAbove tree.cells cell used.child.0 → ⊥
  inserted_free =
      may_be_free tree cell (with_inserted (cell_at tree.cells cell) at id used) may below (among_inserted (cell_at tree.cells cell).uses at (id, used))
      there.0 (id, used) there.1

  -- the cell has room for it
  pub inserted_few : at ≤ length (cell_at tree.cells cell).uses → length (cell_at tree.cells cell).uses < MOST_USES
  inserted_few place =
      omega (
        arith,
        may_have_few tree cell (with_inserted (cell_at tree.cells cell) at id used) may below,
        length-insert (cell_at tree.cells cell).uses at (id, used) place,
      )

  -- so nothing but want of memory refuses it
  pub inserted_lacks_memory : (fault : TreeFault) → RefusesInsertion tree cell at id used fault → fault ≡ NoMemory
  inserted_lacks_memory (Crossing key) refuses = absurd refuses
  inserted_lacks_memory TooManyUses refuses = absurd refuses
  inserted_lacks_memory (Passed dimension) refuses =
      absurd (may_not_pass tree cell (with_inserted (cell_at tree.cells cell) at id used) may below dimension refuses)
  inserted_lacks_memory NoMemory refuses = refl

-- ---- a use with another grid, or none

moved_there : (uses : List (List ℕ × UseBody)) (k : ℕ) (placed : Transform) (grid : Option Grid) (id : List ℕ) (used : UseBody)
    → slice_get uses k ≡ Some (id, used)
    → slice_get (moved_at uses k placed grid) k ≡ Some (id, record used { placed = placed; grid = grid })
moved_there [] k placed grid id used is = absurd (cc)
moved_there (first ∷ rest) zero placed grid id used is =
    let same : first ≡ (id, used) = cc in
    ap (λ (e : List ℕ × UseBody). Some (e.0, record e.1 { placed = placed; grid = grid })) same
moved_there (first ∷ rest) (suc k) placed grid id used is = moved_there rest k placed grid id used is

module _ (tree : Tree) (cell : ℕ) (id : List ℕ) (grid : Option Grid) (may : MayBeRegridded tree cell id grid) (below : cell < length tree.cells) (k : ℕ)
    (used : UseBody)
    (has : HasUseAt (cell_at tree.cells cell) id k used) where
  -- the grid is lawful
  pub regridded_lawful : (g : Grid) → grid ≡ Some g → IsLawfulGrid g
  regridded_lawful g is =
      (may_use tree cell (with_moved (cell_at tree.cells cell) k used.placed grid) (may k used has) below k (id, record used { grid = grid })
      (moved_there (cell_at tree.cells cell).uses k used.placed grid id used has.is)).0.grid g is

  -- and nothing refuses it
  pub regridded_unrefused : (told : LibFault) → TreeRefusesMove tree cell k used.placed grid told → ⊥
  regridded_unrefused told refused = by refused.fault refused.refuses
    where
      by : (fault : TreeFault) → RefusesMove tree cell k used.placed grid fault → ⊥
      by NoMemory refuses = refuses
      by (Crossing key) refuses = refuses
      by TooManyUses refuses = refuses
      by (Passed Depth) refuses = refuses
      by (Passed Elements) refuses =
          may_not_pass tree cell (with_moved (cell_at tree.cells cell) k used.placed grid) (may k used has) below Elements refuses
      by (Passed Hull) refuses =
          may_not_pass tree cell (with_moved (cell_at tree.cells cell) k used.placed grid) (may k used has) below Hull refuses

-- ---- the library

module _ (library : LibraryParts) (lawful : IsLawfulLibrary library) (cell : ℕ) (below : cell < length library.contents) where
  -- where what is seen after a change of the uses of a cell is lawful, the cell may take them
  module _ (state : CellState) (change : List (List ℕ × UseBody) → List (List ℕ × UseBody)) (own : state.own ≡ (cell_at library.tree.cells cell).own)
      (same : state.uses ≡ change (cell_at library.tree.cells cell).uses)
      (view : IsLawfulView (with_cell_changed (seen library) cell (λ body. record body { uses = change body.uses }))) where
    cells_same : view.0.tree.cells ≡ slice_set library.tree.cells cell state
    cells_same =
        states_unique (changed_at (cells_seen library.contents library.tree) cell (λ body. record body { uses = change body.uses })) view.0.tree.cells
        (slice_set library.tree.cells cell state) (subst (λ (v : LibraryView). AreStatesOf v.cells view.0.tree.cells) view.2 view.1.boxes)
        (uses_states library lawful cell below state change own same)

    pub may_take : MayTake library.tree cell state
    may_take = record { other = view.0.tree; lawful = view.1.tree; cells = cells_same }

    -- and the ids are of their form
    pub may_have_ids : HasUseIds state
    may_have_ids =
        let inside : cell < length library.tree.cells = cell_below library lawful cell below in
        let long : length view.0.tree.cells ≡ length library.tree.cells = ap length cells_same ∙ length-set library.tree.cells cell state in
        subst HasUseIds (ap (λ (cells : List CellState). cell_at cells cell) cells_same ∙ get_or-set_same library.tree.cells cell state empty_cell inside)
        (view.1.ids cell empty_cell (omega (arith, inside, long)))

  module _ (at : ℕ) (id : List ℕ) (used : UseBody) (view : IsLawfulView (with_use_at (seen library) cell at id used)) where
    -- the cell may take the use
    pub may_insert : MayTake library.tree cell (with_inserted (cell_at library.tree.cells cell) at id used)
    may_insert = may_take (with_inserted (cell_at library.tree.cells cell) at id used) (λ uses. insert uses at (id, used)) refl refl view

    module _ (tree : Tree) (done : IsInsertedIn cell at id used library.tree tree) where
      -- what is seen of the library with the use
      pub inserted_view : seen (record { tech = library.tech; scale = library.scale; contents = library.contents; tree = tree })
          ≡ with_use_at (seen library) cell at id used
      inserted_view =
          seen_cells library.tech library.scale library.contents tree
          (changed_at (cells_seen library.contents library.tree) cell (λ body. record body { uses = insert body.uses at (id, used) }))
          (uses_edit_seen library lawful cell below tree (with_inserted (cell_at library.tree.cells cell) at id used) (λ uses. insert uses at (id, used))
          done.edited refl)

      pub inserted_lawful : IsLawfulTree tree → IsLawfulLibrary
          (record { tech = library.tech; scale = library.scale; contents = library.contents; tree = tree })
      inserted_lawful tree_lawful =
          uses_edit_lawful library lawful cell below tree (with_inserted (cell_at library.tree.cells cell) at id used) done.edited tree_lawful refl
          (may_have_ids (with_inserted (cell_at library.tree.cells cell) at id used) (λ uses. insert uses at (id, used)) refl refl view)

  module _ (id : List ℕ) (grid : Option Grid) where
    regrid_is : (k : ℕ) (used : UseBody) → HasUseAt (cell_at library.tree.cells cell) id k used
        → moved_at (cell_at library.tree.cells cell).uses k used.placed grid
        ≡ with_use_changed (λ used. record used { grid = grid }) id (cell_at library.tree.cells cell).uses
    regrid_is k used has =
        changed_use (λ used. record used { grid = grid }) id (cell_at library.tree.cells cell).uses k used (ids_differ library lawful cell below) has.is refl

    -- the use may have the grid
    pub may_regrid : IsLawfulView (regridded (seen library) cell id grid) → MayBeRegridded library.tree cell id grid
    may_regrid view k used has =
        may_take (with_moved (cell_at library.tree.cells cell) k used.placed grid) (with_use_changed (λ used. record used { grid = grid }) id) refl
        (regrid_is k used has) view

    module _ (tree : Tree) (done : IsRegriddedIn cell id grid library.tree tree) where
      -- what is seen of the library then
      pub regridded_view : seen (record { tech = library.tech; scale = library.scale; contents = library.contents; tree = tree })
          ≡ regridded (seen library) cell id grid
      regridded_view =
          seen_cells library.tech library.scale library.contents tree
          (changed_at (cells_seen library.contents library.tree) cell
          (λ body. record body { uses = with_use_changed (λ used. record used { grid = grid }) id body.uses }))
          (uses_edit_seen library lawful cell below tree (with_moved (cell_at library.tree.cells cell) done.k done.used.placed grid)
          (with_use_changed (λ used. record used { grid = grid }) id) done.edited (regrid_is done.k done.used done.has))

      pub regridded_library : IsLawfulTree tree
          → IsLawfulLibrary (record { tech = library.tech; scale = library.scale; contents = library.contents; tree = tree })
      regridded_library tree_lawful =
          uses_edit_lawful library lawful cell below tree (with_moved (cell_at library.tree.cells cell) done.k done.used.placed grid) done.edited tree_lawful
          refl
          (moved_ids library lawful cell below id done.k done.used.placed grid)

-- an edit that was made is not refused for too many
pub made_unrefused : (edits : ℕ) → edits < MOST_EDITS → (fault : LibFault) → EditIsRefused edits NothingElse fault → ⊥
made_unrefused edits few fault = not_first (not_full edits few) (λ none. none)
