-- Uses of one cell: what becomes of the library, and what an edit is refused for.
use Rattle.cell_library.proofs.Common.{◌≡◌, ◌⊎◌, ◌<◌, ◌≤◌, ℕ, zero, suc, false, Bool, List, [], ◌∷◌, ◌++◌, length, length-append, map, filter}
use Rattle.cell_library.proofs.Common.{remove, set, Option, refl, sym, ap, subst, ◌∙◌, arith, inl, inr, true≢false, Some, None, not, slice_get}
use Rattle.cell_library.proofs.Common.{slice_set, All, IsTrue, bytes_eq, cases_eq, set-get_or, All-push, Distinct, In-filter_source, All-from_In}
use Rattle.cell_library.proofs.Common.{All-In, slice_get-set_other, Transform, layout_of, is_use_id, TreeFault, Crossing, TooManyUses, Passed}
use Rattle.cell_library.proofs.Common.{NoMemory, MOST_USES, Dimension, Depth, Elements, Hull, Size, UseBody, IsAbove, CellState, size_at, AreSizes}
use Rattle.cell_library.proofs.Common.{Tree, IsLawfulTree, IsEdited, cell_at, child_is_lower, above_as_deep, cell_is, LibFault, OutOfRange, NoUse}
use Rattle.cell_library.proofs.Common.{Cycle, TooMany, Memory, of_tree, held_at, no_held, LibraryParts, IsLawfulLibrary, HasUseIds, cells_seen}
use Rattle.cell_library.proofs.Common.{uses_in, seen, edits_of, AreStatesOf, GoesPast, OwnBoxIs, FirstOf, NothingElse, EditIsRefused}
use Rattle.cell_library.proofs.Common.{HasFaultOrLacksMemory, has_id, cell_view, CellView, LibraryView, changed_at, view_at, with_cell_changed}
use Rattle.std.specs.Prelude.{ℤ}
use Rattle.std.specs.Option.{option_map_or}
use Rattle.geo_core.proofs.FiniteSets.Chains.{Chain-weaker}
use Rattle.geo_core.proofs.FiniteSets.Places.{slice_get-append_left, slice_get-push_new, slice_get-set_same}
use Rattle.cell_tree.specs.Cells.{Uses}
use Rattle.cell_tree.specs.Sizes.{size_of}
use Rattle.cell_tree.specs.Trees.{RefusesGrowth, RefusesUse, with_placed, without_use}
use Rattle.cell_library.specs.declared.limits.LibraryLimit.TheVariants.{Uses as UsesLimit, Depth as DepthLimit, Elements as ElementsLimit}
use Rattle.cell_library.specs.steps.CellEdits.{TreeRefusesUse, IsPlacedIn, IsDeletedIn}
use Rattle.cell_library.specs.Edits.{placed, transform_of, single_use}
use Rattle.cell_library.specs.Refusals.{PlacingIsRefused, PlaceIsRefused, DeleteIsRefused}
use Rattle.cell_library.specs.Refusals.{StandsAbove, uses_of}
use Rattle.cell_library.proofs.EditLaws.{edit_seen, edit_lawful, seen_cells}
use Rattle.cell_library.proofs.FaultLaws.{first_of_or, not_first, not_full}
use Rattle.cell_library.proofs.LimitLaws.{never_past, would_go_past, none_before}
use Rattle.cell_library.proofs.PaintEdits.{held_lawful, own_is, states_after}
use Rattle.cell_library.proofs.SizeLaws.{HaveChildren, tree_children, children_of_changed}
use Rattle.cell_library.proofs.UseLists.{has_there, removed_use}
use Rattle.cell_library.proofs.ViewLaws.{cell_viewed, uses_at}

-- ---- chains of uses

-- where a state stands, so does the view, with its uses
pub state_of_view : (cells : List CellView) (states : List CellState) → AreStatesOf cells states → (k : ℕ) (of : CellState)
    → slice_get (map uses_of cells) k ≡ Some of
    → (state : CellState) × ((slice_get states k ≡ Some state) × (state.uses ≡ of.uses))
state_of_view [] [] are k of is = absurd (cc)
state_of_view [] (s ∷ states) are k of is = absurd are
state_of_view (c ∷ cells) [] are k of is = absurd are
state_of_view (c ∷ cells) (s ∷ states) are zero of is =
    let same : uses_of c ≡ of = cc in (s, (refl, are.1 ∙ ap (λ (o : CellState). o.uses) same))
state_of_view (c ∷ cells) (s ∷ states) are (suc k) of is = state_of_view cells states are.2 k of is

pub view_of_state : (cells : List CellView) (states : List CellState) → AreStatesOf cells states → (k : ℕ) (state : CellState) → slice_get states k ≡ Some state
    → (of : CellState) × ((slice_get (map uses_of cells) k ≡ Some of) × (of.uses ≡ state.uses))
view_of_state [] [] are k state is = absurd (cc)
view_of_state [] (s ∷ states) are k state is = absurd are
view_of_state (c ∷ cells) [] are k state is = absurd are
view_of_state (c ∷ cells) (s ∷ states) are zero state is =
    let same : s ≡ state = cc in (uses_of c, (refl, sym are.1 ∙ ap (λ (o : CellState). o.uses) same))
view_of_state (c ∷ cells) (s ∷ states) are (suc k) state is = view_of_state cells states are.2 k state is

-- a use stands where the user has the same uses
pub used_again : (cells others : List CellState) (user child : ℕ) (used : Uses cells user child)
    → (state : CellState) × ((slice_get others user ≡ Some state) × (state.uses ≡ used.cell.uses)) → Uses others user child
used_again cells others user child used there = record {
  cell = there.0;
  is = there.1.0;
  k = used.k;
  entry = used.entry;
  stands = ap (λ (uses : List (List ℕ × UseBody)). slice_get uses used.k) there.1.1 ∙ used.stands;
  child = used.child;
}

-- what stands above in the tree is seen to
pub above_seen : (view : LibraryView) (states : List CellState) → AreStatesOf view.cells states → (lower upper : ℕ) → IsAbove states lower upper
    → StandsAbove view lower upper
above_seen view states are lower upper above =
    Chain-weaker (λ a b used. used_again states (map uses_of view.cells) b a used (view_of_state view.cells states are b used.cell used.is)) above

-- and the other way
pub seen_above : (view : LibraryView) (states : List CellState) → AreStatesOf view.cells states → (lower upper : ℕ) → StandsAbove view lower upper
    → IsAbove states lower upper
seen_above view states are lower upper above =
    Chain-weaker (λ a b used. used_again (map uses_of view.cells) states b a used (state_of_view view.cells states are b used.cell used.is)) above

-- ---- the uses of the cell that is edited

module _ (library : LibraryParts) (lawful : IsLawfulLibrary library) (cell : ℕ) (below : cell < length library.contents) where
  pub cell_below : cell < length library.tree.cells
  cell_below = let many = lawful.so_many in omega arith

  -- the uses that are seen are those of the tree
  pub uses_here : (view_at (seen library) cell).uses ≡ (cell_at library.tree.cells cell).uses
  uses_here =
      ap (λ (view : CellView). view.uses) (cell_viewed library.contents (uses_in library.tree.cells) cell below) ∙ uses_at library.tree.cells cell cell_below

  -- their ids differ
  pub ids_differ : Distinct (map (λ e. e.0) (cell_at library.tree.cells cell).uses)
  ids_differ = (lawful.tree.each cell (cell_at library.tree.cells cell) (cell_is library.tree.cells cell cell_below)).ids

  -- their children are cells
  pub child_below : (k : ℕ) (entry : List ℕ × UseBody) → slice_get (cell_at library.tree.cells cell).uses k ≡ Some entry
      → entry.1.child.0 < length library.tree.cells
  child_below k entry is =
      tree_children library.tree lawful.tree cell (cell_at library.tree.cells cell) (cell_is library.tree.cells cell cell_below) k entry is

  same_contents : library.contents ≡ set library.contents cell (held_at library.contents cell)
  same_contents = sym (set-get_or library.contents cell no_held)

  -- what is seen of the cells after a change of the uses of this one
  pub uses_edit_seen : (tree : Tree) (state : CellState) (change : List (List ℕ × UseBody) → List (List ℕ × UseBody)) → IsEdited library.tree tree cell state
      → state.uses ≡ change (cell_at library.tree.cells cell).uses
      → cells_seen library.contents tree ≡ changed_at (cells_seen library.contents library.tree) cell (λ body. record body { uses = change body.uses })
  uses_edit_seen tree state change edited same =
      edit_seen library library.contents tree cell (held_at library.contents cell) state (λ body. record body { uses = change body.uses }) lawful below
      same_contents edited
      (ap (cell_view (held_at library.contents cell)) same)

  -- and the library is lawful
  pub uses_edit_lawful : (tree : Tree) (state : CellState) → IsEdited library.tree tree cell state → IsLawfulTree tree
      → state.own ≡ (cell_at library.tree.cells cell).own
      → HasUseIds state → IsLawfulLibrary (record { tech = library.tech; scale = library.scale; contents = library.contents; tree = tree })
  uses_edit_lawful tree state edited tree_lawful own ids =
      edit_lawful library library.contents tree cell (held_at library.contents cell) state lawful below same_contents edited tree_lawful refl
      (held_lawful library lawful cell below) ids
      (subst (OwnBoxIs (layout_of (held_at library.contents cell).paint) (held_at library.contents cell).labels) (sym own) (own_is library lawful cell below))

  -- the ids of its uses are of their form
  pub ids_here : HasUseIds (cell_at library.tree.cells cell)
  ids_here = lawful.ids cell _ cell_below

  -- the states of the cells, after a change of its uses
  pub uses_states : (state : CellState) (change : List (List ℕ × UseBody) → List (List ℕ × UseBody)) → state.own ≡ (cell_at library.tree.cells cell).own
      → state.uses ≡ change (cell_at library.tree.cells cell).uses
      → AreStatesOf (changed_at (cells_seen library.contents library.tree) cell (λ body. record body { uses = change body.uses }))
      (slice_set library.tree.cells cell state)
  uses_states state change own same =
      states_after library lawful cell below (λ body. record body { uses = change body.uses }) state
      (subst (OwnBoxIs (layout_of (held_at library.contents cell).paint) (held_at library.contents cell).labels) (sym own) (own_is library lawful cell below))
      same

  -- ---- a use that goes

  pub delete_fault : (id : List ℕ) (told : LibFault)
      → EditIsRefused (edits_of library) (FirstOf (has_id (cell_at library.tree.cells cell).uses id ≡ false) NoUse NothingElse) told
      → EditIsRefused (edits_of library) (DeleteIsRefused (seen library) cell id) told
  delete_fault id told refused =
      subst (λ (uses : List (List ℕ × UseBody)). EditIsRefused (edits_of library) (FirstOf (has_id uses id ≡ false) NoUse NothingElse) told) (sym uses_here)
      refused

  module _ (id : List ℕ) (tree : Tree) (done : IsDeletedIn cell id library.tree tree) (tree_lawful : IsLawfulTree tree) where
    gone : remove (cell_at library.tree.cells cell).uses done.k ≡ filter (λ entry. not (bytes_eq entry.0 id)) (cell_at library.tree.cells cell).uses
    gone = removed_use id (cell_at library.tree.cells cell).uses done.k done.used ids_differ done.has.is

    pub deleted_seen : cells_seen library.contents tree
        ≡ changed_at (cells_seen library.contents library.tree) cell (λ body. record body { uses = filter (λ entry. not (bytes_eq entry.0 id)) body.uses })
    deleted_seen =
        uses_edit_seen tree (without_use (cell_at library.tree.cells cell) done.k) (filter (λ entry. not (bytes_eq entry.0 id))) done.edited gone

    pub deleted_lawful : IsLawfulLibrary (record { tech = library.tech; scale = library.scale; contents = library.contents; tree = tree })
    deleted_lawful =
        let test : List ℕ × UseBody → Bool = λ entry. not (bytes_eq entry.0 id) in
        let P : List ℕ × UseBody → Type 0 = λ entry. IsTrue (is_use_id entry.0) in
        uses_edit_lawful tree (without_use (cell_at library.tree.cells cell) done.k) done.edited tree_lawful refl
        (subst (All P) (sym gone) (All-from_In P (filter test (cell_at library.tree.cells cell).uses) (λ entry entry_in.
        All-In P (cell_at library.tree.cells cell).uses entry ids_here (In-filter_source test entry (cell_at library.tree.cells cell).uses entry_in))))

    pub deleted_unrefused : (fault : LibFault) → EditIsRefused (edits_of library) (DeleteIsRefused (seen library) cell id) fault → ⊥
    deleted_unrefused fault =
        not_first (not_full _ done.edits)
        (not_first (λ none. true≢false (sym (has_there (cell_at library.tree.cells cell).uses done.k id done.used done.has.is)
        ∙ ap (λ (uses : List (List ℕ × UseBody)). has_id uses id) (sym uses_here) ∙ none)) (λ none. none))

  -- ---- a new use

  module _ (child : ℕ) (id : List ℕ) (six : List ℤ) where
    -- what is seen where six numbers are those of a transform
    pub placed_is : (transform : Transform) → transform_of six ≡ Some transform
        → placed (seen library) cell child id six
        ≡ with_cell_changed (seen library) cell (λ body. record body { uses = body.uses ++ (id, single_use child transform) ∷ [] })
    placed_is transform is =
        ap (λ (o : Option Transform). option_map_or
        (λ t. with_cell_changed (seen library) cell (λ body. record body { uses = body.uses ++ (id, single_use child t) ∷ [] })) o (seen library)) is

    module _ (child_there : child < length library.contents) where
      state_with : Transform → CellState
      state_with transform = with_placed (cell_at library.tree.cells cell) id (single_use child transform)

      with_states : (transform : Transform) → transform_of six ≡ Some transform
          → AreStatesOf (placed (seen library) cell child id six).cells
          (slice_set library.tree.cells cell (with_placed (cell_at library.tree.cells cell) id (single_use child transform)))
      with_states transform is =
          subst (λ (view : LibraryView). AreStatesOf view.cells
          (slice_set library.tree.cells cell (with_placed (cell_at library.tree.cells cell) id (single_use child transform))))
          (sym (placed_is transform is))
          (uses_states (with_placed (cell_at library.tree.cells cell) id (single_use child transform)) (λ uses. uses ++ (id, single_use child transform) ∷ [])
          refl refl)

      with_children : (transform : Transform)
          → HaveChildren (slice_set library.tree.cells cell (with_placed (cell_at library.tree.cells cell) id (single_use child transform)))
      with_children transform =
          children_of_changed library.tree.cells cell (with_placed (cell_at library.tree.cells cell) id (single_use child transform))
          (tree_children library.tree lawful.tree)
          (λ k entry is.
          let many = lawful.so_many in
          elim (get-push (cell_at library.tree.cells cell).uses (id, single_use child transform) k entry is) [
            | inl old ↦ child_below k entry old
            | inr new ↦ (let same : entry.1.child.0 ≡ child = ap (λ (e : List ℕ × UseBody). e.1.child.0) (sym new) in omega arith)
          ])
        where
          get-push : {X : Type 0} (xs : List X) (x : X) (k : ℕ) (y : X) → slice_get (xs ++ x ∷ []) k ≡ Some y → (slice_get xs k ≡ Some y) ⊎ (x ≡ y)
          get-push [] x zero y is = inr (cc)
          get-push [] x (suc k) y is = absurd (cc)
          get-push (z ∷ zs) x zero y is = inl is
          get-push (z ∷ zs) x (suc k) y is = get-push zs x k y is

      -- where a limit would be passed the use makes no cycle and the cell has room for it
      grown : {Later : Type 0} (transform : Transform) (dimension : Dimension)
          → RefusesGrowth library.tree cell id (single_use child transform) dimension → (told : LibFault) → Later
          → (told ≡ Memory)
          ⊎ FirstOf (StandsAbove (seen library) cell child) (Cycle (view_at (seen library) child).name)
          (FirstOf (MOST_USES ≤ length (view_at (seen library) cell).uses) (TooMany UsesLimit) (λ _. Later)) told
      grown transform dimension refuses told later =
          let few : MOST_USES ≤ length (view_at (seen library) cell).uses
          → ⊥ = λ many. (let long = ap length uses_here in let at = refuses.few in absurd (omega arith)) in
          inr (inr (λ above. refuses.free (seen_above (seen library) library.tree.cells lawful.boxes cell child above), inr (few, later)))

      -- what the tree refuses the library does
      pub tree_refuses : (transform : Transform) → transform_of six ≡ Some transform → (fault : TreeFault)
          → RefusesUse library.tree cell id (single_use child transform) fault → (told : LibFault) → told ≡ of_tree library.contents fault
          → (told ≡ Memory)
          ⊎ FirstOf (StandsAbove (seen library) cell child) (Cycle (view_at (seen library) child).name)
          (FirstOf (MOST_USES ≤ length (view_at (seen library) cell).uses) (TooMany UsesLimit)
          (FirstOf (GoesPast Depth (placed (seen library) cell child id six)) (TooMany DepthLimit)
          (FirstOf (GoesPast Elements (placed (seen library) cell child id six)) (TooMany ElementsLimit)
          (FirstOf (GoesPast Hull (placed (seen library) cell child id six)) OutOfRange
          NothingElse)))) told
      tree_refuses transform is NoMemory refuses told told_is = inl told_is
      tree_refuses transform is (Crossing key) refuses told told_is =
          inr (inl (
            above_seen (seen library) library.tree.cells lawful.boxes cell child refuses.1,
            told_is ∙ ap (λ (k : ℕ). Cycle (held_at library.contents k).name) refuses.0
                ∙ ap (λ (view : CellView). Cycle view.name) (sym (cell_viewed library.contents (uses_in library.tree.cells) child child_there)),
          ))
      tree_refuses transform is TooManyUses refuses told told_is =
          let many : MOST_USES ≤ length (view_at (seen library) cell).uses =
          (let long = ap length uses_here in let at = refuses.1 in omega arith) in
          inr (inr (λ above. refuses.0 (seen_above (seen library) library.tree.cells lawful.boxes cell child above), inl (many, told_is)))
      tree_refuses transform is (Passed Depth) refuses told told_is =
          grown transform Depth refuses told (inl (
            would_go_past _ library.tree cell (with_placed (cell_at library.tree.cells cell) id (single_use child transform)) Depth
                (with_states transform is) refuses.passes,
            told_is,
          ))
      tree_refuses transform is (Passed Elements) refuses told told_is =
          let state = with_placed (cell_at library.tree.cells cell) id (single_use child transform) in
          grown transform Elements refuses told (inr (
            none_before _ library.tree cell state Elements Depth lawful.tree (with_children transform) (with_states transform is) tt refuses.passes,
            inl (would_go_past _ library.tree cell state Elements (with_states transform is) refuses.passes, told_is),
          ))
      tree_refuses transform is (Passed Hull) refuses told told_is =
          let state = with_placed (cell_at library.tree.cells cell) id (single_use child transform) in
          grown transform Hull refuses told (inr (
            none_before _ library.tree cell state Hull Depth lawful.tree (with_children transform) (with_states transform is) tt refuses.passes,
            inr (
              none_before _ library.tree cell state Hull Elements lawful.tree (with_children transform) (with_states transform is) tt refuses.passes,
              inl (would_go_past _ library.tree cell state Hull (with_states transform is) refuses.passes, told_is),
            ),
          ))

-- ---- new uses make no cycle

-- Each of the first uses stands among the second.
abbrev pub AreAllIn : List (List ℕ × UseBody) → List (List ℕ × UseBody) → Type 0
AreAllIn uses more = (k : ℕ) (entry : List ℕ × UseBody) → slice_get uses k ≡ Some entry → (j : ℕ) × (slice_get more j ≡ Some entry)

-- what stood above stands above when the cell keeps its uses
still_above : (cells : List CellState) (cell : ℕ) (state : CellState) (lower upper : ℕ) → cell < length cells → AreAllIn (cell_at cells cell).uses state.uses
    → IsAbove cells lower upper → IsAbove (slice_set cells cell state) lower upper
still_above cells cell state lower upper below kept above = Chain-weaker (λ a b (used : Uses cells b a). elim (cases_eq b cell) [
  | inr apart ↦ (record {
    cell = used.cell;
    is = slice_get-set_other cells cell b state apart ∙ used.is;
    k = used.k;
    entry = used.entry;
    stands = used.stands;
    child = used.child;
  })
  | inl same ↦ (
      let there : Some used.cell ≡ Some (cell_at cells cell) = sym used.is ∙ ap (slice_get cells) same ∙ cell_is cells cell below in
      let was : used.cell ≡ cell_at cells cell = cc in
      let now = kept used.k used.entry (ap (λ (c : CellState). slice_get c.uses used.k) (sym was) ∙ used.stands) in
      record {
        cell = state;
        is = ap (slice_get (slice_set cells cell state)) same ∙ slice_get-set_same cells cell state below;
        k = now.0;
        entry = used.entry;
        stands = now.1;
        child = used.child;
      })
]) above

-- a lawful tree in which the cell has more uses has no cycle through them
pub free_before : (cells after : List CellState) (sizes : List Size) (cell : ℕ) (state : CellState) (k : ℕ) (entry : List ℕ × UseBody) → cell < length cells
    → after ≡ slice_set cells cell state → AreSizes after sizes → AreAllIn (cell_at cells cell).uses state.uses → slice_get state.uses k ≡ Some entry
    → IsAbove cells cell entry.1.child.0 → ⊥
free_before cells after sizes cell state k entry below is right kept stands above =
    let there : slice_get after cell ≡ Some state = ap (λ (cs : List CellState). slice_get cs cell) is ∙ slice_get-set_same cells cell state below in
    let up = above_as_deep after sizes right cell entry.1.child.0
    (subst (λ (cs : List CellState). IsAbove cs cell entry.1.child.0) (sym is) (still_above cells cell state cell entry.1.child.0 below kept above)) in
    let down = child_is_lower (size_at sizes) state k entry stands in
    let size : (size_at sizes cell).depth ≡ (size_of (size_at sizes) state).depth = ap (λ (s : Size). s.depth) (right cell state there) in
    omega arith

module _ (library : LibraryParts) (lawful : IsLawfulLibrary library) (cell : ℕ) (below : cell < length library.contents) (child : ℕ)
    (child_there : child < length library.contents) (id : List ℕ) (six : List ℤ) where
  -- what the tree refuses the library does, in its order
  pub place_fault : (told : LibFault)
      → HasFaultOrLacksMemory (EditIsRefused (edits_of library) (PlacingIsRefused (cell_at library.tree.cells cell).uses id six
      (TreeRefusesUse library.contents library.tree cell child id six))) told
      → HasFaultOrLacksMemory (EditIsRefused (edits_of library) (PlaceIsRefused (seen library) cell child id six)) told
  place_fault told (inl memory) = inl memory
  place_fault told (inr refused) =
      first_of_or (λ few more.
      subst (λ (uses : List (List ℕ × UseBody)). (told ≡ Memory) ⊎ PlacingIsRefused uses id six (λ fault.
      FirstOf (StandsAbove (seen library) cell child) (Cycle (view_at (seen library) child).name)
      (FirstOf (MOST_USES ≤ length (view_at (seen library) cell).uses) (TooMany UsesLimit)
      (FirstOf (GoesPast Depth (placed (seen library) cell child id six)) (TooMany DepthLimit)
      (FirstOf (GoesPast Elements (placed (seen library) cell child id six)) (TooMany ElementsLimit)
      (FirstOf (GoesPast Hull (placed (seen library) cell child id six)) OutOfRange
      NothingElse)))) fault) told) (sym (uses_here library lawful cell below))
      (first_of_or (λ new. first_of_or (λ some. first_of_or (λ near refuses.
      tree_refuses library lawful cell below child id six child_there refuses.transform refuses.is refuses.fault refuses.refuses told refuses.told_is)))
      more)) refused

  module _ (tree : Tree) (done : IsPlacedIn cell child id six library.tree tree) (tree_lawful : IsLawfulTree tree) (form : IsTrue (is_use_id id)) where
    pub placed_seen : cells_seen library.contents tree ≡ (placed (seen library) cell child id six).cells
    placed_seen =
        uses_edit_seen library lawful cell below tree (with_placed (cell_at library.tree.cells cell) id (single_use child done.transform))
        (λ uses. uses ++ (id, single_use child done.transform) ∷ []) done.edited refl
        ∙ ap (λ (view : LibraryView). view.cells) (sym (placed_is library lawful cell below child id six done.transform done.is))

    -- what is seen of the library with the use
    pub placed_view : seen (record { tech = library.tech; scale = library.scale; contents = library.contents; tree = tree })
        ≡ placed (seen library) cell child id six
    placed_view =
        seen_cells library.tech library.scale library.contents tree
        (changed_at (cells_seen library.contents library.tree) cell (λ body. record body { uses = body.uses ++ (id, single_use child done.transform) ∷ [] }))
        (uses_edit_seen library lawful cell below tree (with_placed (cell_at library.tree.cells cell) id (single_use child done.transform))
        (λ uses. uses ++ (id, single_use child done.transform) ∷ []) done.edited refl)
        ∙ sym (placed_is library lawful cell below child id six done.transform done.is)

    pub placed_lawful : IsLawfulLibrary (record { tech = library.tech; scale = library.scale; contents = library.contents; tree = tree })
    placed_lawful =
        uses_edit_lawful library lawful cell below tree (with_placed (cell_at library.tree.cells cell) id (single_use child done.transform)) done.edited
        tree_lawful refl
        (All-push (λ entry. IsTrue (is_use_id entry.0)) (cell_at library.tree.cells cell).uses (id, single_use child done.transform)
        (ids_here library lawful cell below) form)

    -- nothing refused it
    pub placed_unrefused : (fault : LibFault) → EditIsRefused (edits_of library) (PlaceIsRefused (seen library) cell child id six) fault → ⊥
    placed_unrefused fault =
        let many = lawful.so_many in
        let here = uses_here library lawful cell below in
        let states : AreStatesOf (placed (seen library) cell child id six).cells tree.cells =
        subst (λ (cells : List CellView). AreStatesOf cells tree.cells) placed_seen placed_lawful.boxes in
        not_first (not_full _ done.edits)
        (not_first (λ old. true≢false (sym old ∙ ap (λ (uses : List (List ℕ × UseBody)). has_id uses id) here ∙ done.new))
        (not_first (λ none. (let apart : Some done.transform ≡ None = sym done.is ∙ none in absurd (cc)))
        (not_first (λ far. true≢false (sym done.near ∙ far))
        (not_first (λ above.
        free_before library.tree.cells tree.cells tree.sizes cell (with_placed (cell_at library.tree.cells cell) id (single_use child done.transform))
        (length (cell_at library.tree.cells cell).uses) (id, single_use child done.transform) (omega arith) done.edited.cells tree_lawful.sizes.right
        (λ k entry at. (k, slice_get-append_left (cell_at library.tree.cells cell).uses ((id, single_use child done.transform) ∷ []) k entry at))
        (slice_get-push_new (cell_at library.tree.cells cell).uses (id, single_use child done.transform))
        (seen_above (seen library) library.tree.cells lawful.boxes cell child above))
        (not_first (λ full.
        (let long = ap length here in
        let most = tree_lawful.cells.few cell (with_placed (cell_at library.tree.cells cell) id (single_use child done.transform))
        (ap (λ (cs : List CellState). slice_get cs cell) done.edited.cells
        ∙ set_there library.tree.cells cell (with_placed (cell_at library.tree.cells cell) id (single_use child done.transform)) (omega arith)) in
        let more = length-append (cell_at library.tree.cells cell).uses ((id, single_use child done.transform) ∷ []) in
        absurd (omega arith)))
        (not_first (never_past (placed (seen library) cell child id six) tree Depth tree_lawful states)
        (not_first (never_past (placed (seen library) cell child id six) tree Elements tree_lawful states)
        (not_first (never_past (placed (seen library) cell child id six) tree Hull tree_lawful states) (λ none. none)))))))))
      where
        set_there : (cells : List CellState) (k : ℕ) (state : CellState) → k < length cells → slice_get (slice_set cells k state) k ≡ Some state
        set_there [] k state none = absurd (omega arith)
        set_there (c ∷ cells) zero state inside = refl
        set_there (c ∷ cells) (suc k) state inside = set_there cells k state (omega arith)
