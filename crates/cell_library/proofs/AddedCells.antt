-- Cells that come all at once: what becomes of the library, and what they are refused for.
use Rattle.cell_library.proofs.Common.{◌≡◌, ◌⊎◌, ◌+◌, ◌<◌, ℕ, zero, suc, List, [], ◌∷◌, ◌++◌, length, length-append, map, get_or, Option, refl, sym}
use Rattle.cell_library.proofs.Common.{ap, subst, ◌∙◌, arith, inl, inr, Some, None, All, IsTrue, slice_get, slice_index_or, length-map, map-append}
use Rattle.cell_library.proofs.Common.{slice_get_within, get_or_from_slice_get, In, Distinct, RawTech, CellBody, is_use_id, TreeFault, Crossing}
use Rattle.cell_library.proofs.Common.{TooManyUses, Passed, NoMemory, Dimension, Depth, Elements, Hull, Size, UseBody, MayCome, children_of}
use Rattle.cell_library.proofs.Common.{CellState, size_at, AreSizes, IsWithin, Tree, IsLawfulTree, ComesBefore, child_is_lower, above_as_deep}
use Rattle.cell_library.proofs.Common.{LibFault, Cycle, Memory, AreFitFor, contents_with, held_from, names_in, new_views, CanBeAdded, kept_cell}
use Rattle.cell_library.proofs.Common.{kept_use, of_tree, Held, held_at, LibraryParts, IsLawfulLibrary, IsLawfulHeld, HasUseIds, cells_seen, uses_in}
use Rattle.cell_library.proofs.Common.{seen, edits_of, AreStatesOf, GoesPast, EditIsRefused, HasFaultOrLacksMemory, cell_view, cell_views, CellView}
use Rattle.cell_library.proofs.Common.{LibraryView, names_of, no_cell, view_at}
use Rattle.std.specs.Option.{option_or}
use Rattle.std.proofs.lemmas.List.Elements.{All-append}
use Rattle.cell_bodies.specs.Bodies.{IsBody}
use Rattle.cell_tree.specs.Additions.{IsBelowItself as TreeBelowItself, PassesWithAll, RefusesAll}
use Rattle.cell_tree.specs.Additions.{MayAllCome}
use Rattle.cell_tree.specs.Sizes.{size_of}
use Rattle.cell_library.specs.steps.AddedCells.{AreCellsAdded, HasNearLabels, TreeRefusesAll}
use Rattle.cell_library.specs.Additions.{AddAllIsRefused, AreNextCells, IsBelowItself, first_scale}
use Rattle.cell_library.specs.Additions.{names_with, with_all}
use Rattle.cell_library.specs.Libraries.{IsLawfulScale}
use Rattle.cell_library.proofs.ArrivingCells.{All-map, views_kept}
use Rattle.cell_library.proofs.EditLaws.{uses_long}
use Rattle.cell_library.proofs.FaultLaws.{first_of_or, not_first, not_full}
use Rattle.cell_library.proofs.LimitLaws.{never_past, states_unique}
use Rattle.cell_library.proofs.SizeLaws.{HaveChildren, one_size, tree_children}
use Rattle.cell_library.proofs.UseEdits.{above_seen, seen_above, state_of_view, view_of_state, used_again}
use Rattle.cell_library.proofs.ViewLaws.{length-states, names_seen}

-- ---- lists of cells

-- states of cells, one list after another
pub states_append : (cells more : List CellView) (states others : List CellState) → AreStatesOf cells states → AreStatesOf more others
    → AreStatesOf (cells ++ more) (states ++ others)
states_append [] more [] others are after = after
states_append [] more (state ∷ states) others are after = absurd are
states_append (cell ∷ cells) more [] others are after = absurd are
states_append (cell ∷ cells) more (state ∷ states) others are after = (are.0, are.1, states_append cells more states others are.2 after)

-- the uses of states are those of the cells
pub uses_of_states : (cells : List CellView) (states : List CellState) → AreStatesOf cells states → uses_in states ≡ map (λ cell. cell.uses) cells
uses_of_states [] [] are = refl
uses_of_states [] (state ∷ states) are = absurd are
uses_of_states (cell ∷ cells) [] are = absurd are
uses_of_states (cell ∷ cells) (state ∷ states) are = λ i. are.1 i ∷ uses_of_states cells states are.2 i

-- what is seen of cells, one list after another
pub views_append : (contents more : List Held) (uses others : List (List (List ℕ × UseBody))) → length uses ≡ length contents
    → cell_views (contents ++ more) (uses ++ others) ≡ cell_views contents uses ++ cell_views more others
views_append [] more [] others long = refl
views_append [] more (of_cell ∷ uses) others long = absurd (omega arith)
views_append (held ∷ contents) more [] others long = absurd (omega arith)
views_append (held ∷ contents) more (of_cell ∷ uses) others long =
    ap (λ cells. cell_view held of_cell ∷ cells) (views_append contents more uses others (omega arith))

uses_kept : (names : List (List ℕ)) (cells : List (List ℕ × CellBody))
    → map (λ (cell : CellView). cell.uses) (map (kept_cell names) cells) ≡ map (λ cell. map (kept_use names) cell.1.uses) cells
uses_kept names [] = refl
uses_kept names (cell ∷ cells) = ap (λ uses. map (kept_use names) cell.1.uses ∷ uses) (uses_kept names cells)

names_from : (cells : List (List ℕ × CellBody)) → map (λ (held : Held). held.name) (map held_from cells) ≡ map (λ cell. cell.0) cells
names_from [] = refl
names_from (cell ∷ cells) = ap (λ names. cell.0 ∷ names) (names_from cells)

-- the children of the uses that are seen are those of the tree
pub children_seen : (contents : List Held) (cells : List CellState) → length cells ≡ length contents
    → map (λ (cell : CellView). map (λ (entry : List ℕ × UseBody). entry.1.child.0) cell.uses) (cell_views contents (uses_in cells))
    ≡ children_of cells
children_seen [] [] long = refl
children_seen [] (cell ∷ cells) long = absurd (omega arith)
children_seen (held ∷ contents) [] long = absurd (omega arith)
children_seen (held ∷ contents) (cell ∷ cells) long =
    ap (λ children. map (λ (entry : List ℕ × UseBody). entry.1.child.0) cell.uses ∷ children) (children_seen contents cells (omega arith))

-- ---- cycles

-- A cell that is seen to stand below itself does so in the tree.
below_in_tree : (view : LibraryView) (states : List CellState) → AreStatesOf view.cells states → (cell : ℕ) → IsBelowItself view cell
    → TreeBelowItself states cell
below_in_tree view states are cell below = record {
  child = below.child;
  used = used_again _ _ cell below.child below.used (state_of_view view.cells states are cell below.used.cell below.used.is);
  above = seen_above view states are cell below.child below.above;
}

-- and the other way
below_seen : (view : LibraryView) (states : List CellState) → AreStatesOf view.cells states → (cell : ℕ) → TreeBelowItself states cell
    → IsBelowItself view cell
below_seen view states are cell below = record {
  child = below.child;
  used = used_again _ _ cell below.child below.used (view_of_state view.cells states are cell below.used.cell below.used.is);
  above = above_seen view states are cell below.child below.above;
}

-- where cells have sizes none stands below itself
none_below_itself : (cells : List CellState) (sizes : List Size) → AreSizes cells sizes → (cell : ℕ) → TreeBelowItself cells cell → ⊥
none_below_itself cells sizes right cell below =
    let used = below.used in
    let falls = child_is_lower (size_at sizes) used.cell used.k used.entry used.stands in
    let user : (size_at sizes cell).depth ≡ (size_of (size_at sizes) used.cell).depth = ap (λ (s : Size). s.depth) (right cell used.cell used.is) in
    let child : (size_at sizes used.entry.1.child.0).depth ≡ (size_at sizes below.child).depth = ap (λ (k : ℕ). (size_at sizes k).depth) used.child in
    let up = above_as_deep cells sizes right cell below.child below.above in
    absurd (omega arith)

-- ---- limits

-- cells that would pass a limit go past it
passes_past : (view : LibraryView) (cells : List CellState) (dimension : Dimension) → AreStatesOf view.cells cells → PassesWithAll dimension cells
    → GoesPast dimension view
passes_past view cells dimension are passes =
    let long = length-states view.cells cells are in
    let there = passes.there in
    record {
      states = cells;
      are_states = are;
      sizes = passes.sizes;
      are_sizes = passes.right;
      cell = passes.cell;
      there = omega arith;
      past = passes.passes;
    }

-- and past none that is looked at before
none_past : (view : LibraryView) (cells : List CellState) (dimension other : Dimension) → HaveChildren cells → AreStatesOf view.cells cells
    → ComesBefore other dimension → PassesWithAll dimension cells → GoesPast other view → ⊥
none_past view cells dimension other children are before passes goes =
    let same : goes.states ≡ cells = states_unique view.cells goes.states cells goes.are_states are in
    let right : AreSizes cells goes.sizes = subst (λ (c : List CellState). AreSizes c goes.sizes) same goes.are_sizes in
    let long = length-states view.cells cells are in
    let there = goes.there in
    goes.past (subst (IsWithin other) (one_size cells passes.sizes goes.sizes children passes.right right goes.cell (omega arith))
    (passes.before other before goes.cell))

-- the children of the uses of these cells stand below this position
HaveUsesBelow : ℕ → List CellState → Type 0
HaveUsesBelow count cells =
    (key : ℕ) (cell : CellState) → slice_get cells key ≡ Some cell → (k : ℕ) (entry : List ℕ × UseBody) → slice_get cell.uses k ≡ Some entry
    → entry.1.child.0 < count

uses_below_append : (count : ℕ) (cells more : List CellState) → HaveUsesBelow count cells → HaveUsesBelow count more
    → HaveUsesBelow count (cells ++ more)
unfolding HaveUsesBelow
uses_below_append count [] more one two key state is = two key state is
uses_below_append count (cell ∷ cells) more one two zero state is = one 0 state is
uses_below_append count (cell ∷ cells) more one two (suc key) state is =
    uses_below_append count cells more (λ k s there. one (suc k) s there) two key state is

-- the children of all uses of lawful cells and of those that may come are cells
pub children_with : (tree : Tree) (more : List CellState) → IsLawfulTree tree → MayAllCome tree more → HaveChildren (tree.cells ++ more)
unfolding HaveUsesBelow
children_with tree more lawful may =
    let long = length-append tree.cells more in
    uses_below_append (length (tree.cells ++ more)) tree.cells more
    (λ key cell is k entry at. (let below = tree_children tree lawful key cell is k entry at in omega arith))
    (λ key cell is k entry at.
    let there : get_or more key cell ≡ cell = get_or_from_slice_get more key cell cell is in
    let here : MayCome (length (tree.cells ++ more)) cell =
    subst (MayCome (length (tree.cells ++ more))) there (may key cell (slice_get_within more key cell is)) in
    (here.uses k entry at).1)

-- ---- names

held_name : (contents : List Held) (k : ℕ) → (held_at contents k).name ≡ slice_index_or (names_in contents) k []
held_name [] k = refl
held_name (held ∷ contents) zero = refl
held_name (held ∷ contents) (suc k) = held_name contents k

view_name : (cells : List CellView) (k : ℕ) → (slice_index_or cells k no_cell).name ≡ slice_index_or (names_of cells) k []
view_name [] k = refl
view_name (cell ∷ cells) zero = refl
view_name (cell ∷ cells) (suc k) = view_name cells k

names_of_kept : (names : List (List ℕ)) (cells : List (List ℕ × CellBody)) → names_of (map (kept_cell names) cells) ≡ map (λ cell. cell.0) cells
names_of_kept names [] = refl
names_of_kept names (cell ∷ cells) = ap (λ rest. cell.0 ∷ rest) (names_of_kept names cells)

-- ---- small things

same_stamps : {X Y : Type 0} (n : ℕ) (xs : List X) (ys : List Y) → length xs ≡ length ys → map (λ _. n) xs ≡ map (λ _. n) ys
same_stamps n [] [] long = refl
same_stamps n [] (y ∷ ys) long = absurd (omega arith)
same_stamps n (x ∷ xs) [] long = absurd (omega arith)
same_stamps n (x ∷ xs) (y ∷ ys) long = ap (λ rest. n ∷ rest) (same_stamps n xs ys (omega arith))

states_have_ids : (cells : List CellView) (states : List CellState) → AreStatesOf cells states
    → All (λ cell. All (λ entry. IsTrue (is_use_id entry.0)) cell.uses) cells → All HasUseIds states
states_have_ids [] [] are all k d below = absurd (omega arith)
states_have_ids [] (state ∷ states) are all k d below = absurd are
states_have_ids (cell ∷ cells) [] are all k d below = absurd are
states_have_ids (cell ∷ cells) (state ∷ states) are all zero d below =
    subst (All (λ entry. IsTrue (is_use_id entry.0))) (sym are.1) (all 0 cell (omega arith))
states_have_ids (cell ∷ cells) (state ∷ states) are all (suc k) d below =
    states_have_ids cells states are.2 (λ j e inside. all (suc j) e (omega arith)) k d (omega arith)

-- the scale with that of the first cell
scale_with : (scale : Option (ℕ × ℕ)) (cells : List (List ℕ × CellBody)) (raw : RawTech) (count more : ℕ) → IsLawfulScale scale count
    → 0 < length cells → All (λ cell. IsBody raw cell.1) cells → more ≡ count + length cells → IsLawfulScale (option_or scale (first_scale cells)) more
scale_with (Some numbers) cells raw count more is some bodies next = (omega arith, is.1, is.2)
scale_with None [] raw count more is some bodies next = absurd (omega arith)
scale_with None (cell ∷ cells) raw count more is some bodies next =
    let body = bodies 0 cell (omega arith) in
    (omega arith, body.numerator, body.denominator)

-- The cell that a tree would refuse for a cycle is one of the cells then.
pub crossing_within : (tree : Tree) (more : List CellState) (fault : TreeFault) → RefusesAll tree more fault → (key : ℕ) → fault ≡ Crossing key
    → key < length (tree.cells ++ more)
crossing_within tree more fault refuses key is =
    let first : RefusesAll tree more (Crossing key) = subst (RefusesAll tree more) is refuses in
    slice_get_within (tree.cells ++ more) key first.below.used.cell first.below.used.is

-- ---- the library

module _ (library : LibraryParts) (lawful : IsLawfulLibrary library) (cells : List (List ℕ × CellBody)) (can : CanBeAdded (seen library) cells) where
  -- the names of all are those that are seen
  pub all_names : names_in (contents_with library.contents cells) ≡ names_with (seen library) cells
  all_names =
      map-append (λ (held : Held). held.name) library.contents (map held_from cells)
      ∙ (λ i. names_in library.contents ++ names_from cells i)
      ∙ (λ i. sym (names_seen library.contents (uses_in library.tree.cells)) i ++ map (λ cell. cell.0) cells)

  -- the cells may come to the contents
  pub cells_fit : AreFitFor library.contents cells
  cells_fit = record {
    names_differ = subst Distinct (sym all_names) can.names_differ;
    labels = All-append HasNearLabels library.contents (map held_from cells)
        (λ k d below j e inside. ((lawful.each k d below).labels j e inside).area)
        (All-map held_from HasNearLabels cells (λ k d below j e inside. ((can.bodies k d below).labels j e inside).area));
    uses = λ k d below. record {
      each = (can.bodies k d below).uses;
      ids_differ = (can.bodies k d below).ids_differ;
      few = can.few_uses k d below;
      children = subst (λ (names : List (List ℕ)). All (λ used. In used.cell names) (get_or cells k d).1.uses) (sym all_names)
          (can.children k d below);
    };
  }

  -- the cells that come, as they are seen
  new_seen : (seen library).cells ++ new_views library.contents cells ≡ (with_all (seen library) cells).cells
  new_seen = ap (λ (names : List (List ℕ)). (seen library).cells ++ map (kept_cell names) cells) all_names

  -- the states of all cells
  all_states : (states : List CellState) → AreStatesOf (new_views library.contents cells) states
      → AreStatesOf (with_all (seen library) cells).cells (library.tree.cells ++ states)
  all_states states are =
      subst (λ (views : List CellView). AreStatesOf views (library.tree.cells ++ states)) new_seen
      (states_append (seen library).cells (new_views library.contents cells) library.tree.cells states lawful.boxes are)

  -- the name of a cell is the one that is seen
  name_seen : (key : ℕ) → (held_at (contents_with library.contents cells) key).name ≡ (view_at (with_all (seen library) cells) key).name
  name_seen key =
      let names : names_of (with_all (seen library) cells).cells ≡ names_with (seen library) cells =
      map-append (λ (cell : CellView). cell.name) (seen library).cells (map (kept_cell (names_with (seen library) cells)) cells)
      ∙ ap (λ (more : List (List ℕ)). names_of (seen library).cells ++ more) (names_of_kept (names_with (seen library) cells) cells) in
      held_name (contents_with library.contents cells) key ∙ ap (λ (all : List (List ℕ)). slice_index_or all key []) (all_names ∙ sym names)
      ∙ sym (view_name (with_all (seen library) cells).cells key)

  -- ---- what they are refused for

  module _ (states : List CellState) (are : AreStatesOf (new_views library.contents cells) states) (may : MayAllCome library.tree states) where
    limit_passed : (dimension : Dimension) → PassesWithAll dimension (library.tree.cells ++ states)
        → GoesPast dimension (with_all (seen library) cells)
    limit_passed dimension passes =
        passes_past (with_all (seen library) cells) (library.tree.cells ++ states) dimension (all_states states are) passes

    limit_kept : (dimension other : Dimension) → ComesBefore other dimension → PassesWithAll dimension (library.tree.cells ++ states)
        → GoesPast other (with_all (seen library) cells) → ⊥
    limit_kept dimension other before passes =
        none_past (with_all (seen library) cells) (library.tree.cells ++ states) dimension other (children_with library.tree states lawful.tree may)
        (all_states states are) before passes

    no_cycle : (dimension : Dimension) → PassesWithAll dimension (library.tree.cells ++ states) → (cell : ℕ)
        → IsBelowItself (with_all (seen library) cells) cell → ⊥
    no_cycle dimension passes cell below =
        passes.acyclic cell (below_in_tree (with_all (seen library) cells) (library.tree.cells ++ states) (all_states states are) cell below)

    -- what the tree refuses the library does
    pub tree_refuses_all : (fault : TreeFault) → RefusesAll library.tree states fault → (told : LibFault)
        → told ≡ of_tree (contents_with library.contents cells) fault → (told ≡ Memory) ⊎ AddAllIsRefused (seen library) cells told
    tree_refuses_all NoMemory refuses told told_is = inl told_is
    tree_refuses_all (Crossing key) refuses told told_is =
        let after = with_all (seen library) cells in
        let all = library.tree.cells ++ states in
        inr (inl (
          key,
          record {
            below = below_seen after all (all_states states are) key refuses.below;
            first = λ other before below. refuses.first other before (below_in_tree after all (all_states states are) other below);
          },
          told_is ∙ ap (λ (name : List ℕ). Cycle name) (name_seen key),
        ))
    tree_refuses_all (Passed Depth) refuses told told_is = inr (inr (no_cycle Depth refuses, inl (limit_passed Depth refuses, told_is)))
    tree_refuses_all (Passed Elements) refuses told told_is =
        inr (inr (no_cycle Elements refuses, inr (limit_kept Elements Depth tt refuses, inl (limit_passed Elements refuses, told_is))))
    tree_refuses_all TooManyUses refuses told told_is = absurd refuses
    tree_refuses_all (Passed Hull) refuses told told_is =
        inr (inr (
          no_cycle Hull refuses,
          inr (limit_kept Hull Depth tt refuses, inr (limit_kept Hull Elements tt refuses, inl (limit_passed Hull refuses, told_is))),
        ))

  pub add_all_fault : (told : LibFault)
      → HasFaultOrLacksMemory (EditIsRefused (edits_of library)
      (TreeRefusesAll (contents_with library.contents cells) (new_views library.contents cells) library.tree)) told
      → HasFaultOrLacksMemory (EditIsRefused (edits_of library) (AddAllIsRefused (seen library) cells)) told
  add_all_fault told (inl memory) = inl memory
  add_all_fault told (inr refused) =
      first_of_or (λ few refuses. tree_refuses_all refuses.states refuses.are refuses.may refuses.fault refuses.refuses told refuses.told_is) refused

  -- ---- what becomes of the library

  module _ (wider : Option (ℕ × ℕ)) (contents : List Held) (tree : Tree)
      (done : AreCellsAdded cells library.scale wider library.contents contents library.tree tree) (tree_lawful : IsLawfulTree tree) where
    more_uses : uses_in tree.cells
        ≡ uses_in library.tree.cells ++ map (λ cell. map (kept_use (names_in (contents_with library.contents cells))) cell.1.uses) cells
    more_uses =
        ap uses_in done.tree.added.cells ∙ map-append (λ (state : CellState). state.uses) library.tree.cells done.tree.states
        ∙ ap (λ (uses : List (List (List ℕ × UseBody))). uses_in library.tree.cells ++ uses)
        (uses_of_states (new_views library.contents cells) done.tree.states done.tree.are
        ∙ uses_kept (names_in (contents_with library.contents cells)) cells)

    all_seen : cells_seen contents tree ≡ (with_all (seen library) cells).cells
    all_seen =
        (λ i. cell_views (done.contents i) (more_uses i))
        ∙ views_append library.contents (map held_from cells) (uses_in library.tree.cells)
        (map (λ cell. map (kept_use (names_in (contents_with library.contents cells))) cell.1.uses) cells) (uses_long library lawful)
        ∙ ap (λ (views : List CellView). cells_seen library.contents library.tree ++ views)
        (views_kept (names_in (contents_with library.contents cells)) cells)
        ∙ new_seen

    -- what is seen of the library with the cells
    pub all_added_seen : seen (record { tech = library.tech; scale = wider; contents = contents; tree = tree }) ≡ with_all (seen library) cells
    all_added_seen = λ i. record { tech = library.tech; scale = done.scale_is i; cells = all_seen i }

    -- the states of all cells
    seen_states : AreStatesOf (with_all (seen library) cells).cells tree.cells
    seen_states = subst (AreStatesOf (with_all (seen library) cells).cells) (sym done.tree.added.cells) (all_states done.tree.states done.tree.are)

    states_long : length done.tree.states ≡ length cells
    states_long =
        length-states (new_views library.contents cells) done.tree.states done.tree.are
        ∙ length-map cells (kept_cell (names_in (contents_with library.contents cells)))

    -- it is lawful
    pub all_added_lawful : IsLawfulLibrary (record { tech = library.tech; scale = wider; contents = contents; tree = tree })
    all_added_lawful =
        let names = names_in (contents_with library.contents cells) in
        let long : length contents ≡ length library.contents + length cells =
        ap length done.contents ∙ length-append library.contents (map held_from cells)
        ∙ ap (λ (n : ℕ). length library.contents + n) (length-map cells held_from) in
        let cells_long : length tree.cells ≡ length library.tree.cells + length cells =
        ap length done.tree.added.cells ∙ length-append library.tree.cells done.tree.states
        ∙ ap (λ (n : ℕ). length library.tree.cells + n) states_long in
        let names_long : length (names_with (seen library) cells) ≡ length contents =
        ap length (sym all_names) ∙ length-map (contents_with library.contents cells) (λ (held : Held). held.name) ∙ ap length (sym done.contents) in
        let many = lawful.so_many in
        let few = can.few in
        record {
          well_formed = lawful.well_formed;
          rules = lawful.rules;
          so_many = omega arith;
          few = omega arith;
          names_differ = subst (λ (held : List Held). Distinct (names_in held)) (sym done.contents) (subst Distinct (sym all_names) can.names_differ);
          each = subst (All (IsLawfulHeld library.tech)) (sym done.contents)
              (All-append (IsLawfulHeld library.tech) library.contents (map held_from cells) lawful.each
              (All-map held_from (IsLawfulHeld library.tech) cells (λ k d below. record {
                name = can.names k d below;
                kinds = (can.bodies k d below).kinds;
                planes = (can.bodies k d below).planes;
                labels = (can.bodies k d below).labels;
              })));
          boxes = subst (λ (views : List CellView). AreStatesOf views tree.cells) (sym all_seen) seen_states;
          ids = subst (All HasUseIds) (sym done.tree.added.cells)
              (All-append HasUseIds library.tree.cells done.tree.states lawful.ids
              (states_have_ids (new_views library.contents cells) done.tree.states done.tree.are
              (All-map (kept_cell names) (λ (cell : CellView). All (λ entry. IsTrue (is_use_id entry.0)) cell.uses) cells
              (λ k d below. All-map (kept_use names) (λ (entry : List ℕ × UseBody). IsTrue (is_use_id entry.0)) (get_or cells k d).1.uses
              (λ j e inside. ((can.bodies k d below).uses j e inside).id)))));
          scale = subst (λ (scale : Option (ℕ × ℕ)). IsLawfulScale scale (length contents)) (sym done.scale_is)
              (scale_with library.scale cells library.tech (length library.contents) (length contents) lawful.scale can.some can.bodies long);
          tree = tree_lawful;
        }

    -- it is the next edit
    pub all_added_next : AreNextCells library (record { tech = library.tech; scale = wider; contents = contents; tree = tree }) cells
    all_added_next = record {
      edits = done.tree.added.edits;
      stamps = done.tree.added.stamps
          ∙ ap (λ (stamps : List ℕ). library.tree.stamps ++ stamps) (same_stamps tree.edits done.tree.states cells states_long);
    }

    -- nothing refused it
    pub all_added_unrefused : (fault : LibFault) → EditIsRefused (edits_of library) (AddAllIsRefused (seen library) cells) fault → ⊥
    all_added_unrefused fault =
        let after = with_all (seen library) cells in
        not_first (not_full _ done.edits) (λ refused. elim refused [
          | inl there ↦
              none_below_itself tree.cells tree.sizes tree_lawful.sizes.right there.0
              (below_in_tree after tree.cells seen_states there.0 there.1.below)
          | inr later ↦
              not_first (never_past after tree Depth tree_lawful seen_states)
              (not_first (never_past after tree Elements tree_lawful seen_states)
              (not_first (never_past after tree Hull tree_lawful seen_states) (λ none. none))) later.1
        ])
