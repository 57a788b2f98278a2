-- Sizes of cells: cells have one list of sizes, and the size of a cell rests on those below it alone.
use Rattle.cell_library.proofs.Common.{◌≡◌, ◌+◌, ◌<◌, ◌≤◌, ℕ, zero, suc, List, [], ◌∷◌, ◌++◌, length, get_or, refl, sym, ap, subst, ◌∙◌, arith, inl}
use Rattle.cell_library.proofs.Common.{inr, Some, slice_get, slice_set, option_to_list, cases_eq, cases_lt, length-set, get_or_past, get_or-set_same}
use Rattle.cell_library.proofs.Common.{slice_get-get_or, slice_get_within, get_or_from_slice_get, slice_get-set_other, Dimension, Depth, Elements}
use Rattle.cell_library.proofs.Common.{Hull, Size, UseBody, displacements, element_hulls, round_all, CellState, size_at, hulls_below, elements_below}
use Rattle.cell_library.proofs.Common.{AreSizes, IsWithin, IsAbove, cell_at, Tree, IsLawfulTree, WouldPass, WouldKeepWithin, child_is_lower, cell_is}
use Rattle.std.proofs.Common.{max}
use Rattle.std.specs.Prelude.{◌*◌}
use Rattle.std.proofs.lemmas.List.{get_or-set_other}
use Rattle.geo_core.specs.FiniteSets.Chain.{stay}
use Rattle.geo_core.proofs.FiniteSets.Chains.{Chain-push}
use Rattle.cell_tree.specs.Sizes.{no_size, size_of, depth_below}

-- ---- what the size of a cell rests on

-- two ways to tell sizes tell those of the children of these uses alike
abbrev pub AgreeBelow : (ℕ → Size) → (ℕ → Size) → List (List ℕ × UseBody) → Type 0
AgreeBelow s t uses = (k : ℕ) (entry : List ℕ × UseBody) → slice_get uses k ≡ Some entry → s entry.1.child.0 ≡ t entry.1.child.0

agree_rest : (s t : ℕ → Size) (first : List ℕ × UseBody) (uses : List (List ℕ × UseBody)) → AgreeBelow s t (first ∷ uses) → AgreeBelow s t uses
agree_rest s t first uses agree k entry is = agree (suc k) entry is

-- and the same hulls below
pub hulls_same : (s t : ℕ → Size) (uses : List (List ℕ × UseBody)) → AgreeBelow s t uses → hulls_below s uses ≡ hulls_below t uses
hulls_same s t [] agree = refl
hulls_same s t (entry ∷ rest) agree =
    λ i. element_hulls entry.1 ((agree 0 entry refl i).hull) ++ hulls_same s t rest (agree_rest s t entry rest agree) i

elements_same : (s t : ℕ → Size) (uses : List (List ℕ × UseBody)) → AgreeBelow s t uses → elements_below s uses ≡ elements_below t uses
elements_same s t [] agree = refl
elements_same s t (entry ∷ rest) agree =
    λ i. length (displacements entry.1.grid) * (agree 0 entry refl i).elements + elements_same s t rest (agree_rest s t entry rest agree) i

depth_same : (s t : ℕ → Size) (uses : List (List ℕ × UseBody)) → AgreeBelow s t uses → depth_below s uses ≡ depth_below t uses
depth_same s t [] agree = refl
depth_same s t (entry ∷ rest) agree = λ i. max (agree 0 entry refl i).depth (depth_same s t rest (agree_rest s t entry rest agree) i)

-- sizes that agree below a cell give it one size
pub size_same : (s t : ℕ → Size) (cell : CellState) → AgreeBelow s t cell.uses → size_of s cell ≡ size_of t cell
unfolding size_of
size_same s t cell agree = λ i. record {
  hull = round_all (option_to_list cell.own ++ hulls_same s t cell.uses agree i);
  elements = suc (elements_same s t cell.uses agree i);
  depth = suc (depth_same s t cell.uses agree i);
}

-- each cell has some depth
pub some_depth : (s : ℕ → Size) (cell : CellState) → 1 ≤ (size_of s cell).depth
unfolding size_of
some_depth s cell = omega arith

-- ---- two lists of cells

-- A set of cells that has the children of all of them, on which two lists agree.
pub record IsCommon (cells others : List CellState) (P : ℕ → Type 0) : Type 0 where
  pub closed : (key : ℕ) (cell : CellState) → slice_get cells key ≡ Some cell → P key → (k : ℕ) (entry : List ℕ × UseBody) → slice_get cell.uses k ≡ Some entry
      → P entry.1.child.0 × (entry.1.child.0 < length cells)
  pub same : (key : ℕ) (cell : CellState) → slice_get cells key ≡ Some cell → P key → slice_get others key ≡ Some cell

sizes_agree_to : (cells others : List CellState) (a b : List Size) (P : ℕ → Type 0) → AreSizes cells a → AreSizes others b → IsCommon cells others P
    → (n key : ℕ) (cell : CellState) → slice_get cells key ≡ Some cell → P key → (size_at a key).depth ≤ n → size_at a key ≡ size_at b key
sizes_agree_to cells others a b P a_right b_right common zero key cell is has deep =
    let some = some_depth (size_at a) cell in
    let here : (size_at a key).depth ≡ (size_of (size_at a) cell).depth = ap (λ (s : Size). s.depth) (a_right key cell is) in
    absurd (omega arith)
sizes_agree_to cells others a b P a_right b_right common (suc n) key cell is has deep =
    a_right key cell is
    ∙ size_same (size_at a) (size_at b) cell (λ k entry at.
    let child = common.closed key cell is has k entry at in
    let falls = child_is_lower (size_at a) cell k entry at in
    let here : (size_at a key).depth ≡ (size_of (size_at a) cell).depth = ap (λ (s : Size). s.depth) (a_right key cell is) in
    sizes_agree_to cells others a b P a_right b_right common n entry.1.child.0 (cell_at cells entry.1.child.0) (cell_is cells entry.1.child.0 child.1) child.0
    (omega arith))
    ∙ sym (b_right key cell (common.same key cell is has))

-- on such a set sizes agree
pub sizes_agree : (cells others : List CellState) (a b : List Size) (P : ℕ → Type 0) → AreSizes cells a → AreSizes others b → IsCommon cells others P
    → (key : ℕ) → key < length cells → P key → size_at a key ≡ size_at b key
sizes_agree cells others a b P a_right b_right common key below has =
    sizes_agree_to cells others a b P a_right b_right common (size_at a key).depth key (cell_at cells key) (cell_is cells key below) has (omega arith)

-- the children of all uses are cells of the list
abbrev pub HaveChildren : List CellState → Type 0
HaveChildren cells =
    (key : ℕ) (cell : CellState) → slice_get cells key ≡ Some cell → (k : ℕ) (entry : List ℕ × UseBody) → slice_get cell.uses k ≡ Some entry
    → entry.1.child.0 < length cells

-- cells have one size each
pub one_size : (cells : List CellState) (a b : List Size) → HaveChildren cells → AreSizes cells a → AreSizes cells b → (key : ℕ) → key < length cells
    → size_at a key ≡ size_at b key
one_size cells a b children a_right b_right key below =
    sizes_agree cells cells a b (λ _. Unit {0}) a_right b_right
    (record { closed = λ key cell is has k entry at. (tt, children key cell is k entry at); same = λ key cell is has. is }) key below tt

-- ---- one cell changed

-- the size of a cell that does not stand above the changed one stays
pub others_stay : (cells : List CellState) (changed : ℕ) (state : CellState) (a b : List Size) → HaveChildren cells → AreSizes cells a
    → AreSizes (slice_set cells changed state) b → (key : ℕ) → key < length cells → (IsAbove cells changed key → ⊥) → size_at a key ≡ size_at b key
others_stay cells changed state a b children a_right b_right key below apart =
    sizes_agree cells (slice_set cells changed state) a b (λ k. IsAbove cells changed k → ⊥) a_right b_right
    (record {
      closed = λ key cell is has k entry at. (
        λ above. has (Chain-push above (record { cell = cell; is = is; k = k; entry = entry; stands = at; child = refl })),
        children key cell is k entry at,
      );
      same = λ key cell is has. slice_get-set_other cells changed key state (λ here. has (subst (IsAbove cells changed) (sym here) stay)) ∙ is;
    }) key below apart

-- the children of all uses are cells, where one cell changed and its children are
pub children_of_changed : (cells : List CellState) (changed : ℕ) (state : CellState) → HaveChildren cells
    → ((k : ℕ) (entry : List ℕ × UseBody) → slice_get state.uses k ≡ Some entry → entry.1.child.0 < length cells) → HaveChildren (slice_set cells changed state)
children_of_changed cells changed state children new key cell is k entry at =
    let long : length (slice_set cells changed state) ≡ length cells = length-set cells changed state in
    let within : key < length (slice_set cells changed state) = slice_get_within (slice_set cells changed state) key cell is in
    let below : entry.1.child.0 < length cells = elim (cases_eq key changed) [
      | inl here ↦
          let there : get_or (slice_set cells changed state) key state ≡ state =
          subst (λ (n : ℕ). get_or (slice_set cells changed state) n state ≡ state) (sym here) (get_or-set_same cells changed state state (omega arith)) in
          let same : state ≡ cell = sym there ∙ get_or_from_slice_get (slice_set cells changed state) key cell state is in
          new k entry (ap (λ (c : CellState). slice_get c.uses k) same ∙ at)
      | inr apart ↦
          let there : get_or cells key cell ≡ cell =
          sym (get_or-set_other cells changed key state cell apart) ∙ get_or_from_slice_get (slice_set cells changed state) key cell cell is in
          let old : slice_get cells key ≡ Some cell = slice_get-get_or cells key cell (omega arith) ∙ ap (λ (c : CellState). Some c) there in
          children key cell old k entry at
    ] in
    omega arith

-- ---- limits

-- what has no size is within all limits
pub none_within : (dimension : Dimension) → IsWithin dimension no_size
none_within Depth = omega arith
none_within Elements = omega arith
none_within Hull = tt

-- past the last size there is none
pub past_last : (sizes : List Size) (key : ℕ) → length sizes ≤ key → size_at sizes key ≡ no_size
past_last sizes key past = get_or_past sizes key no_size past

-- the children of all uses of a lawful tree are its cells
pub tree_children : (tree : Tree) → IsLawfulTree tree → HaveChildren tree.cells
tree_children tree lawful key cell is k entry at = (lawful.cells.uses key cell is k entry at).1

-- A change of a cell that keeps all within their limits passes none.
pub fits_or_passes : (tree : Tree) (cell : ℕ) (state : CellState) (dimension : Dimension) → HaveChildren (slice_set tree.cells cell state)
    → WouldKeepWithin tree cell state → WouldPass dimension tree cell state → ⊥
fits_or_passes tree cell state dimension children keeps passes =
    let key = passes.passes.key in
    let long : length (slice_set tree.cells cell state) ≡ length tree.cells = length-set tree.cells cell state in
    elim (cases_lt key (length tree.cells)) [
      | inl below ↦
          passes.passes.passes (subst (IsWithin dimension)
          (one_size (slice_set tree.cells cell state) keeps.sizes passes.sizes children keeps.right passes.right key (omega arith))
          (keeps.within dimension key))
      | inr past ↦
          let count = passes.count in
          passes.passes.passes (subst (IsWithin dimension) (sym (past_last passes.sizes key (omega arith))) (none_within dimension))
    ]
