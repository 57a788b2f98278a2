-- What is seen of cells when what is kept of them changes.
use Rattle.cell_library.proofs.Common.{◌≡◌, ◌<◌, ℕ, zero, suc, List, [], ◌∷◌, ◌++◌, length, map, set, refl, sym, ap, ◌∙◌, arith, Some, slice_get}
use Rattle.cell_library.proofs.Common.{slice_index_or, set-get_or, Layout, layout_of, UseBody, CellState, cell_at, empty_cell, Held, held_at}
use Rattle.cell_library.proofs.Common.{IsRepainted, AreStatesOf, OwnBoxIs, CellView, changed_at, names_of, no_cell, cell_view, cell_views, uses_in}
use Rattle.cell_library.proofs.Common.{LibraryParts, seen}
use Rattle.std.proofs.lemmas.List.{get_or-map}

-- uses of cells, each with its id
abbrev UseLists : Type 0
UseLists = List (List (List ℕ × UseBody))

-- ---- a change at one place

-- a change that changes nothing
pub changed_at-same : {X : Type 0} (xs : List X) (k : ℕ) (change : X → X) → ((x : X) → change x ≡ x) → changed_at xs k change ≡ xs
changed_at-same [] k change same = refl
changed_at-same (x ∷ xs) zero change same = ap (λ y. y ∷ xs) (same x)
changed_at-same (x ∷ xs) (suc k) change same = ap (λ ys. x ∷ ys) (changed_at-same xs k change same)

-- a change keeps the length
pub length-changed_at : {X : Type 0} (xs : List X) (k : ℕ) (change : X → X) → length (changed_at xs k change) ≡ length xs
length-changed_at [] k change = refl
length-changed_at (x ∷ xs) zero change = refl
length-changed_at (x ∷ xs) (suc k) change = ap suc (length-changed_at xs k change)

-- ---- cells with their contents and their uses

-- a cell whose content and uses change
pub cell_changed : (contents : List Held) (uses : UseLists) (cell : ℕ) (after : Held) (of_cell : List (List ℕ × UseBody)) (change : CellView → CellView)
    → length uses ≡ length contents
    → cell_view after of_cell ≡ change (cell_view (held_at contents cell) (slice_index_or uses cell []))
    → cell_views (set contents cell after) (set uses cell of_cell) ≡ changed_at (cell_views contents uses) cell change
cell_changed [] [] cell after of_cell change long same = refl
cell_changed [] (other ∷ uses) cell after of_cell change long same = absurd (omega arith)
cell_changed (held ∷ contents) [] cell after of_cell change long same = absurd (omega arith)
cell_changed (held ∷ contents) (other ∷ uses) zero after of_cell change long same = ap (λ body. body ∷ cell_views contents uses) same
cell_changed (held ∷ contents) (other ∷ uses) (suc cell) after of_cell change long same =
    ap (λ cells. cell_view held other ∷ cells) (cell_changed contents uses cell after of_cell change (omega arith) same)

-- a cell whose layout stays, though its paint may not be the same value
pub unchanged_seen : (old new : List Held) (uses : UseLists) (cell : ℕ) → length uses ≡ length old → IsRepainted old new cell (λ own. own)
    → cell_views new uses ≡ cell_views old uses
unchanged_seen old new uses cell long repainted =
    let after : Held = record (held_at old cell) { paint = repainted.paint } in
    let own : layout_of repainted.paint ≡ layout_of (held_at old cell).paint = λ i place. repainted.layout place i in
    ap (λ (contents : List Held). cell_views contents uses) repainted.is
    ∙ ap (λ (u : UseLists). cell_views (set old cell after) u) (sym (set-get_or uses cell []))
    ∙ cell_changed old uses cell after (slice_index_or uses cell []) (λ body. body) long
    (ap (λ (layout : Layout). record (cell_view (held_at old cell) (slice_index_or uses cell [])) { own = layout }) own)
    ∙ changed_at-same (cell_views old uses) cell (λ body. body) (λ body. refl)

-- one cell more
pub one_more_seen : (contents : List Held) (uses : UseLists) (held : Held) (of_cell : List (List ℕ × UseBody)) → length uses ≡ length contents
    → cell_views (contents ++ held ∷ []) (uses ++ of_cell ∷ []) ≡ cell_views contents uses ++ cell_view held of_cell ∷ []
one_more_seen [] [] held of_cell long = refl
one_more_seen [] (other ∷ uses) held of_cell long = absurd (omega arith)
one_more_seen (first ∷ contents) [] held of_cell long = absurd (omega arith)
one_more_seen (first ∷ contents) (other ∷ uses) held of_cell long =
    ap (λ cells. cell_view first other ∷ cells) (one_more_seen contents uses held of_cell (omega arith))

-- ---- what is seen of the cells

-- the cells are as many as their contents
pub length-cell_views : (contents : List Held) (uses : UseLists) → length (cell_views contents uses) ≡ length contents
length-cell_views [] uses = refl
length-cell_views (held ∷ contents) [] = ap suc (length-cell_views contents [])
length-cell_views (held ∷ contents) (of_cell ∷ uses) = ap suc (length-cell_views contents uses)

-- as many cells are seen as there are
pub count_seen : (library : LibraryParts) → length (seen library).cells ≡ length library.contents
count_seen library = length-cell_views library.contents (uses_in library.tree.cells)

-- the names of the cells are those of the contents
pub names_seen : (contents : List Held) (uses : UseLists) → names_of (cell_views contents uses) ≡ map (λ held. held.name) contents
names_seen [] uses = refl
names_seen (held ∷ contents) [] = ap (λ names. held.name ∷ names) (names_seen contents [])
names_seen (held ∷ contents) (of_cell ∷ uses) = ap (λ names. held.name ∷ names) (names_seen contents uses)

-- the cell at a position
pub cell_seen : (contents : List Held) (uses : UseLists) (cell : ℕ) → cell < length contents
    → slice_get (cell_views contents uses) cell ≡ Some (cell_view (held_at contents cell) (slice_index_or uses cell []))
cell_seen [] uses cell below = absurd (omega arith)
cell_seen (held ∷ contents) [] zero below = refl
cell_seen (held ∷ contents) [] (suc cell) below = cell_seen contents [] cell (omega arith)
cell_seen (held ∷ contents) (of_cell ∷ uses) zero below = refl
cell_seen (held ∷ contents) (of_cell ∷ uses) (suc cell) below = cell_seen contents uses cell (omega arith)

-- the same, where there is one
pub cell_viewed : (contents : List Held) (uses : UseLists) (cell : ℕ) → cell < length contents
    → slice_index_or (cell_views contents uses) cell no_cell ≡ cell_view (held_at contents cell) (slice_index_or uses cell [])
cell_viewed [] uses cell below = absurd (omega arith)
cell_viewed (held ∷ contents) [] zero below = refl
cell_viewed (held ∷ contents) [] (suc cell) below = cell_viewed contents [] cell (omega arith)
cell_viewed (held ∷ contents) (of_cell ∷ uses) zero below = refl
cell_viewed (held ∷ contents) (of_cell ∷ uses) (suc cell) below = cell_viewed contents uses cell (omega arith)

-- the uses of a cell of the tree
pub uses_at : (cells : List CellState) (cell : ℕ) → cell < length cells → slice_index_or (uses_in cells) cell [] ≡ (cell_at cells cell).uses
uses_at cells cell below = get_or-map (λ (state : CellState). state.uses) cells cell empty_cell [] below

-- ---- the states of cells

-- a cell and its state change together
pub states_changed : (cells : List CellView) (states : List CellState) (k : ℕ) (change : CellView → CellView) (state : CellState) → AreStatesOf cells states
    → ((cell : CellView) → slice_get cells k ≡ Some cell → OwnBoxIs (change cell).own (change cell).labels state.own × (state.uses ≡ (change cell).uses))
    → AreStatesOf (changed_at cells k change) (set states k state)
states_changed [] [] k change state are here = tt
states_changed [] (s ∷ states) k change state are here = absurd are
states_changed (cell ∷ cells) [] k change state are here = absurd are
states_changed (cell ∷ cells) (s ∷ states) zero change state are here = let now = here cell refl in (now.0, now.1, are.2)
states_changed (cell ∷ cells) (s ∷ states) (suc k) change state are here = (are.0, are.1, states_changed cells states k change state are.2 here)

-- one more cell and its state
pub states_more : (cells : List CellView) (states : List CellState) (cell : CellView) (state : CellState) → AreStatesOf cells states
    → OwnBoxIs cell.own cell.labels state.own → state.uses ≡ cell.uses → AreStatesOf (cells ++ cell ∷ []) (states ++ state ∷ [])
states_more [] [] cell state are own uses = (own, uses, tt)
states_more [] (s ∷ states) cell state are own uses = absurd are
states_more (c ∷ cells) [] cell state are own uses = absurd are
states_more (c ∷ cells) (s ∷ states) cell state are own uses = (are.0, are.1, states_more cells states cell state are.2 own uses)

-- there are as many states as cells
pub length-states : (cells : List CellView) (states : List CellState) → AreStatesOf cells states → length states ≡ length cells
length-states [] [] are = refl
length-states [] (s ∷ states) are = absurd are
length-states (c ∷ cells) [] are = absurd are
length-states (c ∷ cells) (s ∷ states) are = ap suc (length-states cells states are.2)

-- the state of a cell
pub state_there : (cells : List CellView) (states : List CellState) (k : ℕ) → AreStatesOf cells states → k < length states
    → OwnBoxIs (slice_index_or cells k no_cell).own (slice_index_or cells k no_cell).labels (cell_at states k).own
state_there [] [] k are below = absurd (omega arith)
state_there [] (s ∷ states) k are below = absurd are
state_there (c ∷ cells) [] k are below = absurd are
state_there (c ∷ cells) (s ∷ states) zero are below = are.0
state_there (c ∷ cells) (s ∷ states) (suc k) are below = state_there cells states k are.2 (omega arith)
