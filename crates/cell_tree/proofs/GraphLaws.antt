-- The uses of cells as a graph.
use Rattle.cell_tree.proofs.Common.{◌≡◌, inl, inr, ℕ, zero, suc, ◌<◌, List, [], ◌∷◌, map, length, get_or, slice_index, slice_get, Some, refl, sym}
use Rattle.cell_tree.proofs.Common.{ap, subst, ◌∙◌, arith, option_map, length-map, same_Some, In, AreCells, IsAcyclicBelow, TreeCell, Size, UseBody}
use Rattle.cell_tree.proofs.Common.{CellState, size_at, state_of, states, Uses, AreLawfulCells, AreLawfulSizes, children_of}
use Rattle.use_orders.specs.Uses.{used_by, UsesCell}
use Rattle.use_orders.proofs.Acyclic.{acyclic_by_rank}
use Rattle.cell_tree.proofs.EditLaws.{user_is_deeper}
use Rattle.cell_tree.proofs.FindLaws.{state_read}

-- the children of these uses
abbrev pub children : List (List ℕ × UseBody) → List ℕ
children uses = map (λ entry. entry.1.child.0) uses

-- the children of a cell
pub used_by-cell : (cells : List CellState) (key : ℕ) (cell : CellState) → slice_get cells key ≡ Some cell
    → used_by (children_of cells) key ≡ children cell.uses
used_by-cell [] key cell is = absurd (cc)
used_by-cell (first ∷ rest) zero cell is = ap (λ (c : CellState). children c.uses) (same_Some first cell is)
used_by-cell (first ∷ rest) (suc key) cell is = used_by-cell rest key cell is

-- a cell of which the children are known is there
some_cell : (cells : List CellState) (key child : ℕ) → UsesCell (children_of cells) key child → (cell : CellState) × (slice_get cells key ≡ Some cell)
some_cell [] key child uses = absurd uses
some_cell (first ∷ rest) zero child uses = (first, refl)
some_cell (first ∷ rest) (suc key) child uses = some_cell rest key child uses

child_stands : (uses : List (List ℕ × UseBody)) (child : ℕ) → In child (children uses)
    → (k : ℕ) × (entry : List ℕ × UseBody) × (slice_get uses k ≡ Some entry) × (entry.1.child.0 ≡ child)
child_stands [] child is = absurd is
child_stands (first ∷ rest) child (inl same) = (0, first, refl, same)
child_stands (first ∷ rest) child (inr later) = let found = child_stands rest child later in (suc found.0, found.1, found.2, found.3)

stands_child : (uses : List (List ℕ × UseBody)) (k : ℕ) (entry : List ℕ × UseBody) → slice_get uses k ≡ Some entry → In entry.1.child.0 (children uses)
stands_child [] k entry is = absurd (cc)
stands_child (first ∷ rest) zero entry is = inl (ap (λ (e : List ℕ × UseBody). e.1.child.0) (same_Some first entry is))
stands_child (first ∷ rest) (suc k) entry is = inr (stands_child rest k entry is)

-- the uses of the graph are those of the cells
pub graph_uses : (cells : List CellState) (parent child : ℕ) → UsesCell (children_of cells) parent child → Uses cells parent child
graph_uses cells parent child uses =
    let cell = some_cell cells parent child uses in
    let found = child_stands cell.0.uses child (subst (In child) (used_by-cell cells parent cell.0 cell.1) uses) in
    record { cell = cell.0; is = cell.1; k = found.0; entry = found.1; stands = found.2; child = found.3 }

pub uses_graph : (cells : List CellState) (parent child : ℕ) → Uses cells parent child → UsesCell (children_of cells) parent child
uses_graph cells parent child uses =
    subst (In child) (sym (used_by-cell cells parent uses.cell uses.is))
    (subst (λ c. In c (children uses.cell.uses)) uses.child (stands_child uses.cell.uses uses.k uses.entry uses.stands))

-- there are as many of them
pub length-children_of : (cells : List CellState) → length (children_of cells) ≡ length cells
length-children_of cells = length-map cells _

-- the children of lawful cells are cells
pub lawful_children : (cells : List CellState) → AreLawfulCells cells → AreCells (children_of cells)
lawful_children cells lawful parent child uses =
    let u = graph_uses cells parent child uses in
    omega (arith, length-children_of cells, subst (λ c. c < length cells) u.child (lawful.uses parent u.cell u.is u.k u.entry u.stands).1)

-- and of a lawful tree none is its own descendant
pub lawful_acyclic : (cells : List CellState) (sizes : List Size) (root : ℕ) → AreLawfulCells cells → AreLawfulSizes cells sizes
    → IsAcyclicBelow (children_of cells) root
lawful_acyclic cells sizes root lawful sound =
    acyclic_by_rank (children_of cells) (λ key. (size_at sizes key).depth) root
    (λ parent child uses. user_is_deeper lawful sound parent child (graph_uses cells parent child uses))

-- the children of a cell that is read
pub used_by-read : (cells : List TreeCell) (key : ℕ) (d : TreeCell) → key < length cells
    → used_by (children_of (states cells)) key ≡ map (λ entry. entry.1.child.0) (get_or cells key d).uses.entries
used_by-read cells key d within = used_by-cell (states cells) key (state_of (get_or cells key d)) (state_read cells key d within)

-- the child of a use whose body is read
pub child-read : (uses : List (List ℕ × UseBody)) (k : ℕ) (used : UseBody) → option_map (λ (entry : List ℕ × UseBody). entry.1) (slice_get uses k) ≡ Some used
    → used.child.0 ≡ slice_index (map (λ entry. entry.1.child.0) uses) k
child-read [] k used is = absurd (cc)
child-read (first ∷ rest) zero used is = ap (λ (u : UseBody). u.child.0) (sym (same_Some first.1 used is))
child-read (first ∷ rest) (suc k) used is = child-read rest k used is

-- and how many children it has
pub cell_count-graph : (cells : List TreeCell) (key : ℕ) (d : TreeCell) → key < length cells
    → length (get_or cells key d).uses.entries ≡ length (used_by (children_of (states cells)) key)
cell_count-graph cells key d within =
    sym (ap length (used_by-read cells key d within) ∙ length-map (get_or cells key d).uses.entries (λ (entry : List ℕ × UseBody). entry.1.child.0))
