-- Views that show the same of a cell and of each below it.
use Rattle.library_trees.proofs.Common.{◌≡◌, ℕ, zero, suc, ap, ◌∙◌, stay, go, MOST_DEPTH, CellView, LibraryView, view_at, named_tree, IsAtOrBelow}
use Rattle.library_trees.proofs.Common.{named_elements_from, named_tree_to}
use Rattle.tree_names.specs.TreeRecords.NamedTrees.NamedElements.{no_more}
use Rattle.library_trees.specs.Laws.{NamedTreesAreOfTheCellsBelow}
use Rattle.library_trees.specs.NamedCells.{body_of, named_tree_at, own_body_of}
use Rattle.library_trees.proofs.WholeTrees.{named_elements_same}

-- The two show the same of the cell and of each below it.
abbrev Agree : LibraryView → LibraryView → ℕ → Type 0
Agree view other cell = (below : ℕ) → IsAtOrBelow view cell below → view_at view below ≡ view_at other below

-- they have one named tree of the cell, as far as so many cells below each other
agreeing_to : (view other : LibraryView) (depth cell : ℕ) → Agree view other cell
    → named_tree_to view depth cell ≡ named_tree_to other depth cell
agreeing_to view other zero cell agree = ap (λ (c : CellView). named_tree (body_of cell c) no_more) (agree cell stay)
agreeing_to view other (suc depth) cell agree =
    ap (named_tree (own_body_of view cell))
    (named_elements_same (named_tree_to view depth) (named_tree_to other depth) (view_at view cell).uses (λ k entry is.
    agreeing_to view other depth entry.1.child.0 (λ below chain.
    agree below (go (record { k = k; entry = entry; stands = is; same = λ _. entry.1.child.0 }) chain))))
    ∙ ap (λ (c : CellView). named_tree (body_of cell c) (named_elements_from (named_tree_to other depth) c.uses)) (agree cell stay)

-- they have one named tree of the cell
pub agreeing_views : NamedTreesAreOfTheCellsBelow
unfolding named_tree_at
agreeing_views view other cell agree = agreeing_to view other MOST_DEPTH cell agree
