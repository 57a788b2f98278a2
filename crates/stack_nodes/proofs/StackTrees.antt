-- The named tree of a stack: its rows, and their tiles.
use Rattle.stack_nodes.proofs.Common.{◌≡◌, ◌+◌, ◌∙◌, ℕ, suc, List, [], ◌∷◌, length, ap, arith, Some, codes, identity, RawTech, LibraryView, row_grid}
use Rattle.stack_nodes.proofs.Common.{stack_grid, tile_name, use_elements, named_elements_at, NamedTree, OwnBody, no_more}
use Rattle.std.proofs.lemmas.List.{get_or-append-add}
use Rattle.library_trees.specs.CellLibrary.CellTree.declared.limits.TheConstants.{MOST_DEPTH}
use Rattle.library_trees.specs.CellLibrary.Views.{CellView, no_cell, view_at}
use Rattle.layout_gen.specs.Generated.{array_cell, no_paint, row_name, stack_name, tile_cell, with_generated}
use Rattle.library_trees.specs.NamedCells.{body_of, named_elements_from, named_tree_at, named_tree_to}
use Rattle.library_trees.specs.TreeRecords.NamedTrees.NamedTree.{named_tree}
use Rattle.stack_nodes.proofs.TileNodes.{tile_body}

-- what a cell without paint and labels has of its own
abbrev pub bare_body : ℕ → List ℕ → OwnBody
bare_body cell name = record { cell = cell; name = name; layout = no_paint; labels = [] }

module _ (raw : RawTech) (poly diff n count : ℕ) where
  -- the tile, which stands in the library behind so many cells
  abbrev pub tile_tree : NamedTree
  tile_tree = named_tree (tile_body count tile_name raw poly diff) no_more

  -- the row
  abbrev pub row_tree : NamedTree
  row_tree = named_tree (bare_body (count + 1) row_name) (named_elements_at tile_tree identity (use_elements (codes "t") (Some (row_grid n))) no_more)

  -- the stack
  abbrev pub stack_tree : NamedTree
  stack_tree =
      named_tree (bare_body (count + 2) stack_name) (named_elements_at row_tree identity (use_elements (codes "r") (Some (stack_grid n))) no_more)

-- the tree of a cell of which this is seen
unfolded : (view : LibraryView) (depth cell : ℕ) (seen : CellView) → view_at view cell ≡ seen
    → named_tree_to view (suc depth) cell ≡ named_tree (body_of cell seen) (named_elements_from (named_tree_to view depth) seen.uses)
unfolded view depth cell seen is =
    ap (λ (s : CellView). named_tree (body_of cell s) (named_elements_from (named_tree_to view depth) s.uses)) is

module _ (view : LibraryView) (poly diff n : ℕ) where
  -- the library with the cells
  abbrev after : LibraryView
  after = with_generated view poly diff n

  -- the cells that come
  abbrev made : List CellView
  made =
      tile_cell view.tech poly diff
      ∷ array_cell row_name (codes "t") (length view.cells) (row_grid n)
      ∷ array_cell stack_name (codes "r") (length view.cells + 1) (stack_grid n)
      ∷ []

  tile_seen : view_at after (length view.cells) ≡ tile_cell view.tech poly diff
  tile_seen =
      let first : length view.cells ≡ length view.cells + 0 = omega arith in
      ap (view_at after) first ∙ get_or-append-add view.cells made 0 no_cell

  tile_unfolds : (depth : ℕ) → named_tree_to after (suc depth) (length view.cells) ≡ tile_tree view.tech poly diff n (length view.cells)
  tile_unfolds depth = unfolded after depth (length view.cells) (tile_cell view.tech poly diff) tile_seen

  row_unfolds : (depth : ℕ) → named_tree_to after (suc (suc depth)) (length view.cells + 1) ≡ row_tree view.tech poly diff n (length view.cells)
  row_unfolds depth =
      unfolded after (suc depth) (length view.cells + 1) (array_cell row_name (codes "t") (length view.cells) (row_grid n))
      (get_or-append-add view.cells made 1 no_cell)
      ∙ ap (λ (tree : NamedTree). named_tree (bare_body (length view.cells + 1) row_name)
      (named_elements_at tree identity (use_elements (codes "t") (Some (row_grid n))) no_more)) (tile_unfolds depth)

  stack_unfolds : (depth : ℕ)
      → named_tree_to after (suc (suc (suc depth))) (length view.cells + 2) ≡ stack_tree view.tech poly diff n (length view.cells)
  stack_unfolds depth =
      unfolded after (suc (suc depth)) (length view.cells + 2) (array_cell stack_name (codes "r") (length view.cells + 1) (stack_grid n))
      (get_or-append-add view.cells made 2 no_cell)
      ∙ ap (λ (tree : NamedTree). named_tree (bare_body (length view.cells + 2) stack_name)
      (named_elements_at tree identity (use_elements (codes "r") (Some (stack_grid n))) no_more)) (row_unfolds depth)

  -- the stack is a tree of rows of tiles
  pub stack_is : named_tree_at after (length view.cells + 2) ≡ stack_tree view.tech poly diff n (length view.cells)
  unfolding named_tree_at
  stack_is =
      let deep : MOST_DEPTH ≡ suc (suc (suc 61)) = omega arith in
      ap (λ (depth : ℕ). named_tree_to after depth (length view.cells + 2)) deep ∙ stack_unfolds 61
