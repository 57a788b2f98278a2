-- Trees of positions in a list of rectangles.
use Rattle.std.specs.Prelude.{◌≡◌, ℕ, ◌<◌, Option, Some, None, List, [], ◌∷◌, ◌++◌, length}
use Rattle.geo_core.specs.FiniteSets.Lists.{Lists}
use Rattle.geo_core.specs.declared.squares.Rect.{Rect}
use Rattle.geo_core.specs.Areas.{joined_rect}
use Rattle.rect_trees.specs.declared.nodes.Node.{Node, Leaf, Fork'}
use Rattle.rect_trees.specs.Positions.{rect_at, HasSquareAt}

-- the positions in a tree, from left to right
abbrev pub positions_of : Node → List ℕ
positions_of (Leaf position) = position ∷ []
positions_of (Fork' p hull left right) = positions_of left ++ positions_of right

-- the rectangle that goes round all those in a tree
abbrev pub hull_of : List Rect → Node → Rect
hull_of rects (Leaf position) = rect_at rects position
hull_of rects (Fork' p hull left right) = hull

-- each leaf has a position of the list, and each fork has what goes round both its sides
abbrev pub AreHulls : List Rect → Node → Type 0
AreHulls rects (Leaf position) = position < length rects
AreHulls rects (Fork' p hull left right) =
    (hull ≡ joined_rect (hull_of rects left) (hull_of rects right)) × AreHulls rects left × AreHulls rects right

-- each fork has what goes round both its sides, if there is a tree
abbrev pub RootHasHulls : List Rect → Option Node → Type 0
RootHasHulls rects None = Unit {0}
RootHasHulls rects (Some node) = AreHulls rects node

-- the positions in the tree, if there is one
abbrev pub root_positions : Option Node → List ℕ
root_positions None = []
root_positions (Some node) = positions_of node

-- The tree has the rectangles of the list that have squares, each once.
pub record IsRoot (rects : List Rect) (root : Option Node) : Type 0 where
  pub hulls : RootHasHulls rects root
  pub leaves : Lists (HasSquareAt rects) (root_positions root)
