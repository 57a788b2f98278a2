-- The tree of places of the rectangles that have squares has those rectangles.
use Rattle.rect_trees.proofs.Common.{◌≡◌, List, [], ◌∷◌, Some, None, map, length, sym, subst, Lists, Rect, Node, Place, HasSquareAt, position_of}
use Rattle.rect_trees.proofs.Common.{ArePlaces, positions_of, AreHulls, IsRoot}

-- there is no tree where there is no place
pub no_root : (rects : List Rect) (places : List Place) → length places ≡ 0 → ArePlaces rects places → IsRoot rects None
no_root rects [] none places = record { hulls = tt; leaves = places.are }
no_root rects (place ∷ rest) none places = absurd (cc)

-- and the tree of some places
pub grown_root : (rects : List Rect) (places : List Place) (node : Node) → AreHulls rects node → positions_of node ≡ map position_of places
    → ArePlaces rects places → IsRoot rects (Some node)
grown_root rects places node hulls same places_are = record { hulls = hulls; leaves = subst (Lists (HasSquareAt rects)) (sym same) places_are.are }
