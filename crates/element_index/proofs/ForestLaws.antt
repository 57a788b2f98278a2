-- Rectangles in several trees.
use Rattle.element_index.proofs.Common.{◌≡◌, ℕ, ◌+◌, ◌<◌, true, false, List, [], ◌∷◌, ◌++◌, inl, inr, length, get_or, take, drop, refl, sym, ap, ◌∙◌}
use Rattle.element_index.proofs.Common.{subst, append_assoc, append-nil, arith, length-drop, ◌-◌, Some, None, ◌↔◌, is_some, flat_map-append, In}
use Rattle.element_index.proofs.Common.{In-append_cases, In-get_or, Rect, IsMeeting, MissesAll, rects_of, MeetsSome}
use Rattle.std.specs.Prelude.{Option, IfSome, IfNone, IsTrue}
use Rattle.std.proofs.lemmas.List.{take_all, take_more, take-append-drop}
use Rattle.finite_sets.proofs.Images.{In-flat_map}

-- the rectangles of one list of trees and then of another
rects_of-append : (trees more : List (List Rect)) → rects_of (trees ++ more) ≡ rects_of trees ++ rects_of more
rects_of-append trees more = flat_map-append (λ (tree : List Rect). tree) trees more

-- and of one tree more
pub rects_of-push : (trees : List (List Rect)) (tree : List Rect) → rects_of (trees ++ tree ∷ []) ≡ rects_of trees ++ tree
rects_of-push trees tree = rects_of-append trees (tree ∷ []) ∙ ap (λ (more : List Rect). rects_of trees ++ more) (append-nil tree)

-- so a tree more at a time
pub rects_of-more : (trees : List (List Rect)) (i : ℕ) (tree : List Rect) → i < length trees → tree ≡ get_or trees i tree
    → rects_of (take (i + 1) trees) ≡ rects_of (take i trees) ++ tree
rects_of-more trees i tree below is =
    ap rects_of (take_more trees i tree below ∙ ap (λ (one : List Rect). take i trees ++ one ∷ []) (sym is)) ∙ rects_of-push (take i trees) tree

-- trees from one on joined with a rectangle, behind those before
pub rects_of-joined : (trees : List (List Rect)) (first : ℕ) (tree : List Rect) (rect : Rect) → tree ≡ rects_of (drop first trees) ++ rect ∷ []
    → rects_of (take first trees ++ tree ∷ []) ≡ rects_of trees ++ rect ∷ []
rects_of-joined trees first tree rect is =
    rects_of-push (take first trees) tree
    ∙ ap (λ (more : List Rect). rects_of (take first trees) ++ more) is
    ∙ sym (append_assoc (rects_of (take first trees)) (rects_of (drop first trees)) (rect ∷ []))
    ∙ ap (λ (all : List Rect). all ++ rect ∷ []) (sym (rects_of-append (take first trees) (drop first trees)) ∙ ap rects_of (take-append-drop first trees))

-- the trees from one on, as a slice has them
pub rest_of : (trees : List (List Rect)) (first : ℕ) → take (length trees - first) (drop first trees) ≡ drop first trees
rest_of trees first = take_all (length trees - first) (drop first trees) (omega (arith, length-drop first trees))

-- what one of the trees meets, all meet
pub tree_meets : (trees : List (List Rect)) (i : ℕ) (tree : List Rect) (area : Rect) → i < length trees → tree ≡ get_or trees i tree
    → MeetsSome tree area → MeetsSome (rects_of trees) area
tree_meets trees i tree area below is (rect, met) =
    let one : In tree trees = subst (λ (t : List Rect). In t trees) (sym is) (In-get_or trees i tree below) in
    (rect, record { there = In-flat_map (λ (t : List Rect). t) tree rect trees one met.there; meets = met.meets })

-- what a tree more misses too
pub misses_more : (trees : List (List Rect)) (i : ℕ) (tree : List Rect) (area : Rect) → i < length trees → tree ≡ get_or trees i tree
    → MissesAll (rects_of (take i trees)) area → MissesAll tree area → MissesAll (rects_of (take (i + 1) trees)) area
misses_more trees i tree area below is before misses rect here meets =
    elim (In-append_cases rect (rects_of (take i trees)) tree (subst (In rect) (rects_of-more trees i tree below is) here)) [
      | inl early ↦ before rect early meets
      | inr last ↦ misses rect last meets
    ]

-- what a search tells
pub found_meets : (rects : List Rect) (area : Rect) (found : Option Rect) → is_some found ≡ true → IfSome found (IsMeeting rects area)
    → MeetsSome rects area
found_meets rects area (Some rect) some met = (rect, met)
found_meets rects area None some met = absurd (cc)

pub missed_all : (rects : List Rect) (area : Rect) (found : Option Rect) → is_some found ≡ false → IfNone found (MissesAll rects area)
    → MissesAll rects area
missed_all rects area None none misses = misses
missed_all rects area (Some rect) none misses = absurd (cc)

pub search_tells : (rects : List Rect) (area : Rect) (found : Option Rect) → IfSome found (IsMeeting rects area) → IfNone found (MissesAll rects area)
    → IsTrue (is_some found) ↔ MeetsSome rects area
search_tells rects area (Some rect) met misses = ((λ some. (rect, met)), (λ meets. refl))
search_tells rects area None met misses = ((λ some. absurd (cc)), (λ meets. absurd (misses meets.0 meets.1.there meets.1.meets)))
