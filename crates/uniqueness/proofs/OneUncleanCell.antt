-- One cell is the first of an order that is not clean, and the squares of it that offend have one list of strips.
use Rattle.uniqueness.proofs.Common.{◌≡◌, ℕ, zero, suc, List, [], ◌∷◌, ◌++◌, map, sym, ap, ◌∙◌, subst, All-head, All-tail, Rect, children_in}
use Rattle.uniqueness.proofs.Common.{LibraryView, IsCleanCell, IsUncleanBelow}
use Rattle.std.specs.Prelude.{All}
use Rattle.geo_core.specs.declared.squares.Square.{Square}
use Rattle.geo_strips.proofs.StripListLaws.{one_list}
use Rattle.use_orders.proofs.Visiting.{Visits-unique}
use Rattle.hier_merge.specs.StripLists.{AreStripsFrom}
use Rattle.hier_merge.specs.UncleanCells.{AreOffendingOf, IsFirstUnclean}
use Rattle.uniqueness.specs.UncleanCells.{OffendingSquaresAreUnique}

-- sets on planes have one list of strips
pub one_list_by_plane : (Set : ℕ → Square → Type 0) (plane count : ℕ) (squares others : List (ℕ × Rect)) → AreStripsFrom Set plane count squares
    → AreStripsFrom Set plane count others → squares ≡ others
one_list_by_plane Set plane zero squares others p q = p ∙ sym q
one_list_by_plane Set plane (suc count) squares others (strips, rest, is, are, later) (areas, more, also, too, behind) =
    let first = one_list (Set plane) strips areas are too in
    let next = one_list_by_plane Set (suc plane) count rest more later behind in
    let on_plane : Rect → ℕ × Rect = λ area. (plane, area) in
    is
    ∙ ap (λ (ys : List Rect). map on_plane ys ++ rest) first
    ∙ ap (λ (ys : List (ℕ × Rect)). map on_plane areas ++ ys) next
    ∙ sym also

-- the first thing of a list that lacks a fact, where all before it have it
one_first : (P : ℕ → Type 0) (front others after rest : List ℕ) (cell other : ℕ) → front ++ cell ∷ after ≡ others ++ other ∷ rest → All P front → All P others
    → ¬ (P cell) → ¬ (P other) → cell ≡ other
one_first P [] [] after rest cell other same p q lacks also = (let is : cell ≡ other = cc in is)
one_first P [] (y ∷ others) after rest cell other same p q lacks also =
    (let is : y ≡ cell = cc in absurd (lacks (subst P is (All-head P y others q))))
one_first P (x ∷ front) [] after rest cell other same p q lacks also =
    (let is : x ≡ other = cc in absurd (also (subst P is (All-head P x front p))))
one_first P (x ∷ front) (y ∷ others) after rest cell other same p q lacks also =
    (let is : front ++ cell ∷ after ≡ others ++ other ∷ rest = cc in
    one_first P front others after rest cell other is (All-tail P x front p) (All-tail P y others q) lacks also)

pub one_unclean : (library : LibraryView) (order : List ℕ) (cell other : ℕ) → IsFirstUnclean library order cell → IsFirstUnclean library order other
    → cell ≡ other
one_unclean library order cell other p q =
    one_first (IsCleanCell library) p.before q.before p.after q.after cell other (sym p.stands ∙ q.stands) p.clean q.clean p.unclean q.unclean

-- a cell at or below a root, with its squares
pub one_unclean_below : OffendingSquaresAreUnique → (library : LibraryView) (root cell other : ℕ) (squares others : List (ℕ × Rect))
    → IsUncleanBelow library root cell squares → IsUncleanBelow library root other others → (cell ≡ other) × (squares ≡ others)
one_unclean_below one_squares library root cell other squares others p q =
    let order = Visits-unique (children_in library) [] (root ∷ []) p.order q.order p.is_order q.is_order in
    let first = subst (λ (all : List ℕ). IsFirstUnclean library all other) (sym order) q.first in
    let same = one_unclean library p.order cell other p.first first in
    let there = subst (λ (one : ℕ). AreOffendingOf library one others) (sym same) q.are_squares in
    (same, one_squares library cell squares others p.are_squares there)
