-- The areas of the strips of a set count its squares.
use Rattle.cif_commands.proofs.Common.{◌≡◌, ◌∙◌, ◌<◌, inl, inr, ℕ, pos, List, [], ◌∷◌, length, get_or, refl, sym, ap, subst, Rect, Square, sum_on}
use Rattle.cif_commands.proofs.Common.{area_of, HasSquares}
use Rattle.std.proofs.Common.{◌⊎◌, ◌+◌, ◌+ℤ◌, take}
use Rattle.std.proofs.lemmas.List.{take_more}
use Rattle.geo_core.specs.Areas.{AreDisjoint}
use Rattle.geo_core.specs.Covering.{Covers, IsProper}
use Rattle.geo_core.specs.FiniteSets.Lists.{In}
use Rattle.geo_core.specs.Strips.{IsInUnion, IsStrips}
use Rattle.geo_core.proofs.FiniteSets.Pairs.{Pairwise, Pairwise-from_AllPairs}
use Rattle.geo_core.proofs.FiniteSets.Searches.{All-In}
use Rattle.geo_core.proofs.FiniteSets.Sums.{sum_on-push}
use Rattle.geo_core.proofs.FiniteSets.Totals.{Total-at, Total-from_list, Total-iff, Total-none, Total-union}
use Rattle.geo_core.proofs.StripSets.{strips_apart}
use Rattle.rect_contacts.proofs.Leading.{Lists-squares_of, sum_on-squares_of}
use Rattle.rect_contacts.specs.Squares.{squares_of}
use Rattle.square_sets.proofs.ErosionLaws.{strips_cover}

-- a rectangle has as many squares as its area says
rect_total : (area : Rect) → IsProper area → HasSquares (Covers area) (area_of area)
rect_total area proper =
    Total-at (Covers area) (λ square. pos 1) (sum_on (λ square. pos 1) (squares_of area)) (area_of area) (sum_on-squares_of area proper)
    (Total-from_list (Covers area) (λ square. pos 1) (squares_of area) (Lists-squares_of area))

-- rectangles that lie apart have together as many as their areas say
union_total : (areas : List Rect) → ((area : Rect) → In area areas → IsProper area) → Pairwise AreDisjoint areas
    → HasSquares (IsInUnion areas) (sum_on area_of areas)
union_total [] proper apart = Total-none (IsInUnion []) (λ square. pos 1) (λ square under. absurd under.1.0)
union_total (area ∷ areas) proper apart =
    let rest = union_total areas (λ other among. proper other (inr among)) apart.1 in
    Total-iff (λ square. Covers area square ⊎ IsInUnion areas square) (IsInUnion (area ∷ areas)) (λ square. pos 1)
    (area_of area +ℤ sum_on area_of areas)
    (λ square under. elim under [ inl here ↦ (area, (inl refl, here)) | inr there ↦ (there.0, (inr there.1.0, there.1.1)) ])
    (λ square under. elim under.1.0 [
      | inl same ↦ inl (subst (λ (r : Rect). Covers r square) (sym same) under.1.1)
      | inr among ↦ inr (under.0, (among, under.1.1))
    ])
    (Total-union (Covers area) (IsInUnion areas) (λ square. pos 1) (area_of area) (sum_on area_of areas)
    (λ square here there. apart.0 there.0 there.1.0 square here there.1.1) (rect_total area (proper area (inl refl))) rest)

-- so the set has as many squares as the areas of its strips say
pub strips_total : (S : Square → Type 0) (strips : List Rect) → IsStrips S strips → HasSquares S (sum_on area_of strips)
strips_total S strips are =
    let cover = strips_cover S strips are in
    Total-iff (IsInUnion strips) S (λ square. pos 1) (sum_on area_of strips) cover.1.to cover.1.back
    (union_total strips (λ area among. All-In IsProper strips area cover.0 among)
    (Pairwise-from_AllPairs AreDisjoint strips (strips_apart S strips are)))

-- one strip more has the squares that its area says more
pub area_more : (strips : List Rect) (k : ℕ) (d : Rect) → k < length strips
    → sum_on area_of (take (k + 1) strips) ≡ sum_on area_of (take k strips) +ℤ area_of (get_or strips k d)
area_more strips k d inside = ap (sum_on area_of) (take_more strips k d inside) ∙ sum_on-push area_of (take k strips) (get_or strips k d)
