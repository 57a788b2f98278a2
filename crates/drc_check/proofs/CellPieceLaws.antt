-- The pieces in a cell's hull are all that it has.
use Rattle.drc_check.proofs.Common.{◌≡◌, ◌≢◌, ◌<◌, ◌≤ℤ◌, ◌<ℤ◌, ℕ, false, List, [], length, sym, ap, subst, ◌∙◌, arith, true≢false, All, Option, Some}
use Rattle.drc_check.proofs.Common.{None, ints, Rect, LiesWithin, has_square, Covers, IsProper, TypeId, joined, Place, flat_sets, joined_at}
use Rattle.drc_check.proofs.Common.{SpansInRange, LibraryParts, seen, Rule, IsLawfulRule, ListedPiece, AreCellPieces, AreListedPiecesOf, IsListedAt}
use Rattle.geo_core.proofs.CoveringLaws.{covers_is_proper, has_square-IsProper}
use Rattle.cell_library.specs.CellTree.declared.limits.TheConstants.{MOST_DEPTH}
use Rattle.cell_library.specs.Libraries.{IsLawfulLibrary}
use Rattle.cell_library.specs.LayoutTrees.{tree_at}
use Rattle.cell_library.specs.Limits.{HullIs}
use Rattle.cell_library.proofs.BoxesBelow.{hull_seen}
use Rattle.cell_library.proofs.HullsHoldMaterial.{hull_holds}
use Rattle.cell_library.proofs.VisitLaws.{hull_spans}
use Rattle.drc_check.proofs.ListedLaws.{listed_is_material}

-- a part of a hull lies in the range of paint
spans_within : (inner outer : Rect) → IsProper inner → LiesWithin inner outer → SpansInRange outer → SpansInRange inner
spans_within inner outer proper within spans =
    let wide : inner.xlo <ℤ inner.xhi = proper.wide in
    let high : inner.ylo <ℤ inner.yhi = proper.high in
    let a : outer.xlo ≤ℤ inner.xlo = within.right_of_xlo in
    let b : outer.ylo ≤ℤ inner.ylo = within.above_ylo in
    let c : inner.xhi ≤ℤ outer.xhi = within.left_of_xhi in
    let d : inner.yhi ≤ℤ outer.yhi = within.below_yhi in
    record {
      xlo = record { low = omega (arith, ints, spans.xlo.low); high = omega (arith, ints, spans.xhi.high) };
      ylo = record { low = omega (arith, ints, spans.ylo.low); high = omega (arith, ints, spans.yhi.high) };
      xhi = record { low = omega (arith, ints, spans.xlo.low); high = omega (arith, ints, spans.xhi.high) };
      yhi = record { low = omega (arith, ints, spans.ylo.low); high = omega (arith, ints, spans.yhi.high) };
    }

module _ (library : LibraryParts) (lawful : IsLawfulLibrary library) (cell : ℕ) (below : cell < length library.contents) where
  -- where the flat layout has something, the hull is
  in_hull : (hull : Option Rect) (place : Place) → HullIs (seen library) cell hull → flat_sets library.tech (tree_at (seen library) cell) place ≢ 0
      → (area : Rect) × (hull ≡ Some area) × Covers area place.square
  unfolding tree_at
  in_hull hull place is some =
      let found = hull_holds library.tech (seen library) library.tree.cells library.tree.sizes lawful.boxes lawful.tree.sizes.right MOST_DEPTH cell place
      some in
      (found.0, hull_seen library lawful cell hull below is ∙ found.1, found.2)

  -- the hull lies in the range of paint
  pub hull_in_range : (hull : Rect) → HullIs (seen library) cell (Some hull) → SpansInRange hull
  hull_in_range hull is = hull_spans library.tree cell hull lawful.tree (sym (hull_seen library lawful cell (Some hull) below is))

  module _ (rules : List Rule) (are_lawful : All (IsLawfulRule library.tech) rules) where
    -- so is where it has a type that rules list
    listed_in_hull : (hull : Option Rect) (place : Place) (kind : TypeId) → HullIs (seen library) cell hull → IsListedAt rules place kind
        → joined_at library.tech (flat_sets library.tech (tree_at (seen library) cell)) place ≡ Some kind.0
        → (area : Rect) × (hull ≡ Some area) × Covers area place.square
    listed_in_hull hull place kind is listed flat = in_hull hull place is (λ none.
        let space : Some 0 ≡ Some kind.0 = sym (ap (joined library.tech place.plane) none) ∙ flat in
        let same : kind.0 ≡ 0 = cc in
        listed_is_material library.tech rules are_lawful place.plane kind listed same)

    -- a cell without a hull has no pieces
    pub no_hull : HullIs (seen library) cell None → AreCellPieces library.tech (tree_at (seen library) cell) rules []
    no_hull is = record {
      are = record {
        proper = λ piece among. absurd among;
        sound = λ piece among. absurd among;
        whole = λ place kind listed flat.
            let found = listed_in_hull None place kind is listed flat in let never : None ≡ Some found.0 = found.1 in absurd (cc);
      };
      spans = λ piece among. absurd among;
    }

    -- nor has one whose hull has no square
    pub empty_hull : (hull : Rect) → HullIs (seen library) cell (Some hull) → has_square hull ≡ false
        → AreCellPieces library.tech (tree_at (seen library) cell) rules []
    empty_hull hull is none = record {
      are = record {
        proper = λ piece among. absurd among;
        sound = λ piece among. absurd among;
        whole = λ place kind listed flat.
            let found = listed_in_hull (Some hull) place kind is listed flat in
            let same : found.0 ≡ hull = (let one = found.1 in cc) in
            let covers = subst (λ (area : Rect). Covers area place.square) same found.2 in
            absurd (true≢false (sym (has_square-IsProper hull (covers_is_proper hull place.square covers)) ∙ none));
      };
      spans = λ piece among. absurd among;
    }

    -- the pieces in the hull are all
    pub pieces_of_hull : (hull : Rect) (pieces : List ListedPiece) → HullIs (seen library) cell (Some hull)
        → AreListedPiecesOf library.tech (tree_at (seen library) cell) rules hull pieces
        → AreCellPieces library.tech (tree_at (seen library) cell) rules pieces
    pieces_of_hull hull pieces is here =
        record {
          are = record {
            proper = here.are.proper;
            sound = here.are.sound;
            whole = λ place kind listed flat.
                let found = listed_in_hull (Some hull) place kind is listed flat in
                let same : found.0 ≡ hull = (let one = found.1 in cc) in
                here.are.whole place kind (subst (λ (area : Rect). Covers area place.square) same found.2, listed) flat;
          };
          spans = λ piece among. spans_within piece.area hull (here.are.proper piece among) (here.within piece among) (hull_in_range hull is);
        }
