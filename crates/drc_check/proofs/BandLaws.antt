-- Bands of a hull, one more on top of the others.
use Rattle.drc_check.proofs.Common.{◌≡◌, ◌<◌, ◌≤ℤ◌, ◌<ℤ◌, ◌+ℤ◌, ◌-ℤ◌, inl, inr, ℤ, pos, List, [], ◌∷◌, ◌++◌, FitsSigned, w64, to_z, of_z, ap, subst}
use Rattle.drc_check.proofs.Common.{◌∙◌, arith, int_min, unsigned_abs, ints, to_z-of_z, In-push_cases, Rect, LiesWithin, SpansInRange, AreBandsBelow}
use Rattle.std.proofs.lemmas.Int.{by_lt_z, clamps}
use Rattle.finite_sets.proofs.Members.{In-append_left, In-push}
use Rattle.geo_core.specs.Areas.{IsNear}

-- the rows of a hull between two of its rows
abbrev pub rows_between : Rect → ℤ → ℤ → Rect
rows_between hull low high = record { xlo = hull.xlo; ylo = low; xhi = hull.xhi; yhi = high }

-- one band more
pub band_more : (hull : Rect) (low high : ℤ) (bands : List Rect) → SpansInRange hull → hull.ylo ≤ℤ low → low ≤ℤ high → high ≤ℤ hull.yhi
    → AreBandsBelow hull low bands → AreBandsBelow hull high (bands ++ rows_between hull low high ∷ [])
band_more hull low high bands spans from rises to are =
    let band = rows_between hull low high in
    let near : IsNear band =
    record {
      xlo = (omega (arith, ints, spans.xlo.low), omega (arith, ints, spans.xlo.high));
      ylo = (omega (arith, ints, spans.ylo.low), omega (arith, ints, spans.yhi.high));
      xhi = (omega (arith, ints, spans.xhi.low), omega (arith, ints, spans.xhi.high));
      yhi = (omega (arith, ints, spans.ylo.low), omega (arith, ints, spans.yhi.high));
    } in
    let within : LiesWithin band hull =
    record { right_of_xlo = omega (arith, ints); above_ylo = from; left_of_xhi = omega (arith, ints); below_yhi = to } in
    record {
      near = λ other among. elim (In-push_cases other bands band among) [
        | inl earlier ↦ are.near other earlier
        | inr same ↦ subst IsNear same near
      ];
      within = λ other among. elim (In-push_cases other bands band among) [
        | inl earlier ↦ are.within other earlier
        | inr same ↦ subst (λ (r : Rect). LiesWithin r hull) same within
      ];
      whole = λ square covers below. by_lt_z square.y low
          (λ under. let found = are.whole square covers under in (found.0, (In-append_left found.0 bands (band ∷ []) found.1.0, found.1.1)))
          (λ over. (
            band,
            (
              In-push bands band,
              record {
                right_of_xlo = covers.right_of_xlo;
                left_of_xhi = covers.left_of_xhi;
                above_ylo = over;
                below_yhi = below;
              },
            ),
          ));
    }

-- the least of two numbers in bits
pub min_in_bits : (m a b : ℤ) → FitsSigned w64 m → FitsSigned w64 a → FitsSigned w64 b → m ≡ int_min (to_z w64 (of_z w64 a)) (to_z w64 (of_z w64 b))
    → to_z w64 (of_z w64 m) ≡ int_min a b
min_in_bits m a b p q r is =
    to_z-of_z w64 m p ∙ is ∙ ap (λ (z : ℤ). int_min z (to_z w64 (of_z w64 b))) (to_z-of_z w64 a q) ∙ ap (int_min a) (to_z-of_z w64 b r)

-- a band has a row, and none past the top
pub band_bounds : (low rows top high : ℤ) → pos 1 ≤ℤ rows → low <ℤ top → high ≡ int_min (low +ℤ rows) top → (low <ℤ high) × (high ≤ℤ top)
band_bounds low rows top high some below is = (omega (arith, ints, clamps), omega (arith, ints, clamps))

-- what is left falls
pub left_falls : (low high top : ℤ) → low <ℤ high → high ≤ℤ top → unsigned_abs (top -ℤ high) < unsigned_abs (top -ℤ low)
left_falls low high top rises within = omega (arith, ints)
