use Rattle.drc_check.proofs.Common.{◌≡◌, ◌≤ℤ◌, ◌<ℤ◌, ◌+ℤ◌, ◌++◌, ◌∷◌, [], ℤ, true, rules, w64, of_z, to_z, FitsSigned, refl, sym, ap, subst, ◌∙◌}
use Rattle.drc_check.proofs.Common.{arith, int_min, ints, to_z-of_z, Rect, AreBandsBelow}
use lib.Signed.{lt_z}
use Rattle.geo_core.proofs.SquareLaws.{rect_is}
use Rattle.drc_check.proofs.BandLaws.{band_bounds, band_more, left_falls, min_in_bits, rows_between}
use Rattle.drc_check.proofs.bands.bands_of.Goals as goal

-- a test that passes
is_less : (a b y : ℤ) → b ≡ y → lt_z a b ≡ true → a <ℤ y
is_less a b y same test = omega (arith, ints)

pub loop-low-smaller : goal.loop-low-smaller
loop-low-smaller c =
    let top = c.args.hull.now.yhi in
    let low = to_z w64 c.loop-low.low-bits in
    let rows = to_z w64 (of_z w64 c.rows_of_band-rows.result) in
    let high = to_z w64 (of_z w64 c.min-high.result) in
    let so_far = c.loop-low.invariant in
    let fits : FitsSigned w64 (low +ℤ rows) = search rules in
    let is : high ≡ int_min (low +ℤ rows) top = min_in_bits c.min-high.result (low +ℤ rows) top (search rules) fits (search rules) c.min-high.ensures.value in
    let below = is_less low (to_z w64 (of_z w64 top)) top (to_z-of_z w64 top (search rules)) c.loop-low-test.true in
    let bounds = band_bounds low rows top high so_far.some below is in
    left_falls low high top bounds.0 bounds.1

pub loop-low-preserved : goal.loop-low-preserved
loop-low-preserved c =
    let hull = c.args.hull.now in
    let top = hull.yhi in
    let low = to_z w64 c.loop-low.low-bits in
    let rows = to_z w64 (of_z w64 c.rows_of_band-rows.result) in
    let high = to_z w64 (of_z w64 c.min-high.result) in
    let so_far = c.loop-low.invariant in
    let from : hull.ylo ≤ℤ low = so_far.from in
    let fits : FitsSigned w64 (low +ℤ rows) = search rules in
    let is : high ≡ int_min (low +ℤ rows) top = min_in_bits c.min-high.result (low +ℤ rows) top (search rules) fits (search rules) c.min-high.ensures.value in
    let below = is_less low (to_z w64 (of_z w64 top)) top (to_z-of_z w64 top (search rules)) c.loop-low-test.true in
    let bounds = band_bounds low rows top high so_far.some below is in
    let rises : low <ℤ high = bounds.0 in
    let more = band_more hull low high c.loop-low.bands.items c.requires.spans from (omega (arith, ints)) bounds.1 so_far.bands in
    let wide : to_z w64 (of_z w64 hull.xlo) ≡ hull.xlo = to_z-of_z w64 hull.xlo (search rules) in
    let right : to_z w64 (of_z w64 hull.xhi) ≡ hull.xhi = to_z-of_z w64 hull.xhi (search rules) in
    let band : c.push.new.self.items ≡ c.loop-low.bands.items ++ rows_between hull low high ∷ [] =
    c.in_ok-push.ensures.items
    ∙ ap (λ (area : Rect). c.loop-low.bands.items ++ area ∷ [])
    (rect_is (record { xlo = to_z w64 (of_z w64 hull.xlo); ylo = low; xhi = to_z w64 (of_z w64 hull.xhi); yhi = high }) (rows_between hull low high)
    wide refl right refl) in
    record {
      some = so_far.some;
      few = so_far.few;
      from = omega (arith, ints);
      to = bounds.1;
      bands = subst (AreBandsBelow hull high) (sym band) more;
    }

pub returns : goal.returns
returns c =
    let hull = c.args.hull.now in
    let low = to_z w64 c.loop-low.low-bits in
    let so_far = c.loop-low.invariant in
    let to : low ≤ℤ hull.yhi = so_far.to in
    let same = to_z-of_z w64 hull.yhi (search rules) in
    let test = c.loop-low-test.false in
    let all : low ≡ hull.yhi = omega (arith, ints) in
    subst (λ (row : ℤ). AreBandsBelow hull row c.loop-low.bands.items) all so_far.bands
