use Rattle.cif_commands.proofs.Common.{◌≡◌, ◌<◌, ◌∙◌, ℤ, pos, length, get_or, sym, ap, subst, rules, arith, Rect, sum_on, area_of}
use Rattle.std.proofs.Common.{◌+◌, ◌+ℤ◌, take, to_z, of_z}
use Rattle.std.specs.Int.{w64, w128}
use Rattle.std.specs.Int.RustNames.{FitsSigned}
use Rattle.std.proofs.lemmas.Int.{to_z-of_z}
use Rattle.key_sums.proofs.SumLaws.{Bounded, bounded_fits, bounded_more, fits_is}
use Rattle.cif_commands.proofs.StripTotals.{area_more}
use Rattle.cif_commands.proofs.layer_lines.squares_in.Goals as goal

pub loop-strip-preserved : goal.loop-strip-preserved
loop-strip-preserved c =
    let strips = c.args.strips.now in
    let i = c.loop-strip.strip-index in
    let none : Rect = record { xlo = pos 0; ylo = pos 0; xhi = pos 0; yhi = pos 0 } in
    let area = area_of (get_or strips i none) in
    let sum = sum_on area_of (take i strips) in
    let inside = c.loop-strip-test.true in
    let many : length strips < 9223372036854775808 = search rules in
    let fits : FitsSigned w64 c.area_of.result = search rules in
    let value : c.from-squares.result ≡ area = c.from-squares.ensures ∙ to_z-of_z w64 c.area_of.result fits ∙ c.area_of.ensures in
    let added : to_z w128 (of_z w128 c.from-squares.result) ≡ area = to_z-of_z w128 c.from-squares.result (search rules) ∙ value in
    let more = area_more strips i none inside in
    let bounded = bounded_more i sum area c.loop-strip.invariant.bounded (fits_is area (subst (FitsSigned w64) c.area_of.ensures fits)) in
    let total : to_z w128 c.loop-strip.squares-bits +ℤ to_z w128 (of_z w128 c.from-squares.result) ≡ sum +ℤ area =
    λ k. c.loop-strip.invariant.counted k +ℤ added k in
    record {
      counted = ap (λ (z : ℤ). to_z w128 (of_z w128 z)) total
          ∙ to_z-of_z w128 (sum +ℤ area) (bounded_fits (i + 1) (sum +ℤ area) (omega (arith, many, inside)) bounded) ∙ sym more;
      bounded = subst (Bounded (i + 1)) (sym more) bounded;
    }
