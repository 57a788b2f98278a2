use Rattle.fet_regions.proofs.Common.{◌≡◌, ℕ, ◌+◌, ◌<◌, ℤ, pos, ◌+ℤ◌, length, get_or, take, sym, ◌∙◌, ap, rules, arith, to_z, of_z, get, w64, Option}
use Rattle.fet_regions.proofs.Common.{unwrap_or, to_z-of_z, sum_on, key_cmp, part_in, Part}
use Rattle.std.specs.Int.{w128}
use Rattle.std.specs.Int.RustNames.{FitsSigned}
use Rattle.key_sums.proofs.SumLaws.{fits_is, bounded_fits, bounded_more}
use Rattle.fet_regions.proofs.MapLaws.{summed_or, summed_more, sum_bounded}
use Rattle.fet_regions.proofs.lengths.lengths_of.Goals as goal

abbrev no_part : Part
no_part = record { label = 0; region = 0; length = pos 0 }

pub overflow_add-before : goal.overflow_add-before
overflow_add-before c =
    let parts = c.args.parts.now in
    let i = c.loop-part.part-index in
    let part : Part = get_or parts i no_part in
    let key : ℕ × ℕ = (part.label, part.region) in
    let inside = c.loop-part-test.true in
    let many : length parts < 9223372036854775808 = search rules in
    let fits : FitsSigned w64 part.length = search rules in
    let sum = sum_on (part_in key) (take i parts) in
    let before : c.length_at-before.result ≡ sum = c.length_at-before.ensures
    ∙ ap (λ (v : Option ℤ). unwrap_or v (pos 0)) (c.loop-part.invariant.each key) ∙ summed_or (take i parts) key in
    let value : c.from.result ≡ part.length = c.from.ensures ∙ to_z-of_z w64 part.length fits in
    let is : to_z w128 (of_z w128 c.length_at-before.result) ≡ sum = to_z-of_z w128 c.length_at-before.result (search rules) ∙ before in
    let was : to_z w128 (of_z w128 c.from.result) ≡ part.length = to_z-of_z w128 c.from.result (search rules) ∙ value in
    rw (is, was) (bounded_fits (i + 1) (sum +ℤ part.length) (omega (arith, many, inside))
    (bounded_more i sum part.length (c.loop-part.invariant.bounded key) (fits_is part.length fits)))

pub loop-part-preserved : goal.loop-part-preserved
loop-part-preserved c =
    let parts = c.args.parts.now in
    let i = c.loop-part.part-index in
    let part : Part = get_or parts i no_part in
    let key : ℕ × ℕ = (part.label, part.region) in
    let inside = c.loop-part-test.true in
    let many : length parts < 9223372036854775808 = search rules in
    let fits : FitsSigned w64 part.length = search rules in
    let sum = sum_on (part_in key) (take i parts) in
    let before : c.length_at-before.result ≡ sum = c.length_at-before.ensures
    ∙ ap (λ (v : Option ℤ). unwrap_or v (pos 0)) (c.loop-part.invariant.each key) ∙ summed_or (take i parts) key in
    let value : c.from.result ≡ part.length = c.from.ensures ∙ to_z-of_z w64 part.length fits in
    let is : to_z w128 (of_z w128 c.length_at-before.result) ≡ sum = to_z-of_z w128 c.length_at-before.result (search rules) ∙ before in
    let was : to_z w128 (of_z w128 c.from.result) ≡ part.length = to_z-of_z w128 c.from.result (search rules) ∙ value in
    let bound : FitsSigned w128 (sum +ℤ part.length) = bounded_fits (i + 1) (sum +ℤ part.length) (omega (arith, many, inside))
    (bounded_more i sum part.length (c.loop-part.invariant.bounded key) (fits_is part.length fits)) in
    let all : to_z w128 (of_z w128 (sum +ℤ part.length)) ≡ sum +ℤ part.length = to_z-of_z w128 (sum +ℤ part.length) bound in
    let updates = rw (is, was, all) at c.in_ok-insert.ensures.updates.0 in
    record {
      each = summed_more parts i no_part (get key_cmp c.loop-part.lengths) (get key_cmp c.insert.new.self) (sum +ℤ part.length) inside
          c.loop-part.invariant.each
          (ap (λ (z : ℤ). z +ℤ part.length) (sym (ap (λ (v : Option ℤ). unwrap_or v (pos 0)) (c.loop-part.invariant.each key) ∙ summed_or (take i parts) key)))
          updates;
      bounded = λ other. sum_bounded parts i no_part other inside (fits_is part.length fits) (c.loop-part.invariant.bounded other);
    }
