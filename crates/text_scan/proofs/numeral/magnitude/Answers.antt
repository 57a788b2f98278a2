use Rattle.std.proofs.Common.{◌≡◌, ◌-◌, ◌<◌, ◌^◌, min, true, false, length, get_or, Ok, sym, ap, ◌∙◌, arith}
use Rattle.std.specs.Char.{is_ascii_digit}
use Rattle.std.specs.Str.{all_ascii_digits}
use Rattle.std.specs.Str.Parse.{digits_value}
use Rattle.std.proofs.lemmas.List.{take_all}
use Rattle.std.proofs.lemmas.Grind.{common_steps}
use Rattle.text_scan.proofs.NumberLemmas.{natural_of-empty, natural_of-fault, natural_of-digits, all_ascii_digits_more, all_ascii_digits_fails, capped_more}
use Rattle.text_scan.proofs.numeral.magnitude.Goals as goal

pub returns-then-is_empty : goal.returns-then-is_empty
returns-then-is_empty c =
    let empty = natural_of-empty c.args.digits.now (grind (arith, common_steps)) in
    simp empty

pub returns-then-not-is_ascii_digit : goal.returns-then-not-is_ascii_digit
returns-then-not-is_ascii_digit c =
    let digits = c.args.digits.now in
    let fault : is_ascii_digit (get_or digits c.loop-byte.byte-index 0) ≡ false = cc in
    let all = natural_of-fault digits (omega arith) (all_ascii_digits_fails digits c.loop-byte.byte-index (omega arith) fault) in
    simp all

pub loop-byte-preserved : goal.loop-byte-preserved
loop-byte-preserved c =
    let digits = c.args.digits.now in
    let i = c.loop-byte.byte-index in
    let inside : i < length digits = omega arith in
    let digit : is_ascii_digit (get_or digits i 0) ≡ true = cc in
    let value = capped_more digits i c.loop-byte.value (2 ^ 128 - 1) inside digit c.loop-byte.invariant.value in
    record {
      all_digits = all_ascii_digits_more digits i inside c.loop-byte.invariant.all_digits digit;
      value = cc;
    }

pub returns : goal.returns
returns c =
    let digits = c.args.digits.now in
    let whole = take_all c.loop-byte.byte-index digits c.loop-byte-test.false in
    let all = ap all_ascii_digits (sym whole) ∙ c.loop-byte.invariant.all_digits in
    let value = c.loop-byte.invariant.value ∙ ap (λ bytes. min (digits_value 10 bytes) (2 ^ 128 - 1)) whole in
    simp (natural_of-digits digits (grind (arith, common_steps)) all) (ap Ok value)
