use Rattle.std.proofs.Common.{◌≡◌, ◌-◌, ◌^◌, min, take, true}
use Rattle.std.specs.Str.{all_ascii_digits}
use Rattle.std.specs.Str.Parse.{digits_value}
use Rattle.text_scan.proofs.numeral.magnitude.Given as goal

abbrev pub invariant-loop-byte : goal.invariant-loop-byte
invariant-loop-byte l = record {
  all_digits : all_ascii_digits (take l.byte-index l.digits) ≡ true;
  value : l.value ≡ min (digits_value 10 (take l.byte-index l.digits)) (2 ^ 128 - 1);
}
