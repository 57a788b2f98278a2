use Rattle.cif_commands.proofs.Common.{◌≡◌, sum_on, area_of}
use Rattle.std.proofs.Common.{take}
use Rattle.key_sums.proofs.SumLaws.{Bounded}
use Rattle.cif_commands.proofs.layer_lines.squares_in.Given as goal

-- what was counted are the areas of the strips so far
abbrev pub invariant-loop-strip : goal.invariant-loop-strip
invariant-loop-strip l = record {
  counted : l.squares ≡ sum_on area_of (take l.strip-index l.strips);
  bounded : Bounded l.strip-index (sum_on area_of (take l.strip-index l.strips));
}
