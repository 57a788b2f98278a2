use Rattle.drc_check.proofs.Common.{take, ViolatesIn, AreRuleStripsFrom}
use Rattle.drc_check.proofs.checking.violations_of.Given as goal

-- the strips so far are those of the rules so far
abbrev pub invariant-loop-place : goal.invariant-loop-place
invariant-loop-place l = AreRuleStripsFrom (ViolatesIn l.pieces) 1 (take l.place l.rules) l.found.items
