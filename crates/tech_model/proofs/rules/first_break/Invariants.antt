use Rattle.tech_model.proofs.Common.{◌≡◌, drop, find, pairs_of, breaks_law}
use Rattle.tech_model.proofs.rules.first_break.Given as goal

abbrev pub invariant-loop-s : goal.invariant-loop-s
invariant-loop-s l =
    find (breaks_law l.tech) (pairs_of l.widenings l.widenings) ≡ find (breaks_law l.tech) (pairs_of (drop l.s-index l.widenings) l.widenings)
