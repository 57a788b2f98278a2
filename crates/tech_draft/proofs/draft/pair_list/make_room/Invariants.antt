use Rattle.tech_draft.proofs.Common.{◌≡◌, ◌+◌, ◌-◌, ℕ, false, get_or, length}
use Rattle.tech_draft.proofs.draft.pair_list.make_room.Given as goal

-- the flags read as before
abbrev pub invariant-loop-flags : goal.invariant-loop-flags
invariant-loop-flags l = (k : ℕ) → get_or l.flags.items k false ≡ get_or l.initial.flags.items k false

-- what the flags lack
abbrev pub decreases-loop-flags : goal.decreases-loop-flags
decreases-loop-flags l = l.place + 1 - length l.flags.items
