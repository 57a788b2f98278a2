use Rattle.ext_cache.proofs.Common.{length, Records, AreLent}
use Rattle.ext_cache.proofs.caches.Cache.take_back.Given as goal

-- what is left is lent
abbrev pub invariant-loop-note : goal.invariant-loop-note
invariant-loop-note l =
    (before : Records) → AreLent before l.initial.exts.items l.initial.notes.items l.initial.self → AreLent before l.exts.items l.notes.items l.self

abbrev pub decreases-loop-note : goal.decreases-loop-note
decreases-loop-note l = length l.notes.items
