use Rattle.ext_cache.proofs.Common.{Records, IsLogOf}
use Rattle.ext_cache.proofs.caches.Cache.roll_back.Given as goal

-- what is left of the log tells of the records
abbrev pub invariant-loop-undo : goal.invariant-loop-undo
invariant-loop-undo l = (before : Records) → IsLogOf before l.initial.log.items l.initial.self → IsLogOf before l.log.items l.self

abbrev pub decreases-loop-undo : goal.decreases-loop-undo
decreases-loop-undo l = goal.left-loop-undo l
