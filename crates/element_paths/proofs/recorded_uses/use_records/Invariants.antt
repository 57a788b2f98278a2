use Rattle.element_paths.proofs.Common.{◌≡◌, ◌-◌, length, take, seen, view_at, library_uses}
use Rattle.element_paths.proofs.recorded_uses.use_records.Given as goal

-- the records so far are those of the first uses
abbrev pub invariant-loop-id : goal.invariant-loop-id
invariant-loop-id l = l.records.items ≡ take l.k (library_uses (seen l.library) l.cell.0)

abbrev pub decreases-loop-id : goal.decreases-loop-id
decreases-loop-id l = length (view_at (seen l.library) l.cell.0).uses - l.k
