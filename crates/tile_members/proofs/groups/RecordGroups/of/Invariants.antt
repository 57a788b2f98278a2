use Rattle.tile_members.proofs.Common.{drop, get_by, bytes_eq}
use Rattle.tile_members.specs.steps.MergeTables.{FindFirst}
use Rattle.tile_members.proofs.groups.RecordGroups.of.Given as goal

abbrev pub invariant-loop-number : goal.invariant-loop-number
invariant-loop-number l = FindFirst l.number (drop l.number l.rows) (λ member. get_by (λ key. bytes_eq member key.items) l.by_second)
