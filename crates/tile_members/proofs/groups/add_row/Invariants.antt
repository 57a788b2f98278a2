use Rattle.tile_members.proofs.Common.{◌≡◌, ℕ, List, Some, cond, get_by, bytes_eq}
use Rattle.tile_members.proofs.MergeFinds.{has_early}
use Rattle.tile_members.proofs.groups.add_row.Given as goal

abbrev pub invariant-loop-steps : goal.invariant-loop-steps
invariant-loop-steps l =
    (member : List ℕ) → get_by (λ key. bytes_eq member key.items) l.by_second
    ≡ cond (has_early member l.row l.steps) (Some l.number) (get_by (λ key. bytes_eq member key.items) l.initial.by_second)
