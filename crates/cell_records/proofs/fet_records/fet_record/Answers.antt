use Rattle.cell_records.proofs.Common.{◌<◌, ℕ, ℤ, List, length, sym, subst, All, All-from_In, AreJoined}
use Rattle.cell_records.proofs.JoinedLaws.{joined_below}
use Rattle.cell_records.proofs.fet_records.fet_record.Goals as goal

pub terminals_of-requires : goal.terminals_of-requires
terminals_of-requires c =
    let nodes = c.args.nodes.now in
    let numbers = c.args.numbers.now in
    let fet = c.args.fet.now in
    let joined = c.in_ok-joined.joined.items in
    let are : AreJoined numbers fet.terminals joined = subst (λ (ts : List (ℕ × ℤ)). AreJoined numbers ts joined) c.items.ensures c.in_ok-joined.ensures in
    subst (λ (v : List (ℕ × ℤ)). All (λ t. t.0 < length nodes) v) (sym c.as_slice.ensures.value)
    (All-from_In (λ (t : ℕ × ℤ). t.0 < length nodes) joined
    (λ t among. joined_below numbers fet.terminals joined (length nodes) are c.requires.small.regions c.requires.numbers t among))
