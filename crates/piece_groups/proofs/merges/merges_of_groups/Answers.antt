use Rattle.piece_groups.proofs.Common.{sym, subst, arith, ◌+◌, [], length, MergeRow, groups_before, AddsMerges}
use Rattle.std.proofs.Common.{Vec, Global}
use Rattle.piece_groups.proofs.GroupLaws.{groups_added, groups_kept}
use Rattle.piece_groups.proofs.WalkLaws.{mark_within}
use Rattle.piece_groups.proofs.merges.merges_of_groups.Goals as goal
use Rattle.piece_groups.proofs.merges.merges_of_groups.Goals.{then-is_first+in_ok-add_group, else-is_first}

pub is_first-requires-clause-mark : goal.is_first-requires-clause-mark
is_first-requires-clause-mark c =
    let members = c.args.linked.now.members.items in
    let below = mark_within members (length c.args.sums.now) c.loop-place.place c.requires.within (omega arith) in
    omega (arith, below, c.requires.as_many)

pub add_group-requires-clause-mark : goal.add_group-requires-clause-mark
add_group-requires-clause-mark c =
    mark_within c.args.linked.now.members.items (length c.args.sums.now) c.loop-place.place c.requires.within (omega arith)

pub loop-place-preserved : goal.loop-place-preserved
loop-place-preserved c =
    let members = c.args.linked.now.members.items in
    let sums = c.args.sums.now in
    let nothing = c.args.nothing.now in
    let place = c.loop-place.place in
    let P : Vec MergeRow Global → Type 0 = λ rows. AddsMerges nothing (groups_before members sums (place + 1)) [] rows.items in
    elim c.if-is_first.branch [
      | then-is_first+in_ok-add_group w ↦ subst P (sym w.rows-is)
          (groups_added members sums nothing place c.loop-place.rows.items w.add_group.new.merges.items (sym w.if-is_first.ensures)
          w.in_ok-add_group.ensures c.loop-place.invariant)
      | else-is_first w ↦ subst P (sym w.rows-is)
          (groups_kept members sums nothing place c.loop-place.rows.items (sym w.if-is_first.ensures) c.loop-place.invariant)
    ]
