use Rattle.interact.proofs.Common.{◌≡◌, ◌<◌, arith, Box, Global, false, w64, to_z, of_z, rules, subst, sym, ap, ◌∙◌, to_z-of_z, begins_before}
use Rattle.interact.proofs.Common.{ends_after, Fork, IsTold, forks}
use Rattle.interact.proofs.CountLaws.{LeftIsAdded, RightIsAdded, cut, fork_added, left_added, left_same, right_added, right_same}
use Rattle.interact.proofs.counts.Counts.+add.Goals as goal
use Rattle.interact.proofs.counts.Counts.+add.Goals.{then-begins_before+in_ok-add, else-begins_before, then-ends_after+in_ok-add-2, else-ends_after}

pub returns-in_ok-refresh : goal.returns-in_ok-refresh
returns-in_ok-refresh t c =
    let fork = c.in-Cut.fork.value in
    let now = c.deref_mut-fork.result.now in
    let next = c.if-begins_before.fork in
    let is = c.deref_mut-fork.ensures.value in
    let from = c.args.from in
    let to = c.args.to in
    let box : Box (Unit {0}) Global = record { ptr = c.in-Cut.fork.ptr; alloc = c.in-Cut.fork.alloc; value = tt {0} } in
    let same_at : to_z w64 (of_z w64 now.at) ≡ now.at = to_z-of_z w64 now.at (search rules) in
    let told = subst IsTold c.in-Cut.is c.requires.told in
    let told_left = subst (λ (v : Fork). IsTold v.left) (sym is) told.1 in
    let more : to_z w64 (of_z w64 c.args.more) ≡ c.args.more = to_z-of_z w64 c.args.more c.ranges.more in
    let one : LeftIsAdded from to c.args.more now next = elim c.if-begins_before.branch [
      | then-begins_before+in_ok-add w ↦ record {
        left = w.add.new.self;
        becomes = w.fork-is;
        done = left_added from to c.args.more now.at now.left w.add.new.self (rw (w.end_before.ensures, same_at, more) at w.in_ok-add.ensures);
      }
      | else-begins_before w ↦ record {
        left = now.left;
        becomes = w.fork-is;
        done = left_same from to c.args.more now.at now.left
            (subst (λ v. begins_before from v ≡ false) same_at (sym c.begins_before.ensures ∙ w.if-begins_before.false)) told_left;
      }
    ] in
    let two : RightIsAdded from to c.args.more now.at next c.if-ends_after.fork = elim c.if-ends_after.branch [
      | then-ends_after+in_ok-add-2 w ↦ record {
        right = w.add-then-ends_after.new.self;
        becomes = w.fork-is;
        done = λ told. right_added from to c.args.more now.at next.right w.add-then-ends_after.new.self
            (rw (w.begin_after.ensures, same_at, more) at w.in_ok-add-2.ensures);
      }
      | else-ends_after w ↦ record {
        right = next.right;
        becomes = w.fork-is;
        done = right_same from to c.args.more now.at next.right
            (subst (λ v. ends_after to v ≡ false) same_at (sym c.ends_after.ensures ∙ w.if-ends_after.false));
      }
    ] in
    rw (c.in-Cut.is, ← is) (fork_added from to c.args.more box box now next c.if-ends_after.fork c.refresh.new.fork
    (subst (λ (v : Fork). IsTold (cut box v)) (sym is) told) one two c.in_ok-refresh.ensures)

pub add-requires-then-ends_after : goal.add-requires-then-ends_after
add-requires-then-ends_after t c =
    let next = c.if-begins_before.fork in
    let same : next.right ≡ c.in-Cut.fork.value.right = elim c.if-begins_before.branch [
      | then-begins_before+in_ok-add w ↦ ap (λ v. v.right) w.fork-is
      | else-begins_before w ↦ ap (λ v. v.right) w.fork-is
    ] ∙ ap (λ v. v.right) c.deref_mut-fork.ensures.value in
    let d : forks c.args.self.now ≡ t = c.decreases in
    let fewer : forks next.right < t = omega (arith, d, ap forks c.in-Cut.is, ap forks same) in
    (fewer, (rw same (search rules), (rw same (search rules), rw same (search rules))))
