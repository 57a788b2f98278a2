use Rattle.tile_members.proofs.Common.{◌≡◌, ◌+◌, ◌-◌, ◌<◌, ℕ, Some, cond, drop, length, sym, ap, ◌∙◌, arith, position_from, has_second}
use Rattle.std.proofs.Common.{Option}
use Rattle.tile_members.proofs.MergeFinds.{from_number}
use Rattle.tile_members.proofs.groups.RecordGroups.of.Goals as goal

pub loop-number-preserved : goal.loop-number-preserved
loop-number-preserved c member =
    let number = c.loop-number.number - 1 in
    let rows = c.items-rows.result.now in
    let within : number < length rows = omega (arith, c.loop-number-test.true, c.loop-number.auto.number) in
    let follows : number + 1 ≡ c.loop-number.number = omega (arith, c.loop-number-test.true) in
    let row = c.index-rows-number.result in
    c.in_ok-add_row.ensures member
    ∙ ap (λ (before : Option ℕ). cond (has_second member row) (Some number) before) (c.loop-number.invariant member)
    ∙ sym (from_number member rows number c.loop-number.number row follows within c.index-rows-number.is)
