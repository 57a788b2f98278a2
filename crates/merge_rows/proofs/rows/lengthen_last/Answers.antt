use Rattle.std.proofs.Common.{◌≡◌, ◌+◌, ◌<◌, length, vec_len, ap, ◌∙◌, arith, rules}
use Rattle.std.specs.Result.{result_ok}
use Rattle.merge_rows.proofs.PushedRows.{last_longer, none_longer}
use Rattle.merge_rows.proofs.Tests.{counted}
use Rattle.merge_rows.proofs.rows.lengthen_last.Goals as goal

pub returns-in_ok-last : goal.returns-in_ok-last
returns-in_ok-last c =
    let now = c.in-Some.last.now in
    let one_more = now.count + 1 in
    let count = c.in_ok-last.field-0 in
    let some = c.ok_or.ensures.ok_part ∙ ap result_ok c.in_ok-last.was in
    let is : count ≡ one_more = counted c.checked_add.result (one_more < 18446744073709551616) count one_more c.checked_add.ensures some in
    let rows = c.args.rows.now.items in
    let many : vec_len c.args.rows.now ≡ length rows = search rules in
    last_longer rows (vec_len c.args.rows.now) now count many c.in-Some.ensures.item.1 is

pub returns-in_default : goal.returns-in_default
returns-in_default c =
    let item = c.in_default.ensures.item in
    none_longer c.args.rows.now.items (omega (arith, item.3))
