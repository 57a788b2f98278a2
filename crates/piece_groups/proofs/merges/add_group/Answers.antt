use Rattle.piece_groups.proofs.Common.{sym, ◌∙◌, arith}
use Rattle.std.proofs.lemmas.Result.{on_ok_weaker}
use Rattle.piece_groups.proofs.GroupLaws.{sum_read, adds_merge, adds_none, adds_more}
use Rattle.piece_groups.proofs.WalkLaws.{next_is, next_none, name_read}
use Rattle.piece_groups.proofs.merges.add_group.Goals as goal

pub returns-in_ok-push_merge : goal.returns-in_ok-push_merge
returns-in_ok-push_merge c =
    let members = c.args.linked.now.members.items in
    adds_merge members c.args.sums.now c.args.nothing.now c.args.first c.args.merges.now.items c.index-member.result.now.name.now
    c.index-sums-member.result c.in_ok-merge.field-0 c.push_merge.new.rows.items
    (next_none c.args.linked.now c.requires.linked c.args.first c.index.result.now c.requires.first (sym c.index.ensures ∙ c.in_default.is))
    (name_read members c.args.first c.index-member.result.now c.requires.first c.index-member.ensures)
    (sum_read members c.args.sums.now c.args.first c.index-member.result.now c.index-sums-member.result c.requires.first c.requires.mark
    c.index-member.ensures c.index-sums-member.is)
    (sym c.if-not-is_zero.ensures) c.in_ok-merge.ensures c.in_ok-push_merge.ensures

pub returns-else-not-is_zero : goal.returns-else-not-is_zero
returns-else-not-is_zero c =
    let members = c.args.linked.now.members.items in
    adds_none members c.args.sums.now c.args.nothing.now c.args.first c.args.merges.now.items c.index-sums-member.result
    (next_none c.args.linked.now c.requires.linked c.args.first c.index.result.now c.requires.first (sym c.index.ensures ∙ c.in_default.is))
    (sum_read members c.args.sums.now c.args.first c.index-member.result.now c.index-sums-member.result c.requires.first c.requires.mark
    c.index-member.ensures c.index-sums-member.is)
    (sym c.if-not-is_zero.ensures)

pub index-requires-2 : goal.index-requires-2
index-requires-2 c =
    let next = next_is c.args.linked.now c.requires.linked c.args.first c.in-Some.second c.index.result.now c.requires.first
    (sym c.index.ensures ∙ c.in-Some.is) in
    let within = next.within in
    omega (arith, within)

pub add_others-requires-clause-second : goal.add_others-requires-clause-second
add_others-requires-clause-second c =
    let next = next_is c.args.linked.now c.requires.linked c.args.first c.in-Some.second c.index.result.now c.requires.first
    (sym c.index.ensures ∙ c.in-Some.is) in
    next.within

pub returns : goal.returns
returns c =
    let members = c.args.linked.now.members.items in
    let next = next_is c.args.linked.now c.requires.linked c.args.first c.in-Some.second c.index.result.now c.requires.first
    (sym c.index.ensures ∙ c.in-Some.is) in
    on_ok_weaker c.add_others.result
    (adds_more members c.args.sums.now c.args.nothing.now c.args.first c.args.merges.now.items c.index-member.result.now.name.now
    c.index-2.result.now.name.now c.index-sums-member.result c.in_ok-merge-2.field-0 c.in-Some.second c.push_merge-2.new.rows.items
    c.add_others.new.merges.items next
    (name_read members c.args.first c.index-member.result.now c.requires.first c.index-member.ensures)
    (name_read members c.in-Some.second c.index-2.result.now next.within c.index-2.ensures)
    (sum_read members c.args.sums.now c.args.first c.index-member.result.now c.index-sums-member.result c.requires.first c.requires.mark
    c.index-member.ensures c.index-sums-member.is)
    c.in_ok-merge-2.ensures c.in_ok-push_merge-2.ensures)
    c.add_others.ensures
