use Rattle.piece_groups.proofs.Common.{sym, ◌∙◌, arith, length-map, merge_of, Member, name_at, adjustment_of}
use Rattle.piece_groups.proofs.WalkLaws.{next_is, up_to_none, up_to_more, up_to_all, name_read}
use Rattle.piece_groups.proofs.merges.add_others.Goals as goal

pub loop-other-init : goal.loop-other-init
loop-other-init c =
    let members = c.args.linked.now.members.items in
    up_to_none members (λ other. merge_of (name_at members c.args.first) other (adjustment_of c.args.nothing.now))
    c.args.second c.args.merges.now.items c.requires.second

pub index-requires-in-loop-other : goal.index-requires-in-loop-other
index-requires-in-loop-other c =
    omega (arith, c.loop-other.invariant.within, c.requires.linked.long, length-map c.args.linked.now.members.items (λ (m : Member). m.mark))

pub index-requires-in-Some : goal.index-requires-in-Some
index-requires-in-Some c =
    let next = next_is c.args.linked.now c.requires.linked c.loop-other.place c.in-Some.other c.index-in-loop-other.result.now c.loop-other.invariant.within
    (sym c.index-in-loop-other.ensures ∙ c.in-Some.is) in
    let within = next.within in
    omega (arith, within)

pub loop-other-smaller : goal.loop-other-smaller
loop-other-smaller c =
    let next = next_is c.args.linked.now c.requires.linked c.loop-other.place c.in-Some.other c.index-in-loop-other.result.now c.loop-other.invariant.within
    (sym c.index-in-loop-other.ensures ∙ c.in-Some.is) in
    let behind = next.behind in
    let within = next.within in
    omega (arith, behind, within, c.loop-other.invariant.within)

pub loop-other-preserved : goal.loop-other-preserved
loop-other-preserved c =
    let members = c.args.linked.now.members.items in
    let is_next = sym c.index-in-loop-other.ensures ∙ c.in-Some.is in
    let next = next_is c.args.linked.now c.requires.linked c.loop-other.place c.in-Some.other c.index-in-loop-other.result.now
    c.loop-other.invariant.within is_next in
    let first = name_read members c.args.first c.index.result.now c.requires.first c.index.ensures in
    let other = name_read members c.in-Some.other c.index-in-Some.result.now next.within c.index-in-Some.ensures in
    up_to_more c.args.linked.now (λ other. merge_of (name_at members c.args.first) other (adjustment_of c.args.nothing.now))
    c.args.second c.loop-other.place c.in-Some.other c.index-in-loop-other.result.now c.args.merges.now.items c.loop-other.merges.items
    c.push_merge.new.rows.items c.in_ok-merge.field-0 c.requires.linked is_next
    (c.in_ok-merge.ensures ∙ (λ i. merge_of (first i) (other i) (adjustment_of c.args.nothing.now)))
    c.in_ok-push_merge.ensures c.loop-other.invariant

pub returns : goal.returns
returns c =
    let members = c.args.linked.now.members.items in
    up_to_all c.args.linked.now (λ other. merge_of (name_at members c.args.first) other (adjustment_of c.args.nothing.now))
    c.args.second c.loop-other.place c.index-in-loop-other.result.now c.args.merges.now.items c.loop-other.merges.items
    c.requires.linked (sym c.index-in-loop-other.ensures ∙ c.in_default.is) c.loop-other.invariant
