use Rattle.piece_groups.proofs.Common.{◌∙◌, arith}
use Rattle.piece_groups.proofs.MemberLaws.{collected_none, collected_more, member_ranked, members_all}
use Rattle.piece_groups.proofs.members.members_in_order.Goals as goal

pub loop-number-init : goal.loop-number-init
loop-number-init c = collected_none c.args.names.now c.args.marks.now c.in_ok-members.members.items c.in_ok-members.ensures.items

pub loop-number-preserved : goal.loop-number-preserved
loop-number-preserved c = collected_more c.args.names.now c.args.marks.now c.loop-number.number c.loop-number.members.items c.push.new.self.items
    c.member_of.result c.index-names-number.result
    c.requires.marked c.loop-number-test.true (c.member_of.ensures.name ∙ c.bytes.ensures ∙ c.index-names-number.is) c.member_of.ensures.mark
    (member_ranked c.member_of.result c.bytes.result.now c.member_of.ensures.name c.member_of.ensures.kind c.member_of.ensures.slashes)
    c.in_ok-push.ensures.items c.loop-number.invariant

pub returns : goal.returns
returns c = members_all c.args.names.now c.args.marks.now c.loop-number.number c.loop-number.members.items c.in_name_order.result.items
    c.requires.distinct c.requires.marked c.loop-number-test.false (omega arith) c.loop-number.invariant
    c.in_name_order.ensures.moved c.in_name_order.ensures.sorted
