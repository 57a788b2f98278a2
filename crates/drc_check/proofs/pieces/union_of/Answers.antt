use Rattle.drc_check.proofs.Common.{ℕ, bit_or, get_or, take, sym, ◌∙◌, ap, take_more, member_union, part_set_at}
use Rattle.drc_check.proofs.StackPieces.{member_union-push}
use Rattle.drc_check.proofs.pieces.union_of.Goals as goal

pub loop-member-preserved : goal.loop-member-preserved
loop-member-preserved c =
    let sets = c.args.sets.now in
    let members = c.args.members.now in
    let i = c.loop-member.member-index in
    let member = get_or members i 0 in
    ap (λ (all : ℕ). bit_or all (part_set_at sets member)) c.loop-member.invariant
    ∙ sym (ap (member_union sets) (take_more members i 0 c.loop-member-test.true) ∙ member_union-push sets (take i members) member)
