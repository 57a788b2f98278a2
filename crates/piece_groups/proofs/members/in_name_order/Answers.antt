use Rattle.piece_groups.proofs.Common.{rules, is_lt, Member}
use Rattle.std.proofs.lemmas.List.Sorted.{ranks_by, answers_always}
use Rattle.piece_groups.specs.steps.Members.{member_cmp}
use Rattle.piece_groups.proofs.MemberLaws.{member_cmp_total}
use Rattle.piece_groups.proofs.members.in_name_order.Goals as goal

pub returns-clause-sorted : goal.returns-clause-sorted
returns-clause-sorted c =
    c.sort_unstable_by.ensures.sorted (λ a b. is_lt (member_cmp a b)) (ranks_by member_cmp_total (λ (m : Member). m))
    (answers_always _ _ _ (λ f a r g h. search rules))
