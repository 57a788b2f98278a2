use Rattle.names.proofs.Common.{◌<◌, ℕ, None, arith, key_at}
use Rattle.names.proofs.GroupLaws.{groups_from_empty, groups_same, groups_more, groups_all, IfSome_at}
use Rattle.names.proofs.groups.grouped.Goals as goal
use Rattle.names.proofs.groups.grouped.Goals.{in-Some+in_ok-push_member, in_default}

pub loop-member-init : goal.loop-member-init
loop-member-init c = groups_from_empty c.args.keys.now c.args.count c.in_ok-groups.groups.items c.in_ok-groups.ensures

pub loop-member-preserved : goal.loop-member-preserved
loop-member-preserved c =
    let keys = key_at c.args.keys.now in
    let n = c.loop-member.member in
    let groups = c.loop-member.groups.items in
    elim c.match-key.branch [
      | in-Some+in_ok-push_member w ↦
          let below = IfSome_at (λ (g : ℕ). g < c.args.count) w.in-Some.group (keys n) w.in-Some.is (c.requires n None c.loop-member-test.true) in
          rw w.groups-is (groups_more keys n c.args.count w.in-Some.group groups w.push_member.new.groups.items below w.in-Some.is w.in_ok-push_member.ensures
          c.loop-member.invariant)
      | in_default w ↦ rw w.groups-is (groups_same keys n c.args.count groups w.in_default.is c.loop-member.invariant)
    ]

pub returns : goal.returns
returns c =
    let past = c.loop-member-test.false in
    let here = c.loop-member.auto.member-end in
    groups_all c.args.keys.now c.loop-member.member c.args.count c.loop-member.groups.items (omega (arith, past, here)) c.loop-member.invariant
