use Rattle.tile_members.proofs.Common.{sym, ◌∙◌}
use Rattle.tile_members.proofs.GroupPaths.{path_above}
use Rattle.tile_members.proofs.group_tables.GroupTable.name_above.Goals as goal

pub returns-in-Some-first_member-clause-name : goal.returns-in-Some-first_member-clause-name
returns-in-Some-first_member-clause-name c =
    let child = c.args.step.now.child in
    let merges = c.in-Some.groups.now in
    path_above c.args.records.now child merges c.args.step.now.id c.args.below.now c.bytes.result.now c.bytes-in-Some-first_member.result.now c.path_of.result
    (c.enter.ensures.groups child.0 merges (sym c.in-Some.ensures.value)) c.bytes.ensures
    (c.bytes-in-Some-first_member.ensures ∙ c.in-Some-first_member.ensures) c.path_of.ensures

pub returns-in-None-first_member-clause-name : goal.returns-in-None-first_member-clause-name
returns-in-None-first_member-clause-name c =
    let child = c.args.step.now.child in
    let merges = c.in-Some.groups.now in
    path_above c.args.records.now child merges c.args.step.now.id c.args.below.now c.bytes-in-None-first_member.result.now c.args.below.now
    c.path_of-in-None-first_member.result
    (c.enter.ensures.groups child.0 merges (sym c.in-Some.ensures.value)) c.bytes-in-None-first_member.ensures
    c.in-None-first_member.ensures c.path_of-in-None-first_member.ensures
