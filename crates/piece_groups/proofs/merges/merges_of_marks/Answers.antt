use Rattle.piece_groups.proofs.Common.{◌<◌, [], List, length, sym, subst, MergeRec, MergeRow, AreRowsOf, Member, all_groups, AddsMerges}
use Rattle.std.proofs.Common.{All, Vec, Global}
use Rattle.std.proofs.lemmas.Result.{IfOk-weaker}
use Rattle.piece_groups.specs.MarkMerges.{AreMergesOfMarks}
use Rattle.piece_groups.proofs.MarkLaws.{all_below, merges_marked}
use Rattle.piece_groups.proofs.merges.merges_of_marks.Goals as goal

pub link-requires : goal.link-requires
link-requires c = all_below c.args.names.now c.args.marks.now c.args.sums.now c.in_ok-members.members.items c.in_ok-members.ensures c.requires.within

pub merges_of_groups-requires-clause-within : goal.merges_of_groups-requires-clause-within
merges_of_groups-requires-clause-within c =
    subst (All (λ (member : Member). member.mark < length c.args.sums.now)) (sym c.in_ok-linked.ensures.members)
    (all_below c.args.names.now c.args.marks.now c.args.sums.now c.in_ok-members.members.items c.in_ok-members.ensures c.requires.within)

pub returns : goal.returns
returns c =
    let linked = c.in_ok-linked.linked.members.items in
    let nothing = c.in_ok-nothing.nothing in
    let sums = c.args.sums.now in
    let P : Vec MergeRow Global → Type 0 = λ rows. AddsMerges nothing (all_groups linked sums) [] rows.items in
    let Q : Vec MergeRow Global → Type 0 = λ rows.
    (merges : List MergeRec) × AreMergesOfMarks c.args.tech.now c.args.names.now c.args.marks.now sums merges × AreRowsOf merges rows.items in
    IfOk-weaker c.merges_of_groups.result P Q
    (λ rows. merges_marked c.args.tech.now c.args.names.now c.args.marks.now sums c.in_ok-members.members.items linked nothing
    c.in_ok-members.ensures c.requires.within c.in_ok-linked.ensures.members c.in_ok-nothing.ensures rows.items)
    c.merges_of_groups.ensures
