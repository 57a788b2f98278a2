use Rattle.tree_merges.proofs.Common.{◌≡◌, ◌<◌, ◌+◌, ℕ, List, length, ap, subst, arith, slice_index}
use Rattle.piece_groups.specs.MeetingSums.declared.sums.MeetingSum.{MeetingSum}
use Rattle.piece_groups.specs.MarkMerges.{AreMergesOfMarks}
use Rattle.tree_merges.proofs.merging.merges_of_members.Goals as goal

pub merges_of_marks-requires-clause-within : goal.merges_of_marks-requires-clause-within
merges_of_marks-requires-clause-within c = λ number below.
    let are = c.in_ok-found.ensures in
    let labels = c.in_ok-found.found.marks.items in
    let sums : length c.as_slice-3.result.now ≡ length c.in_ok-found.found.sums.items = ap length c.as_slice-3.ensures.value in
    let names : length c.as_slice.result.now ≡ length c.args.members.now.names.items = ap length c.as_slice.ensures.value in
    let mark : slice_index labels number < length c.in_ok-found.found.sums.items = are.below number 0 (omega (arith, below, names, are.are_marks.long)) in
    let same : slice_index c.as_slice-2.result.now number ≡ slice_index labels number =
    ap (λ (marks : List ℕ). slice_index marks number) c.as_slice-2.ensures.value in
    omega (arith, mark, same, sums)

pub returns : goal.returns
returns c =
    let raw = c.args.tech.now in
    let made = c.in_ok-found.found in
    let found = c.in_ok-merges.ensures in
    let merges : AreMergesOfMarks raw c.args.members.now.names.items made.marks.items made.sums.items found.0 =
    subst (λ (all : List MeetingSum). AreMergesOfMarks raw c.args.members.now.names.items made.marks.items all found.0)
    c.as_slice-3.ensures.value
    (subst (λ (all : List ℕ). AreMergesOfMarks raw c.args.members.now.names.items all c.as_slice-3.result.now found.0)
    c.as_slice-2.ensures.value
    (subst (λ (all : List (List ℕ)). AreMergesOfMarks raw all c.as_slice-2.result.now c.as_slice-3.result.now found.0)
    c.as_slice.ensures.value found.1)) in
    (found.0, record { found = made; are = c.in_ok-found.ensures; are_merges = merges }, found.2)
