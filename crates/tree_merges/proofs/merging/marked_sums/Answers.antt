use Rattle.tree_merges.proofs.Common.{◌≡◌, ◌<◌, ℕ, List, length, map, sym, ap, subst, ◌∙◌, arith, All, range_with_len, Lists, AreSpread}
use Rattle.tree_merges.proofs.Common.{IsTileContact, PlaneStack, SetLayout, ArePlaneStacks, AreByPart, MOST_PARTS, tiles_of, AreMeetingSums}
use Rattle.tree_merges.proofs.Common.{AreMemberMarks, mark_at, member_pairs, AreNumbered}
use Rattle.std.proofs.lemmas.List.FromFn.{length-map-range_with_len}
use Rattle.tree_merges.proofs.NumberedMembers.{marked_sums_are, parts_are_few, parts_in_order}
use Rattle.tree_merges.proofs.PieceMarks.{marks_are_counted}
use Rattle.tree_merges.proofs.PieceTiles.{tiles_are_spread, unnumbered_contacts}
use Rattle.tree_merges.proofs.merging.marked_sums.Goals as goal

pub marks_of-requires : goal.marks_of-requires
marks_of-requires c =
    subst (λ (pieces : List PlaneStack). AreNumbered pieces c.args.members.now c.args.regions) (sym c.as_slice.ensures.value) c.requires.numbered

pub meeting_sums-requires-clause-spread : goal.meeting_sums-requires-clause-spread
meeting_sums-requires-clause-spread c =
    subst (λ (stacks : List PlaneStack). AreSpread (tiles_of stacks)) (sym c.as_slice-3.ensures.value)
    (tiles_are_spread c.args.tech.now c.requires.pieces.parts c.args.pieces.items c.requires.pieces.are)

pub meeting_sums-requires-clause-ordered : goal.meeting_sums-requires-clause-ordered
meeting_sums-requires-clause-ordered c =
    subst (λ (stacks : List PlaneStack). All (λ piece. AreByPart piece.stack.kinds) stacks) (sym c.as_slice-3.ensures.value)
    (parts_in_order c.args.tech.now c.args.pieces.items c.requires.pieces)

pub meeting_sums-requires-clause-few_parts : goal.meeting_sums-requires-clause-few_parts
meeting_sums-requires-clause-few_parts c =
    subst (λ (stacks : List PlaneStack). All (λ piece. All (λ entry. entry.part < MOST_PARTS) piece.stack.kinds) stacks)
    (sym c.as_slice-3.ensures.value) (parts_are_few c.args.tech.now c.args.pieces.items c.requires.pieces)

pub meeting_sums-requires-clause-contacts : goal.meeting_sums-requires-clause-contacts
meeting_sums-requires-clause-contacts c =
    subst (λ (stacks : List PlaneStack). Lists (IsTileContact (tiles_of stacks)) c.contacts.result.now) (sym c.as_slice-3.ensures.value)
    (unnumbered_contacts (tiles_of c.args.pieces.items) c.requires.regions.labels c.args.regions.tiles c.requires.regions.same
    c.contacts.result.now c.contacts.ensures)

pub meeting_sums-requires-clause-one_each : goal.meeting_sums-requires-clause-one_each
meeting_sums-requires-clause-one_each c =
    let groups = c.as_slice-4.ensures.value ∙ c.in_ok-groups.ensures in
    let tiles = c.args.regions.tiles in
    let long = ap length groups ∙ length-map-range_with_len (mark_at c.len.result tiles c.as_slice-2.result.now) 0 (length tiles) in
    let pieces : length c.as_slice-3.result.now ≡ length c.args.pieces.items = ap length c.as_slice-3.ensures.value in
    omega (arith, long, pieces, c.requires.numbered.one_each)

pub meeting_sums-requires-clause-counted : goal.meeting_sums-requires-clause-counted
meeting_sums-requires-clause-counted c =
    let tiles = c.args.regions.tiles in
    let labels = c.in_ok-marks.marks.labels.items in
    let names = length c.args.members.now.names.items in
    let many : c.len.result ≡ names = omega (arith, c.len.ensures) in
    let groups : c.as_slice-4.result.now ≡ map (mark_at names tiles labels) (range_with_len 0 (length tiles)) =
    c.as_slice-4.ensures.value ∙ c.in_ok-groups.ensures
    ∙ ap (λ (marks : List ℕ). map (mark_at c.len.result tiles marks) (range_with_len 0 (length tiles))) c.as_slice-2.ensures.value
    ∙ ap (λ (members : ℕ). map (mark_at members tiles labels) (range_with_len 0 (length tiles))) many in
    subst (λ (all : List ℕ). All (λ mark. mark < c.in_ok-marks.marks.count) all) (sym groups)
    (marks_are_counted names tiles c.args.regions.count labels c.in_ok-marks.marks.count c.in_ok-marks.ensures.marks.long
    c.args.regions.sound c.in_ok-marks.ensures.numbered)

pub returns : goal.returns
returns c =
    let raw = c.args.tech.now in
    let tiles = c.args.regions.tiles in
    let labels = c.in_ok-marks.marks.labels.items in
    let names = length c.args.members.now.names.items in
    let stacks = c.args.pieces.items in
    let many : c.len.result ≡ names = omega (arith, c.len.ensures) in
    let groups : c.in_ok-groups.groups.items ≡ map (mark_at names tiles labels) (range_with_len 0 (length tiles)) =
    c.in_ok-groups.ensures
    ∙ ap (λ (marks : List ℕ). map (mark_at c.len.result tiles marks) (range_with_len 0 (length tiles))) c.as_slice-2.ensures.value
    ∙ ap (λ (members : ℕ). map (mark_at members tiles labels) (range_with_len 0 (length tiles))) many in
    let sums = λ (parts : List SetLayout) (are : ArePlaneStacks raw parts stacks).
    (let found =
    c.in_ok-sums.ensures parts (subst (ArePlaneStacks raw parts) (sym c.as_slice-3.ensures.value) are) in
    subst (λ (all : List ℕ). AreMeetingSums raw parts stacks all c.in_ok-marks.marks.count c.in_ok-sums.sums.items) c.as_slice-4.ensures.value
    (subst (λ (all : List PlaneStack). AreMeetingSums raw parts all c.as_slice-4.result.now c.in_ok-marks.marks.count c.in_ok-sums.sums.items)
    c.as_slice-3.ensures.value found)) in
    let are_marks : AreMemberMarks names tiles c.args.regions.count (member_pairs c.args.members.now.numbers.items stacks) labels =
    subst (λ (all : List PlaneStack). AreMemberMarks names tiles c.args.regions.count (member_pairs c.args.members.now.numbers.items all) labels)
    c.as_slice.ensures.value c.in_ok-marks.ensures.marks in
    marked_sums_are raw c.args.pieces.items c.args.members.now c.args.regions
    (record { marks = c.in_ok-marks.marks.labels; sums = c.in_ok-sums.sums }) c.in_ok-marks.marks.count c.in_ok-groups.groups.items
    c.requires.pieces c.requires.numbered.one_each are_marks c.in_ok-marks.ensures.numbered.below groups sums
