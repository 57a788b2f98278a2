use Rattle.rect_trees.proofs.Common.{◌≡◌, List, Some, None, find, length, refl, ap, subst, arith, Rect, meets_at, root_positions}
use Rattle.std.proofs.lemmas.Option.{slice_get_read}
use Rattle.rect_trees.specs.Meetings.{IsMeeting, MissesAll}
use Rattle.rect_trees.proofs.MeetingLaws.{found_within, found_meets_area, none_meets_area}
use Rattle.rect_trees.proofs.trees.RectTree.some_meeting.Goals as goal

-- without a tree there is nothing
pub returns-in_default-clause-none : goal.returns-in_default-clause-none
returns-in_default-clause-none c =
    let rects = c.self.inside.rects.items in
    let root = c.self.inside.root in
    let none : find (meets_at rects c.args.area) (root_positions root) ≡ None = rw c.in_default.is refl in
    subst (λ (v : List Rect). MissesAll v c.args.area) c.self.view_is (none_meets_area rects c.args.area root c.self.invariant none)

pub index-requires : goal.index-requires
index-requires c =
    let rects = c.self.inside.rects.items in
    let root = c.self.inside.root in
    let found : find (meets_at rects c.args.area) (root_positions root) ≡ Some c.in-Some-first_meeting.position =
    rw (c.in-Some-first_meeting.ensures, c.deref.ensures.value, c.in-Some.is) refl in
    let within = found_within rects c.args.area root c.self.invariant c.in-Some-first_meeting.position found in
    omega (arith, within, c.deref.ensures.len, ap length c.deref.ensures.value)

pub returns-in-Some-first_meeting-clause-found : goal.returns-in-Some-first_meeting-clause-found
returns-in-Some-first_meeting-clause-found c =
    let rects = c.self.inside.rects.items in
    let root = c.self.inside.root in
    let position = c.in-Some-first_meeting.position in
    let found : find (meets_at rects c.args.area) (root_positions root) ≡ Some position =
    rw (c.in-Some-first_meeting.ensures, c.deref.ensures.value, c.in-Some.is) refl in
    let within = found_within rects c.args.area root c.self.invariant position found in
    let at = slice_get_read rects (length rects) position c.index.result.now refl within c.index.ensures in
    subst (λ (v : List Rect). IsMeeting v c.args.area c.index.result.now) c.self.view_is
    (found_meets_area rects c.args.area root c.self.invariant position c.index.result.now found at)

-- where nothing is found, all is missed
pub returns-in-None-clause-none : goal.returns-in-None-clause-none
returns-in-None-clause-none c =
    let rects = c.self.inside.rects.items in
    let root = c.self.inside.root in
    let none : find (meets_at rects c.args.area) (root_positions root) ≡ None = rw (c.in-None.ensures, c.deref.ensures.value, c.in-Some.is) refl in
    subst (λ (v : List Rect). MissesAll v c.args.area) c.self.view_is (none_meets_area rects c.args.area root c.self.invariant none)
