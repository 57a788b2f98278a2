use Rattle.rect_trees.proofs.Common.{◌≡◌, List, filter, refl, subst, Rect, meets_at, root_positions, AreMeeting}
use Rattle.rect_trees.proofs.MeetingLaws.{met_in_order}
use Rattle.rect_trees.proofs.trees.RectTree.meeting.Goals as goal
use Rattle.rect_trees.proofs.trees.RectTree.meeting.Goals.{in-Some+in_ok-add_meeting, in_default}

pub returns : goal.returns
returns c =
    let rects = c.self.inside.rects.items in
    let root = c.self.inside.root in
    let found : c.match-self.found.items ≡ filter (meets_at rects c.args.area) (root_positions root) =
    elim c.match-self.branch [
      | in-Some+in_ok-add_meeting w ↦
          rw (w.found-is, w.in_ok-add_meeting.ensures, c.new-found.ensures.items, w.deref.ensures.value, w.in-Some.is) refl
      | in_default w ↦ rw (w.found-is, c.new-found.ensures.items, w.in_default.is) refl
    ] in
    subst (λ (v : List Rect). AreMeeting v c.args.area c.sort_unstable.new.self.items) c.self.view_is
    (met_in_order rects c.args.area root c.match-self.found.items c.sort_unstable.new.self.items c.self.invariant found
    c.sort_unstable.ensures.permutation c.sort_unstable.ensures.sorted)
