-- Where the sides meet, the rectangles touch.
use Rattle.rect_contacts.proofs.Common.{List, sym, subst, Lists, Top, Bottom, Side, AreSidesOf, IsMeeting}
use Rattle.std.proofs.lemmas.Result.{IfOk-weaker}
use Rattle.rect_contacts.specs.Contacts.{shared_upon, shared_stacked, IsSharedEdgeBy}
use Rattle.rect_contacts.proofs.Touches.{upon_touches, sides_opposite, touches_from_meetings}
use Rattle.rect_contacts.proofs.contacts.stacked.Goals as goal

pub meetings-requires-clause-opposite : goal.meetings-requires-clause-opposite
meetings-requires-clause-opposite c =
    sides_opposite Top Bottom shared_upon upon_touches c.args.rects.now c.requires.proper c.as_slice.result.now c.as_slice-2.result.now
    (subst (λ (s : List Side). AreSidesOf Top c.args.rects.now s) (sym c.as_slice.ensures.value) c.in_ok-tops.ensures)
    (subst (λ (s : List Side). AreSidesOf Bottom c.args.rects.now s) (sym c.as_slice-2.ensures.value) c.in_ok-bottoms.ensures)

pub returns : goal.returns
returns c =
    IfOk-weaker c.meetings.result
    (λ contacts. Lists (IsMeeting c.as_slice.result.now c.as_slice-2.result.now) contacts.items)
    (λ contacts. Lists (IsSharedEdgeBy shared_stacked c.args.rects.now) contacts.items)
    (λ contacts. touches_from_meetings Top Bottom shared_upon upon_touches c.args.rects.now c.requires.proper c.as_slice.result.now c.as_slice-2.result.now
    (subst (λ (s : List Side). AreSidesOf Top c.args.rects.now s) (sym c.as_slice.ensures.value) c.in_ok-tops.ensures)
    (subst (λ (s : List Side). AreSidesOf Bottom c.args.rects.now s) (sym c.as_slice-2.ensures.value) c.in_ok-bottoms.ensures) contacts.items)
    c.meetings.ensures
