-- Where the sides meet, the rectangles touch.
use Rattle.rect_contacts.proofs.Common.{List, sym, subst, Lists, Right, Left, Side, AreSidesOf, IsMeeting}
use Rattle.std.proofs.lemmas.Result.{IfOk-weaker}
use Rattle.rect_contacts.specs.Contacts.{shared_beside, shared_abreast, IsSharedEdgeBy}
use Rattle.rect_contacts.proofs.Touches.{beside_touches, sides_opposite, touches_from_meetings}
use Rattle.rect_contacts.proofs.contacts.abreast.Goals as goal

pub meetings-requires-clause-opposite : goal.meetings-requires-clause-opposite
meetings-requires-clause-opposite c =
    sides_opposite Right Left shared_beside beside_touches c.args.rects.now c.requires.proper c.as_slice.result.now c.as_slice-2.result.now
    (subst (λ (s : List Side). AreSidesOf Right c.args.rects.now s) (sym c.as_slice.ensures.value) c.in_ok-rights.ensures)
    (subst (λ (s : List Side). AreSidesOf Left c.args.rects.now s) (sym c.as_slice-2.ensures.value) c.in_ok-lefts.ensures)

pub returns : goal.returns
returns c =
    IfOk-weaker c.meetings.result
    (λ contacts. Lists (IsMeeting c.as_slice.result.now c.as_slice-2.result.now) contacts.items)
    (λ contacts. Lists (IsSharedEdgeBy shared_abreast c.args.rects.now) contacts.items)
    (λ contacts. touches_from_meetings Right Left shared_beside beside_touches c.args.rects.now c.requires.proper c.as_slice.result.now c.as_slice-2.result.now
    (subst (λ (s : List Side). AreSidesOf Right c.args.rects.now s) (sym c.as_slice.ensures.value) c.in_ok-rights.ensures)
    (subst (λ (s : List Side). AreSidesOf Left c.args.rects.now s) (sym c.as_slice-2.ensures.value) c.in_ok-lefts.ensures) contacts.items)
    c.meetings.ensures
