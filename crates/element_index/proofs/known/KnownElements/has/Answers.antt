use Rattle.element_index.proofs.Common.{◌≡◌, false, List, [], ◌∷◌, IsTrue, sym, ap, ◌∙◌, subst, ◌↔◌, is_some, Rect, UseElements, MeetsSome, names_in}
use Rattle.element_index.proofs.Common.{is_among, stands_where_found, stands_nowhere}
use Rattle.element_index.proofs.ForestLaws.{search_tells}
use Rattle.element_index.proofs.HoldLaws.{formless_tells, meeting_tells, one-any, unknown_tells}
use Rattle.element_index.proofs.known.KnownElements.has.Goals as goal

pub returns-in_default : goal.returns-in_default
returns-in_default c =
    let name = c.args.name.now in
    sym (subst (λ (now : List UseElements). is_among name (names_in now) ≡ false) c.self.view_is
    (formless_tells c.self.inside.ids c.self.inside.uses.items c.self.inside.strips c.self.invariant.holds name c.in_default.ensures.none))

pub returns-in_default-find : goal.returns-in_default-find
returns-in_default-find c =
    let ids = c.self.inside.ids in
    let uses = c.self.inside.uses.items in
    let name = c.args.name.now in
    let id = c.in-Some.block.id.now in
    let missing =
    unknown_tells ids uses c.self.inside.strips c.self.invariant.holds (name ∷ []) id c.in-Some.block.area
    (stands_nowhere ids id (sym c.in_default-find.ensures)) c.in-Some.ensures.some in
    sym (subst (λ (now : List UseElements). is_among name (names_in now) ≡ false) c.self.view_is (sym (one-any name (names_in uses)) ∙ missing))

pub returns : goal.returns
returns c =
    let ids = c.self.inside.ids in
    let uses = c.self.inside.uses.items in
    let strips = c.self.inside.strips in
    let name = c.args.name.now in
    let id = c.in-Some.block.id.now in
    let number = c.in-Some-find.number in
    let some = is_some c.some_meeting.result in
    let told = search_tells strips c.raised.result c.some_meeting.result c.some_meeting.ensures.found c.some_meeting.ensures.none in
    let meets = subst (λ (area : Rect). IsTrue some ↔ MeetsSome strips area) c.raised.ensures told in
    c.is_some.ensures
    ∙ meeting_tells ids uses strips c.self.invariant.holds (name ∷ []) id c.in-Some.block.area number some
    (stands_where_found ids id number (sym c.in-Some-find.ensures)) c.in-Some.ensures.some meets
    ∙ one-any name (names_in uses)
    ∙ ap (λ (now : List UseElements). is_among name (names_in now)) c.self.view_is
