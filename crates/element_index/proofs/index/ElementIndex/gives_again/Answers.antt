use Rattle.element_index.proofs.Common.{◌≡◌, false, List, IsTrue, sym, ap, ◌∙◌, subst, ◌↔◌, Rect, UseElements, MeetsSome, element_ids}
use Rattle.element_index.proofs.Common.{stands_where_found, stands_nowhere}
use Rattle.element_index.specs.GivenNames.{gives_again}
use Rattle.element_index.proofs.HoldLaws.{meeting_tells, unknown_tells}
use Rattle.element_index.proofs.index.ElementIndex.gives_again.Goals as goal

pub returns-in-Some : goal.returns-in-Some
returns-in-Some c =
    let ids = c.self.inside.ids in
    let uses = c.self.inside.uses.items in
    let areas = c.self.inside.areas in
    let used = c.args.used.now in
    let id = c.block-block.result.id.now in
    let number = c.in-Some.number in
    let meets = subst (λ (area : Rect). IsTrue c.meets.result ↔ MeetsSome areas area) c.raised.ensures c.meets.ensures in
    meeting_tells ids uses areas c.self.invariant (element_ids used.id used.grid) id c.block-block.result.area number c.meets.result
    (stands_where_found ids id number (sym c.in-Some.ensures)) c.block-block.ensures meets
    ∙ ap (λ (now : List UseElements). gives_again now used) c.self.view_is

pub returns-in-None : goal.returns-in-None
returns-in-None c =
    let ids = c.self.inside.ids in
    let uses = c.self.inside.uses.items in
    let used = c.args.used.now in
    let id = c.block-block.result.id.now in
    let missing =
    unknown_tells ids uses c.self.inside.areas c.self.invariant (element_ids used.id used.grid) id c.block-block.result.area
    (stands_nowhere ids id (sym c.in-None.ensures)) c.block-block.ensures in
    sym (subst (λ (now : List UseElements). gives_again now used ≡ false) c.self.view_is missing)
