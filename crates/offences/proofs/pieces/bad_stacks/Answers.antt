use Rattle.offences.proofs.Common.{◌≡◌, List, sym, subst, ap, ◌∙◌, ◌++◌, All-weaker, Rect, IsNear, IsProper, TypedStack, OffendsOn, CoverExactly}
use Rattle.offences.proofs.Common.{AreFoundChanges, spoiled_areas, AreByPart}
use Rattle.offences.proofs.PieceLaws.{pieces_cover, found_changes}
use Rattle.offences.proofs.pieces.bad_stacks.Goals as goal

abbrev Sound : TypedStack → Type 0
Sound s = IsProper s.area × IsNear s.area × AreByPart s.kinds

pub changes-requires-clause-ordered : goal.changes-requires-clause-ordered
changes-requires-clause-ordered c = All-weaker Sound (λ s. AreByPart s.kinds) (λ s sound. sound.2) c.args.typed_stacks.now c.requires.sound

pub changes-requires-clause-near : goal.changes-requires-clause-near
changes-requires-clause-near c = All-weaker Sound (λ s. IsNear s.area) (λ s sound. sound.1) c.args.typed_stacks.now c.requires.sound

pub changes-requires-clause-proper : goal.changes-requires-clause-proper
changes-requires-clause-proper c = All-weaker Sound (λ s. IsProper s.area) (λ s sound. sound.0) c.args.typed_stacks.now c.requires.sound

pub returns : goal.returns
returns c = λ parts plane are.
    let raw = c.args.tech.now in
    let typed_stacks = c.args.typed_stacks.now in
    let found = c.in_ok-changes.changes.items in
    let formed = c.raw.ensures.well_formed in
    let changes : AreFoundChanges raw typed_stacks found = subst (λ r. AreFoundChanges r typed_stacks found) c.raw.ensures.value c.in_ok-changes.ensures in
    let all : c.extend_from_slice.new.self.items ≡ spoiled_areas raw typed_stacks ++ found =
    c.in_ok-extend_from_slice.ensures.items ∙ ap (λ (l : List Rect). l ++ c.as_slice.result.now) c.in_ok-pieces.ensures
    ∙ ap (λ (l : List Rect). spoiled_areas raw typed_stacks ++ l) c.as_slice.ensures.value in
    subst (CoverExactly (OffendsOn raw parts plane)) (sym all)
    (pieces_cover raw formed parts plane typed_stacks are found (found_changes raw formed parts plane typed_stacks are found changes))
