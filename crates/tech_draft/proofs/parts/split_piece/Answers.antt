use Rattle.tech_draft.proofs.Common.{◌≡◌, arith, position, is_comma}
use Rattle.std.proofs.Common.{Some}
use Rattle.std.proofs.lemmas.Grind.{common_steps}
use Rattle.tech_draft.proofs.WordLaws.{pieces-at, pieces-one}
use Rattle.tech_draft.proofs.parts.split_piece.Goals as goal

pub returns-in-Some : goal.returns-in-Some
returns-in-Some c =
    let at : position is_comma c.args.list.now ≡ Some c.in-Some.end = cc in
    let first = pieces-at c.args.list.now c.in-Some.end at in
    grind (arith, common_steps, first)

pub returns-in-None : goal.returns-in-None
returns-in-None c = pieces-one c.args.list.now (cc)
