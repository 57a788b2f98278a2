use Rattle.undo_log.proofs.Common.{◌≡◌, ◌∙◌, false, ℕ, List, ap, subst, sym, Some, slice_get, UseBody, seen, has_id, view_at}
use Rattle.undo_log.proofs.BodyLaws.{Uses}
use Rattle.undo_log.proofs.UseMoves.{place_nowhere, place_there}
use Rattle.undo_log.proofs.inverses.use_of.Goals as goal

-- no use has the id where none was found
pub returns-in_default-clause-none : goal.returns-in_default-clause-none
returns-in_default-clause-none c =
    let uses : Uses = (view_at (seen c.args.library.now) c.args.cell.0).uses in
    subst (λ (id : List ℕ). has_id uses id ≡ false) c.bytes.ensures (place_nowhere uses c.bytes.result.now (sym c.in_default.ensures))

-- the use at the place that was found has the id
pub returns-clause-there : goal.returns-clause-there
returns-clause-there c =
    let uses : Uses = (view_at (seen c.args.library.now) c.args.cell.0).uses in
    let there = place_there uses c.bytes.result.now c.in-Some.place (sym c.in-Some.ensures) in
    let read : Some (c.in-Some-use_at.field-0-0.now, c.in-Some-use_at.used.now) ≡ slice_get uses c.in-Some.place = c.in-Some-use_at.ensures in
    let same : Some (c.in-Some-use_at.field-0-0.now, c.in-Some-use_at.used.now) ≡ Some (c.bytes.result.now, there.0) = read ∙ there.1 in
    let entry : (c.in-Some-use_at.field-0-0.now, c.in-Some-use_at.used.now) ≡ (c.bytes.result.now, there.0) = cc in
    let name : c.in-Some-use_at.field-0-0.now ≡ c.args.id.now = ap (λ (e : List ℕ × UseBody). e.0) entry ∙ c.bytes.ensures in
    sym read ∙ (λ i. Some (name i, c.in-Some-use_at.used.now))
