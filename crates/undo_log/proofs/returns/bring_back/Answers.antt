use Rattle.undo_log.proofs.Common.{◌≡◌, ◌<◌, ℕ, List, ◌∷◌, drop, length, ap, refl, subst, ◌∙◌, LibraryParts, edits_of, seen, count_seen, Inverse}
use Rattle.undo_log.proofs.Common.{LeadTo, Version}
use Rattle.undo_log.proofs.LeadLaws.{brought_back, first_can_be_made}
use Rattle.undo_log.proofs.MakeLaws.{few_edits}
use Rattle.undo_log.proofs.returns.bring_back.Goals as goal

-- the cell of what can be made is one of the library's
made_there : (library : LibraryParts) (inverses rest : List Inverse) (inverse : Inverse) (versions : List Version) → inverses ≡ inverse ∷ rest
    → LeadTo (seen library) inverses versions → inverse.cell.0 < length library.contents
made_there library inverses rest inverse versions is leads =
    subst (λ (n : ℕ). inverse.cell.0 < n) (count_seen library)
    (first_can_be_made (seen library) inverses rest inverse versions is leads).there

pub inverse_of_change-requires-clause-cell : goal.inverse_of_change-requires-clause-cell
inverse_of_change-requires-clause-cell c =
    made_there c.args.library.now c.args.from.now c.in-Some.ensures.latest.0 c.in-Some.latest.now c.requires.fits.0 c.in-Some.ensures.latest.1
    c.requires.fits.1

pub make-requires-clause-cell : goal.make-requires-clause-cell
make-requires-clause-cell c =
    made_there c.args.library.now c.args.from.now c.in-Some.ensures.latest.0 c.in-Some.latest.now c.requires.fits.0 c.in-Some.ensures.latest.1
    c.requires.fits.1

pub make-requires-clause-change : goal.make-requires-clause-change
make-requires-clause-change c =
    first_can_be_made (seen c.args.library.now) c.args.from.now c.in-Some.ensures.latest.0 c.in-Some.latest.now c.requires.fits.0
    c.in-Some.ensures.latest.1 c.requires.fits.1

pub returns-in-Ok-clause-returned : goal.returns-in-Ok-clause-returned
returns-in-Ok-clause-returned c =
    λ earlier later leads_from leads_to.
    let latest : Inverse = c.in-Some.latest.now in
    let rest : List Inverse = c.in-Some.ensures.latest.0 in
    let from : c.args.from.now ≡ latest ∷ rest = c.in-Some.ensures.latest.1 in
    let left : c.drop_latest.new.self ≡ rest = c.drop_latest.ensures ∙ ap (drop 1) from in
    brought_back c.args.library.now c.make.new.library c.args.from.now c.drop_latest.new.self c.args.to.now c.push.new.self rest latest
    (record { cell = latest.cell; change = c.in_ok-back.back }) earlier later c.lawful.ensures from left c.in_ok-push.ensures.added refl
    c.in-Ok.ensures.made c.in_ok-back.ensures c.in-Ok.ensures.edit leads_from leads_to

pub returns-in-Ok-clause-few : goal.returns-in-Ok-clause-few
returns-in-Ok-clause-few c = few_edits (edits_of c.args.library.now) c.in-Ok.ensures.answers
