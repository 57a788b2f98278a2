use Rattle.offences.proofs.Common.{◌≡◌, take, changed_pieces}
use Rattle.offences.proofs.changes.changed_pieces.Given as goal

abbrev pub invariant-loop-contact : goal.invariant-loop-contact
invariant-loop-contact l = l.pieces.items ≡ changed_pieces l.raw l.typed_stacks (take l.contact-index l.contacts)
