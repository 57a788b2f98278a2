use Rattle.measures.proofs.Common.{◌≡◌, ◌++◌, take, class_of, shared_amounts}
use Rattle.measures.proofs.columns.push_shared.Given as goal

abbrev pub invariant-loop-contact : goal.invariant-loop-contact
invariant-loop-contact l =
    l.amounts.items ≡ l.initial.amounts.items ++ shared_amounts (class_of l.class).contains l.tiles (take l.contact-index l.contacts)
