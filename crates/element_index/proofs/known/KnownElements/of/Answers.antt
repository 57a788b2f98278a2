use Rattle.element_index.proofs.RowLaws.{strips_hold}
use Rattle.element_index.proofs.known.KnownElements.of.Goals as goal

pub invariant_of-result : goal.invariant_of-result
invariant_of-result c =
    rw (c.in_ok-new.ensures, c.deref-2.ensures.value)
    (strips_hold c.in_ok-ids.ids c.in_ok-ids.uses.items c.in_ok-ids.areas.items c.in_ok-strips.strips.items
    (rw c.deref.ensures.value at c.in_ok-strips.ensures) (rw c.in_ok-ids.ensures.0 c.in_ok-ids.ensures.1))
