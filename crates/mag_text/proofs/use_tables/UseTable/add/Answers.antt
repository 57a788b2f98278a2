use Rattle.mag_text.proofs.UseIdLaws.{AreIds-added}
use Rattle.mag_text.proofs.use_tables.UseTable.add.Goals as goal

pub invariant_of-self-2 : goal.invariant_of-self-2
invariant_of-self-2 c =
    AreIds-added c.in_ok-id.id _ _ _ _ _ c.args.placed c.in_ok-insert.field-0 _ c.self.invariant c.in_ok-id.ensures.items c.bytes.ensures
    c.in_ok-insert.ensures.added c.in_ok-insert.ensures.keys c.reserve.ensures.items c.in_ok-push.ensures.items
