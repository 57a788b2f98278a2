use Rattle.cell_loading.proofs.NameSetLaws.{AreNamesOf-added}
use Rattle.cell_loading.proofs.read_cells.ReadCells.push.Goals as goal

pub invariant_of-self-2 : goal.invariant_of-self-2
invariant_of-self-2 c =
    AreNamesOf-added c.in_ok-word.word _ _ _ _ _ (c.args.name, c.args.body) c.in_ok-insert.field-0 _ c.self.invariant c.in_ok-word.ensures.items
    c.bytes.ensures c.in_ok-insert.ensures.added c.in_ok-insert.ensures.keys c.reserve.ensures.items c.in_ok-push.ensures.items
