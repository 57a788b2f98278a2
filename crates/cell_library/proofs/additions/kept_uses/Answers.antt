use Rattle.cell_library.proofs.Common.{sym, subst, In, CellUse, names_in}
use Rattle.cell_library.proofs.additions.kept_uses.Goals as goal

pub kept_use-requires-clause-child : goal.kept_use-requires-clause-child
kept_use-requires-clause-child c =
    subst (λ (used : CellUse). In used.cell (names_in c.args.contents.now)) (sym c.used-item.is)
    (c.requires.children c.loop-used.used-index c.used-item.result c.loop-used-test.true)
