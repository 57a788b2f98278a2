use Rattle.cell_tree.proofs.Common.{rules}
use Rattle.cell_tree.proofs.SpreadLaws.{spans_iff}
use Rattle.cell_tree.proofs.sizes.spans_in_range.Goals as goal

pub returns-then-are_paintable : goal.returns-then-are_paintable
returns-then-are_paintable c =
    spans_iff c.args.area.now c.are_paintable-then-are_paintable.result (c.are_paintable.ensures.0 c.if-are_paintable.true)
    c.are_paintable-then-are_paintable.ensures
    (search rules) (search rules) (search rules) (search rules)
