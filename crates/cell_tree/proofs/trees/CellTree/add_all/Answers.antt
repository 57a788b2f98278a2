use Rattle.cell_tree.proofs.Common.{List, sym, ap, subst, ◌∙◌, arith, TreeCell, IsWhole, tree_of}
use Rattle.cell_tree.proofs.ComeLaws.{gone_same, gone_whole}
use Rattle.cell_tree.proofs.trees.CellTree.add_all.Goals as goal

pub invariant_of-self-in-Err : goal.invariant_of-self-in-Err
invariant_of-self-in-Err c =
    subst (λ (items : List TreeCell). IsWhole items c.add_all.new.book) (sym c.truncate.ensures.items)
    (gone_whole c.self.inside.cells.items c.add_all.new.cells.items c.self.inside.book c.add_all.new.book c.self.invariant c.in-Err.ensures.behind
    c.in-Err.ensures.same c.in-Err.ensures.ready
    c.len-first.result (omega arith))

pub returns-in-Err-clause-same : goal.returns-in-Err-clause-same
returns-in-Err-clause-same c =
    ap (λ (items : List TreeCell). tree_of items c.add_all.new.book) c.truncate.ensures.items
    ∙ sym (gone_same c.self.inside.cells.items c.add_all.new.cells.items c.self.inside.book c.add_all.new.book c.self.invariant c.in-Err.ensures.behind
    c.in-Err.ensures.same c.in-Err.ensures.ready
    c.len-first.result (omega arith))
    ∙ c.self.view_is
