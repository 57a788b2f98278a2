use Rattle.cell_tree.proofs.Common.{arith, ◌∙◌, ap, subst, round_both, IsWithin, Dimension}
use Rattle.cell_tree.proofs.SizeLaws.{added-depth, added-elements, added-hull, product_few}
use Rattle.cell_tree.proofs.sizes.add_use.Goals as goal

pub returns-in-Depth-clause-added : goal.returns-in-Depth-clause-added
returns-in-Depth-clause-added c = rw c.in-Depth.is (added-depth c.args.size.now c.args.used.now c.args.child.now c.max.result c.max.ensures)

pub returns-in-Depth-clause-flat : goal.returns-in-Depth-clause-flat
returns-in-Depth-clause-flat c =
    let within = subst (λ (d : Dimension). IsWithin d c.args.child.now) c.in-Depth.is c.requires.within in
    omega (arith, within, c.max.ensures, c.requires.flat)

pub returns-in-Elements-clause-added : goal.returns-in-Elements-clause-added
returns-in-Elements-clause-added c = rw c.in-Elements.is (added-elements c.args.size.now c.args.used.now c.args.child.now c.count.result c.count.ensures.count)

pub returns-in-Elements-clause-few : goal.returns-in-Elements-clause-few
returns-in-Elements-clause-few c =
    let within = subst (λ (d : Dimension). IsWithin d c.args.child.now) c.in-Elements.is c.requires.within in
    omega (arith, product_few c.count.result c.args.child.now.elements c.count.ensures.few within)

pub returns-in-Hull-clause-added : goal.returns-in-Hull-clause-added
returns-in-Hull-clause-added c =
    rw c.in-Hull.is (added-hull c.args.size.now c.args.used.now c.args.child.now c.round_both.result
    (c.round_both.ensures ∙ ap (round_both c.args.size.now.hull) c.hull_below.ensures))
