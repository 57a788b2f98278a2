use Rattle.full_names.proofs.Common.{arith}
use Rattle.full_names.proofs.TreeLaws.{at_root, parent_within, parent_cell_within, use_within, leads_from}
use Rattle.full_names.proofs.paths.last_use.Goals as goal

pub returns-then-element-eq0-clause-none : goal.returns-then-element-eq0-clause-none
returns-then-element-eq0-clause-none c = at_root c.args.exts.now c.args.tree.now c.args.number c.items.result.now c.items.ensures c.if-element-eq0.true

pub bounds-items-element : goal.bounds-items-element
bounds-items-element c = parent_within c.args.exts.now c.args.tree.now c.requires.tree c.args.number c.requires.number c.items.result.now
    c.items-2.result.now c.items.ensures c.items-2.ensures c.if-element-eq0.false

pub offset_bounds-items-element : goal.offset_bounds-items-element
offset_bounds-items-element c =
    let within = parent_within c.args.exts.now c.args.tree.now c.requires.tree c.args.number c.requires.number c.items.result.now c.items-2.result.now
    c.items.ensures c.items-2.ensures c.if-element-eq0.false in
    omega (arith, within, c.items-2.type_inv.1)

pub name_of_use-requires-clause-cell : goal.name_of_use-requires-clause-cell
name_of_use-requires-clause-cell c = parent_cell_within c.args.exts.now c.args.tree.now c.requires.tree c.args.number c.requires.number
    c.items.result.now c.items-2.result.now c.items.ensures c.items-2.ensures c.if-element-eq0.false

pub name_of_use-requires-clause-at : goal.name_of_use-requires-clause-at
name_of_use-requires-clause-at c = use_within c.args.exts.now c.args.tree.now c.requires.tree c.args.number c.requires.number c.items.result.now
    c.items-2.result.now c.items.ensures c.items-2.ensures c.if-element-eq0.false

pub returns-clause-some : goal.returns-clause-some
returns-clause-some c = leads_from c.args.exts.now c.args.tree.now c.requires.tree c.args.number c.requires.number c.items.result.now
    c.items-2.result.now c.items.ensures c.items-2.ensures c.if-element-eq0.false c.name_of_use.result.now c.name_of_use.ensures
