use Rattle.name_classes.proofs.Common.{sym, ◌∙◌, arith, slice_get_within, get_or_from_slice_get, branches_of}
use Rattle.name_classes.proofs.BranchLaws.{table_finds, table_lacks, tables_reach, table_here, branches_here}
use Rattle.name_classes.proofs.paths.Resolver.branch.Goals as goal

pub returns-in_err-number-clause-none : goal.returns-in_err-number-clause-none
returns-in_err-number-clause-none c =
    let resolver = c.args.self.now in
    let table = table_here resolver c.requires.resolver c.args.cell c.requires.reached c.index.result.now c.index.ensures in
    rw c.from_residual.ensures (table_lacks resolver c.requires.resolver c.args.cell c.index.result.now table c.args.id.now (sym c.in_err-number.ensures))

pub bounds-items-cell : goal.bounds-items-cell
bounds-items-cell c = rw c.items.ensures ((tables_reach c.args.self.now c.requires.resolver c.args.cell c.requires.reached).1)

pub bounds-items-number : goal.bounds-items-number
bounds-items-number c =
    let resolver = c.args.self.now in
    let table = table_here resolver c.requires.resolver c.args.cell c.requires.reached c.index.result.now c.index.ensures in
    let has = table_finds resolver c.requires.resolver c.args.cell c.requires.reached c.index.result.now table c.args.id.now c.in_ok-number.number
    (sym c.in_ok-number.ensures) in
    let list = branches_here resolver c.requires.resolver c.args.cell c.requires.reached c.items.result.now c.items.ensures c.index-items-cell.result
    c.index-items-cell.is in
    rw (c.items-2.ensures ∙ list) (slice_get_within (branches_of resolver.names.now.tree.now.branches c.args.cell) c.in_ok-number.number has.branch has.found)

pub offset_bounds-items-number : goal.offset_bounds-items-number
offset_bounds-items-number c = let within = bounds-items-number c in omega (arith, within, c.items-2.type_inv)

pub returns-clause-some : goal.returns-clause-some
returns-clause-some c =
    let resolver = c.args.self.now in
    let table = table_here resolver c.requires.resolver c.args.cell c.requires.reached c.index.result.now c.index.ensures in
    let has = table_finds resolver c.requires.resolver c.args.cell c.requires.reached c.index.result.now table c.args.id.now c.in_ok-number.number
    (sym c.in_ok-number.ensures) in
    let list = branches_here resolver c.requires.resolver c.args.cell c.requires.reached c.items.result.now c.items.ensures c.index-items-cell.result
    c.index-items-cell.is in
    let found = get_or_from_slice_get (branches_of resolver.names.now.tree.now.branches c.args.cell) c.in_ok-number.number has.branch
    (record { child = 0; step = 0; rank_step = 0 }) has.found in
    rw (c.items-2.ensures ∙ list, found) has.is_branch
