use Rattle.drc_check.proofs.Common.{◌≡◌, false, sym, subst, ◌∙◌, has_square, seen, AreCellPieces}
use Rattle.cell_library.specs.LayoutTrees.{tree_at}
use Rattle.drc_check.proofs.CellPieceLaws.{empty_hull, hull_in_range, no_hull, pieces_of_hull}
use Rattle.drc_check.proofs.cell_pieces.cell_pieces.Goals as goal

pub returns-in_default-clause-pieces : goal.returns-in_default-clause-pieces
returns-in_default-clause-pieces g c =
    let library = c.args.library.now in
    subst (AreCellPieces library.tech (tree_at (seen library) c.args.cell.0) c.args.rules.now) (sym c.new.ensures.items)
    (no_hull library c.lawful.ensures c.args.cell.0 c.requires.cell c.args.rules.now c.requires.rules c.in_default.ensures)

pub returns-then-not-has_square-clause-pieces : goal.returns-then-not-has_square-clause-pieces
returns-then-not-has_square-clause-pieces g c =
    let library = c.args.library.now in
    let none : has_square c.in-Some.hull ≡ false = sym c.has_square.ensures ∙ c.if-not-has_square.true in
    subst (AreCellPieces library.tech (tree_at (seen library) c.args.cell.0) c.args.rules.now) (sym c.new-then-not-has_square.ensures.items)
    (empty_hull library c.lawful.ensures c.args.cell.0 c.requires.cell c.args.rules.now c.requires.rules c.in-Some.hull c.in-Some.ensures none)

pub pieces_in-requires-clause-spans : goal.pieces_in-requires-clause-spans
pieces_in-requires-clause-spans g c =
    hull_in_range c.args.library.now c.lawful.ensures c.args.cell.0 c.requires.cell c.in-Some.hull c.in-Some.ensures

pub returns-clause-pieces : goal.returns-clause-pieces
returns-clause-pieces g c =
    pieces_of_hull c.args.library.now c.lawful.ensures c.args.cell.0 c.requires.cell c.args.rules.now c.requires.rules c.in-Some.hull
    c.in_ok-found.found.items c.in-Some.ensures c.in_ok-found.ensures.pieces
