use Rattle.cell_paint.proofs.Common.{◌≡◌, ◌∷◌, ◌∙◌, ℕ, List, [], subst, Square, Piece, AreSet, ArePiecesIn, number_on, pieces_on}
use Rattle.cell_paint.proofs.PieceLaws.{set_on_space}
use Rattle.cell_paint.proofs.restorations.restored.Goals as goal

pub returns-clause-pieces : goal.returns-clause-pieces
returns-clause-pieces c =
    let pieces = c.args.pieces.now in
    let ready = c.reserve.new.self in
    let full = c.commit.new.self in
    let here : c.as_slice-2.result.now ≡ pieces_on pieces c.args.plane = c.as_slice-2.ensures.value ∙ c.in_ok-here.ensures in
    let are : AreSet (number_on ready) (number_on full) (pieces_on pieces c.args.plane) =
    subst (λ (list : List Piece). AreSet (number_on ready) (number_on full) list) here c.commit.ensures in
    subst (λ (values : Square → ℕ). ArePiecesIn values (c.args.area ∷ []) c.in_ok-found.found.items)
    (set_on_space pieces c.args.plane (number_on ready) (number_on full)
    (λ square. c.reserve.ensures.same square ∙ c.in_ok-scratch.ensures.space square) are)
    c.in_ok-found.ensures.pieces
