use Rattle.cell_paint.proofs.Common.{◌∙◌, List, sym, subst, rules, Vec, Global, Piece, layout_on, with_pieces, AreSettable, AreAllSet}
use Rattle.cell_paint.proofs.PaintLaws.{all_settable}
use Rattle.cell_paint.proofs.PieceLaws.{put_done}
use Rattle.cell_paint.proofs.restorations.put_back_on.Goals as goal

pub reserve_all-requires-clause-settable : goal.reserve_all-requires-clause-settable
reserve_all-requires-clause-settable c =
    let old = layout_on c.args.planes.now in
    subst (λ (changes : List (Vec Piece Global)). AreSettable changes) (sym c.as_slice.ensures.value)
    (all_settable old (with_pieces c.args.area c.args.pieces.now old) c.in_ok-changes.changes.items (c.in_ok-changes.ensures.changes old))

pub commit_all-requires-clause-settable : goal.commit_all-requires-clause-settable
commit_all-requires-clause-settable c =
    let old = layout_on c.args.planes.now in
    subst (λ (changes : List (Vec Piece Global)). AreSettable changes) (sym c.as_slice-2.ensures.value)
    (all_settable old (with_pieces c.args.area c.args.pieces.now old) c.in_ok-changes.changes.items (c.in_ok-changes.ensures.changes old))

pub returns-clause-put : goal.returns-clause-put
returns-clause-put c =
    let changes = c.in_ok-changes.changes in
    let now = c.reserve_all.new.planes in
    put_done c.args.area c.args.pieces.now c.args.planes.now now c.commit_all.new.planes changes.items c.requires.pieces
    (sym changes.ok.0 ∙ c.in_ok-changes.ensures.one_each) (c.in_ok-changes.ensures.changes (layout_on c.args.planes.now)) (search rules)
    c.reserve_all.ensures.same
    (subst (λ (set : List (Vec Piece Global)). AreAllSet now c.commit_all.new.planes set) c.as_slice-2.ensures.value c.commit_all.ensures)
