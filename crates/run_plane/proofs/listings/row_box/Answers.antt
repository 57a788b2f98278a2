use Rattle.run_plane.proofs.Common.{sym, subst, rules, Rect, rect_is, IsRowBox}
use Rattle.run_plane.proofs.BoxLaws.{row_box_found}
use Rattle.run_plane.proofs.listings.row_box.Goals as goal

pub returns-clause-some : goal.returns-clause-some
returns-clause-some c =
    let runs = c.args.runs.now in
    let first = c.in_ok-first.first.now in
    let last = c.in_ok-last.last.now in
    let area : Rect = record { xlo = first.xlo; ylo = c.args.ylo; xhi = last.xhi; yhi = c.args.yhi } in
    let found = row_box_found runs first last c.args.ylo c.args.yhi c.requires (sym c.in_ok-first.ensures.value) (sym c.in_ok-last.ensures.value) in
    subst (IsRowBox runs c.args.ylo c.args.yhi) (rect_is area _ (search rules) (search rules) (search rules) (search rules)) found
