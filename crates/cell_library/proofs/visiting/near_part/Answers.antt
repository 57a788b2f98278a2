use Rattle.cell_library.proofs.Common.{◌≡◌, sym, subst, ◌∙◌, common_rect, IsNear, IsProper, IsProper-has_square, HullIsAt}
use Rattle.cell_library.proofs.VisitLaws.{hull_spans, near_hull}
use Rattle.cell_library.proofs.visiting.near_part.Goals as goal

pub returns-then-has_square-clause-some : goal.returns-then-has_square-clause-some
returns-then-has_square-clause-some c =
    let hull = c.in_ok-hull.hull in
    let is : HullIsAt c.args.tree.now.sizes c.args.cell.0 hull = sym c.hull.ensures ∙ c.in_ok-hull.was in
    let common : c.common-near.result ≡ common_rect c.args.back hull = c.common-near.ensures in
    let proper : IsProper c.common-near.result = IsProper-has_square c.common-near.result (sym c.has_square.ensures ∙ c.if-has_square.true) in
    let whole = subst IsProper common proper in
    record {
      hull = hull;
      is = is;
      common = common;
      proper = proper;
      is_near = subst IsNear (sym common) (near_hull c.args.back hull (hull_spans c.args.tree.now c.args.cell.0 hull c.requires.lawful is) whole);
    }
