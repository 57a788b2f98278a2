use Rattle.cif_expansion.proofs.Common.{sym, subst, rules, to_z-of_z, w128, FitsSigned}
use Rattle.cif_expansion.specs.Reach.{IsPaintable}
use Rattle.cif_expansion.proofs.placements.lies_in_range.Goals as goal

pub returns-then-are_paintable : goal.returns-then-are_paintable
returns-then-are_paintable c =
    let xlo : FitsSigned w128 c.args.area.now.xlo = search rules in
    let ylo : FitsSigned w128 c.args.area.now.ylo = search rules in
    let xhi : FitsSigned w128 c.args.area.now.xhi = search rules in
    let yhi : FitsSigned w128 c.args.area.now.yhi = search rules in
    let across = c.are_paintable.ensures.0 c.if-are_paintable.true in (
      λ both. let up = c.are_paintable-then-are_paintable.ensures.0 both in record {
        xlo = subst IsPaintable (to_z-of_z w128 c.args.area.now.xlo xlo) across.0;
        ylo = subst IsPaintable (to_z-of_z w128 c.args.area.now.ylo ylo) up.0;
        xhi = subst IsPaintable (to_z-of_z w128 c.args.area.now.xhi xhi) across.1;
        yhi = subst IsPaintable (to_z-of_z w128 c.args.area.now.yhi yhi) up.1;
      },
      λ lies. c.are_paintable-then-are_paintable.ensures.1 (
        subst IsPaintable (sym (to_z-of_z w128 c.args.area.now.ylo ylo)) lies.ylo,
        subst IsPaintable (sym (to_z-of_z w128 c.args.area.now.yhi yhi)) lies.yhi,
      ),
    )
