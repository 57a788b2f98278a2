use Rattle.cell_tree.proofs.Common.{◌≡◌, Some, sym, ap, subst, ◌∙◌, element_hulls, round_all}
use Rattle.geo_core.specs.Images.{rect_image}
use Rattle.cell_tree.proofs.HullLaws.{round_all-grid, round_all-alone}
use Rattle.cell_tree.proofs.sizes.hull_below.Goals as goal
use Rattle.cell_tree.proofs.sizes.hull_below.Goals.{in-Some-grid, in-None}

pub returns : goal.returns
returns c =
    subst (λ hull. Some c.rect.result ≡ round_all (element_hulls c.args.used.now hull)) (sym c.in-Some.is)
    (elim c.match-used.branch [
      | in-Some-grid w ↦
          ap Some c.rect.ensures.value ∙ ap (λ all. Some (rect_image c.args.used.now.placed all)) (w.all-is ∙ w.spread_area-all.ensures.spread)
          ∙ sym (round_all-grid c.args.used.now w.in-Some-grid.grid c.in-Some.hull w.in-Some-grid.is)
      | in-None w ↦
          ap Some c.rect.ensures.value ∙ ap (λ all. Some (rect_image c.args.used.now.placed all)) w.all-is
          ∙ sym (round_all-alone c.args.used.now c.in-Some.hull w.in-None.is)
    ])
