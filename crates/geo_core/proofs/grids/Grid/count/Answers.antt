-- Rows times columns.
use Rattle.geo_core.proofs.Common.{◌≡◌, ◌*◌, ap, ◌∙◌, arith, ints}
use Rattle.geo_core.proofs.ElementLaws.{length-elements_of, indices-same, kept, rows, columns}
use Rattle.geo_core.proofs.grids.Grid.count.Goals as goal

pub returns : goal.returns
returns c =
    let grid = c.args.self.now in
    let across : c.indices.result ≡ columns grid = indices-same _ (kept grid.xlo) (kept grid.xhi) grid.xlo grid.xhi c.indices.ensures
    (omega (arith, ints)) (omega (arith, ints)) in
    let up : c.indices-2.result ≡ rows grid = indices-same _ (kept grid.ylo) (kept grid.yhi) grid.ylo grid.yhi c.indices-2.ensures (omega (arith, ints))
    (omega (arith, ints)) in
    ap (λ n. n * c.indices-2.result) across ∙ ap (λ n. columns grid * n) up ∙ omega (arith, length-elements_of grid)
