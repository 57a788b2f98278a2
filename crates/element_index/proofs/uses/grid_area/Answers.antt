use Rattle.element_index.proofs.Common.{arith, ints, clamps, rect_is, grid_area}
use Rattle.element_index.proofs.SquareLaws.{short_low, short_high, fits_wide}
use Rattle.element_index.proofs.uses.grid_area.Goals as goal

pub overflow_add-result : goal.overflow_add-result
overflow_add-result c =
    let grid = c.args.grid.now in
    let a = short_low grid.xlo c.requires.xlo in
    let b = short_high grid.xlo c.requires.xlo in
    let d = short_low grid.xhi c.requires.xhi in
    let e = short_high grid.xhi c.requires.xhi in
    fits_wide _ (omega (arith, ints, clamps, c.max.ensures.value)) (omega (arith, ints, clamps, c.max.ensures.value))

pub overflow_add-result-2 : goal.overflow_add-result-2
overflow_add-result-2 c =
    let grid = c.args.grid.now in
    let a = short_low grid.ylo c.requires.ylo in
    let b = short_high grid.ylo c.requires.ylo in
    let d = short_low grid.yhi c.requires.yhi in
    let e = short_high grid.yhi c.requires.yhi in
    fits_wide _ (omega (arith, ints, clamps, c.max-2.ensures.value)) (omega (arith, ints, clamps, c.max-2.ensures.value))

pub returns : goal.returns
returns c =
    let grid = c.args.grid.now in
    let a = short_low grid.xlo c.requires.xlo in
    let b = short_high grid.xlo c.requires.xlo in
    let d = short_low grid.xhi c.requires.xhi in
    let e = short_high grid.xhi c.requires.xhi in
    let f = short_low grid.ylo c.requires.ylo in
    let g = short_high grid.ylo c.requires.ylo in
    let h = short_low grid.yhi c.requires.yhi in
    let k = short_high grid.yhi c.requires.yhi in
    rect_is _ (grid_area grid)
    (omega (arith, ints, clamps, c.min.ensures.value))
    (omega (arith, ints, clamps, c.min-2.ensures.value))
    (omega (arith, ints, clamps, c.max.ensures.value))
    (omega (arith, ints, clamps, c.max-2.ensures.value))
