use Rattle.cell_paint.proofs.Common.{◌≡◌, Bool, true, false, ◌&&◌, rules}
use Rattle.cell_paint.specs.Painting.{is_coordinate}
use Rattle.cell_paint.proofs.paints.is_in_range.Goals as goal

-- where the first half of a test holds, its second half decides
second_half : (a b c d value : Bool) → (a && b) ≡ true → value ≡ (c && d) → value ≡ (a && b && c && d)
second_half true true c d value first second = second
second_half true false c d value first second = cc
second_half false b c d value first second = cc

pub returns-then-are_coordinates : goal.returns-then-are_coordinates
returns-then-are_coordinates c =
    let area = c.args.area.now in
    let first : (is_coordinate area.xlo && is_coordinate area.ylo) ≡ true = search rules in
    let second : c.are_coordinates-then-are_coordinates.result ≡ (is_coordinate area.xhi && is_coordinate area.yhi) = search rules in
    second_half (is_coordinate area.xlo) (is_coordinate area.ylo) (is_coordinate area.xhi) (is_coordinate area.yhi)
    c.are_coordinates-then-are_coordinates.result first second
