use Rattle.cell_library.proofs.Common.{◌≡◌, Bool, true, false, ◌&&◌, rules}
use Rattle.cell_library.specs.steps.OwnRestorations.{are_between}
use Rattle.cell_library.proofs.own_restorations.is_inside.Goals as goal

-- where the first test holds, the second decides
second_decides : (a b value : Bool) → a ≡ true → value ≡ b → value ≡ (a && b)
second_decides true b value first second = second
second_decides false b value first second = cc

pub returns-then-are_between : goal.returns-then-are_between
returns-then-are_between c =
    let area = c.args.area.now in
    let outer = c.args.outer.now in
    let first : are_between area.xlo area.xhi outer.xlo outer.xhi ≡ true = search rules in
    let second : c.are_between-then-are_between.result ≡ are_between area.ylo area.yhi outer.ylo outer.yhi = search rules in
    second_decides (are_between area.xlo area.xhi outer.xlo outer.xhi) (are_between area.ylo area.yhi outer.ylo outer.yhi)
    c.are_between-then-are_between.result first second
