use Rattle.cell_paint.proofs.Common.{◌≤◌, length, sym, rules}
use Rattle.cell_paint.proofs.PlaneLaws.{space_past}
use Rattle.cell_paint.proofs.planes.kind_at.Goals as goal

pub returns-in-None : goal.returns-in-None
returns-in-None c =
    let past : length c.args.planes.now ≤ c.args.plane = search rules in
    sym (space_past c.args.planes.now c.args.plane c.args.square past)
