use Rattle.cell_paint.proofs.Common.{◌∙◌, sym}
use Rattle.cell_paint.proofs.AreaLaws.{fault_at, fits_more}
use Rattle.cell_paint.proofs.paints.check_areas.Goals as goal

pub returns-in-Some-clause-fault : goal.returns-in-Some-clause-fault
returns-in-Some-clause-fault c =
    fault_at c.args.areas.now c.loop-area.area-index _ c.in-Some.fault c.loop-area-test.true c.loop-area.invariant (sym c.area_fault.ensures ∙ c.in-Some.is)

pub loop-area-preserved : goal.loop-area-preserved
loop-area-preserved c =
    fits_more c.args.areas.now c.loop-area.area-index _ c.loop-area-test.true c.loop-area.invariant (sym c.area_fault.ensures ∙ c.in_default.is)
