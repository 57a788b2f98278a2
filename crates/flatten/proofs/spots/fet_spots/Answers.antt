use Rattle.flatten.proofs.Common.{◌+◌, List, take, sym, subst, FetRec, FetSpots, AreFetSpots, AreFetSpotsOf}
use Rattle.flatten.proofs.PlaceLaws.{AreAlong-next}
use Rattle.flatten.proofs.spots.fet_spots.Goals as goal

pub loop-fet-preserved : goal.loop-fet-preserved
loop-fet-preserved c =
    let fets = c.args.fets.now in
    let i = c.loop-fet.fet-index in
    let R = AreFetSpots c.args.names.now c.args.cell in
    let P : List FetSpots → Type 0 = λ spots. AreFetSpotsOf c.args.names.now c.args.cell (take (i + 1) fets) spots in
    let Q : FetRec → Type 0 = λ one. R one c.in_ok-spots_beside.field-0 in
    subst P (sym c.in_ok-push.ensures.items)
    (AreAlong-next R fets c.loop-fet.spots.items i c.in_ok-spots_beside.field-0 c.fet-item.result c.loop-fet.invariant c.loop-fet-test.true
    (subst Q c.fet-item.is c.in_ok-spots_beside.ensures))
