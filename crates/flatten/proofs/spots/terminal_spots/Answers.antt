use Rattle.flatten.proofs.Common.{◌+◌, ℕ, List, map, take, sym, subst, In-map, TermRec, Spot, IsSpotOf, AreSpotsOf}
use Rattle.flatten.proofs.PlaceLaws.{AreAlong-more, In-read}
use Rattle.flatten.proofs.spots.terminal_spots.Goals as goal

abbrev name_of : TermRec → List ℕ
name_of side = side.node

pub spot_of-requires-clause-name : goal.spot_of-requires-clause-name
spot_of-requires-clause-name c =
    c.requires.has c.side-item.result.node
    (In-map name_of c.side-item.result c.args.terminals.now (In-read c.args.terminals.now c.loop-side.side-index c.side-item.result c.loop-side-test.true
    c.side-item.is))

pub loop-side-preserved : goal.loop-side-preserved
loop-side-preserved c =
    let sides = c.args.terminals.now in
    let i = c.loop-side.side-index in
    let side = c.side-item.result in
    let P : List Spot → Type 0 = λ spots. AreSpotsOf c.args.names.now c.args.cell (map name_of (take (i + 1) sides)) spots in
    let Q : TermRec → Type 0 = λ one. IsSpotOf c.args.names.now c.args.cell one.node c.spot_of.result in
    subst P (sym c.in_ok-push.ensures.items)
    (AreAlong-more (IsSpotOf c.args.names.now c.args.cell) name_of sides c.loop-side.spots.items i c.spot_of.result side c.loop-side.invariant
    c.loop-side-test.true (subst Q c.side-item.is c.spot_of.ensures))
