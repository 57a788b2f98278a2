use Rattle.flatten.proofs.Common.{◌≤◌, List, length, map, subst, arith, rules, take_all, Element, GivesFets, FetRec, IsFlatFet, AreFetSpots}
use Rattle.flatten.proofs.Common.{element_at, cell_at}
use Rattle.flatten.proofs.PlaceLaws.{AreAlong-read}
use Rattle.flatten.proofs.FetLaws.{gives_more, gives_none}
use Rattle.flatten.proofs.fets.give_fets.Goals as goal

pub flat_fet-requires-clause-spots : goal.flat_fet-requires-clause-spots
flat_fet-requires-clause-spots g c =
    AreAlong-read (AreFetSpots c.args.names.now (cell_at c.args.names.now c.args.element)) c.args.fets.now c.args.spots.now c.requires.spots c.loop-at.at
    c.loop-at-test.true c.index-fets-at.result c.index-fets-at.is c.index-spots-at.result c.index-spots-at.is

pub give-requires : goal.give-requires
give-requires g c =
    let element = element_at c.args.names.now c.args.element in
    let flat = c.in_ok-flat_fet.field-0 in
    c.requires.fit c.args.nodes.now element c.index-fets-at.result flat (search rules) c.in_ok-flat_fet.ensures

pub loop-at-init : goal.loop-at-init
loop-at-init g c = gives_none g.S.FetSink.has c.args.nodes.now c.args.sink.now

pub loop-at-preserved : goal.loop-at-preserved
loop-at-preserved g c =
    let fets = c.args.fets.now in
    let i = c.loop-at.at in
    let element = element_at c.args.names.now c.args.element in
    let flat = c.in_ok-flat_fet.field-0 in
    let P : FetRec → Type 0 = λ fet. IsFlatFet c.args.nodes.now element fet flat in
    gives_more g.S.FetSink.has c.args.nodes.now element fets i c.index-fets-at.result c.args.sink.now c.loop-at.sink c.give.new.self flat
    c.loop-at.invariant c.loop-at-test.true (subst P c.index-fets-at.is c.in_ok-flat_fet.ensures) c.in_ok-give.ensures

pub returns : goal.returns
returns g c =
    let fets = c.args.fets.now in
    let of : FetRec → Element × FetRec = λ fet. (element_at c.args.names.now c.args.element, fet) in
    let past : length fets ≤ c.loop-at.at = omega (arith, c.loop-at-test.false) in
    subst (λ (l : List FetRec). GivesFets g.S.FetSink.has c.args.nodes.now (map of l) c.args.sink.now c.loop-at.sink) (take_all c.loop-at.at fets past)
    c.loop-at.invariant
