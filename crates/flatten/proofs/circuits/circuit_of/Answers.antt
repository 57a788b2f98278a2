use Rattle.flatten.proofs.Common.{[], rules, elements_in}
use Rattle.flatten.proofs.GivenLaws.{given_is}
use Rattle.flatten.proofs.circuits.circuit_of.Goals as goal

pub returns : goal.returns
returns g c =
    let top = c.args.top.now in
    let given = c.in_ok-give_flat_fets.ensures top.tech [] [] tt c.in_ok-sink.ensures in
    given_is {S = g.row.S.Denot} g.S.FetSink.has (elements_in c.args.names.now) top
    (record { tech = c.in_ok-copy.field-0; classes = c.of.result; nodes = c.of-2.result; sink = c.give_flat_fets.new.sink }) _ _ _ given.0
    c.in_ok-nodes.ensures.nodes given.1.0 given.1.1 (search rules) (search rules) (search rules) (search rules) (search rules)
