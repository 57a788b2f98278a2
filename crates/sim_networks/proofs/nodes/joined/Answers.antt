use Rattle.sim_networks.proofs.Common.{map, ◌∙◌, arith, numbers_in}
use Rattle.sim_networks.proofs.NumberLaws.{number_is}
use Rattle.sim_networks.proofs.NodeLaws.{known_at, pairs_all, pairs_more}
use Rattle.sim_networks.proofs.nodes.joined.Goals as goal

pub join-requires-clause-a_within : goal.join-requires-clause-a_within
join-requires-clause-a_within c =
    let names = c.args.index.now in
    let known = known_at names c.args.aliases.now c.loop-pair.pair-index c.pair-item.result c.requires c.loop-pair-test.true
    c.pair-item.is in
    let at = number_is names c.pair-item.result.0 known.0 in
    omega (arith, at.within, c.number.ensures, c.loop-pair.invariant.long)

pub join-requires-clause-b_within : goal.join-requires-clause-b_within
join-requires-clause-b_within c =
    let names = c.args.index.now in
    let known = known_at names c.args.aliases.now c.loop-pair.pair-index c.pair-item.result c.requires c.loop-pair-test.true
    c.pair-item.is in
    let at = number_is names c.pair-item.result.1 known.1 in
    omega (arith, at.within, c.number-in-loop-pair.ensures, c.loop-pair.invariant.long)

pub loop-pair-preserved : goal.loop-pair-preserved
loop-pair-preserved c = record {
  long = c.join.ensures.len ∙ c.loop-pair.invariant.long;
  divides = pairs_more c.args.index.now c.args.aliases.now c.loop-pair.pair-index c.pair-item.result c.number.result
      c.number-in-loop-pair.result c.loop-pair.partition c.join.new.self c.loop-pair-test.true c.pair-item.is c.number.ensures
      c.number-in-loop-pair.ensures c.join.ensures.divides c.loop-pair.invariant.divides;
}

pub returns-clause-divides : goal.returns-clause-divides
returns-clause-divides c =
    let names = c.args.index.now in
    let aliases = c.args.aliases.now in
    c.into_labels.ensures.divides (map (numbers_in names) aliases)
    (pairs_all names aliases c.loop-pair.pair-index c.loop-pair.partition (omega arith) c.loop-pair.invariant.divides)
