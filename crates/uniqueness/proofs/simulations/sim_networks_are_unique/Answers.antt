use Rattle.uniqueness.proofs.Common.{records_of}
use Rattle.uniqueness.proofs.SimLimits.{numbered, passes_none, same_limit}
use Rattle.uniqueness.proofs.simulations.sim_networks_are_unique.Goals as goal

pub returns : goal.returns
returns c = record {
  networks = λ sim net other names others p q.
      c.networks_are_unique.ensures (records_of sim) net other names others (numbered sim net names p) (numbered sim other others q);
  limits = same_limit;
  either = passes_none;
}
