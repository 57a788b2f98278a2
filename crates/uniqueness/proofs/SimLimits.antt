-- The network of a sim file, and the limits that it would pass: there is one of both.
use Rattle.uniqueness.proofs.Common.{◌≡◌, inl, inr, ℕ, List, arith, SimFile, SimLimit, SimFault, Network, records_of, IsNumbered}
use Rattle.sim_text.specs.declared.limits.SimLimit.TheVariants.{Nodes, Switches}
use Rattle.sim_text.specs.declared.faults.SimFault.TheVariants.{TooMany}
use Rattle.network_commands.specs.NetworkRuns.Simulations.{IsNetOf, PassesNet}

-- the network of a sim file is one of its records
pub numbered : (sim : SimFile) (net : Network) (names : List (List ℕ × ℕ)) → IsNetOf sim net names → IsNumbered (records_of sim) net names
numbered sim net names is = record { is_network = is.is_network; in_order = is.in_order }

-- a fault tells of one limit
one_limit : (limit other : SimLimit) (fault : SimFault) → TooMany limit ≡ fault → TooMany other ≡ fault → limit ≡ other
one_limit limit other fault is also = cc

pub same_limit : (sim : SimFile) (limit other : SimLimit) → PassesNet sim limit → PassesNet sim other → limit ≡ other
same_limit sim limit other (inl nodes) (inl also) = one_limit limit other (TooMany Nodes) nodes.is also.is
same_limit sim limit other (inl nodes) (inr switches) = absurd (switches.few_nodes nodes.more)
same_limit sim limit other (inr switches) (inl nodes) = absurd (switches.few_nodes nodes.more)
same_limit sim limit other (inr switches) (inr also) = one_limit limit other (TooMany Switches) switches.is also.is

pub passes_none : (sim : SimFile) (net : Network) (names : List (List ℕ × ℕ)) (limit : SimLimit) → IsNetOf sim net names → ¬ (PassesNet sim limit)
passes_none sim net names limit is (inl nodes) = is.few_nodes nodes.more
passes_none sim net names limit is (inr switches) = absurd (omega (arith, is.few_switches, switches.more))
