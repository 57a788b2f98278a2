use Rattle.sim_networks.proofs.Common.{◌≡◌, length, map, take, Divides, IsPair, numbers_in}
use Rattle.sim_networks.proofs.nodes.joined.Given as goal

abbrev pub invariant-loop-pair : goal.invariant-loop-pair
invariant-loop-pair l =
    record {
      long : length l.partition ≡ length l.index;
      divides : Divides l.partition (IsPair (map (numbers_in l.index) (take l.pair-index l.aliases)));
    }
