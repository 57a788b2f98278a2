use Rattle.switch_net.proofs.Common.{◌≡◌, ◌∙◌, arith}
use Rattle.std.proofs.Common.{replicate}
use Rattle.std.proofs.lemmas.List.Elements.{All-replicate}
use Rattle.switch_net.specs.Network.{IsSize}
use Rattle.switch_net.proofs.network.Net.build.Goals as goal

pub invariant_of-result-clause-switches_within : goal.invariant_of-result-clause-switches_within
invariant_of-result-clause-switches_within c = let same : c.of.result ≡ c.args.switches.now = c.of.ensures ∙ c.in_ok-from_slice.ensures.items in rw same
    c.requires.switches_within

pub invariant_of-result-clause-sizes_in_range : goal.invariant_of-result-clause-sizes_in_range
invariant_of-result-clause-sizes_in_range c =
    let ones : c.of-2.result ≡ replicate c.args.nodes 1 = c.of-2.ensures ∙ c.in_ok-vec.ensures.items_if_clones_equal (λ y e. e) in
    rw ones (All-replicate IsSize c.args.nodes 1 (omega arith, omega arith))
