use Rattle.vector_runs.proofs.Common.{◌≡◌, ◌++◌, length, take, drop, ap, ◌∙◌, network_of}
use Rattle.switch_net.proofs.Lent.{refilled}
use Rattle.vector_runs.proofs.RailStates.{starts_as_set}
use Rattle.vector_runs.proofs.rails.start_states.Goals as goal

pub returns : goal.returns
returns c =
    let made = c.in_ok-states.states in
    let set = c.set_states.new.states in
    let same : length set ≡ length made.items = c.set_states.auto.states ∙ ap length c.deref_mut.ensures.value in
    let whole : take made.len (set ++ drop (length set) made.items) ≡ set = rw (made.ok.0) (refilled made.items set same) in
    let begun = c.deref_mut.ensures.value ∙ c.in_ok-states.ensures.items_if_clones_equal (λ y e. e) in
    rw whole (starts_as_set (network_of c.args.named.now.net) c.args.named.now.names c.rails_of-rails.result c.rails_of-rails.ensures.are
    c.deref_mut.result.now set begun c.set_states.ensures.same c.set_states.ensures.apart)
