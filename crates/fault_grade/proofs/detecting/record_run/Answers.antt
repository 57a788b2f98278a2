use Rattle.fault_grade.proofs.Common.{ℕ, List, refl, subst, sym, ◌∙◌, NameNodesBelow, network_of, put_back}
use Rattle.fault_replay.specs.declared.records.PhaseRecord.{PhaseRecord}
use Rattle.fault_replay.specs.Replays.{Records}
use Rattle.fault_replay.proofs.Recorded.{none_recorded}
use Rattle.fault_grade.proofs.detecting.record_run.Goals as goal

pub invariant_of-named : goal.invariant_of-named
invariant_of-named c =
    let named = c.args.named.now in
    let nodes = c.make_net_fresh.ensures.nodes ∙ c.record_from_start-recorded.ensures.nodes in
    record {
      named_within = subst (λ (nodes : ℕ). NameNodesBelow nodes named.names) (sym nodes) named.named_within;
      one_node = named.one_node;
    }

pub returns-in-Ok-clause-network : goal.returns-in-Ok-clause-network
returns-in-Ok-clause-network c =
    let ran = c.record_from_start-recorded.ensures in
    let fresh = c.make_net_fresh.ensures in
    let names = c.args.named.now.names in
    put_back c.args.named.now.net c.make_net_fresh.new.net names names refl (fresh.nodes ∙ ran.nodes) (fresh.switches ∙ ran.switches) c.requires.fresh
    (fresh.fresh names c.requires.rails)

pub returns-in-Err-clause-records : goal.returns-in-Err-clause-records
returns-in-Err-clause-records c =
    let net = network_of c.args.named.now.net in
    subst (λ (phases : List PhaseRecord). Records c.args.budget net c.args.starts.now c.args.vectors.now.lines phases) (sym c.new.ensures.items)
    (none_recorded c.args.budget net c.args.starts.now c.args.vectors.now.lines)

pub returns-in-Err-clause-network : goal.returns-in-Err-clause-network
returns-in-Err-clause-network c =
    let ran = c.record_from_start-recorded.ensures in
    let fresh = c.make_net_fresh.ensures in
    let names = c.args.named.now.names in
    put_back c.args.named.now.net c.make_net_fresh.new.net names names refl (fresh.nodes ∙ ran.nodes) (fresh.switches ∙ ran.switches) c.requires.fresh
    (fresh.fresh names c.requires.rails)
