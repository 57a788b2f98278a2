use Rattle.fault_grade.proofs.Common.{ℕ, refl, subst, sym, ◌∙◌, NameNodesBelow, put_back}
use Rattle.fault_grade.proofs.detecting.detect.Goals as goal

pub invariant_of-named : goal.invariant_of-named
invariant_of-named c =
    let named = c.detect_from_start-line.new.named in
    record {
      named_within = subst (λ (nodes : ℕ). NameNodesBelow nodes named.names) (sym c.make_net_fresh.ensures.nodes) named.named_within;
      one_node = named.one_node;
    }

pub returns-clause-network : goal.returns-clause-network
returns-clause-network c =
    let ran = c.detect_from_start-line.ensures in
    let fresh = c.make_net_fresh.ensures in
    let names = c.args.named.now.names in
    put_back c.args.named.now.net c.make_net_fresh.new.net names names refl (fresh.nodes ∙ ran.nodes) (fresh.switches ∙ ran.switches) c.requires.fresh
    (fresh.fresh names c.requires.good.rails)
