use Rattle.fault_grade.proofs.Common.{ℕ, List, ap, subst, sym, ◌∙◌, sound_of, Level, NameNodesBelow, network_of, watched, begun_with, HasShown}
use Rattle.std.specs.Prelude.{Some}
use Rattle.fault_grade.proofs.GradeLaws.{found_grade}
use Rattle.fault_grade.proofs.detecting.detect_from_start.Goals as goal

pub invariant_of-named : goal.invariant_of-named
invariant_of-named c =
    let named = c.args.named.now in
    record {
      named_within = subst (λ (nodes : ℕ). NameNodesBelow nodes named.names) (sym c.begin.ensures.nodes) named.named_within;
      one_node = named.one_node;
    }

pub invariant_of-named-2 : goal.invariant_of-named-2
invariant_of-named-2 c =
    let named = c.args.named.now in
    let nodes = c.run_to_detection.ensures.nodes ∙ c.begin.ensures.nodes in
    record {
      named_within = subst (λ (nodes : ℕ). NameNodesBelow nodes named.names) (sym nodes) named.named_within;
      one_node = named.one_node;
    }

pub returns-clause-line : goal.returns-clause-line
returns-clause-line c =
    let net = network_of c.args.named.now.net in
    let good = c.args.good.now in
    let run = c.in_ok-run.run'.run in
    let stands = c.in_ok-run.ensures.begun ∙ ap (λ (s : List Level). begun_with (Some c.args.fault) net s) c.deref.ensures.value in
    found_grade net c.args.named.now.names c.args.budget c.args.vectors.now c.args.fault good (watched c.begin.new.net run) run.stuck c.items.result.now
    c.run_to_detection.result (sound_of c.args.named.now.net) c.requires.good
    (record { start = good.starts.items; starts = c.requires.good.starts; stands = stands }) c.in_ok-run.ensures.stuck c.items.ensures
    (λ from shown. c.run_to_detection.ensures.finds from
    (subst (λ (nodes : ℕ). HasShown c.args.budget nodes from c.items.result.now good.seen.items) (sym c.begin.ensures.nodes) shown))
