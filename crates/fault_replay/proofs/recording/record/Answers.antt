use Rattle.fault_replay.proofs.Common.{ℕ, ◌+◌, List, [], ◌∷◌, ap, arith, drop, subst, sym, ◌∙◌, All, network_of, VecLine, FitsRecord, Records}
use Rattle.std.proofs.lemmas.List.{append-nil, drop_more}
use Rattle.fault_replay.proofs.Recorded.{none_recorded}
use Rattle.fault_replay.proofs.recording.record.Goals as goal

pub loop-line-preserved : goal.loop-line-preserved
loop-line-preserved c =
    let before = c.loop-line.invariant in
    let made = c.in_ok-record_line.ensures in
    let lines = c.args.lines.now in
    let i = c.loop-line.line-index in
    let item = c.loop-line-item.result in
    let split = drop_more lines i item c.loop-line-test.true ∙ ap (λ (line : ℕ × VecLine). line ∷ drop (i + 1) lines) (sym c.loop-line-item.is) in
    record {
      nodes = made.nodes ∙ before.nodes;
      switches = made.switches ∙ before.switches;
      states = omega (arith, c.record_line.auto.states, before.states, made.nodes);
      fits = subst (λ (n : ℕ). All (FitsRecord n c.args.budget) c.record_line.new.phases.items) before.nodes made.fits;
      records = λ later rest.
          let more = made.recorded item.0 (drop (i + 1) lines) later rest in
          let here = subst (λ (left : List (ℕ × VecLine)). Records c.args.budget (network_of c.loop-line.net) c.loop-line.states left more.0) (sym split)
          more.2 in
          subst (Records c.args.budget (network_of c.args.net.now) c.args.states.now lines) (sym more.1) (before.records more.0 here);
    }

pub returns-then-room-eq0-clause-recorded : goal.returns-then-room-eq0-clause-recorded
returns-then-room-eq0-clause-recorded c =
    let none = none_recorded c.args.budget (network_of c.loop-line.net) c.loop-line.states (drop c.loop-line.line-index c.args.lines.now) in
    subst (Records c.args.budget (network_of c.args.net.now) c.args.states.now c.args.lines.now) (append-nil c.loop-line.phases.items)
    (c.loop-line.invariant.records [] none)

pub returns-clause-recorded : goal.returns-clause-recorded
returns-clause-recorded c =
    let none = none_recorded c.args.budget (network_of c.loop-line.net) c.loop-line.states (drop c.loop-line.line-index c.args.lines.now) in
    subst (Records c.args.budget (network_of c.args.net.now) c.args.states.now c.args.lines.now) (append-nil c.loop-line.phases.items)
    (c.loop-line.invariant.records [] none)
