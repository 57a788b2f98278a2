use Rattle.fault_replay.proofs.Common.{ℕ, List, ap, arith, refl, subst, sym, ◌∙◌, All, Some, All-head, All-tail, Level, network_of, Network, Phase}
use Rattle.fault_replay.proofs.Common.{PhaseRecord, FitsRecord, Follows, Records}
use Rattle.std.proofs.Common.{add-one}
use Rattle.vector_runs.specs.declared.stuck_faults.StuckFault.{StuckFault}
use Rattle.vector_runs.specs.Running.{watched}
use Rattle.vector_runs.proofs.WatchedRuns.{phase_taken}
use Rattle.fault_replay.proofs.Beside.{along_as}
use Rattle.fault_replay.proofs.runs.ReplayedRun.replay_phase.Goals as goal

pub run_recorded-settled-requires-clause-phase : goal.run_recorded-settled-requires-clause-phase
run_recorded-settled-requires-clause-phase c =
    let all = subst (All (FitsRecord c.args.net.now.nodes c.args.budget)) c.split_first.ensures c.requires.ready.phases in
    All-head (FitsRecord c.args.net.now.nodes c.args.budget) c.split_first.result.0.now c.split_first.result.1.now all

pub returns-clause-taken : goal.returns-clause-taken
returns-clause-taken c = λ number rest beside.
    let budget = c.args.budget in
    let ran = c.run_recorded-settled.ensures in
    let recorded = subst (λ (phases : List PhaseRecord). Follows budget beside.good c.args.self.now.replay.good.items Phase phases
    (λ new t later. Records budget new t rest later)) c.split_first.ensures beside.records in
    let ends = ran.ends beside.good recorded.0 beside.along recorded.1 in
    phase_taken budget (watched c.args.net.now c.args.self.now.run) _ Phase c.run_recorded-settled.result ends.0 refl
    (record {
      done = c.run_recorded-settled.result;
      steps = ends.0;
      is_phase = ends.1;
      same_net = ran.net;
      counted = add-one c.args.self.now.run.progress.phases;
      replied = refl;
    }) refl

pub returns-clause-beside : goal.returns-clause-beside
returns-clause-beside c = λ number rest beside.
    let budget = c.args.budget in
    let ran = c.run_recorded-settled.ensures in
    let new = c.run_recorded-settled.new.self in
    let net = network_of c.run_recorded-settled.new.net in
    let recorded = subst (λ (phases : List PhaseRecord). Follows budget beside.good c.args.self.now.replay.good.items Phase phases
    (λ new t later. Records budget new t rest later)) c.split_first.ensures beside.records in
    let at = sym (ran.good beside.good recorded.0 recorded.1) in
    record {
      good = beside.good;
      along = along_as beside.good net net c.args.self.now.replay.held new.held recorded.0 new.good.items c.run_recorded-settled.new.states.items
          new.differing.inside refl (sym ran.held) at (ran.along beside.good recorded.0 beside.along recorded.1);
      records = subst (λ (s : List Level). Records budget beside.good s rest c.split_first.result.1.now) at recorded.2;
    }

pub returns-clause-ready : goal.returns-clause-ready
returns-clause-ready c =
    let ready = c.requires.ready in
    let ran = c.run_recorded-settled.ensures in
    let nodes = ap (λ (net : Network). net.nodes) ran.net in
    let all = subst (All (FitsRecord c.args.net.now.nodes c.args.budget)) c.split_first.ensures ready.phases in
    let later = All-tail (FitsRecord c.args.net.now.nodes c.args.budget) c.split_first.result.0.now c.split_first.result.1.now all in
    record {
      under_way = record { states = omega (arith, ran.states, ready.under_way.states, nodes); rested = tt };
      replay = ran.replay;
      phases = subst (λ (n : ℕ). All (FitsRecord n c.args.budget) c.split_first.result.1.now) (sym nodes) later;
      value = ready.value;
      stuck = ready.stuck ∙ ap (λ (n : ℕ). let fault : StuckFault = record { node = n; value = ready.value } in Some fault) (sym ran.held);
    }
