use Rattle.fault_replay.proofs.Common.{ℕ, List, ap, refl, subst, sym, ◌∙◌, All, Some, Level, network_of, sound_of, FitsRecord, IsReplayFor, Records}
use Rattle.std.specs.Prelude.{Option}
use Rattle.vector_runs.specs.declared.stuck_faults.StuckFault.{StuckFault}
use Rattle.vector_runs.specs.Running.{states_of, watched}
use Rattle.vector_runs.specs.Watching.{is_left_out}
use Rattle.fault_replay.specs.Replays.{states_after}
use Rattle.fault_replay.proofs.Beside.{along_as}
use Rattle.fault_replay.proofs.Lines.{line_behind}
use Rattle.fault_replay.proofs.runs.ReplayedRun.take_other.Goals as goal

pub returns-clause-ready : goal.returns-clause-ready
returns-clause-ready c =
    let ready = c.requires.ready in
    let nodes = sym c.take_line.ensures.nodes in
    record {
      under_way = c.take_line.ensures.under_way;
      replay = subst (λ (n : ℕ). IsReplayFor n c.follow.new.self) nodes (c.follow.ensures.replay c.args.net.now.nodes ready.replay);
      phases = subst (λ (n : ℕ). All (FitsRecord n c.args.budget) c.args.self.now.phases.now) nodes ready.phases;
      value = ready.value;
      stuck = c.take_line.ensures.stuck ∙ ready.stuck
          ∙ ap (λ (n : ℕ). let fault : StuckFault = record { node = n; value = ready.value } in Some fault) (sym c.follow.ensures.held);
    }

pub returns-clause-beside : goal.returns-clause-beside
returns-clause-beside c = λ number rest beside.
    let line = c.args.line.now in
    let replay = c.args.self.now.replay in
    let same = ap (λ (stuck : Option StuckFault). is_left_out stuck line) c.requires.ready.stuck in
    let behind = line_behind c.args.budget beside.good (watched c.args.net.now c.args.self.now.run) (watched c.take_line.new.net c.take_line.new.self)
    replay.held number replay.good.items replay.differing.inside c.follow.new.self.differing.inside rest c.args.self.now.phases.now line
    (sound_of c.args.net.now) beside.along c.follow.ensures.grown c.requires.other c.requires.within c.follow.ensures.told
    (λ out. c.take_line.ensures.left_out (same ∙ out)) (λ counts. c.take_line.ensures.taken (same ∙ counts)) beside.records in
    let net = network_of c.take_line.new.net in
    record {
      good = behind.good;
      along = along_as behind.good net net replay.held c.follow.new.self.held (states_after line replay.good.items) c.follow.new.self.good.items
          (states_of c.take_line.new.self) c.follow.new.self.differing.inside refl (sym c.follow.ensures.held) (sym c.follow.ensures.good) behind.along;
      records = subst (λ (s : List Level). Records c.args.budget behind.good s rest c.args.self.now.phases.now) (sym c.follow.ensures.good) behind.records;
    }
