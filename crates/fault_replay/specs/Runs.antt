-- Runs with a fault that are replayed.
use Rattle.std.specs.Prelude.{◌≡◌, ℕ, List, All, Some}
use Rattle.switch_net.specs.declared.network.Net.{Net}
use Rattle.switch_net.specs.declared.switches.Level.{Level}
use Rattle.switch_net.specs.Net.{network_of}
use Rattle.switch_net.specs.Network.{Network}
use Rattle.vector_files.specs.declared.files.VecLine.{VecLine}
use Rattle.vector_runs.specs.Running.{IsUnderWay, states_of}
use Rattle.fault_replay.specs.declared.runs.ReplayedRun.{ReplayedRun}
use Rattle.fault_replay.specs.Replays.{FitsRecord, IsAlong, IsReplayFor, Records}

-- A replayed run goes on on this network: the stuck node is the one that its replay holds, and what is recorded fits.
pub record IsReady (budget : ℕ) (net : Net) (run : ReplayedRun) : Type 0 where
  pub under_way : IsUnderWay net run.run
  pub replay : IsReplayFor net.nodes run.replay
  pub phases : All (FitsRecord net.nodes budget) run.phases.now
  pub value : Level
  pub stuck : run.run.stuck ≡ Some (record { node = run.replay.held; value = value })

-- It stands beside a run without the fault, of which these lines are recorded as far as anything is.
pub record IsBeside (budget : ℕ) (net : Net) (run : ReplayedRun) (lines : List (ℕ × VecLine)) : Type 0 where
  pub good : Network
  pub along : IsAlong good (network_of net) run.replay.held run.replay.good.items (states_of run.run) run.replay.differing.inside
  pub records : Records budget good run.replay.good.items lines run.phases.now
