-- What most files of proofs name of what stands below, and of the definitions of this crate.
pub use Rattle.std.proofs.Common.{◌≡◌, ℕ, ◌+◌, ◌<◌, ◌≤◌, List, [], ◌∷◌, ◌++◌, Bool, true, false, refl, sym, ap, subst, ◌∙◌, arith, length, get_or}
pub use Rattle.std.proofs.Common.{take, drop, append_assoc}
pub use Rattle.std.specs.List.{AllZip, list_any, zip}
pub use Rattle.switch_net.specs.declared.switches.Level.{Level}
pub use Rattle.vector_files.specs.declared.files.VecLine.{VecLine}
pub use Rattle.fault_replay.specs.VectorRuns.declared.stuck_faults.StuckFault.{StuckFault}
pub use Rattle.fault_replay.specs.VectorRuns.declared.watching.Seen.{Seen}
pub use Rattle.fault_replay.specs.VectorRuns.Watching.{LinesShow, Watched, is_left_out, begun_with}
pub use Rattle.switch_net.specs.declared.switches.Level.TheVariants.{Zero, One}
pub use Rattle.fault_replay.specs.VectorRuns.Running.{states_of, watched}
pub use Rattle.switch_net.specs.Net.{network_of}
pub use Rattle.vector_files.specs.NodeLookup.{is_either_node}
pub use Rattle.switch_net.specs.Names.{NameNodesBelow}
pub use Rattle.fault_replay.proofs.VectorRuns.RailStates.{put_back}
pub use Rattle.switch_net.proofs.Sound.{sound_of}
pub use Rattle.fault_grade.specs.steps.Comparing.{HasShown, is_shown_apart}
pub use Rattle.fault_grade.specs.declared.grading.Graded.{Graded}
pub use Rattle.fault_grade.specs.Grades.{IsGrade, faults_at, faults_but}
