-- What most files of proofs name of what stands below, and of the definitions of this crate.
pub use Rattle.std.proofs.Common.{◌≡◌, ◌≢◌, ℕ, ◌<◌, ◌≤◌, ◌==◌, List, Bool, true, false, inl, inr, refl, sym, ap, subst, ◌∙◌, length, get_or, arith}
pub use Rattle.std.proofs.Common.{drop, slice_index, slice_index_or, ◌+◌, [], ◌∷◌, ◌++◌, take, slice_set, ◌-◌}
pub use Rattle.std.specs.Prelude.{All, Some, None}
pub use Rattle.std.proofs.lemmas.Bool.{cases_Bool, cases_eq, cases_lt, eq-eqb, eqb-true, false≢true}
pub use Rattle.std.proofs.lemmas.List.{get_or-set_other, get_or-set_same, length-set, get_or_default}
pub use Rattle.std.proofs.lemmas.List.Elements.{All-head, All-tail, All-push}
pub use Rattle.finite_sets.specs.Lists.{In}
pub use Rattle.switch_net.specs.declared.node_set.NodeSet.{NodeSet}
pub use Rattle.switch_net.specs.declared.switches.Level.{Level}
pub use Rattle.switch_net.specs.declared.switches.Level.TheVariants.{X, Zero}
pub use Rattle.switch_net.specs.Network.{IsSound, Network}
pub use Rattle.switch_net.specs.Path.{is_input, state_of}
pub use Rattle.switch_net.specs.Sets.{IsInside}
pub use Rattle.switch_net.specs.Steady.{IsStep}
pub use Rattle.switch_net.specs.Vicinity.{IsStorage}
pub use Rattle.switch_net.proofs.Ranges.{input_in_range, level_cases}
pub use Rattle.steady_state.specs.Levels.{AreSteady}
pub use Rattle.vector_files.specs.declared.files.VecLine.{VecLine}
pub use Rattle.vector_files.specs.declared.files.VecLine.TheVariants.{Set, Free, Size, Phase, Show}
pub use Rattle.vector_runs.specs.Runs.{with_input, with_size}
pub use Rattle.switch_net.specs.Phase.{Steps}
pub use Rattle.vector_runs.proofs.SplitRuns.{phase_keeps}
pub use Rattle.switch_net.specs.Net.{network_of}
pub use Rattle.switch_net.proofs.Sound.{sound_of}
pub use Rattle.steady_state.proofs.Moving.{steps_more}
pub use Rattle.fault_replay.specs.Changes.{IsTold, changed, is_copied, taken_from}
pub use Rattle.fault_replay.specs.Replays.{IsAlong, StepsBy, listed, Records, EndsPhase, SettlesDown, Follows, IsQuietBut, IsReplayFor, FitsRecord}
pub use Rattle.fault_replay.specs.declared.records.PhaseRecord.{PhaseRecord}
