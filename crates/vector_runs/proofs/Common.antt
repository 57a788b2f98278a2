-- What most files of proofs name of what stands below, and of the definitions of this crate.
pub use Rattle.std.proofs.Common.{◌≡◌, ℕ, List, [], ◌∷◌, ◌++◌, Bool, true, false, refl, sym, ap, subst, ◌∙◌, length, replicate, suc, ◌+◌, ◌<◌, ◌≤◌}
pub use Rattle.std.proofs.Common.{inl, inr, get_or, drop, arith, map, take, append_assoc}
pub use Rattle.std.specs.Prelude.{All, ◌↔◌, Some, None, codes}
pub use Rattle.std.proofs.lemmas.List.{length-set, same_lists, get_or_default, append-nil, take_more}
pub use Rattle.std.proofs.lemmas.List.Elements.{All-head, All-tail}
pub use Rattle.std.proofs.lemmas.Bool.{cases_Bool, cases_eq, false≢true}
pub use Rattle.std.proofs.lemmas.Slice.Eq.{bytes_eq-Decides}
pub use Rattle.std.specs.Str.{bytes_eq}
pub use Rattle.switch_net.specs.declared.switches.Level.{Level}
pub use Rattle.switch_net.specs.Network.{Network, IsSound}
pub use Rattle.switch_net.specs.Phase.{IsPhase}
pub use Rattle.vector_files.specs.declared.files.VecLine.{VecLine}
pub use Rattle.vector_files.specs.declared.files.VecLine.TheVariants.{Set, Free, Size, Phase, Show}
pub use Rattle.vector_files.specs.VectorFiles.{IsLineWithin}
pub use Rattle.switch_net.specs.Names.{HasName, NameOneNodeEach, NameNodesBelow}
pub use Rattle.switch_net.specs.declared.network.Net.{Net}
pub use Rattle.switch_net.specs.Net.{network_of}
pub use Rattle.switch_net.proofs.Sound.{sound_of}
pub use Rattle.switch_net.specs.Path.{is_input, state_of}
pub use Rattle.switch_net.specs.SimRecords.{AreStarts}
pub use Rattle.vector_files.specs.declared.files.Vectors.{Vectors}
pub use Rattle.vector_runs.specs.declared.replies.VecReply.{VecReply}
pub use Rattle.vector_runs.specs.Runs.{LineRuns, LinesRun, RunsPhase, Standing, phase_reply, with_input, shown_in}
pub use Rattle.vector_runs.specs.declared.stuck_faults.StuckFault.{StuckFault}
pub use Rattle.vector_runs.specs.declared.watching.Seen.{Seen}
pub use Rattle.vector_runs.specs.Watching.{LinesShow, counting, is_left_out}
pub use Rattle.vector_runs.specs.Running.{standing, watched}
