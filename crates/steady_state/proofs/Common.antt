-- What most files of proofs name of what stands below, and of the definitions of this crate.
pub use Rattle.std.proofs.Common.{◌≡◌, ℕ, ◌+◌, ◌<◌, ◌≤◌, List, [], ◌∷◌, Bool, true, inl, inr, refl, sym, ap, subst, arith, length, ◌∙◌, slice_index}
pub use Rattle.std.proofs.Common.{slice_index_or, ◌≢◌, slice_set, get_or-set_same, get_or-set_other, add-one, false, take, get_or-take, ◌⊎◌, min}
pub use Rattle.std.proofs.Common.{◌++◌, suc, ◌-◌, drop, replicate, ◌*◌}
pub use Rattle.std.specs.Prelude.{Contains, IfSome}
pub use Rattle.std.proofs.lemmas.Bool.{cases_eq, cases_Bool, cases_lt}
pub use Rattle.std.proofs.lemmas.List.{get_or_default, length-take-le}
pub use Rattle.std.proofs.lemmas.List.Elements.{Contains-get_or}
pub use Rattle.switch_net.specs.declared.node_set.NodeSet.{NodeSet}
pub use Rattle.switch_net.specs.declared.switches.Level.{Level}
pub use Rattle.switch_net.specs.declared.switches.Switch.{Switch}
pub use Rattle.switch_net.specs.declared.terminals.Side.{Side}
pub use Rattle.switch_net.specs.declared.terminals.Side.TheVariants.{Left, Right}
pub use Rattle.switch_net.specs.Network.{Network, IsSound}
pub use Rattle.switch_net.specs.Path.{Hop, end_of, is_closed_or_unknown, state_of, is_input, Joins, switch_strength, root_strength, strength}
pub use Rattle.switch_net.specs.Sets.{IsInside, IsAmong}
pub use Rattle.switch_net.specs.Terminals.{near_end, far_end, node_at}
pub use Rattle.switch_net.specs.Vicinity.{IsStorage, IsChain, IsReached, IsInVicinity}
pub use Rattle.switch_net.proofs.Listing.{count-le, none_inside, known}
pub use Rattle.switch_net.proofs.Vicinities.{in_more, in_self, chain_from}
pub use Rattle.switch_net.specs.declared.switches.Level.TheVariants.{One, Zero, X}
pub use Rattle.switch_net.proofs.Ranges.{root_strength-pos, ends_in_range, level_cases}
pub use Rattle.switch_net.specs.Phase.{Steps, Rounds, NoneRests}
pub use Rattle.switch_net.specs.Steady.{IsStep, IsSteadyValue, IsNextLevel}
pub use Rattle.switch_net.specs.FiniteSets.Lists.{In}
pub use Rattle.switch_net.specs.declared.terminals.Terminal.{Terminal}
pub use Rattle.switch_net.specs.declared.terminals.Terminal.TheVariants.{Gate, End}
pub use Rattle.switch_net.proofs.Counting.{no_switch}
pub use Rattle.steady_state.specs.Marked.{AreMarked, AddsMarks, AreReached, IsCovered, LeadsInside, EndsInside, IsGated, IsQuiet, IsRestedBut}
pub use Rattle.steady_state.specs.Marked.{IsTouched}
pub use Rattle.steady_state.specs.declared.kinds.PathKind.{PathKind}
pub use Rattle.steady_state.specs.declared.kinds.PathKind.TheVariants.{Definite, FromOther}
pub use Rattle.steady_state.specs.steps.Gathering.{AreGathering, AreGatheredAt, AreMore, BringAtMost}
pub use Rattle.steady_state.specs.steps.Kinds.{IsFloor, HasPath, goes_through}
pub use Rattle.steady_state.specs.steps.Spreading.{IsFirstStrength, IsRelaxed, IsWorking, IsRaised, total}
pub use Rattle.steady_state.specs.steps.Strongest.{IsStrongestDefinite}
pub use Rattle.steady_state.specs.Levels.{IsLevelOf, AreSteady, KeepsOthers, AreReadyFor}
pub use Rattle.steady_state.specs.declared.part.Part.{Part}
pub use Rattle.steady_state.specs.steps.Parts.{IsInPart, IsPartOf, floors_in}
pub use Rattle.steady_state.specs.steps.Rounds.{AreMadeX, IsRoundDue}
pub use Rattle.steady_state.specs.steps.Wired.{network_in, sorted_at}
pub use Rattle.steady_state.specs.steps.Passing.{IsOver}
