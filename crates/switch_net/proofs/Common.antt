-- What most files of proofs name of what stands below, and of the definitions of this crate.
pub use Rattle.std.proofs.Common.{◌≡◌, ◌≢◌, ℕ, zero, suc, add-one, ◌+◌, ◌-◌, ◌<◌, ◌≤◌, List, inl, inr, refl, sym, ap, arith, length, slice_index}
pub use Rattle.std.proofs.Common.{slice_index_or, slice_set, get_or-set_same, get_or-set_other, ◌∙◌, ◌⊎◌, Bool, true, false, subst, [], ◌∷◌}
pub use Rattle.std.proofs.lemmas.Bool.{cases_eq, cases_lt, cases_Bool}
pub use Rattle.std.proofs.lemmas.List.{get_or_default, same_lists}
pub use Rattle.std.proofs.Math.ListN.{length-set, get_or-eq_default}
pub use Rattle.std.specs.Prelude.{cond, Contains}
pub use Rattle.switch_net.specs.declared.switches.Switch.{Switch}
pub use Rattle.switch_net.specs.Network.{IsWithin, Network, IsSound}
pub use Rattle.switch_net.specs.Sorted.{earlier, total_to, ArePlaced}
pub use Rattle.switch_net.specs.Terminals.{node_at}
pub use Rattle.switch_net.specs.declared.switches.Level.{Level}
pub use Rattle.switch_net.specs.declared.switches.Level.TheVariants.{Zero, One, X}
pub use Rattle.switch_net.specs.Path.{is_input, state_of, Hop, Joins, IsPath, IsDefinite, IsBlocked, DefiniteTo, strength, switch_strength}
pub use Rattle.switch_net.specs.Path.{root_strength, end_of, is_closed_or_unknown}
pub use Rattle.switch_net.specs.Steady.{IsSteadyValue, IsStep, IsNextLevel}
