-- What most files of proofs name of what stands below, and of the definitions of this crate.
pub use Rattle.std.proofs.Common.{◌≡◌, ℕ, zero, suc, ◌<◌, ◌≤◌, List, [], ◌∷◌, length, inl, inr, refl, ap, subst, arith, ℤ, ◌+◌, Bool, true, false}
pub use Rattle.std.proofs.Common.{cond, ◌++◌, get_or, take, map, sym, ◌∙◌, Some}
pub use Rattle.std.proofs.lemmas.Bool.{cases_eq, cases_lt, cases_order}
pub use Rattle.std.specs.Str.{bytes_eq}
pub use Rattle.std.proofs.lemmas.Slice.Eq.{bytes_eq-Decides}
pub use Rattle.std.proofs.lemmas.List.{map_more, take_more, take_all}
pub use Rattle.std.specs.Prelude.{All, zip}
pub use Rattle.std.proofs.lemmas.Option.{slice_get_within, get_or_from_slice_get}
pub use Rattle.finite_sets.specs.Lists.{In, Distinct}
pub use Rattle.finite_sets.proofs.Members.{In-index, In-append_left, In-get_or, In-append_right, In-map}
pub use Rattle.finite_sets.proofs.Searches.{All-from_In}
pub use Rattle.switch_net.specs.Names.{HasName, NameNodesBelow, NameOneNodeEach}
pub use Rattle.switch_net.specs.SimRecords.{AreOfOneNode, SimRecords, names_of, names_of_aliases, names_of_transistors, AreTransistors, IsNetworkOf}
pub use Rattle.sim_text.specs.declared.files.SimFet.{SimFet}
pub use Rattle.sim_text.specs.declared.files.SimFile.{SimFile}
pub use Rattle.switch_net.specs.declared.switches.Switch.{Switch}
pub use Rattle.switch_net.specs.Network.{Network, IsWithin}
pub use Rattle.finite_sets.specs.Least.{IsLeast}
pub use Rattle.partition.specs.Divides.{Divides, IsPair}
pub use Rattle.name_index.proofs.Positions.{stands_nowhere}
pub use Rattle.switch_net.specs.Net.{network_of}
pub use Rattle.switch_net.proofs.Sound.{sound_of}
pub use Rattle.sim_networks.specs.steps.Numbering.{AreNodesOf, AddsNames, IsTableOf, names_with_nodes, number_in, numbers_in, HasTerminals}
pub use Rattle.sim_networks.specs.declared.names.NodeNames.{NodeNames}
pub use Rattle.sim_networks.specs.SimNetworks.{transistor_of, records_of, IsNumberedByCaps, StandsAt}
pub use Rattle.sim_networks.specs.declared.nodes.NodeTable.{NodeTable}
