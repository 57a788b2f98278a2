-- What most files of proofs name of what stands below, and of the definitions of this crate.
pub use Rattle.std.proofs.Common.{◌≡◌, ℕ, List, [], ◌∷◌, map, inl, inr, refl, subst, ◌≤◌, suc, length, ◌∙◌, ap, arith, sym, ◌++◌, zero, Bool, cond}
pub use Rattle.std.proofs.Common.{pos}
pub use Rattle.std.specs.Prelude.{◌+ℤ◌, sum_by, Option, Some, None, ℤ, find, if◌then◌else◌}
pub use Rattle.std.specs.List.{flat_map}
pub use Rattle.std.proofs.lemmas.Slice.Eq.{bytes_eq-Decides}
pub use Rattle.std.specs.Str.{bytes_eq}
pub use Rattle.std.proofs.lemmas.List.Elements.{All-contains}
pub use Rattle.finite_sets.specs.Lists.{In}
pub use Rattle.finite_sets.proofs.Members.{In-append_cases, In-map, In-map_source, In-index, Contains-from_In}
pub use Rattle.full_names.specs.ExtModel.declared.records.FetRec.{FetRec}
pub use Rattle.full_names.specs.ExtModel.declared.records.TermRec.{TermRec}
pub use Rattle.sim_records.specs.SimText.declared.files.SimFet.{SimFet}
pub use Rattle.sim_records.specs.Switches.{letter_of, switches_of}
pub use Rattle.finite_sets.proofs.Chains.{Chain-append, Chain-either_back}
pub use Rattle.finite_sets.proofs.Searches.{find-In, All-from_In}
pub use Rattle.full_names.specs.ExtModel.declared.circuits.Circuit.{Circuit}
pub use Rattle.full_names.specs.ExtModel.declared.records.NodeRec.{NodeRec}
pub use Rattle.full_names.specs.ExtModel.RecordNames.{names_of}
pub use Rattle.full_names.specs.CircuitModel.Elements.{Element, elements_of}
pub use Rattle.full_names.specs.CircuitModel.FullNames.{full_names, name_in, AreLinked, AreOneNode, AreInNameOrder}
pub use Rattle.full_names.specs.CircuitModel.FlatNodes.{AreFlatNodes, IsPlaced, gives_name, is_among}
pub use Rattle.sim_records.specs.SimRecords.{aliases_of, sim_of, cap_of}
pub use Rattle.sim_networks.specs.SwitchNet.SimRecords.{AreOfOneNode, IsAlias, SimRecords}
pub use Rattle.finite_sets.proofs.Images.{In-flat_map_source}
pub use Rattle.full_names.specs.ExtModel.declared.records.CellExt.{CellExt}
pub use Rattle.full_names.specs.ExtModel.Lawful.{IsLawful, IsLawfulFet}
pub use Rattle.full_names.specs.CircuitModel.FlatFets.{AreFlatFets, IsFlatFet, fets_in, fets_of, side_name}
pub use Rattle.full_names.specs.ExtModel.declared.records.UseRec.{UseRec}
pub use Rattle.finite_sets.specs.Total.{sum_on}
pub use Rattle.geo_core.specs.declared.squares.Square.{Square}
