-- What most files of proofs name of what stands below, and of the definitions of this crate.
pub use Rattle.std.proofs.Common.{◌≡◌, ◌<◌, ℕ, Bool, true, false, inl, inr, List, [], length, map, get_or, refl, sym, ◌∙◌, ap, subst, arith, ◌⊎◌}
pub use Rattle.std.proofs.Common.{◌==◌, cond, ◌++◌, ◌+◌, ◌∷◌, take, length-append, append_assoc, suc, zero}
pub use Rattle.std.specs.Prelude.{Option, Some, None, slice_get, find, if◌then◌else◌}
pub use Rattle.std.specs.Str.{bytes_eq}
pub use Rattle.std.proofs.lemmas.Slice.Eq.{bytes_eq-Decides}
pub use Rattle.std.proofs.lemmas.Bool.{cases_Bool, cases_lt}
pub use Rattle.std.proofs.lemmas.Option.{slice_get_within, slice_get_read, get_or_from_slice_get, slice_get-get_or, slice_get-map}
pub use Rattle.std.specs.Option.{option_map}
pub use Rattle.std.proofs.lemmas.List.Sums.{sum_by-cons}
pub use Rattle.full_names.specs.ElementTree.declared.tree.ElementTree.{ElementTree}
pub use Rattle.partition.specs.FiniteSets.Lists.{Distinct, In}
pub use Rattle.partition.proofs.FiniteSets.Places.{In-slice_get, slice_get-In, slice_get-one, one_place, slice_get-below, take-slice_get}
pub use Rattle.ext_model.specs.declared.records.UseRec.{UseRec}
pub use Rattle.ext_model.specs.declared.records.CellExt.{CellExt}
pub use Rattle.full_names.specs.ElementTree.Trees.{branches_of}
pub use Rattle.full_names.specs.declared.names.FullNames.{FullNames}
pub use Rattle.full_names.specs.Names.{IsReached, AreNames, IsElement, elements_in, HasSpot, GivesName, IsSpotOf, LacksName}
pub use Rattle.partition.proofs.FiniteSets.Members.{In-append_left, In-append_right, In-append_cases, In-push_cases}
pub use Rattle.partition.proofs.FiniteSets.Images.{In-flat_map}
pub use Rattle.ext_model.specs.declared.records.NodeRec.{NodeRec}
pub use Rattle.ext_model.specs.declared.records.MergeRec.{MergeRec}
pub use Rattle.ext_model.specs.RecordNames.{names_of, node_names}
pub use Rattle.circuit_model.specs.Elements.{Element, ids_of, ext_of}
pub use Rattle.circuit_model.specs.FullNames.{name_in}
pub use Rattle.full_names.specs.ElementTree.declared.tree.TreeElement.{TreeElement}
pub use Rattle.ext_model.specs.NodeNames.{slashes_in}
pub use Rattle.circuit_model.specs.declared.faults.FlatFault.{FlatFault}
pub use Rattle.circuit_model.specs.declared.faults.FlatFault.TheVariants.{Memory}
pub use Rattle.full_names.specs.declared.names.Spot.{Spot}
pub use Rattle.ext_model.proofs.RecordNameLaws.{is_node_name-lawful, slashes_in-node_name}
pub use Rattle.ext_model.specs.declared.names.TheConstants.{SLASH}
pub use Rattle.name_classes.specs.declared.tables.UseTable.{UseTable}
pub use Rattle.name_classes.specs.declared.paths.Resolver.{Resolver}
pub use Rattle.name_classes.specs.steps.UseTables.{number_of, IsTableOf, AreUseTables}
pub use Rattle.name_classes.specs.steps.Paths.{IsResolver, IsBranchOf, LacksUse, EndsThere, IsEndFrom, IsNameOf, IsSplit}
pub use Rattle.name_classes.specs.declared.classes.MergeEnd.{MergeEnd}
pub use Rattle.name_classes.specs.declared.links.Link.{Link}
pub use Rattle.name_classes.specs.declared.links.RecordLinks.{RecordLinks}
pub use Rattle.name_classes.specs.Classes.{AreLabels, IsPathFaultOf}
pub use Rattle.name_classes.specs.steps.Links.{IsLink, HasLink, IsGlobalName, IsNear, HasLinks, AreAllLinks, AreFirsts, IsLinkIn, AreLinksOf}
pub use Rattle.name_classes.specs.steps.Links.{HasRecord, AreMergeLinks, IsMergeFault, AreNodeLinks}
pub use Rattle.name_classes.specs.steps.Joins.{AreJoined, once_at, AddsJoins}
