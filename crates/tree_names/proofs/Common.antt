-- What most files of proofs name of what stands below, and of the definitions of this crate.
pub use Rattle.std.proofs.Common.{ℕ, List, [], inl, inr, subst, ◌≡◌, if◌then◌else◌, ◌∷◌, refl, sym, ◌∙◌, ap, map, true, false, Bool, IsTrue, ◌++◌}
pub use Rattle.std.proofs.Common.{◌≢◌, suc, Option, arith}
pub use Rattle.std.specs.Prelude.{◌↔◌, Some}
pub use Rattle.std.proofs.lemmas.Bool.{cases_Bool, false≢true}
pub use Rattle.name_classes.specs.FiniteSets.Lists.{In, Distinct}
pub use Rattle.name_classes.proofs.FiniteSets.Chains.{Chain-append, Chain-either_back, Chain-one, Chain-through, Chain-map}
pub use Rattle.name_classes.specs.FiniteSets.OneForOne.{AreOneForOne}
pub use Rattle.hierarchy_model.specs.TechModel.declared.raw.RawTech.{RawTech}
pub use Rattle.hierarchy_model.specs.TechModel.Rules.{KeepsRules}
pub use Rattle.hierarchy_model.specs.TechModel.WellFormed.{IsWellFormed}
pub use Rattle.name_classes.specs.ExtModel.declared.records.CellExt.{CellExt}
pub use Rattle.name_classes.specs.ExtModel.declared.records.NodeRec.{NodeRec}
pub use Rattle.name_classes.specs.ExtModel.Paths.{full_name, last_name, path_text}
pub use Rattle.name_classes.specs.ExtModel.RecordNames.{names_of, node_names}
pub use Rattle.own_record_laws.specs.LayoutModel.Places.{Place}
pub use Rattle.name_classes.specs.CircuitModel.Elements.{Element, ext_of, elements_of}
pub use Rattle.name_classes.specs.CircuitModel.FullNames.{AreLinked, AreOneNode}
pub use Rattle.name_classes.proofs.FullNames.ListOrders.{pairwise_names}
pub use Rattle.own_record_laws.specs.TreeRecords.FlatLayouts.{HasNodePath, IsFlatName, HasNodePathBelow, AreOneFlatNode, HasOwnName, HasTextBelow}
pub use Rattle.own_record_laws.specs.TreeRecords.FlatLayouts.{HasTextSomewhere, flat_layout, AreFlatLinked}
pub use Rattle.own_record_laws.specs.TreeRecords.NamedTrees.{NamedTree, named_standings, NamedElements, OwnBody, layouts_below, NamedStanding}
pub use Rattle.own_record_laws.specs.TreeRecords.NamedTrees.{named_standings_below, named_above, place_forth, layouts_of}
pub use Rattle.own_record_laws.specs.TreeRecords.TreeRecords.{HasTreeRecords, HaveTreeRecords, HasTreeRecord, IsTreeRecord}
pub use Rattle.name_classes.specs.GeoCore.declared.transforms.Transform.{Transform}
pub use Rattle.hierarchy_model.specs.LayoutModel.FlatSets.{AreTyped, IsTyped}
pub use Rattle.hierarchy_model.specs.CleanCells.{AreClean, IsClean}
pub use Rattle.own_record_laws.specs.TreeRecords.NamedTrees.NamedTree.{named_tree}
pub use Rattle.own_record_laws.specs.TreeRecords.NamedTrees.NamedElements.{element_then, no_more}
pub use Rattle.name_classes.proofs.FiniteSets.Members.{In-map, In-map_source, In-append_cases}
pub use Rattle.name_classes.specs.ExtModel.NodeNames.{is_global, is_node_name, slashes_in}
pub use Rattle.name_classes.proofs.ExtModel.PathNames.{last_name-behind, last_name-whole}
pub use Rattle.name_classes.proofs.FiniteSets.Images.{In-flat_map, In-flat_map_source}
pub use Rattle.hierarchy_model.specs.LayoutModel.CellTrees.{place_back}
pub use Rattle.own_record_laws.specs.TreeRecords.FetRecords.{IsNoLaterName, IsOfNode}
pub use Rattle.name_classes.proofs.ExtModel.RecordNameLaws.{slashes_in-node_name}
pub use Rattle.own_record_laws.proofs.CellNodes.NodePlaces.{AreOneNamedNode-sym}
pub use Rattle.own_record_laws.proofs.TreeRecords.MoveLaws.{above_from_back, back_from_above}
pub use Rattle.name_classes.specs.FiniteSets.Chain.{Chain}
pub use Rattle.own_record_laws.specs.LayoutModel.Layouts.{IsMaterial}
pub use Rattle.own_record_laws.specs.TreeRecords.MemberGroups.{IsGroupName, IsMemberAt, AreOneGroup, AreOneGroupBelow, IsMemberBelow}
pub use Rattle.own_record_laws.specs.LayoutModel.LayerTypes.{HasTypesOf, or_space}
pub use Rattle.own_record_laws.proofs.PreferredNames.{later_both_ways, recorded, preferred_is_first}
pub use Rattle.name_classes.specs.FiniteSets.Chain.Chain.{stay}
pub use Rattle.own_record_laws.specs.Names.NamedNodes.{AreOneNamedNode}
pub use Rattle.name_classes.specs.GeoCore.declared.squares.Square.{Square}
pub use Rattle.own_record_laws.proofs.NameForms.{name_form}
pub use Rattle.tree_names.specs.CleanTrees.{IsCleanTree, HaveElementNames, ids_in}
pub use Rattle.tree_names.specs.TreeElements.{IsElementFor}
pub use Rattle.tree_names.specs.PathLinks.{ArePathsJoined, ArePathsJoinedBelow, GroupHasPath}
