-- What most files of proofs name of what stands below, and of the definitions of this crate.
pub use Rattle.std.proofs.Common.{Bool, List, inl, inr, sym, subst, ℕ, ℤ, ◌-ℤ◌, map, refl, ◌∙◌, IsTrue, ◌≡◌, ◌≢◌, ◌+◌, ◌⊎◌, ◌+ℤ◌, [], ◌∷◌, length}
pub use Rattle.std.proofs.Common.{ap, arith, suc, zero, slice_get}
pub use Rattle.std.proofs.lemmas.Bool.{cases_eq}
pub use Rattle.std.proofs.lemmas.Int.{ints}
pub use Rattle.std.specs.Prelude.{Some}
pub use Rattle.tech_model.specs.GeoCore.declared.squares.Square.{Square}
pub use Rattle.tech_model.specs.declared.raw.RawTech.{RawTech}
pub use Rattle.finite_sets.specs.Lists.{Distinct, Lists, In}
pub use Rattle.finite_sets.specs.Total.{sum_on, Total}
pub use Rattle.tech_model.specs.Rules.{KeepsRules}
pub use Rattle.tech_model.specs.WellFormed.{IsWellFormed}
pub use Rattle.tree_names.specs.LayoutModel.Places.{Place}
pub use Rattle.finite_sets.proofs.Chains.{Chain-append, Chain-one, Chain-carries}
pub use Rattle.meeting_laws.specs.TreeRecords.NamedTrees.NamedTree.{named_tree}
pub use Rattle.tech_model.specs.GeoCore.declared.transforms.Transform.{Transform}
pub use Rattle.tree_names.specs.LayoutModel.Layouts.{Layout, IsMaterial}
pub use Rattle.tree_names.specs.LayoutModel.CellTrees.{place_back}
pub use Rattle.tech_model.specs.Types.{connects}
pub use Rattle.tree_names.specs.LayoutModel.Links.{AreLinked}
pub use Rattle.tree_names.specs.LayoutModel.FlatSets.{sets_in, IsTyped, flat_sets}
pub use Rattle.tree_names.specs.Names.NamedNodes.{AreOneNamedNode}
pub use Rattle.meeting_laws.specs.Offences.Offences.{SetLayout}
pub use Rattle.meeting_laws.specs.HierarchyModel.CleanCells.{IsClean, AreClean}
pub use Rattle.meeting_laws.specs.HierarchyModel.Restrictions.{PartStands, IsRestriction}
pub use Rattle.meeting_laws.specs.TreeRecords.NamedTrees.{NamedTree, NamedElements, OwnBody, layouts_of, layouts_below}
pub use Rattle.meeting_laws.specs.TreeRecords.FlatLayouts.{flat_layout}
pub use Rattle.meeting_laws.specs.TreeRecords.MemberGroups.{AreOneGroupBelow, IsMemberAt, AreOneGroup}
pub use Rattle.meeting_laws.specs.PartLayouts.{parts_layout, part_layout}
pub use Rattle.tree_names.specs.TreeRecords.FetRecords.{IsOfNode}
pub use Rattle.meeting_laws.specs.TreeRecords.NamedTrees.NamedElements.{no_more, element_then}
pub use Rattle.tree_names.specs.ExtModel.Paths.{path_text}
pub use Rattle.meeting_laws.proofs.PartLinks.{link_of_same}
pub use Rattle.group_meetings.specs.TreeRecords.PlaceWeights.{PlaceWeight, AreMemberTotals, IsAdjustment}
pub use Rattle.group_meetings.specs.MeetingLaws.Laws.{IsCountedWithin}
pub use Rattle.group_meetings.specs.TreeRecords.MemberGroups.{IsGroupName}
pub use Rattle.group_meetings.specs.TreeNames.CleanTrees.{IsCleanTree}
pub use Rattle.group_meetings.specs.Members.{tree_parts, PartsHaveMembers, IsMemberOfPart, IsMemberOfElement}
pub use Rattle.group_meetings.specs.AdjustmentLaws.{AreMembersOf}
