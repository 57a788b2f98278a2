-- What most files of proofs name of what stands below, and of the definitions of this crate.
pub use Rattle.std.proofs.Common.{◌≡◌, ℕ, zero, suc, ◌+◌, Some, List, [], ◌∷◌, ◌++◌, length, get_or, map, inl, inr, refl, sym, ◌∙◌, ap, subst, arith}
pub use Rattle.std.proofs.Common.{append_assoc, ◌⊎◌, ◌<◌, Bool, true, false, Option, None, take, cond, ◌≤◌, ◌-◌, length-append, reverse, All, max}
pub use Rattle.std.proofs.Common.{set, drop, ◌==◌, ◌≢◌, rules}
pub use Rattle.std.specs.List.{flat_map, list_any, position, sum_by, slice_get, range_with_len}
pub use Rattle.std.proofs.lemmas.List.{append-nil, length-map, map-append, length-reverse, get_or_read, take_more, get_or-set_same, get_or-set_other}
pub use Rattle.std.proofs.lemmas.List.{reverse-append, get_or-map, get_or_default, length-set}
pub use Rattle.std.proofs.lemmas.Option.{slice_get-get_or, slice_get_within, slice_get_read, get_or_from_slice_get}
pub use Rattle.std.specs.Str.{bytes_eq}
pub use Rattle.std.proofs.lemmas.Slice.Eq.{bytes_eq-Decides}
pub use Rattle.std.proofs.lemmas.Bool.{cases_lt, eqb-true}
pub use Rattle.std.proofs.lemmas.List.Sums.{sum_by-cons, sum-map, sum_by_more}
pub use Rattle.std.specs.Option.{option_or, option_map}
pub use Rattle.std.proofs.lemmas.List.FromFn.{length-range_with_len, get_or-range_with_len, fill_by_all}
pub use Rattle.std.specs.declared.cmp.Ordering.{Ordering}
pub use Rattle.std.specs.declared.cmp.Ordering.TheVariants.{Less, Equal, Greater}
pub use Rattle.std.specs.Ordering.{nat_cmp, ordering_then, is_lt, ordering_reverse}
pub use Rattle.std.specs.Cmp.Lexicographic.{slice_cmp}
pub use Rattle.std.specs.List.Sorted.{IsSorted}
pub use Rattle.std.proofs.lemmas.Grind.{common_steps}
pub use Rattle.std.specs.Prelude.{IsPermutation}
pub use Rattle.name_index.specs.FiniteSets.Lists.{In, Distinct}
pub use Rattle.geo_core.specs.declared.squares.Square.{Square}
pub use Rattle.ext_model.specs.declared.records.UseRec.{UseRec}
pub use Rattle.ext_model.specs.declared.records.CellExt.{CellExt}
pub use Rattle.ext_model.specs.NameParts.{path_length, element_cmp}
pub use Rattle.circuit_model.specs.Elements.{ext_of, AreRecords}
pub use Rattle.name_index.proofs.FiniteSets.Distincts.{Distinct-append_left, Distinct-append_apart, Distinct-places, length-distinct}
pub use Rattle.name_index.proofs.FiniteSets.Members.{In-get_or}
pub use Rattle.name_index.proofs.FiniteSets.Images.{In-reverse, In-reverse_source}
pub use Rattle.name_index.proofs.FiniteSets.Places.{slice_get-below, In-slice_get}
pub use Rattle.name_index.proofs.FiniteSets.Searches.{All-In}
pub use Rattle.circuit_model.specs.declared.limits.TheConstants.{LONGEST_CHAIN, MOST_FLAT_ELEMENTS}
pub use Rattle.circuit_model.specs.Refusals.{greatest}
pub use Rattle.ext_model.specs.declared.names.TheConstants.{SLASH}
pub use Rattle.circuit_model.specs.declared.faults.FlatFault.{FlatFault}
pub use Rattle.element_tree.specs.declared.tree.Branch.{Branch}
pub use Rattle.element_tree.specs.declared.tree.TreeElement.{TreeElement}
pub use Rattle.element_tree.specs.Trees.{branches_of, IsTreeOf}
pub use Rattle.element_tree.specs.steps.Links.{Link, links_from, flats_below}
pub use Rattle.element_tree.specs.Sizes.{Fits, value_at, chain_from, size_from, AreMeasured, AreMeasuredIn}
pub use Rattle.element_tree.specs.steps.Rooms.{AreForest, MovesByAtMost, AreInSteps, HasRoom}
pub use Rattle.element_tree.specs.steps.Goals.{cells_of, found_goals, goals_in, goal_graph, IsUseOf, IsNamedFault}
pub use Rattle.element_tree.specs.declared.graph.RecordGraph.{RecordGraph}
pub use Rattle.element_tree.specs.Graphs.{LeadTo, AreDone, IsGraphOf, children_of}
pub use Rattle.element_tree.specs.steps.Forests.{AreSteps, AreBranchesOf, AreBranches, lesser}
pub use Rattle.element_tree.specs.declared.faults.UsePlace.{UsePlace}
pub use Rattle.element_tree.specs.declared.faults.WalkFault.{WalkFault}
pub use Rattle.element_tree.specs.declared.faults.WalkFault.TheVariants.{NoCell as NoCellAt, Cycle as CycleAt, Memory as NoMemory, NoCell, Cycle}
pub use Rattle.element_tree.specs.steps.Walks.{Graph, uses_of, IsGraph, IsOrder, walk_fault as number_fault}
pub use Rattle.element_tree.specs.steps.RankSteps.{size_at, HaveRankSteps}
pub use Rattle.element_tree.specs.declared.walks.Mark.{Mark}
pub use Rattle.element_tree.specs.declared.walks.Mark.TheVariants.{New, Open, Done}
pub use Rattle.element_tree.specs.steps.UnderWay.{mark_of, uses_left, IsUnderWay}
