-- What most files of proofs name of what stands below, and of the definitions of this crate.
pub use Rattle.std.proofs.Common.{◌≡◌, ◌↔◌, ◌⊎◌, inl, inr, ℕ, zero, suc, ◌+◌, ◌<◌, ◌≤◌, Bool, true, false, List, [], ◌∷◌, ◌++◌, length, get_or}
pub use Rattle.std.proofs.Common.{slice_index_or, slice_set, refl, sym, ap, ◌∙◌, arith, subst, Some, slice_get, None, Contains, ◌≢◌, ◌-◌, take}
pub use Rattle.std.proofs.Common.{replicate, map, Option, slice_index, ◌*◌, ℤ, ◌≤ℤ◌, drop, max, Vec, Global, rules, All, vec_capacity}
pub use Rattle.std.proofs.lemmas.Bool.{cases_eq, cases_lt, cases_Bool, eqb-true, eq-eqb, ne_eqb, both_ways, cond-true}
pub use Rattle.std.proofs.lemmas.List.{get_or-set_same, get_or-set_other, length-append, get_or_append_left, get_or_at, get_or_past, length-set}
pub use Rattle.std.proofs.lemmas.List.{ext_get_or, length-map, with_items_is}
pub use Rattle.std.specs.Option.{option_map_or, option_map, option_to_list}
pub use Rattle.std.proofs.lemmas.Option.{slice_get_within, slice_get_past, slice_get-get_or, same_Some, slice_get-map}
pub use Rattle.std.proofs.lemmas.Int.{ints, clamps}
pub use Rattle.std.proofs.Math.Nat.{mul-le-mul_right}
pub use Rattle.std.specs.Int.{int_min, int_max}
pub use Rattle.std.specs.Prelude.{insert, remove, nat_eq, if◌then◌else◌}
pub use Rattle.std.specs.Vec.{with_items}
pub use Rattle.std.proofs.lemmas.Result.{IfOk-at_ok, on_ok_weaker}
pub use Rattle.std.specs.HashSet.{spare}
pub use Rattle.geo_core.specs.FiniteSets.Chain.{stay, go}
pub use Rattle.geo_core.proofs.FiniteSets.Places.{slice_get-push_cases, slice_get-append_left, slice_get-append_front, slice_get-push_new}
pub use Rattle.geo_core.proofs.FiniteSets.Places.{slice_get-set_same, slice_get-set_other}
pub use Rattle.geo_core.specs.FiniteSets.Lists.{In}
pub use Rattle.use_orders.specs.Uses.{AreCells, IsAcyclicBelow}
pub use Rattle.geo_core.specs.declared.grids.Grid.{Grid}
pub use Rattle.geo_core.specs.declared.orients.Orient.{Orient}
pub use Rattle.geo_core.specs.declared.orients.Orient.TheVariants.{R0}
pub use Rattle.geo_core.specs.declared.squares.Rect.{Rect}
pub use Rattle.geo_core.specs.declared.transforms.Transform.{Transform}
pub use Rattle.geo_core.proofs.SquareLaws.{rect_is}
pub use Rattle.geo_core.proofs.ImageLaws.{transform_of}
pub use Rattle.indexmap.specs.IndexSet.{insert_key}
pub use Rattle.cell_tree.specs.declared.cells.TreeCell.{TreeCell}
pub use Rattle.cell_tree.specs.declared.sizes.Size.{Size}
pub use Rattle.cell_tree.specs.Sizes.{size_at, CellState, no_size, IsWithin, AreUsesBelow, AreAlike, AreSizes, IsHullInRange, grown, with_or_without}
pub use Rattle.cell_tree.specs.Cells.{users_of, state_of, states, Uses, KnowUsers, IsAbove}
pub use Rattle.cell_tree.specs.Above.{IsUserOf, IsReached, at, StandsBefore, StandsIn, EndsWith, IsSeen, unseen, ComesAfterUsers, Adds, IsRanked}
pub use Rattle.cell_tree.specs.declared.limits.TheConstants.{MOST_USES}
pub use Rattle.cell_tree.specs.declared.size_books.SizeBook.{SizeBook}
pub use Rattle.cell_tree.specs.declared.sizes.Dimension.{Dimension}
pub use Rattle.cell_tree.specs.declared.sizes.Dimension.TheVariants.{Depth, Elements, Hull}
pub use Rattle.cell_tree.specs.Trees.{empty_cell, stamp_at, IsLawfulCell, cell_at, IsLawfulTree, Tree, with_inserted, with_moved, with_use_set}
pub use Rattle.cell_tree.specs.Trees.{with_uses, without_use, RefusesMove, WouldPass, with_own, IsEdited, RefusesBox, WouldKeepWithin}
pub use Rattle.cell_tree.specs.Books.{IsReady, SaysTheSame, ListsAbove, AreLawful, IsBooked}
pub use Rattle.cell_tree.specs.Whole.{IsWhole, tree_of}
pub use Rattle.cell_tree.specs.Trials.{SetsDimension, ComesBefore, AreLawfulCells, IsTried, AreLawfulSizes, AreSettledBut, IsDone, StopsIn, FitsIn}
pub use Rattle.cell_tree.specs.Trials.{PassesFirst}
pub use Rattle.cell_tree.specs.Arrivals.{IsNewOrder, AreSettled, AreKept, AreBehind, HaveOwnIds, KnowUsersTo}
pub use Rattle.cell_tree.specs.Additions.{AreAdded, children_of, new_states}
pub use Rattle.cell_tree.specs.declared.use_tables.UseBody.{UseBody}
pub use Rattle.cell_tree.specs.Hulls.{IsInside, displaced, element_hulls, round_both, round_all, way_of, spread_area, IsPaintable}
pub use Rattle.cell_tree.specs.Uses.{displacements, HasIdAt, with_use_at, IsShift, IsLawfulGrid, HasChild, IsLawfulUse, UseList}
pub use Rattle.cell_tree.specs.declared.faults.TreeFault.TheVariants.{Passed}
pub use Rattle.cell_tree.specs.steps.Edits.{AreUsersKept, knows, AreUsersBut}
pub use Rattle.cell_tree.specs.steps.Passes.{WouldPassFirst, IsPass}
