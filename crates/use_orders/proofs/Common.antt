-- What most files of proofs name of what stands below, and of the definitions of this crate.
pub use Rattle.std.proofs.Common.{◌≡◌, ℕ, ◌<◌, ◌≤◌, Bool, true, false, List, [], ◌∷◌, ◌⊎◌, inl, inr, refl, arith, subst, sym, length, take}
pub use Rattle.std.proofs.Common.{slice_index, ◌∙◌, ◌+◌, ◌++◌, drop, ◌≢◌, slice_set, get_or-set_same, get_or-set_other, append_assoc, ap, ◌-◌}
pub use Rattle.std.proofs.lemmas.Bool.{cases_lt, cases_eq}
pub use Rattle.std.specs.Prelude.{IfSome, IsSomeAnd, reverse, Vec}
pub use Rattle.std.specs.List.{range_with_len}
pub use Rattle.std.proofs.lemmas.List.FromFn.{length-range_with_len, get_or-range_with_len}
pub use Rattle.std.proofs.lemmas.List.{length-append, get_or_append_left, get_or_push, length-set}
pub use Rattle.std.specs.Global.{Global}
pub use Rattle.std.proofs.lemmas.Result.{on_ok_weaker}
pub use Rattle.finite_sets.specs.Chain.{Chain}
pub use Rattle.finite_sets.specs.Chain.Chain.{stay, go}
pub use Rattle.finite_sets.specs.Lists.{In, Distinct}
pub use Rattle.finite_sets.proofs.Chains.{Chain-carries, Chain-append, Chain-push}
pub use Rattle.finite_sets.proofs.Distincts.{Distinct-places, Distinct-push}
pub use Rattle.finite_sets.proofs.Members.{In-index, In-get_or, In-append_left, In-append_right, In-append_cases, In-push_cases, In-push}
pub use Rattle.finite_sets.proofs.Places.{In-take}
pub use Rattle.use_orders.specs.NewCells.{IsOwnDescendant, IsChildrenFirst}
pub use Rattle.use_orders.specs.Uses.{UsesCell, UsesNewCell, IsDescendant, AreBehindChildren, used_by, AreCells}
pub use Rattle.use_orders.specs.LibraryOrder.{Visits, IsLibraryOrder}
pub use Rattle.use_orders.specs.steps.Walks.{HasCycle, listed_by, WalkState, walk_mark, with_open, one_further, after_meeting, after_listing}
pub use Rattle.use_orders.specs.steps.Walks.{after_following, IsWalking, Continues, cells_of, IsAtRest, IsThorough, HasVisited, AreMutual, IsLater}
pub use Rattle.use_orders.specs.steps.Walks.{LeadsToOpen, work_left, walk_state}
pub use Rattle.use_orders.specs.declared.walk.Mark.{Mark}
pub use Rattle.use_orders.specs.declared.walk.Mark.TheVariants.{Unmet, Open, Listed}
pub use Rattle.use_orders.specs.declared.walk.OpenCell.{OpenCell}
pub use Rattle.use_orders.specs.LibraryOrder.Visits.{none, again, anew}
pub use Rattle.use_orders.specs.steps.Searches.{IsSearched, lists_of}
