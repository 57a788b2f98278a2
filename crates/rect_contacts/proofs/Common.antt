-- What most files of proofs name of what stands below, and of the definitions of this crate.
pub use Rattle.std.proofs.Common.{◌≡◌, ℤ, pos, ◌+ℤ◌, ◌-ℤ◌, ◌≤ℤ◌, ◌<ℤ◌, inl, inr, refl, sym, subst, arith, ◌⊎◌, ℕ, ◌<◌, ◌*ℤ◌, Bool, true, false, ◌&&◌}
pub use Rattle.std.proofs.Common.{List, [], ◌∷◌, map, length, get_or, ◌∙◌, ap, ◌≢◌, ◌+◌, Some, ◌++◌, take, zero, suc, drop, append_assoc, min, max}
pub use Rattle.std.proofs.Common.{of_z, rules, to_z}
pub use Rattle.std.specs.Int.{int_max, int_min, w64}
pub use Rattle.std.proofs.lemmas.Int.{ints, clamps, by_lt_z, to_z-of_z}
pub use Rattle.std.proofs.Math.IntN.{*ℤ-zero, zero-*ℤ}
pub use Rattle.std.proofs.lemmas.Bool.{cases_lt, false≢true}
pub use Rattle.std.specs.Prelude.{All, AllPairs, IsPermutation, IsSorted}
pub use Rattle.std.specs.declared.cmp.Ordering.{Ordering}
pub use Rattle.std.specs.Ordering.{is_lt, int_cmp, nat_cmp, ordering_then}
pub use Rattle.std.proofs.lemmas.Cmp.{int_cmp_total, nat_cmp_total, on_total, then_total}
pub use Rattle.std.proofs.lemmas.List.{get_or_default}
pub use Rattle.std.proofs.lemmas.List.Sorted.{IsPermutation-sym}
pub use Rattle.std.specs.BTreeMap.{get}
pub use Rattle.geo_core.specs.declared.squares.Square.{Square}
pub use Rattle.geo_core.specs.declared.squares.Rect.{Rect}
pub use Rattle.geo_core.specs.Covering.{Covers, IsProper, is_covered}
pub use Rattle.geo_core.specs.Areas.{AreDisjoint, IsNear, IsSmall}
pub use Rattle.geo_core.specs.FiniteSets.Lists.{In, Lists, Distinct}
pub use Rattle.geo_core.specs.FiniteSets.Total.{sum_on, one_if}
pub use Rattle.geo_core.specs.FiniteSets.Range.{pairs_of, extent}
pub use Rattle.geo_core.proofs.FiniteSets.Listings.{Lists-iff, Lists-append}
pub use Rattle.geo_core.proofs.FiniteSets.Members.{In-index, In-get_or, In-append_left, In-push, In-push_cases, In-permutation}
pub use Rattle.geo_core.proofs.FiniteSets.Pairs.{AllPairs-permutation}
pub use Rattle.rect_contacts.specs.Contacts.{shared_length, IsSharedEdge}
pub use Rattle.rect_contacts.specs.declared.contacts.Contact.{Contact}
pub use Rattle.rect_contacts.specs.Rects.{rect_at, no_rect}
pub use Rattle.rect_contacts.specs.declared.actives.Active.{Active}
pub use Rattle.rect_contacts.specs.declared.events.Event.{Event}
pub use Rattle.rect_contacts.specs.steps.Events.{pair_of, AreEvents, events_from}
pub use Rattle.rect_contacts.specs.Squares.{squares_of, edges_between}
pub use Rattle.rect_contacts.specs.declared.sides.Edge.{Edge}
pub use Rattle.rect_contacts.specs.declared.sides.Edge.TheVariants.{Left, Right, Bottom, Top}
pub use Rattle.rect_contacts.specs.declared.sides.Side.{Side}
pub use Rattle.rect_contacts.specs.steps.Sides.{side_of, AreSidesOf, AreOpposite, Meet, contact_of, IsMeeting}
