-- What most files of proofs name of what stands below, and of the definitions of this crate.
pub use Rattle.std.proofs.Common.{◌≡◌, ◌⊎◌, ℕ, ◌<◌, List, [], ◌++◌, inl, inr, length, refl, sym, ◌∙◌, ap, subst, ◌+◌, ◌∷◌, map, take, get_or, zero}
pub use Rattle.std.proofs.Common.{suc, ◌*◌, ◌≤◌, Some, arith, ℤ, rules, ◌^◌}
pub use Rattle.std.specs.Prelude.{slice_set, All, slice_get}
pub use Rattle.std.proofs.lemmas.List.{take_more, take_all}
pub use Rattle.std.proofs.lemmas.Int.{ints, to_z-of_z}
pub use Rattle.std.proofs.lemmas.Result.{err_from_is_err_and}
pub use Rattle.std.specs.Int.{w128}
pub use Rattle.std.specs.Int.RustNames.{FitsSigned}
pub use Rattle.finite_sets.specs.Lists.{In}
pub use Rattle.finite_sets.proofs.Members.{In-append_cases, In-append_left, In-append_right, In-get_or}
pub use Rattle.geo_core.specs.declared.squares.Rect.{Rect}
pub use Rattle.geo_core.specs.declared.transforms.Transform.{Transform}
pub use Rattle.geo_core.specs.Images.{composed, rect_image, identity}
pub use Rattle.cif_model.specs.Cifs.{IsLawfulItem, CifParts}
pub use Rattle.cif_model.specs.declared.cifs.CifItem.{CifItem}
pub use Rattle.cif_model.specs.declared.cifs.CifMove.{CifMove}
pub use Rattle.cif_model.specs.Meanings.{moved}
pub use Rattle.cif_model.specs.Sizes.{size_of}
pub use Rattle.geo_core.specs.declared.orients.Orient.{Orient}
pub use Rattle.geo_core.proofs.ImageLaws.{across, upward, point_x_at, point_y_at}
pub use Rattle.cif_expansion.specs.steps.Drawings.{list_at, AreAdded, IsBoxOf, IsCallOf, IsDrawn, LeavesRange}
pub use Rattle.cif_expansion.specs.Reach.{LiesInRange, MovesWithin, call_reach, chain_reach, IsAtMost}
pub use Rattle.cif_expansion.specs.Expansions.{StandsOutside}
pub use Rattle.cif_expansion.specs.steps.CappedSizes.{capped}
