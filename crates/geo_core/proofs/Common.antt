-- What most files of proofs name of what stands below, and of the definitions of this crate.
pub use Rattle.std.proofs.Common.{◌≡◌, ℤ, pos, List, get_or, inl, inr, refl, arith, ◌-ℤ◌, ℕ, ◌*◌, ◌/◌, ◌%◌, ◌<◌, ◌+ℤ◌, length, Some, sym, ◌∙◌, ap}
pub use Rattle.std.proofs.Common.{to_z, of_z, subst, rules, ◌↔◌}
pub use Rattle.std.specs.Prelude.{AllPairs}
pub use Rattle.std.proofs.lemmas.Int.{ints, clamps, to_z-of_z}
pub use Rattle.std.specs.Int.{w64, int_min}
pub use Rattle.std.specs.Int.RustNames.{FitsSigned}
pub use Rattle.finite_sets.proofs.Members.{In-get_or}
pub use Rattle.geo_core.specs.declared.squares.Square.{Square}
pub use Rattle.geo_core.specs.declared.squares.Rect.{Rect}
pub use Rattle.geo_core.specs.declared.squares.Piece.{Piece}
pub use Rattle.geo_core.specs.Areas.{AreDisjoint, common_rect, joined_rect, LiesWithin}
pub use Rattle.geo_core.specs.Covering.{Covers, IsProper}
pub use Rattle.geo_core.specs.Strips.{StandsBefore, IsStrip}
pub use Rattle.geo_core.specs.declared.grids.Grid.{Grid}
pub use Rattle.geo_core.specs.Elements.{indices, elements_of, IsLawful}
pub use Rattle.geo_core.specs.declared.orients.Orient.{Orient}
pub use Rattle.geo_core.specs.declared.orients.Orient.TheVariants.{R0, R90, R180, R270, Mx, My, Mx90, My90}
pub use Rattle.geo_core.specs.declared.transforms.Transform.{Transform}
pub use Rattle.geo_core.specs.Neighbours.{AreEdgeNeighbours}
