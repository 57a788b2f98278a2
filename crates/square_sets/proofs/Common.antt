-- What most files of proofs name of what stands below, and of the definitions of this crate.
pub use Rattle.std.proofs.Common.{◌≡◌, ℤ, pos, ◌+ℤ◌, ◌-ℤ◌, ◌≤ℤ◌, ◌<ℤ◌, List, w64, to_z, of_z, refl, rules, arith, inl, inr, sym, ◌∙◌, map, subst}
pub use Rattle.std.proofs.Common.{neg_ℤ, take, ap}
pub use Rattle.std.specs.Prelude.{All, filter}
pub use Rattle.std.proofs.lemmas.Int.{ints, to_z-of_z}
pub use Rattle.std.proofs.lemmas.Result.{IfOk-weaker}
pub use Rattle.geo_core.proofs.FiniteSets.Searches.{All-In, All-from_In}
pub use Rattle.geo_core.specs.declared.limits.TheConstants.{PLANE_EDGE}
pub use Rattle.geo_core.specs.declared.squares.Square.{Square}
pub use Rattle.geo_core.specs.declared.squares.Rect.{Rect}
pub use Rattle.geo_core.specs.Areas.{LiesWithin, has_square}
pub use Rattle.geo_core.specs.Covering.{Covers, IsProper}
pub use Rattle.geo_core.specs.Strips.{IsInUnion, IsStrips}
pub use Rattle.geo_core.proofs.FiniteSets.Members.{In-map, In-map_source, In-filter, In-filter_source, In-filter_passes}
pub use Rattle.geo_core.proofs.StripSets.{strips_same}
pub use Rattle.geo_core.proofs.SquareLaws.{rect_is}
pub use Rattle.square_sets.specs.declared.limits.TheConstants.{SET_EDGE}
pub use Rattle.square_sets.specs.Reaches.{IsBounded, IsReach, AreSameSquares, IsDilated, IsEroded, Reaches, grown, upright_core}
pub use Rattle.square_sets.specs.Boxes.{IsOutside, LiesInBox, LiesInNoBox}
pub use Rattle.square_sets.specs.steps.Combined.{IsInBoth, IsInFirstAlone}
