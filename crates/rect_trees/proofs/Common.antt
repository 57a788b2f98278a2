-- What most files of proofs name of what stands below, and of the definitions of this crate.
pub use Rattle.std.proofs.Common.{◌≡◌, ℕ, false, List, [], ◌∷◌, ◌++◌, None, inl, inr, filter, find, sym, ◌∙◌, ap, subst, arith, ◌≢◌, ◌<◌, ◌≤◌, Some}
pub use Rattle.std.proofs.Common.{length, get_or, map, take, rules, refl}
pub use Rattle.std.proofs.lemmas.Bool.{false≢true}
pub use Rattle.std.proofs.lemmas.Int.{ints, clamps}
pub use Rattle.std.specs.Prelude.{Option}
pub use Rattle.geo_core.specs.FiniteSets.Lists.{In, Distinct, Lists}
pub use Rattle.geo_core.specs.declared.squares.Rect.{Rect}
pub use Rattle.geo_core.specs.Areas.{common_rect, has_square}
pub use Rattle.geo_core.specs.Covering.{IsProper}
pub use Rattle.geo_core.proofs.CoveringLaws.{IsProper-has_square, has_square-IsProper}
pub use Rattle.rect_trees.specs.declared.nodes.Node.{Node}
pub use Rattle.rect_trees.specs.Positions.{meets_at, rect_at, HasSquareAt, position_of, ArePlaces}
pub use Rattle.rect_trees.specs.Nodes.{positions_of, hull_of, AreHulls, root_positions, IsRoot}
pub use Rattle.rect_trees.specs.Meetings.{AreMeeting}
pub use Rattle.rect_trees.specs.declared.places.Place.{Place}
