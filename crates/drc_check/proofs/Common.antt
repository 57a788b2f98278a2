-- What most files of proofs name of what stands below, and of the definitions of this crate.
pub use Rattle.std.proofs.Common.{ℕ, List, subst, arith, ◌≡◌, ◌<◌, ◌≤ℤ◌, ◌<ℤ◌, ◌+ℤ◌, ◌-ℤ◌, inl, inr, ℤ, pos, [], ◌∷◌, ◌++◌, FitsSigned, w64, to_z}
pub use Rattle.std.proofs.Common.{of_z, ap, ◌∙◌, ◌≢◌, false, length, sym, true≢false, ◌⊎◌, ◌+◌, take, get_or, refl, ◌==◌, true, eq-eqb, Bool, ◌≤◌}
pub use Rattle.std.proofs.Common.{eqb-true, ◌&&◌, cond, bit_or, map, rules, vec_len, Vec, Global}
pub use Rattle.std.specs.Prelude.{All, filter, Option, Some, None, slice_index_or, IfOk}
pub use Rattle.std.proofs.lemmas.Int.{ints, to_z-of_z}
pub use Rattle.std.specs.Int.{int_min, bit_at}
pub use Rattle.std.specs.Int.RustNames.{unsigned_abs}
pub use Rattle.std.specs.List.{filter_map, list_any}
pub use Rattle.std.proofs.lemmas.List.{append_assoc, take_more, append-nil, take_all}
pub use Rattle.std.proofs.Math.ListN.{set}
pub use Rattle.std.proofs.lemmas.Bool.{and_from, and_parts, cases_Bool}
pub use Rattle.finite_sets.specs.Lists.{In, Lists}
pub use Rattle.finite_sets.proofs.Members.{In-filter_source, In-map_source, In-push_cases, In-append_cases, In-filter, In-filter_passes, In-get_or}
pub use Rattle.finite_sets.proofs.Searches.{All-In, All-from_In, list_any-passes}
pub use Rattle.geo_core.specs.declared.squares.Rect.{Rect}
pub use Rattle.geo_core.specs.Covering.{IsProper, Covers, is_covered}
pub use Rattle.square_sets.specs.declared.limits.TheConstants.{SET_EDGE}
pub use Rattle.square_sets.specs.Reaches.{IsBounded}
pub use Rattle.tech_model.specs.declared.raw.TypeId.{TypeId}
pub use Rattle.cell_library.specs.CellTree.Hulls.{SpansInRange}
pub use Rattle.geo_core.specs.Areas.{LiesWithin, has_square}
pub use Rattle.tech_model.specs.Types.{joined, parts_of}
pub use Rattle.hierarchy_model.specs.Offences.LayoutModel.Places.{Place}
pub use Rattle.hierarchy_model.specs.Offences.LayoutModel.FlatSets.{flat_sets}
pub use Rattle.hierarchy_model.specs.Offences.Offences.{joined_at, SetLayout}
pub use Rattle.cell_library.specs.Libraries.{LibraryParts, seen}
pub use Rattle.drc_rules.specs.declared.rules.Rule.{Rule}
pub use Rattle.drc_rules.specs.LawfulRules.{IsLawfulRule}
pub use Rattle.tech_model.specs.declared.raw.RawTech.{RawTech}
pub use Rattle.cell_library.specs.declared.part_tiles.PartTile.{PartTile}
pub use Rattle.geo_core.specs.declared.squares.Square.{Square}
pub use Rattle.geo_core.specs.Strips.{IsInUnion, IsStrips}
pub use Rattle.hierarchy_model.specs.Offences.LayoutModel.CellTrees.{CellTree}
pub use Rattle.hierarchy_model.specs.Offences.TypedStacks.{on_plane}
pub use Rattle.drc_rules.specs.declared.rules.RuleKind.{RuleKind}
pub use Rattle.rect_overlays.specs.declared.stacks.Stack.{Stack}
pub use Rattle.tech_model.specs.declared.raw.PartSet.{PartSet}
pub use Rattle.hierarchy_model.proofs.Offences.TileLaws.{bit_kept, union_bit}
pub use Rattle.cell_library.specs.PartTiles.{IsPartTileIn, set_of_part, set_of_tiles}
pub use Rattle.drc_check.specs.declared.pieces.ListedPiece.{ListedPiece}
pub use Rattle.drc_check.specs.steps.Checks.{areas_of_list, is_of_list, IsSoundPiece, ViolatesIn}
pub use Rattle.drc_check.specs.steps.Bands.{AreBandsBelow, AreBandsOf}
pub use Rattle.drc_check.specs.steps.CellPieces.{AreCellPieces, AreListedPiecesOf, AreListedPiecesIn}
pub use Rattle.drc_check.specs.steps.Pieces.{IsListedAt, AreListedPieces, set_of_all, AddsListed, AddsMadePieces, member_union, stack_piece}
pub use Rattle.drc_check.specs.steps.Pieces.{part_set_at, set_in, set_of_tile, tiles_of_plane, HasMembersIn}
pub use Rattle.drc_check.specs.steps.Listed.{has_plane, IsListedType, IsMarkedType}
pub use Rattle.drc_check.specs.Violations.{ViolatesBy, violation_of, AreRuleStripsFrom}
pub use Rattle.drc_check.specs.declared.violations.Violation.{Violation}
pub use Rattle.drc_check.specs.declared.marks.TheConstants.{TYPE_NUMBERS}
