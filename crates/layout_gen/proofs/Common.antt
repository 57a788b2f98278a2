-- What most files of proofs name of what stands below, and of the definitions of this crate.
pub use Rattle.std.proofs.Common.{◌≡◌, ◌+◌, ◌≤◌, ◌∙◌, ℕ, suc, List, [], ◌∷◌, ◌++◌, length, Some, None, refl, sym, ap, subst, arith, inl, inr, ◌*◌}
pub use Rattle.std.proofs.Common.{◌<◌, Option, true≢false, pos, ℤ, ◌-ℤ◌}
pub use Rattle.std.specs.Prelude.{All, IsTrue, codes, slice_get, unwrap_or, nat_le}
pub use Rattle.std.specs.Option.{option_or, option_map}
pub use Rattle.std.specs.Int.RustNames.{unsigned_abs}
pub use Rattle.std.proofs.lemmas.Bool.{cases_Bool}
pub use Rattle.std.proofs.lemmas.Bool.Decides.{nat_tests}
pub use Rattle.finite_sets.specs.Lists.{In}
pub use Rattle.geo_core.specs.declared.squares.Rect.{Rect}
pub use Rattle.tech_model.specs.declared.raw.Label.{Label}
pub use Rattle.tech_model.specs.declared.raw.RawTech.{RawTech}
pub use Rattle.cell_library.specs.LayoutModel.Places.{Place}
pub use Rattle.cell_library.specs.CellTree.declared.sizes.Size.{Size}
pub use Rattle.cell_library.specs.CellTree.Additions.{MayCome}
pub use Rattle.cell_library.specs.CellTree.Trees.{IsLawfulTree, Tree}
pub use Rattle.cell_library.specs.declared.limits.TheConstants.{MOST_CELLS, MOST_EDITS}
pub use Rattle.cell_library.specs.Libraries.{LibraryParts, seen}
pub use Rattle.cell_library.proofs.ViewLaws.{count_seen}
pub use Rattle.geo_core.specs.declared.grids.Grid.{Grid}
pub use Rattle.cell_library.specs.CellPaint.Painting.{with_paint}
pub use Rattle.cell_library.specs.CellTree.declared.limits.TheConstants.{MOST_USES}
pub use Rattle.cell_library.specs.CellTree.declared.sizes.Dimension.{Dimension}
pub use Rattle.layout_gen.specs.declared.checks.TileLayers.{TileLayers}
pub use Rattle.layout_gen.specs.declared.limits.TheConstants.{MADE_CELLS, MOST_TILES}
pub use Rattle.layout_gen.specs.steps.Bodies.{AreLayers, AreMade, AreNew, IsMade, array_use}
pub use Rattle.layout_gen.specs.Generated.{IsGenerated, diff_area, poly_label}
pub use Rattle.layout_gen.specs.declared.faults.GenerateFault.{GenerateFault}
