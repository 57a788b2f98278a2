-- What most files of proofs name of what stands below, and of the definitions of this crate.
pub use Rattle.std.proofs.Common.{◌≡◌, ◌-◌, ◌<◌, ◌≤◌, ℕ, zero, suc, true, false, Bool, List, [], ◌∷◌, ◌++◌, length, map, filter, take, drop, insert}
pub use Rattle.std.proofs.Common.{refl, sym, ap, subst, ◌∙◌, inl, inr, arith, true≢false, ℤ, ◌+ℤ◌, neg_ℤ, ◌+◌, ◌&&◌}
pub use Rattle.std.specs.Prelude.{Option, Some, not, ◌||◌, slice_get, if◌then◌else◌, All, slice_index_or, MatchOption, None}
pub use Rattle.std.specs.Str.{bytes_eq}
pub use Rattle.std.proofs.lemmas.Bool.{cases_Bool, cases_eq, and_from}
pub use Rattle.std.proofs.lemmas.Int.{ints, to_z-of_z}
pub use Rattle.std.proofs.lemmas.List.{length-append, take-append-drop, map-append}
pub use Rattle.std.proofs.lemmas.Option.{slice_get_within, get_or_from_slice_get}
pub use Rattle.std.proofs.lemmas.Slice.Eq.{bytes_eq-Decides}
pub use Rattle.std.specs.Option.{option_map_or}
pub use Rattle.std.specs.Int.{w64}
pub use Rattle.std.proofs.lemmas.Grind.{common_steps}
pub use Rattle.std.proofs.lemmas.Result.{IfOk-weaker}
pub use Rattle.geo_core.specs.FiniteSets.Lists.{In, Distinct}
pub use Rattle.tech_model.specs.declared.raw.Label.{Label}
pub use Rattle.geo_core.specs.declared.grids.Grid.{Grid}
pub use Rattle.cell_tree.specs.declared.use_tables.UseBody.{UseBody}
pub use Rattle.edit_script.specs.CellLibrary.Edits.{moved_use, with_use_changed, labelled, single_use, moved}
pub use Rattle.edit_script.specs.CellLibrary.Refusals.{has_id, DeleteIsRefused, LabelIsRefused, MoveIsRefused}
pub use Rattle.edit_script.proofs.CellLibrary.UseLists.{id_same, use_in}
pub use Rattle.edit_script.specs.CellLibrary.Contents.{Held}
pub use Rattle.edit_script.specs.CellLibrary.Libraries.{IsLawfulLibrary, LibraryParts, seen, IsLawfulScale, edits_of}
pub use Rattle.edit_script.specs.CellLibrary.LawfulViews.{IsLawfulView}
pub use Rattle.edit_script.specs.CellLibrary.Views.{CellView, LibraryView, changed_at, no_cell, view_at, with_cell_changed}
pub use Rattle.edit_script.proofs.CellLibrary.ViewLaws.{count_seen}
pub use Rattle.geo_core.specs.declared.squares.Rect.{Rect}
pub use Rattle.geo_core.specs.Covering.{is_covered}
pub use Rattle.edit_script.specs.CellLibrary.LayoutModel.Layouts.{Layout}
pub use Rattle.edit_script.specs.CellLibrary.LayoutModel.Places.{Place}
pub use Rattle.edit_script.specs.ScriptLines.declared.commands.Command.{Command}
pub use Rattle.edit_script.specs.Editing.{Editing, editing_of}
pub use Rattle.edit_script.specs.Edits.{applied, grid_of}
pub use Rattle.geo_core.specs.Areas.{has_square}
pub use Rattle.cell_paint.specs.Painting.{is_in_range}
pub use Rattle.edit_script.specs.CellLibrary.declared.faults.LibFault.{LibFault}
pub use Rattle.edit_script.specs.CellLibrary.declared.limits.LibraryLimit.TheVariants.{Edits}
pub use Rattle.edit_script.specs.CellLibrary.declared.limits.TheConstants.{MOST_EDITS}
pub use Rattle.cell_tree.specs.declared.sizes.Dimension.TheVariants.{Hull}
pub use Rattle.edit_script.specs.CellLibrary.Limits.{GoesPast}
pub use Rattle.edit_script.specs.CellLibrary.CellBodies.Bodies.{IsLabel}
pub use Rattle.cell_tree.specs.declared.sizes.Dimension.{Dimension}
pub use Rattle.cell_tree.specs.Uses.{IsLawfulUse}
pub use Rattle.ext_model.specs.declared.tables.CellKey.{CellKey}
pub use Rattle.undo_log.specs.declared.changes.Change.{Change}
pub use Rattle.undo_log.specs.declared.changes.Change.TheVariants.{Repaint, InsertUse, DeleteUse, MoveUse, SetGrid, AddLabel, DropLabel, SetLabels}
pub use Rattle.undo_log.specs.declared.changes.Inverse.{Inverse}
pub use Rattle.undo_log.specs.Inverses.{CellsCame, LeadTo, SpeaksOf, changed, TakesBack, CanBeMade, Inverses, Keeps}
pub use Rattle.undo_log.specs.Versions.{Version, Versions, is_edit, version_of, versions_after, with_version, after_edit}
pub use Rattle.undo_log.specs.steps.Makings.{AddsLast, BringsAgain, GivesGrid, PutsBack, Accepts}
