-- What most files of proofs name of what stands below, and of the definitions of this crate.
pub use Rattle.std.proofs.Common.{◌≡◌, ◌∙◌, sym, ap, subst, ℕ, List, Option, Some, Result, Ok, Err, ◌<◌, length, None, arith, ℤ, [], ◌∷◌}
pub use Rattle.std.specs.Option.{option_map, option_map_or}
pub use Rattle.std.specs.Int.{w64}
pub use Rattle.std.proofs.lemmas.Int.{to_z-of_z}
pub use Rattle.ext_model.specs.declared.tables.CellKey.{CellKey}
pub use Rattle.cell_library.specs.declared.faults.LibFault.{LibFault}
pub use Rattle.cell_library.specs.Libraries.{LibraryParts, edits_of, seen}
pub use Rattle.cell_library.specs.Refusals.{EditIsRefused, UnlabelIsRefused, ArrayIsRefused, MoveIsRefused, DeleteIsRefused}
pub use Rattle.cell_library.specs.Views.{LibraryView, cell_named}
pub use Rattle.tech_model.specs.declared.raw.LayerId.{LayerId}
pub use Rattle.tech_model.specs.declared.raw.RawTech.{RawTech}
pub use Rattle.tech_model.specs.Types.{layer_named}
pub use Rattle.cell_library.proofs.ViewLaws.{count_seen, length-changed_at}
pub use Rattle.geo_core.specs.declared.grids.Grid.{Grid}
pub use Rattle.cell_library.specs.Edits.{empty_cell, erased, labelled, moved, painted, placed, transform_of, unlabelled, with_grid, without_use}
pub use Rattle.script_lines.specs.declared.commands.Command.{Command}
pub use Rattle.edit_script.specs.declared.faults.EditFault.{EditFault}
pub use Rattle.edit_script.specs.Answers.{IsTold, Applies}
pub use Rattle.edit_script.specs.Editing.{editing_of, Editing}
pub use Rattle.edit_script.specs.Edits.{in_current, applied, grid_of, label_layer, label_of, with_cell, with_label_layer, with_layer}
pub use Rattle.edit_script.specs.Edits.{with_six_as_grid}
