-- What most files of proofs name of what stands below, and of the definitions of this crate.
pub use Rattle.std.proofs.Common.{◌≡◌, ◌+◌, ◌<◌, inl, inr, ℕ, List, [], ◌∷◌, length, length-append, sym, ap, ◌∙◌, arith, subst, ◌≤◌, Bool, false}
pub use Rattle.std.proofs.Common.{refl, ◌⊎◌, suc, ◌++◌, true}
pub use Rattle.std.specs.Prelude.{IsSome, Option, Result, Ok, Err, ◌||◌, Some, None}
pub use Rattle.std.proofs.lemmas.List.{length-map, map-append}
pub use Rattle.std.specs.List.{list_any}
pub use Rattle.std.specs.Str.{bytes_eq}
pub use Rattle.std.proofs.lemmas.List.Elements.{All-push, All-same}
pub use Rattle.std.specs.Cmp.Lexicographic.{same_text}
pub use Rattle.outside_io.specs.Files.{Files}
pub use Rattle.outside_io.specs.CallPlans.{CallPlan, told_after_call}
pub use Rattle.session_model.specs.Effects.{GivesFetching, after_fetches}
pub use Rattle.session_model.specs.FileTrees.{StopsAsking}
pub use Rattle.mag_text.specs.CellBodies.declared.bodies.CellBody.{CellBody}
pub use Rattle.mag_text.specs.CellLibrary.Additions.{names_with, first_scale, CanBeAdded}
pub use Rattle.mag_text.specs.CellLibrary.Libraries.{LibraryParts, seen, uses_in, IsLawfulLibrary}
pub use Rattle.mag_text.specs.CellLibrary.Views.{LibraryView, cell_named, names_of}
pub use Rattle.mag_text.specs.Drafts.{Draft}
pub use Rattle.mag_text.specs.CellBodies.declared.bodies.CellUse.{CellUse}
pub use Rattle.mag_text.specs.TechModel.declared.raw.RawTech.{RawTech}
pub use Rattle.text_scan.specs.PlainNames.{is_plain_name}
pub use Rattle.cell_tree.specs.declared.limits.TheConstants.{MOST_USES}
pub use Rattle.cell_loading.specs.declared.faults.LoadFault.{LoadFault}
pub use Rattle.cell_loading.specs.Loads.{AreRead, LoadGives, LoadIsRefused, AreBodiesOf}
pub use Rattle.cell_loading.specs.Readings.{cell_files, with_name}
pub use Rattle.cell_loading.specs.steps.Walks.{files_read, names_left, rest_of, GoesOnToBodies, AreSoFar, MayFollow}
pub use Rattle.cell_loading.specs.steps.ReadCells.{is_among, names_in, children_of}
pub use Rattle.cell_loading.specs.declared.walks.Frame.{Frame}
