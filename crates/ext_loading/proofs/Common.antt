-- What most files of proofs name of what stands below, and of the definitions of this crate.
pub use Rattle.std.proofs.Common.{◌≡◌, ℕ, true, false, List, [], ◌∷◌, inl, inr, refl, sym, ap, ◌∙◌, subst, arith, get_or, ◌++◌, map}
pub use Rattle.std.specs.Prelude.{Option, None, Err, reverse}
pub use Rattle.std.specs.Str.{bytes_eq}
pub use Rattle.std.proofs.lemmas.Slice.Eq.{bytes_eq-Decides}
pub use Rattle.std.specs.List.{list_any, position_or_len}
pub use Rattle.finite_sets.specs.Lists.{In, Distinct}
pub use Rattle.finite_sets.proofs.Members.{In-map, In-map_source}
pub use Rattle.ext_model.specs.declared.arrays.ArrayExt.{ArrayExt}
pub use Rattle.ext_model.specs.declared.arrays.ArrayUse.{ArrayUse}
pub use Rattle.outside_io.specs.Files.{Files}
pub use Rattle.session_model.specs.FileTrees.{All, Reads, StopsAsking, files_of, GoesOn}
pub use Rattle.outside_io.specs.CallPlans.{CallPlan}
pub use Rattle.session_model.specs.Effects.{GivesFetching, after_fetches}
pub use Rattle.ext_loading.specs.ExtFiles.{cells_read}
pub use Rattle.ext_loading.specs.Loads.{CanBeFlattened, children_in, AreRead, LoadIsRefused, IsFitTree, LoadGives}
pub use Rattle.ext_loading.specs.Readings.{cells_used, circuit_files}
pub use Rattle.ext_loading.specs.steps.Trees.{IsTree, GivesTree}
pub use Rattle.ext_loading.specs.declared.faults.ExtLoadFault.{ExtLoadFault}
