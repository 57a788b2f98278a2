-- What most files of proofs name of what stands below, and of the definitions of this crate.
pub use Rattle.std.proofs.Common.{◌≡◌, ℕ, ℤ, Bool, true, false, List, [], ◌∷◌, ◌++◌, length, sym, ap, subst, ◌∙◌, if◌then◌else◌, arith, map}
pub use Rattle.std.proofs.Common.{FitsSigned, rules, drop}
pub use Rattle.std.proofs.lemmas.Int.{ints, to_z-of_z}
pub use Rattle.std.specs.List.{list_all, list_any, position}
pub use Rattle.std.specs.Prelude.{Some, None}
pub use Rattle.std.specs.Ordering.{int_eq}
pub use Rattle.std.specs.Str.{bytes_eq}
pub use Rattle.std.specs.Int.{w64}
pub use Rattle.cif_forms.specs.Commands.{says}
pub use Rattle.cif_forms.specs.declared.commands.SaidMove.{SaidMove}
pub use Rattle.cif_model.specs.declared.cifs.CifSymbol.{CifSymbol}
pub use Rattle.cif_reading.specs.declared.faults.CifFault.{CifFault}
pub use Rattle.cif_reading.specs.Drafts.{Draft, nothing_yet}
pub use Rattle.cif_reading.specs.Faults.{fault_in, is_factor}
pub use Rattle.cif_reading.specs.Additions.{takes, with_layer}
pub use Rattle.cif_reading.specs.SaidSteps.{move_is_in_range, move_said}
