-- What most files of proofs name of what stands below, and of the definitions of this crate.
pub use Rattle.std.proofs.Common.{◌≡◌, ℕ, List, [], ◌∷◌, Ok, Err, refl, ap, ◌∙◌, if◌then◌else◌, sym, ◌+◌, ◌++◌, take}
pub use Rattle.std.specs.Option.{ok_or, option_map}
pub use Rattle.std.specs.Prelude.{Some}
pub use Rattle.std.specs.Str.{bytes_eq}
pub use Rattle.std.proofs.lemmas.Bool.{cases_Bool}
pub use Rattle.std.specs.List.{zip, list_any}
pub use Rattle.std.proofs.lemmas.Slice.Eq.{bytes_eq-Decides}
pub use Rattle.text_scan.specs.Lines.{lines_of}
pub use Rattle.text_scan.specs.Words.{words_of}
pub use Rattle.text_form.specs.SaidLines.{and_then, saying}
pub use Rattle.vector_files.specs.declared.files.VecLine.TheVariants.{Set, Free, Size, Show}
pub use Rattle.vector_files.specs.LineForms.{node_in, level_in, size_in, is_rail_name, unless_rail, changed_node, asked_in, show_line, command_line}
pub use Rattle.vector_files.specs.LineForms.{words_say, is_comment, line_says, says, is_rail, node_named}
pub use Rattle.vector_files.specs.NodeLookup.{IsLikeNamed, IsIndexOf, power_name, ground_name, is_either_node}
pub use Rattle.vector_files.specs.declared.faults.VecFault.{VecFault}
pub use Rattle.vector_files.specs.declared.files.VecLine.{VecLine}
pub use Rattle.vector_files.specs.declared.files.Vectors.{Vectors}
