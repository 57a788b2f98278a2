-- What most files of proofs name of what stands below, and of the definitions of this crate.
pub use Rattle.std.proofs.Common.{◌≡◌, ◌≢◌, ◌==◌, ◌+◌, ◌++◌, ℕ, suc, Bool, true, false, cond, List, [], ◌∷◌, refl, sym, ap, ◌∙◌, arith, ◌≤◌, ℤ, pos}
pub use Rattle.std.proofs.Common.{negsuc, length, IsTrue, inl, inr, subst, length-append, ◌<◌, ◌&&◌}
pub use Rattle.std.proofs.lemmas.Bool.{eqb-true, and_parts, eq-eqb}
pub use Rattle.std.specs.Char.{is_ascii_digit}
pub use Rattle.std.specs.List.{list_all}
pub use Rattle.std.specs.Str.{all_ascii_digits}
pub use Rattle.std.proofs.lemmas.Bool.Decides.{nat_tests}
pub use Rattle.std.proofs.lemmas.Cmp.{nat_cmp_total, tied_itself}
pub use Rattle.std.specs.Ordering.{nat_cmp, ordering_then}
pub use Rattle.std.specs.declared.cmp.Ordering.{Ordering}
pub use Rattle.std.specs.declared.cmp.Ordering.TheVariants.{Less, Equal, Greater}
pub use Rattle.std.proofs.lemmas.List.Sums.{sum_by-cons}
pub use Rattle.std.specs.Cmp.Lexicographic.{slice_cmp}
pub use Rattle.std.specs.Option.{option_map}
pub use Rattle.text_scan.proofs.NumberLemmas.{digit_is}
pub use Rattle.geo_core.specs.FiniteSets.Lists.{In}
pub use Rattle.geo_core.specs.declared.grids.Grid.{Grid}
pub use Rattle.ext_model.specs.declared.limits.TheConstants.{LONGEST_USE_ID}
pub use Rattle.ext_model.specs.declared.names.TheConstants.{SLASH, GLOBAL_MARK, GENERATED_MARK}
pub use Rattle.ext_model.specs.NodeNames.{is_node_name, is_word, slashes_in, ends_in, name_kind}
pub use Rattle.ext_model.specs.ElementNames.{is_use_id, is_use_id_byte, indexed_name}
pub use Rattle.ext_model.specs.declared.tables.ExtEntry.{ExtEntry}
pub use Rattle.ext_model.specs.Tables.{Table}
pub use Rattle.ext_model.specs.NameOrder.{name_cmp, kind_rank}
pub use Rattle.ext_model.specs.Paths.{path_text}
