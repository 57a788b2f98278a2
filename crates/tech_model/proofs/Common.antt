-- What most files of proofs name of what stands below, and of the definitions of this crate.
pub use Rattle.std.proofs.Common.{◌≡◌, ◌⊎◌, ◌+◌, ◌<◌, ◌≤◌, ℕ, zero, suc, true, Option, List, [], ◌∷◌, length, bit_or, refl, sym, ap, subst, ◌∙◌}
pub use Rattle.std.proofs.Common.{arith, inl, inr, add-zero, ◌≢◌, ◌-◌, ◌==◌, Bool, false, if◌then◌else◌, get_or, ◌||◌, take, ◌++◌, map, cond, ◌^◌}
pub use Rattle.std.proofs.Common.{fold, ◌%◌, bit_and, max, min, filter, drop, ◌*◌, ◌&&◌, Vec, Global}
pub use Rattle.std.specs.Prelude.{Some, None, IsTrue, nat_lt, unwrap_or, slice_index_or, is_none, find, All, not}
pub use Rattle.std.specs.Int.{bit_at}
pub use Rattle.std.proofs.lemmas.Bool.{cases_Bool, eqb-true, cases_eq, and_parts, and_from, eq-eqb, ne_eqb, true≢false}
pub use Rattle.std.proofs.lemmas.Nat.Bits.{bit_at-zero, bit_at-pow_same}
pub use Rattle.std.specs.List.{position_from, list_any, list_all, range_with_len, flat_map}
pub use Rattle.std.specs.Option.{option_map, option_or}
pub use Rattle.std.specs.Str.{bytes_eq}
pub use Rattle.std.proofs.lemmas.List.Folds.{list_any_more}
pub use Rattle.std.proofs.lemmas.Grind.{common_steps}
pub use Rattle.std.proofs.Math.Seq.{take-length}
pub use Rattle.std.proofs.lemmas.List.Sums.{fold_more}
pub use Rattle.std.proofs.lemmas.List.{get_or-map, length-map}
pub use Rattle.geo_core.proofs.FiniteSets.Searches.{find-In, All-In, find-none, drop_split, range_split}
pub use Rattle.geo_core.specs.FiniteSets.Lists.{In}
pub use Rattle.geo_core.proofs.FiniteSets.Members.{In-get_or, In-map}
pub use Rattle.geo_core.specs.FiniteSets.Range.{pairs_of}
pub use Rattle.tech_model.specs.declared.raw.TypeId.{TypeId}
pub use Rattle.tech_model.specs.declared.raw.RawTech.{RawTech}
pub use Rattle.tech_model.specs.Types.{is_type, plane_of, parts_of, images_of, is_on, image_on, joined, is_subset, type_number, layer_of, no_layer}
pub use Rattle.tech_model.specs.Types.{without, is_of, has_name}
pub use Rattle.tech_model.specs.WellFormed.{IsWellFormed, IsContact, IsMarked, IsFet}
pub use Rattle.tech_model.specs.declared.columns.Brush.{Brush}
pub use Rattle.tech_model.specs.declared.columns.Brush.TheVariants.{Paint, Erase}
pub use Rattle.tech_model.specs.Columns.{mark_of, layer_mark_kept}
pub use Rattle.tech_model.specs.ColumnForms.{IsOnPlane, IsColumn, HasWholeContacts}
pub use Rattle.tech_model.specs.Rules.{HaveOwnSets, types_of, have_one_set, is_bad_terminal, are_within, widenings, breaks_law}
pub use Rattle.tech_model.specs.LayerWords.{layer_in}
pub use Rattle.tech_model.specs.declared.raw.LayerRec.{LayerRec}
pub use Rattle.tech_model.specs.declared.raw.FetRule.{FetRule}
pub use Rattle.tech_model.specs.Forms.{is_fet_name}
pub use Rattle.tech_model.specs.declared.limits.TheConstants.{MOST_TYPES}
