-- What most files of proofs name of what stands below, and of the definitions of this crate.
pub use Rattle.std.proofs.Common.{◌≡◌, ◌≢◌, ◌+◌, ◌-◌, ◌<◌, ◌≤◌, ◌^◌, ℕ, List, [], ◌∷◌, ◌++◌, length, map, get_or, refl, sym, ap, subst, ◌∙◌, arith}
pub use Rattle.std.proofs.Common.{inl, inr, ◌==◌, Bool, true, false, length-append, bit_or, ◌⊎◌, set, rules, drop}
pub use Rattle.std.specs.Prelude.{All, IsTrue, Ok, not, nat_lt, Option, Some, None, find, is_some, if◌then◌else◌, unwrap_or, fold, Result, Err}
pub use Rattle.std.specs.Prelude.{nat_le, position}
pub use Rattle.std.proofs.lemmas.Bool.{cases_lt, cases_Bool, cases_eq, or_parts, not-false, not-true, ltb-false, eqb-true, eqb-false, ne_eqb}
pub use Rattle.std.proofs.lemmas.Bool.{true≢false, eq-eqb, and_parts}
pub use Rattle.std.proofs.lemmas.List.{length_push, append-nil, length-map, length-set, get_or-map, get_or-set_same, get_or-set_other}
pub use Rattle.std.proofs.lemmas.List.Elements.{All-push, All-set, All-nil}
pub use Rattle.std.proofs.lemmas.List.Quantifiers.{all_pairs_push}
pub use Rattle.std.specs.List.{list_any, range_with_len}
pub use Rattle.std.proofs.lemmas.List.FromFn.{length-map-range_with_len}
pub use Rattle.std.specs.Str.{bytes_eq}
pub use Rattle.std.proofs.lemmas.Slice.Eq.{bytes_eq-Decides}
pub use Rattle.std.specs.Option.{ok_or}
pub use Rattle.finite_sets.specs.Lists.{In, Distinct}
pub use Rattle.finite_sets.proofs.Members.{In-get_or, In-append_left, In-map, In-map_source, In-append_right, In-append_cases}
pub use Rattle.tech_model.specs.declared.raw.TypeId.{TypeId}
pub use Rattle.tech_model.specs.declared.raw.TypeRec.{TypeRec}
pub use Rattle.tech_model.specs.declared.raw.LayerRec.{LayerRec}
pub use Rattle.tech_model.specs.declared.raw.RawTech.{RawTech}
pub use Rattle.tech_model.specs.declared.limits.TheConstants.{MOST_TYPES, MOST_CLASSES, MOST_FETS}
pub use Rattle.tech_model.specs.Forms.{is_layer_name}
pub use Rattle.tech_model.specs.Types.{type_number, is_type, type_at, plane_of, layer_of, images_of, no_type, no_layer, layer_number, parts_of}
pub use Rattle.tech_model.specs.Types.{layer_named, has_name}
pub use Rattle.tech_model.specs.WellFormed.{IsLayer, IsSimple, IsWellFormed, AreApart, IsClass, IsFet, IsPair, IsUnion}
pub use Rattle.tech_model.proofs.JoinedLaws.{parts_at}
pub use Rattle.finite_sets.proofs.Searches.{list_any-In, find-none, All-from_In, position_from-none}
pub use Rattle.tech_model.specs.declared.raw.LayerId.{LayerId}
pub use Rattle.tech_model.specs.declared.faults.TechFault.TheVariants.{BadForm, Twice}
pub use Rattle.text_scan.specs.PlainNames.{is_plain_name}
pub use Rattle.tech_model.proofs.WellFormedLaws.{type_bounds, type_from_bounds}
pub use Rattle.tech_model.specs.LayerWords.{layer_in}
pub use Rattle.tech_model.specs.declared.raw.ClassRec.{ClassRec}
pub use Rattle.tech_model.specs.declared.raw.FetRule.{FetRule}
pub use Rattle.text_form.specs.SaidLines.{and_then}
pub use Rattle.tech_model.specs.declared.faults.TechFault.{TechFault}
pub use Rattle.finite_sets.proofs.Distincts.{Distinct-push}
pub use Rattle.text_scan.specs.Words.{words_of}
pub use Rattle.tech_draft.specs.Drafts.{Drafted}
pub use Rattle.tech_draft.specs.SetLines.{next_types, has_repeat, other_residues, residues_of_layer, with_contact, with_set, with_union}
pub use Rattle.tech_draft.specs.TypeLines.{atom_on, atom_layer, with_atom, new_names}
pub use Rattle.tech_draft.specs.Sound.{atom, HasSoundLayers, HasSoundSets, IsPart, HasImages, IsImage, IsMadeOf, composed, IsSound, HasSoundRules}
pub use Rattle.tech_draft.specs.Lookups.{has_type, type_of_word, plane_of_word, layer_of_word, first_on, entry_types, with_type_once, types_of_list}
pub use Rattle.tech_draft.specs.Words.{name_part, pieces_of, is_entry_list, measure_in, is_comma}
pub use Rattle.tech_draft.specs.ListLines.{with_pair, with_partners, with_pairs, fet_with, with_pair_list}
