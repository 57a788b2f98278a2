-- What most files of proofs name of what stands below, and of the definitions of this crate.
pub use Rattle.std.proofs.Common.{◌≡◌, ℕ, ◌+◌, ◌<◌, ◌≤◌, List, Some, length, take, sym, ◌∙◌, ap, subst, arith, ◌≢◌, ◌⊎◌, suc, ◌-◌, Bool, false}
pub use Rattle.std.proofs.Common.{IsTrue, [], ◌∷◌, ◌++◌, get_or, inl, inr, refl, true, length-append, cond, zero, map, not, filter, Option, None}
pub use Rattle.std.proofs.Common.{get_or-set_same, get_or-set_other, Result, Ok, Err, rules, Vec, Global}
pub use Rattle.std.specs.Prelude.{slice_get, IsPermutation, IsSorted, slice_index, vec_len, All}
pub use Rattle.std.specs.Cmp.{IsTotalOrder}
pub use Rattle.std.specs.declared.cmp.Ordering.{Ordering}
pub use Rattle.std.specs.declared.cmp.Ordering.TheVariants.{Less, Equal, Greater}
pub use Rattle.std.specs.FinMap.{nat_cmp-IsAntisymmetric, slice_cmp-IsAntisymmetric}
pub use Rattle.std.specs.Ordering.{is_lt, nat_cmp, ordering_then, ordering_reverse, bool_cmp}
pub use Rattle.std.specs.Cmp.Lexicographic.{slice_cmp}
pub use Rattle.std.proofs.lemmas.Bool.{cases_lt, not-true, cases_Bool, false≢true, cases_eq}
pub use Rattle.std.proofs.lemmas.Bool.Decides.{nat_tests}
pub use Rattle.std.proofs.lemmas.Cmp.{nat_cmp_total, nat_list_cmp_total, on_total, then_total, tied_itself}
pub use Rattle.std.proofs.lemmas.List.{take_more, get_or_append_left, get_or_push, length-map, get_or_read, get_or-map, get_or_default, append_assoc}
pub use Rattle.std.proofs.lemmas.List.{take_all, map-append}
pub use Rattle.std.proofs.lemmas.List.Sorted.{IsPermutation-sym}
pub use Rattle.std.proofs.lemmas.Option.{slice_get_within, get_or_from_slice_get, same_Some, slice_get_read, slice_get-get_or, slice_get-map}
pub use Rattle.std.specs.Str.{bytes_eq}
pub use Rattle.std.proofs.lemmas.Slice.Eq.{bytes_eq-Decides}
pub use Rattle.std.specs.List.{flat_map}
pub use Rattle.std.proofs.Math.ListN.{set, length-set}
pub use Rattle.std.specs.Option.{option_map}
pub use Rattle.std.proofs.lemmas.Result.{err_from_is_err_and}
pub use Rattle.ext_model.proofs.FiniteSets.Places.{slice_get-below, In-slice_get, slice_get-In, slice_get-append_left, slice_get-append_right}
pub use Rattle.element_tree.specs.declared.tree.TreeElement.{TreeElement}
pub use Rattle.ext_model.specs.FiniteSets.Lists.{In, Distinct}
pub use Rattle.ext_model.proofs.FiniteSets.Members.{In-push_cases, In-append_left, In-push, In-permutation, In-map, In-map_source, In-get_or}
pub use Rattle.ext_model.proofs.FiniteSets.Members.{In-append_cases, In-append_right, In-filter, In-filter_source, In-filter_passes, In-index}
pub use Rattle.ext_model.proofs.FiniteSets.Orders.{IsSorted-pairs}
pub use Rattle.ext_model.specs.declared.records.CellExt.{CellExt}
pub use Rattle.ext_model.specs.NodeNames.{name_kind, slashes_in, ends_in}
pub use Rattle.ext_model.specs.NameOrder.{kind_rank, name_cmp}
pub use Rattle.ext_model.specs.RecordNames.{names_of, node_names}
pub use Rattle.circuit_model.specs.Elements.{Element, AreRecords, ids_of}
pub use Rattle.circuit_model.specs.FullNames.{AreInNameOrder, name_in, full_names}
pub use Rattle.element_tree.specs.declared.tree.ElementTree.{ElementTree}
pub use Rattle.element_tree.specs.Trees.{IsTreeOfElements, StandsFor}
pub use Rattle.ext_model.proofs.FiniteSets.Pairs.{AllPairs-permutation, Pairwise}
pub use Rattle.ext_model.specs.declared.names.TheConstants.{GENERATED_MARK, SLASH}
pub use Rattle.ext_model.specs.declared.records.UseRec.{UseRec}
pub use Rattle.ext_model.specs.NameParts.{element_cmp, path_length, IsLastName, AreWhole}
pub use Rattle.ext_model.specs.Paths.{path_text}
pub use Rattle.ext_model.proofs.NameOrders.{name_cmp_total}
pub use Rattle.ext_model.proofs.FiniteSets.Images.{In-flat_map}
pub use Rattle.ext_model.specs.Lawful.{IsLawful}
pub use Rattle.circuit_model.specs.declared.limits.TheConstants.{MOST_NAME_BYTES}
pub use Rattle.ext_model.specs.declared.records.NodeRec.{NodeRec}
pub use Rattle.full_names.specs.declared.own_names.OwnName.{OwnName}
pub use Rattle.full_names.specs.declared.own_names.RecordNames.{RecordNames}
pub use Rattle.full_names.specs.OwnNames.{locals_of, globals_of, is_marked, texts_of, AreOwnNames, HasOwnNames, is_wanted, AreAllNames, is_reached}
pub use Rattle.full_names.specs.Reached.{no_element, flat_at, AreReached, AreOfRecords, AreReachedBelow}
pub use Rattle.full_names.specs.steps.ByteCounts.{local_bytes, element_bytes, global_bytes}
pub use Rattle.full_names.specs.declared.globals.GlobalName.{GlobalName}
pub use Rattle.full_names.specs.Globals.{global_texts, text_cmp, EndsWith, IsFound, AreFound, AreInTextOrder, AreOnce, AreGlobalNames}
pub use Rattle.full_names.specs.GlobalOrigins.{AreGlobalsOf}
pub use Rattle.full_names.specs.declared.keys.NameKey.{NameKey}
pub use Rattle.full_names.specs.declared.places.Place.{Place}
pub use Rattle.full_names.specs.Places.{place_at, text_at, texts_at, count_at, IsPlace, no_place, ArePlaces, places_of, StandsAt, ArePlacesBelow}
pub use Rattle.full_names.specs.steps.Keys.{is_generated, key_at, key_cmp, AreKeys, IsFitPlace}
pub use Rattle.full_names.specs.declared.names.FullNames.{FullNames}
pub use Rattle.full_names.specs.Names.{elements_in, AreNames, IsLocalNumber, place_name, ComesFrom, IsSpotOf}
pub use Rattle.full_names.specs.NameLists.{IsNameFaultOf, IsFullNameList}
pub use Rattle.full_names.specs.Orders.{AreStandings, StandsWhere}
pub use Rattle.full_names.specs.steps.Paths.{path_front}
