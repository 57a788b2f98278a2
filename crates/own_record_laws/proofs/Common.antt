-- What most files of proofs name of what stands below, and of the definitions of this crate.
pub use Rattle.std.proofs.Common.{◌≡◌, ◌⊎◌, ◌^◌, ℤ, pos, ◌≤ℤ◌, true, List, [], ◌∷◌, map, IsTrue, inl, inr, refl, sym, ◌∙◌, ap, subst, arith, ℕ, Bool}
pub use Rattle.std.proofs.Common.{false, cond, ◌<◌, negsuc, suc, length, get_or, eq-eqb, ◌*◌}
pub use Rattle.std.proofs.lemmas.Int.{ints}
pub use Rattle.std.specs.Int.{w32}
pub use Rattle.std.specs.Int.RustNames.{FitsSigned}
pub use Rattle.std.proofs.lemmas.List.Sums.{sum_by-cons}
pub use Rattle.std.specs.Char.{is_ascii_digit}
pub use Rattle.std.specs.Str.{all_ascii_digits, bytes_eq}
pub use Rattle.std.specs.List.{flat_map}
pub use Rattle.std.specs.Prelude.{Option, Some, None, find}
pub use Rattle.std.proofs.lemmas.List.{length-map}
pub use Rattle.std.proofs.lemmas.Bool.{false≢true}
pub use Rattle.std.proofs.lemmas.Simd.{map-map}
pub use Rattle.std.proofs.lemmas.Slice.Eq.{bytes_eq-Decides}
pub use Rattle.full_names.specs.FiniteSets.Lists.{In, Distinct}
pub use Rattle.full_names.specs.FiniteSets.Total.{sum_on}
pub use Rattle.tree_records.specs.TechModel.declared.raw.RawTech.{RawTech}
pub use Rattle.tree_records.specs.TechModel.ChannelRoles.{is_terminal}
pub use Rattle.tree_records.specs.LayoutModel.EdgeCounts.{LeadsAcross, IsEdgeCount}
pub use Rattle.tree_records.specs.LayoutModel.Layouts.{Layout, IsMaterial}
pub use Rattle.tree_records.specs.LayoutModel.Places.{Place, IsNoLater}
pub use Rattle.tree_records.specs.LayoutModel.Transistors.{AreOneChannel, IsTerminalOf, Transistor, IsTransistor}
pub use Rattle.tree_records.specs.Measures.Bounds.{IsNearPlace, IsSmallMeasure}
pub use Rattle.full_names.proofs.FiniteSets.Chains.{Chain-carries, Chain-append}
pub use Rattle.full_names.proofs.FiniteSets.Images.{In-flat_map, Distinct-unmap}
pub use Rattle.full_names.specs.ExtModel.declared.records.NodeRec.{NodeRec}
pub use Rattle.full_names.specs.ExtModel.declared.records.MergeRec.{MergeRec}
pub use Rattle.full_names.specs.ExtModel.declared.records.CellExt.{CellExt}
pub use Rattle.full_names.specs.ExtModel.NodeNames.{is_global, is_word, is_node_name}
pub use Rattle.full_names.specs.ExtModel.Lawful.{IsLawful, IsLawfulNode}
pub use Rattle.full_names.specs.ExtModel.RecordNames.{names_of, node_names}
pub use Rattle.full_names.specs.CircuitModel.Elements.{Element}
pub use Rattle.full_names.specs.CircuitModel.FullNames.{name_in, full_names, AreInNameOrder}
pub use Rattle.full_names.proofs.FiniteSets.Members.{In-map_source, In-append_cases, In-get_or, In-index, In-map}
pub use Rattle.full_names.proofs.FiniteSets.Searches.{All-from_In, All-In, find-In, find-passes, In-from_list_any, list_any-of_In}
pub use Rattle.full_names.specs.GeoCore.Covering.{Covers}
pub use Rattle.tree_records.specs.TechModel.declared.raw.Label.{Label}
pub use Rattle.tree_records.specs.TechModel.WellFormed.{IsWellFormed, IsClass}
pub use Rattle.full_names.specs.ExtModel.declared.records.TermRec.{TermRec}
pub use Rattle.full_names.specs.ExtModel.declared.records.FetRec.{FetRec}
pub use Rattle.tree_records.specs.LayoutModel.LayerTypes.{HasTypesOf}
pub use Rattle.tree_records.specs.CellPaint.Painting.{paint_range}
pub use Rattle.tree_records.specs.FetRecords.{IsOfNode, IsFetRecord}
pub use Rattle.full_names.proofs.TextScan.NumberLemmas.{digit_is}
pub use Rattle.full_names.specs.GeoCore.declared.squares.Square.{Square}
pub use Rattle.tree_records.specs.Names.Attachments.{HasText, label_at}
pub use Rattle.tree_records.specs.Names.GeneratedNames.{coordinate_text, generated_name}
pub use Rattle.tree_records.specs.Names.NamedNodes.{IsNameOf, AreOneNamedNode}
pub use Rattle.tree_records.specs.CellNodes.NodeRecords.{IsNodeRecord, AreNodeRecords}
pub use Rattle.tree_records.specs.TechModel.declared.raw.ClassRec.{ClassRec}
pub use Rattle.tree_records.proofs.LayoutModel.PlaceLaws.{IsNoLater-antisym}
pub use Rattle.full_names.specs.ExtModel.declared.records.UseRec.{UseRec}
pub use Rattle.tree_records.specs.OwnRecords.{IsOwnRecord}
pub use Rattle.full_names.specs.CircuitModel.FlatNodes.{AreFlatNodes, has_name}
