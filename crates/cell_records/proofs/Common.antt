-- What most files of proofs name of what stands below, and of the definitions of this crate.
pub use Rattle.std.proofs.Common.{◌≡◌, ℕ, zero, suc, ◌+◌, ◌<◌, ℤ, pos, ◌+ℤ◌, ◌<ℤ◌, Bool, true, cond, List, [], ◌∷◌, ◌++◌, map, filter, length}
pub use Rattle.std.proofs.Common.{get_or, take, inl, inr, refl, sym, ◌∙◌, ap, subst, arith, eq-eqb, ◌-ℤ◌, IsTrue, to_z, of_z, rules}
pub use Rattle.std.specs.Prelude.{Some, slice_index, All}
pub use Rattle.std.specs.BTreeMap.{get}
pub use Rattle.std.specs.Int.{w128}
pub use Rattle.std.specs.Ordering.{nat_cmp}
pub use Rattle.std.proofs.lemmas.Bool.{cases_lt, false≢true}
pub use Rattle.std.proofs.lemmas.Int.{ints, to_z-of_z}
pub use Rattle.std.proofs.lemmas.List.{get_or-map, length-map}
pub use Rattle.finite_sets.specs.Lists.{In, Distinct}
pub use Rattle.finite_sets.specs.Total.{sum_on}
pub use Rattle.finite_sets.proofs.Members.{In-map, In-map_source}
pub use Rattle.finite_sets.proofs.Pairs.{Pairwise, Pairwise-from_AllPairs}
pub use Rattle.finite_sets.proofs.Searches.{All-In, All-from_In}
pub use Rattle.fet_regions.proofs.FloodNodes.StackLaws.{same_from_test}
pub use Rattle.tech_model.specs.declared.raw.RawTech.{RawTech}
pub use Rattle.cell_paint.specs.LayoutModel.EdgeCounts.{LeadsAcross, IsEdgeCount}
pub use Rattle.cell_paint.specs.LayoutModel.Layouts.{Layout, IsMaterial}
pub use Rattle.cell_paint.specs.LayoutModel.Places.{Place, AreNeighbours}
pub use Rattle.cell_paint.specs.LayoutModel.Transistors.{AreOneChannel, IsTerminalOf, Transistor, IsTransistor, gate_length, AreTransistors}
pub use Rattle.tech_model.specs.WellFormed.{IsWellFormed}
pub use Rattle.ext_model.specs.declared.records.NodeRec.{NodeRec}
pub use Rattle.cell_paint.specs.LayoutModel.LayerTypes.{HasTypesOf}
pub use Rattle.own_record_laws.specs.TreeRecords.FetRecords.{IsOfNode, IsNodeBefore, AreFetRecords}
pub use Rattle.ext_model.specs.declared.records.FetRec.{FetRec}
pub use Rattle.fet_regions.specs.Measures.Bounds.{IsNearPlace}
pub use Rattle.fet_regions.specs.declared.transistors.Fet.{Fet}
pub use Rattle.fet_regions.specs.Transistors.{transistor_of}
pub use Rattle.cell_records.specs.steps.Joined.{is_to, length_in, length_told, AreJoined}
pub use Rattle.cell_records.specs.steps.FetsOfRegions.{name_at, term_of, IsSmallFet, IsRecordOfFet, AreRecordsOfFets}
