-- What most files of proofs name of what stands below, and of the definitions of this crate.
pub use Rattle.std.proofs.Common.{◌≡◌, ◌≢◌, ◌⊎◌, ◌+◌, ◌==◌, ℕ, zero, suc, Bool, false, List, [], ◌∷◌, Option, bit_or, if◌then◌else◌, inl, inr, refl}
pub use Rattle.std.proofs.Common.{sym, ap, ◌∙◌, arith, eq-eqb, ne_eqb, slice_get}
pub use Rattle.std.specs.Prelude.{Some, None, IsTrue}
pub use Rattle.std.proofs.lemmas.Bool.{cases_eq}
pub use Rattle.tech_model.specs.FiniteSets.Lists.{In}
pub use Rattle.tech_model.proofs.FiniteSets.Members.{In-append_cases}
pub use Rattle.tech_model.specs.declared.raw.RawTech.{RawTech}
pub use Rattle.tech_model.specs.Types.{joined}
pub use Rattle.tech_model.specs.Rules.{KeepsRules}
pub use Rattle.tech_model.specs.WellFormed.{IsWellFormed}
pub use Rattle.tech_model.proofs.TypeLaws.{within_self}
pub use Rattle.tech_model.specs.ChannelRoles.{is_channel}
pub use Rattle.offences.specs.LayoutModel.Places.{Place}
pub use Rattle.offences.specs.Offences.{SetLayout, joined_at, union_of, flat_type, is_exactly, parts_with, HasKind, Offends}
pub use Rattle.offences.specs.LayoutModel.CellTrees.{OwnCell, CellTree, Elements, place_back, own_types, own_types_below}
pub use Rattle.offences.specs.LayoutModel.CellTrees.CellTree.{cell_tree}
pub use Rattle.offences.specs.LayoutModel.CellTrees.Elements.{no_elements, element_and}
pub use Rattle.offences.specs.LayoutModel.FlatSets.{sets_in, flat_sets, element_parts, IsTyped, AreTyped}
pub use Rattle.hierarchy_model.specs.CleanCells.{IsClean, AreClean}
