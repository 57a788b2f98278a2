-- What most files of proofs name of what stands below, and of the definitions of this crate.
pub use Rattle.std.proofs.Common.{◌≡◌, ℕ, ℤ, pos, ◌-ℤ◌, List, slice_get, sym, ap, ◌∙◌, arith, ◌≢◌, ◌⊎◌, inl, inr}
pub use Rattle.std.specs.Prelude.{Some}
pub use Rattle.std.proofs.lemmas.Int.{ints}
pub use Rattle.tech_model.specs.FiniteSets.Total.{sum_on}
pub use Rattle.tech_model.specs.declared.raw.RawTech.{RawTech}
pub use Rattle.hierarchy_model.specs.LayoutModel.Places.{Place}
pub use Rattle.hierarchy_model.specs.Offences.Offences.{SetLayout}
pub use Rattle.hierarchy_model.specs.Restrictions.{PartStands, IsRestriction}
pub use Rattle.hierarchy_model.proofs.PartSearch.{NoneStands, who_stands}
pub use Rattle.tech_model.specs.GeoCore.declared.squares.Square.{Square}
pub use Rattle.tech_model.specs.Types.{connects, joined}
pub use Rattle.hierarchy_model.specs.LayoutModel.LayerTypes.{or_space}
pub use Rattle.hierarchy_model.specs.LayoutModel.Layouts.{IsMaterial}
pub use Rattle.meeting_laws.specs.PartLayouts.{part_layout, parts_layout, Passes}
