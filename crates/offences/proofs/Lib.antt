-- what crates above name of those below
pub use Rattle.geo_core.proofs as GeoCore
pub use Rattle.layout_model.proofs as LayoutModel
mod Common
pub mod UnionLaws
mod SumLaws
pub mod KindLaws
pub mod OrderLaws
pub mod StackLaws
pub mod TileLaws
mod TypedStackLaws
pub mod MemberLaws
mod SideLaws
pub mod SpoiledLaws
mod ChangeLaws
mod PieceLaws
mod LayerLaws
