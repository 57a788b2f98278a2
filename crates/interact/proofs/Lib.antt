-- what crates above name of those below
pub use Rattle.geo_strips.proofs as GeoStrips
mod Common
mod CountLaws
mod CoveringCounts
mod EdgeLaws
mod EdgeSums
mod Sharings
mod SweepLaws
