mod BarOrderLaws
mod Common
pub mod CoverageLaws
mod JoinLaws
pub mod RowEventLaws
pub mod RowLaws
mod StripLaws
pub mod StripListLaws
pub mod SweepLaws
