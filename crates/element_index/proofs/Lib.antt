mod Common
pub mod IdLaws
mod PartLaws
mod SquareLaws
mod BlockLaws
mod ForestLaws
pub mod HoldLaws
mod RowLaws
