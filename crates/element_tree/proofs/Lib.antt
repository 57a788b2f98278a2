mod Common
mod WalkLaws
mod Turns
pub mod Cells
pub mod RecordWalks
mod Orders
mod NameOrders
pub mod Transforms
mod Chains
mod Ranks
mod Growth
pub mod Measures
pub mod Counting
mod Steps
mod RankSums
pub mod Rows
mod Forests
mod Along
mod TreeLaws
