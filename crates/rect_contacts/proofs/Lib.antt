mod Common
mod Intervals
mod Apart
mod Sweep
mod Sorting
pub mod Shared
mod Touches
mod Counting
pub mod Leading
mod Opening
pub mod BothWays
mod EventOrder
mod RowLaws
mod CommonSweep
pub mod Abutting
