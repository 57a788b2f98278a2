mod Common
mod UnderWay
mod Within
mod Passes
mod Collecting
pub mod Moving
mod Wires
pub mod Resting
mod Rounds
mod Gathering
mod Vicinity
