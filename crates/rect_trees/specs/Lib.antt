pub mod Meetings
pub mod Positions
pub mod Nodes
