mod Common
pub mod Listed
pub mod Visiting
mod UnderWay
mod Advancing
mod Working
mod Stepping
mod Starting
pub mod Acyclic
mod Thorough
mod Rings
mod NewOrders
mod Users
mod Lesser
mod Closed
