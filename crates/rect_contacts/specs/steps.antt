pub mod Actives
pub mod Events
pub mod Sides
