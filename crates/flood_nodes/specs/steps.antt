pub mod Gathered
pub mod LinkedTiles
pub mod Runs
