pub mod Folds
pub mod FirstFaults
pub mod SaidLines
pub mod Parts
