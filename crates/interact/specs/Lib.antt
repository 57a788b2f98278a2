pub mod NearBoxes
pub mod steps
