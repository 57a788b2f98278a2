pub mod AddedMerges
pub mod Laws
pub mod steps
