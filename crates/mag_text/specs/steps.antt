pub mod UseIds
