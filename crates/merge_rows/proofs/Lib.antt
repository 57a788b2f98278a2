pub mod AddedRows
mod Tests
mod IndexedPaths
mod PushedRows
pub mod UniqueRows
