-- what crates above name of those below
pub use Rattle.vector_files.specs as VectorFiles
pub mod Runs
pub mod Replies
pub mod Laws
pub mod Watching
pub mod Running
pub mod RailNodes
