-- what crates above name of those below
pub use Rattle.outside_io.specs as OutsideIo
pub mod Causes
pub mod Counted
pub mod Effects
pub mod Fetches
pub mod FileTrees
pub mod Laws
pub mod Progress
pub mod Reports
pub mod Reruns
pub mod Scripts
pub mod steps
