-- what crates above name of those below
pub use Rattle.edit_script.specs as EditScript
pub mod Inverses
pub mod Laws
pub mod Versions
pub mod steps
