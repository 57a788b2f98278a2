-- what crates above name of those below
pub use Rattle.name_classes.specs as NameClasses
pub mod Sinks
pub mod steps
