-- what crates above name of those below
pub use Rattle.sim_text.specs as SimText
pub mod Switches
pub mod SimRecords
pub mod SimNames
pub mod Drafts
