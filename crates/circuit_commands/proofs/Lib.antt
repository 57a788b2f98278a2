-- what crates above name of those below
pub use Rattle.ext_loading.proofs.PlainRecords as PlainRecords
mod Common
mod WrittenSims
pub mod CircuitInside
mod TreeCommands
pub mod RestLaws
