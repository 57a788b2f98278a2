-- what crates above name of those below
pub use Rattle.circuit_model.specs as CircuitModel
pub use Rattle.line_answers.specs as LineAnswers
pub use Rattle.sim_records.specs as SimRecords
pub use Rattle.ext_loading.specs.PlainRecords as PlainRecords
pub use Rattle.ext_loading.specs as ExtLoading
pub use Rattle.circuit_laws.specs as CircuitLaws
pub mod Circuits
pub mod CommandExt2sim
pub mod GivenFets
pub mod Refusals
pub mod steps
