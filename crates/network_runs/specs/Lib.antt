-- what crates above name of those below
pub use Rattle.stack_runs.specs as StackRuns
pub use Rattle.fault_grade.specs as FaultGrade
pub use Rattle.vector_runs.specs as VectorRuns
pub mod NetworkRuns
pub mod Refusals
pub mod Simulations
pub mod Grading
pub mod Headline
