-- what crates above name of those below
pub use Rattle.sim_networks.specs as SimNetworks
pub use Rattle.network_runs.specs.StackRuns as StackRuns
pub use Rattle.network_runs.specs.FaultGrade as FaultGrade
pub use Rattle.network_runs.specs as NetworkRuns
pub mod CommandSimrun
pub mod Refusals
