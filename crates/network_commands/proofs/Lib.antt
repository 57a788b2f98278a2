-- what crates above name of those below
pub use Rattle.sim_networks.proofs as SimNetworks
mod Common
mod SimulationCommands
pub mod RestLaws
