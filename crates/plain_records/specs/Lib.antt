-- what crates above name of those below
pub use Rattle.circuit_model.specs as CircuitModel
pub use Rattle.flat_limits.specs as FlatLimits
pub mod Plains
pub mod Thin
pub mod Reached
pub mod steps
