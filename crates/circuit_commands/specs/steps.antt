pub mod FaultLimits
