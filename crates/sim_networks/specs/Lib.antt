-- what crates above name of those below
pub use Rattle.switch_net.specs as SwitchNet
pub mod SimNetworks
pub mod steps
