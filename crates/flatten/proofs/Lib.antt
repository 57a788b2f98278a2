-- what crates above name of those below
pub use Rattle.plain_records.proofs.FlatLimits as FlatLimits
pub use Rattle.name_classes.proofs as NameClasses
mod Common
mod PlaceLaws
mod LabelLaws
mod GroupLaws
mod NodeLaws
mod SpotLaws
mod ScanLaws
mod PlacedLaws
mod AmountLaws
mod BoundLaws
mod AddingLaws
mod EndLaws
mod TotalLaws
mod OrderLaws
mod JoinLaws
mod TerminalLaws
mod FetLaws
mod FlatNodeLaws
mod GivenLaws
mod FaultLaws
mod ArrayLaws
