mod Common
pub mod HullLaws
pub mod SizeLaws
pub mod ShrinkLaws
mod TableLaws
pub mod SpreadLaws
mod AboveLaws
mod TrialLaws
mod EditLaws
mod TryLaws
mod FindLaws
mod StepLaws
mod WholeTrialLaws
mod MarkLaws
mod DecideLaws
pub mod WholeLaws
mod CellLaws
mod UserLaws
mod TreeLaws
pub mod StateLaws
mod AddLaws
pub mod GraphLaws
pub mod ArrivalLaws
mod OrderLaws
mod TellLaws
mod BookLaws
mod PushLaws
mod ComeLaws
