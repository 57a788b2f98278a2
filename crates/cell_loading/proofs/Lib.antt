mod ArrivalLaws
mod Common
mod KnownLaws
mod NameSetLaws
mod LeftLaws
mod SoFarLaws
mod ReadingLaws
mod WalkLaws
pub mod FileLaws
