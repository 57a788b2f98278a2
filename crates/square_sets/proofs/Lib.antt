mod BoundLaws
mod BoxLaws
mod CombinedLaws
mod Common
mod DilationLaws
pub mod ErosionLaws
