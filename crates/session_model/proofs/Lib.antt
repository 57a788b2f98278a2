mod CauseLaws
mod Common
pub mod CountedLaws
pub mod EffectLaws
pub mod FetchLaws
pub mod FileTreeLaws
pub mod ProgressLaws
pub mod RerunLaws
pub mod SessionLaws
pub mod StopLaws
mod StoreLaws
