pub mod CappedSizes
pub mod Drawings
pub mod WideRects
