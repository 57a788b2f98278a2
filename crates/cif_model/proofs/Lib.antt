pub mod PlacingLaws
pub mod RectLaws
pub mod SizeLaws
