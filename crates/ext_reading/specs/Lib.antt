pub mod Parts
pub mod LineForms
pub mod Ranges
pub mod Drafts
pub mod ExtTexts
pub mod ReadBack
