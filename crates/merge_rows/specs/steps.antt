pub mod IndexTexts
