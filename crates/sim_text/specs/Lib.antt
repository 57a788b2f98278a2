-- what crates above name of those below
pub use Rattle.text_form.specs as TextForm
pub mod Parts
pub mod LineForms
pub mod SimTexts
pub mod WrittenTexts
pub mod Writable
