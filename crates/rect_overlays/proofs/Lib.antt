-- what crates above name of those below
pub use Rattle.rect_contacts.proofs as RectContacts
mod Apart
mod Begin
mod Common
mod Halves
mod Held
pub mod Lists
mod Parts
mod Splitting
mod Turns
mod Weights
