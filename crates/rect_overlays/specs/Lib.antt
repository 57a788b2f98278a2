-- what crates above name of those below
pub use Rattle.rect_contacts.specs as RectContacts
pub mod Stacks
pub mod steps
