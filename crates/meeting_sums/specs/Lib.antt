-- what crates above name of those below
pub use Rattle.rect_contacts.specs as RectContacts
pub use Rattle.offences.specs as Offences
pub use Rattle.meeting_laws.specs.HierarchyModel as HierarchyModel
pub use Rattle.meeting_laws.specs as LowerMeetingLaws
pub use Rattle.meeting_laws.specs.TreeRecords as TreeRecords
pub mod Laws
pub mod StackTiles
pub mod Sums
pub mod steps
