-- what crates above name of those below
pub use Rattle.rect_contacts.proofs as RectContacts
pub use Rattle.offences.proofs as Offences
pub use Rattle.meeting_laws.proofs as LowerMeetingLaws
mod Common
mod TileTests
mod AmountLaws
mod KindLaws
mod StackLaws
mod ColumnLaws
mod CapacitanceLaws
mod StackTests
mod SumLaws
mod MeetingLaws
mod GroupLaws
mod SmallLaws
