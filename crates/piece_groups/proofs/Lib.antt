-- what crates above name of those below
pub use Rattle.meeting_sums.proofs as MeetingSums
pub use Rattle.group_meetings.proofs.FullNames as FullNames
pub use Rattle.meeting_sums.proofs.LowerMeetingLaws as MeetingLaws
mod Common
mod PlacesOfPieces
mod MarkedGroups
mod MemberLaws
mod LinkLaws
mod WalkLaws
mod SumLaws
mod GroupLaws
mod MarkLaws
mod ListedThings
mod OwnPlaces
mod RecordedTotals
mod PiecePlaces
mod MarkedMembers
mod GroupAdjustments
mod MarkedAdjustments
mod UnlistedMembers
mod RecordedGroups
