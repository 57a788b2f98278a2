-- what crates above name of those below
pub use Rattle.meeting_sums.specs.HierarchyModel as HierarchyModel
pub use Rattle.meeting_sums.specs.LowerMeetingLaws as MeetingLaws
pub use Rattle.meeting_sums.specs as MeetingSums
pub use Rattle.meeting_sums.specs.TreeRecords as TreeRecords
pub mod PieceMembers
pub mod MemberMarks
pub mod MemberLaws
pub mod MarkedGroups
pub mod MarkMerges
pub mod Laws
pub mod steps
