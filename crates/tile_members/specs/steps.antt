pub mod Finding
pub mod KnownMembers
pub mod MemberNames
pub mod MergeTables
pub mod OpenedCells
