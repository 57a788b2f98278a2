pub mod MarkedMerges
pub mod MemberPairs
pub mod Pieces
