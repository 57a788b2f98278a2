pub mod FoldLaws
pub mod SaidLaws
pub mod PartLaws
