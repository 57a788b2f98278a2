pub mod AnswerLaws
pub mod CauseLaws
pub mod InsideLaws
pub mod TextLaws
