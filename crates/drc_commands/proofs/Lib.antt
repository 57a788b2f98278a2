mod DrcLaws
mod OneDrc
pub mod RestLaws
