pub mod NextWords
