pub mod DecimalLemmas
pub mod LineLemmas
pub mod NumberLemmas
pub mod WordLemmas
pub mod WrittenLemmas
