pub mod LawfulDrafts
