pub mod LineForms
pub mod NodeLookup
pub mod VectorFiles
