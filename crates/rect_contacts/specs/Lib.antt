pub mod Rects
pub mod Contacts
pub mod Squares
pub mod EdgeLaws
pub mod CommonSquares
pub mod steps
