mod Common
mod Places
pub mod Rails
pub mod Alike
pub mod FittingLines
mod RefusedFiles
