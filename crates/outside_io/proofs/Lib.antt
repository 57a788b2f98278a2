pub mod FileLaws
mod ToldLaws
