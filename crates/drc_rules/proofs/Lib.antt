mod FileLaws
mod LawfulLines
