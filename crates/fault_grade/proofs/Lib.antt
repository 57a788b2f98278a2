mod Common
mod Comparisons
mod GradeLaws
