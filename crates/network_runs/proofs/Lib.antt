mod Common
mod NetworkRunLaws
mod SimulationLaws
mod ShownLines
mod GradingLaws
