mod AppendedLines
mod Common
mod PathCuts
