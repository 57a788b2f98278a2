mod AtomSteps
mod Common
mod ContactLines
mod ContactSteps
mod FinishedDrafts
mod Growths
mod IndexLaws
mod Keeps
pub mod LookupLaws
pub mod Refusals
mod RuleLines
pub mod SoundDrafts
pub mod SoundLines
mod Steps
mod UnionSteps
pub mod WordLaws
