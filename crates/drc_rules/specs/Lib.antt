pub mod RuleLines
pub mod RuleFiles
pub mod LawfulRules
pub mod steps
