mod BudgetLaws
mod ParseLaws
mod WalkLaws
