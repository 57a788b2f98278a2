use Rattle.cell_library.proofs.Common.{◌∙◌, inl, inr, refl, rules, slice_get_within}
use Rattle.cell_library.proofs.UseLists.{has_none}
use Rattle.cell_library.proofs.UseSteps.{use_lawful}
use Rattle.cell_library.proofs.uses.find_use.Goals as goal

pub returns-in_default-clause-fault : goal.returns-in_default-clause-fault
returns-in_default-clause-fault c = inr (λ full. c.if-edits-eq-MOST_EDITS.false (c.edits.ensures ∙ full), inl (has_none _ _ c.in_default.ensures.absent, refl))

pub returns-clause-lawful : goal.returns-clause-lawful
returns-clause-lawful c = use_lawful c.args.tree.now c.args.cell c.args.id.now c.in-Some.k _ c.lawful.ensures c.requires (search rules)

pub returns-clause-within : goal.returns-clause-within
returns-clause-within c = slice_get_within _ c.in-Some.k _ c.in-Some.ensures.found.stands
