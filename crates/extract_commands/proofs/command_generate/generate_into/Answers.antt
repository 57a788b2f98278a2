use Rattle.extract_commands.proofs.Common.{◌≡◌, ◌∙◌, ℕ, List, [], Some, ap, length, subst, to_z-of_z, unsigned_abs, AnswersAlone, edited_state}
use Rattle.extract_commands.proofs.Common.{ReportLine, GeneratesStack, unless_refused, both_ok}
use Rattle.extract_commands.specs.declared.command_generate.MadeStack.{MadeStack}
use Rattle.extract_commands.specs.steps.MadeStacks.{IsCellOf, IsStackMade}
use Rattle.extract_commands.proofs.GenerateLaws.{stack_made, stack_refused}
use Rattle.extract_commands.proofs.command_generate.generate_into.Goals as goal

pub run_extracted-requires-clause-cell : goal.run_extracted-requires-clause-cell
run_extracted-requires-clause-cell c =
    subst (λ (made : MadeStack). IsCellOf (length c.make_stack.new.edited.library.contents) made) c.in-Made.is c.in_ok-cell.ensures.cell

pub returns-in_ok-answer-in-Made-clause-effect : goal.returns-in_ok-answer-in-Made-clause-effect
returns-in_ok-answer-in-Made-clause-effect c =
    let work = edited_state c.args.edited.now in
    let now = edited_state c.make_stack.new.edited in
    let n = c.rows_of-n.result in
    let rows_are = c.rows_of-n.ensures.rows ∙ ap unsigned_abs (to_z-of_z _ _ c.ranges.count) in
    let ran = edited_state c.run_extracted.new.edited in
    let after = edited_state c.forget_unless_refused.new.edited in
    let answer = c.in_ok-answer-in-Made.answer in
    let came = subst (λ (made : MadeStack). IsStackMade n work now made) c.in-Made.is c.in_ok-cell.ensures.made in
    let is : after ≡ unless_refused answer.lines.items ran =
    subst (λ (lines : List ReportLine). after ≡ unless_refused lines ran) c.as_slice.ensures.value c.forget_unless_refused.ensures.state in
    subst (λ (rows : ℕ). AnswersAlone (GeneratesStack c.args.budget c.args.number rows work) (Some after) answer) rows_are
    (stack_made c.args.budget c.args.number n work now c.in-Made.cell.0 ran after answer came (c.in_ok-answer-in-Made.ensures.effect []) is)

pub returns-in-Refused-clause-effect : goal.returns-in-Refused-clause-effect
returns-in-Refused-clause-effect c =
    let work = edited_state c.args.edited.now in
    let now = edited_state c.make_stack.new.edited in
    let n = c.rows_of-n.result in
    let rows_are = c.rows_of-n.ensures.rows ∙ ap unsigned_abs (to_z-of_z _ _ c.ranges.count) in
    let is = subst (λ (made : MadeStack). IsStackMade n work now made) c.in-Refused.is c.in_ok-cell.ensures.made in
    both_ok c.refuse_generate.result _ _ _
    (λ answer lines stores. subst (λ (rows : ℕ). AnswersAlone (GeneratesStack c.args.budget c.args.number rows work) (Some now) answer) rows_are
    (stack_refused c.args.budget c.args.number n work now c.in-Refused.fault answer is.0 is.1 lines stores))
    c.refuse_generate.ensures.lines c.refuse_generate.ensures.stores
