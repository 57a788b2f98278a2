use Rattle.extract_commands.proofs.Common.{◌≡◌, ◌⊎◌, ℕ, Some, None, [], rules, IfOk-weaker, Effect, seen, cell_named, found_there, edited_state}
use Rattle.extract_commands.proofs.Common.{ExtractsCell, RefusesUnclean, State, Workspace, both_ok, answers_on_cell, refused_on_cell}
use Rattle.extract_commands.proofs.command_extract.extract_named.Goals as goal

pub extract_found-requires-clause-cell : goal.extract_found-requires-clause-cell
extract_found-requires-clause-cell c =
    let named : cell_named (seen c.args.edited.now.library) c.args.name.now ≡ Some c.in-Some.cell.0 = search rules in
    found_there c.args.edited.now.library c.args.name.now c.in-Some.cell named

pub returns-in-Some-clause-effect : goal.returns-in-Some-clause-effect
returns-in-Some-clause-effect c =
    let named : cell_named (seen c.args.edited.now.library) c.args.name.now ≡ Some c.in-Some.cell.0 = search rules in
    let Means : Workspace → ℕ → Effect State → Type 0 =
    λ work cell effect. ExtractsCell c.args.name.now work cell effect ⊎ RefusesUnclean c.args.number work [] cell effect in
    IfOk-weaker c.extract_found.result _ _
    (λ answer means. answers_on_cell c.args.number (edited_state c.args.edited.now) c.args.name.now Means
    (Some (edited_state c.extract_found.new.edited)) c.in-Some.cell.0 answer [] named means)
    c.extract_found.ensures.effect

pub returns-in-None-clause-effect : goal.returns-in-None-clause-effect
returns-in-None-clause-effect c =
    let none : cell_named (seen c.args.edited.now.library) c.args.name.now ≡ None = search rules in
    let Means : Workspace → ℕ → Effect State → Type 0 =
    λ work cell effect. ExtractsCell c.args.name.now work cell effect ⊎ RefusesUnclean c.args.number work [] cell effect in
    both_ok c.refuse_no_cell.result _ _ _
    (λ answer lines stores. refused_on_cell c.args.number (edited_state c.args.edited.now) c.args.name.now Means answer none lines stores)
    c.refuse_no_cell.ensures.lines c.refuse_no_cell.ensures.stores
