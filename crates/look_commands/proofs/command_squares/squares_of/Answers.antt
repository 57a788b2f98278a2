use Rattle.std.proofs.Common.{◌<◌, ℕ, List, length, sym, subst}
use Rattle.std.specs.Prelude.{All}
use Rattle.geo_core.specs.declared.squares.Rect.{Rect}
use Rattle.session_model.specs.declared.report.ReportLine.{ReportLine}
use Rattle.cell_library.specs.Libraries.{seen}
use Rattle.cell_library.specs.Views.{view_at}
use Rattle.line_answers.specs.LineEffects.{IsOfInside}
use Rattle.library_answers.proofs.OffendingLaws.{offending_inside}
use Rattle.library_answers.proofs.UncleanLaws.{offending_planes}
use Rattle.look_commands.proofs.command_squares.squares_of.Goals as goal

pub offending_lines-requires-clause-cell : goal.offending_lines-requires-clause-cell
offending_lines-requires-clause-cell g c =
    let told = rw c.in-Some.is at c.in_ok-found.ensures.found in
    told.1

pub offending_lines-requires-clause-planes : goal.offending_lines-requires-clause-planes
offending_lines-requires-clause-planes g c =
    let found = c.in-Some.found in
    let told = rw c.in-Some.is at c.in_ok-found.ensures.found in
    subst (λ (strips : List (ℕ × Rect)). All (λ strip. strip.0 < length c.args.library.now.tech.planes) strips) (sym c.items.ensures)
    (offending_planes (seen c.args.library.now) found.cell.0 found.squares told.0.are_squares)

pub returns-clause-inside : goal.returns-clause-inside
returns-clause-inside g c =
    let found = c.in-Some.found in
    subst (λ (all : List ReportLine). IsOfInside all) (sym c.in_ok-offending_lines.ensures)
    (offending_inside c.args.library.now.tech (view_at (seen c.args.library.now) found.cell.0).name c.items.result.now)
