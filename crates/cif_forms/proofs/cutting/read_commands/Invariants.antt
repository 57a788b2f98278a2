use Rattle.cif_forms.proofs.Common.{◌≡◌, ◌≤◌, ◌+◌, length, slice_split, is_semicolon, line_of_command, first_faulty_part_or, commands_from, step_on}
use Rattle.cif_forms.proofs.cutting.read_commands.Given as goal

abbrev pub invariant-loop-command : goal.invariant-loop-command
invariant-loop-command g l =
    let step = step_on g.R.CommandReader.step in
    record {
      lines : l.line + length l.rest ≤ 1 + length l.text;
      commands : first_faulty_part_or line_of_command step l.reader (commands_from l.line (slice_split is_semicolon l.rest))
          ≡ first_faulty_part_or line_of_command step l.initial.reader (commands_from 1 (slice_split is_semicolon l.text));
    }

abbrev pub decreases-loop-command : goal.decreases-loop-command
decreases-loop-command g l = length l.rest
