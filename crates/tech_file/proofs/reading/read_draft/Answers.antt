-- The lines leave the draft, and the next line would stand somewhere.
use Rattle.std.proofs.Common.{rules}
use Rattle.tech_file.proofs.reading.read_draft.Goals as goal

pub returns-in-Ok-clause-read : goal.returns-in-Ok-clause-read
returns-in-Ok-clause-read c = (c.read_lines.new.reader.place, search rules)
