use Rattle.std.proofs.Common.{◌∙◌, sym, ap, List, ℕ, Some}
use Rattle.outside_io.proofs.FileLaws.{bytes_of-from_entries}
use Rattle.outside_io.proofs.faultless.FaultlessShelf.file.Goals as goal

pub returns-in-Some : goal.returns-in-Some
returns-in-Some c =
    bytes_of-from_entries c.args.self.now.files.entries c.args.name.now ∙ sym c.in-Some.ensures.value
    ∙ ap (λ (b : List ℕ). Some b) (sym c.items.ensures)

pub returns-in-None : goal.returns-in-None
returns-in-None c =
    bytes_of-from_entries c.args.self.now.files.entries c.args.name.now ∙ sym c.in-None.ensures.value
