use Rattle.std.proofs.Common.{◌∙◌, ap, List, ℕ}
use Rattle.std.specs.Prelude.{Some}
use Rattle.std.specs.FinMap.{from_entries}
use Rattle.outside_io.specs.Files.{Files, with_file}
use Rattle.outside_io.proofs.FileLaws.{from_entries-updated}
use Rattle.outside_io.proofs.faultless.FaultlessShelfShelf.store.Goals as goal

pub returns-clause-stored : goal.returns-clause-stored
returns-clause-stored c =
    let old : Files = from_entries c.args.self.now.files.entries in
    let kept = c.of-kept.ensures ∙ c.in_ok-from_slice.ensures.items in
    ap (λ (f : Files). Some f)
    (from_entries-updated c.args.self.now.files.entries c.insert.new.self.entries c.in_ok-name.name c.of-kept.result c.in_ok-insert.ensures.updates.0
    ∙ ap (λ (n : List ℕ). with_file old n c.of-kept.result) c.in_ok-name.ensures
    ∙ ap (with_file old c.args.name.now) kept)
