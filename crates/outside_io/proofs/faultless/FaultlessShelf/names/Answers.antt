use Rattle.std.proofs.Common.{◌≡◌, ◌∙◌, sym}
use Rattle.std.proofs.lemmas.Grind.{common_steps}
use Rattle.std.proofs.Common.{arith}
use Rattle.std.specs.BTreeMap.{keys}
use Rattle.outside_io.proofs.FileLaws.{names_of-from_entries}
use Rattle.outside_io.proofs.faultless.FaultlessShelf.names.Goals as goal

pub returns : goal.returns
returns c =
    let all : c.loop-name.names.items ≡ keys c.args.self.now.files = grind (arith, common_steps) in
    all ∙ sym (names_of-from_entries c.args.self.now.files.entries c.keys-name-items.ensures.ordered)
