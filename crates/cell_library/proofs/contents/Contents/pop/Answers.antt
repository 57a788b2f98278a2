use Rattle.cell_library.proofs.KeptContents.{kept_before}
use Rattle.cell_library.proofs.contents.Contents.pop.Goals as goal

pub invariant_of-self : goal.invariant_of-self
invariant_of-self c = kept_before c.self.inside.entries.entries c.pop.new.self.entries _ c.pop.ensures.entries c.self.invariant
