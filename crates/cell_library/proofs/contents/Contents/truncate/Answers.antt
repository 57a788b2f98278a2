use Rattle.cell_library.proofs.Common.{take, sym, ap, subst, ◌∙◌, held_in, AreKept}
use Rattle.cell_library.proofs.ContentLaws.{held_first}
use Rattle.cell_library.proofs.KeptContents.{kept_first}
use Rattle.cell_library.proofs.contents.Contents.truncate.Goals as goal

pub invariant_of-self : goal.invariant_of-self
invariant_of-self c =
    subst AreKept (sym c.truncate.ensures.entries) (kept_first c.self.inside.entries.entries c.args.count c.self.invariant)

pub returns : goal.returns
returns c = ap held_in c.truncate.ensures.entries ∙ held_first c.self.inside.entries.entries c.args.count ∙ ap (take c.args.count) c.self.view_is
