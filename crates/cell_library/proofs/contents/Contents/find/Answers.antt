use Rattle.cell_library.proofs.Common.{ap, ◌∙◌, position_of}
use Rattle.cell_library.proofs.ContentLaws.{found_by_key}
use Rattle.cell_library.proofs.contents.Contents.find.Goals as goal

pub returns : goal.returns
returns c =
    c.get_index_of.ensures.index ∙ found_by_key c.self.inside.entries.entries c.args.name.now c.self.invariant.names
    ∙ ap (position_of c.args.name.now) c.self.view_is
