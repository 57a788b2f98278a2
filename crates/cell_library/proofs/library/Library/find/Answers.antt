use Rattle.cell_library.proofs.Common.{◌∙◌}
use Rattle.cell_library.proofs.NewCells.{named_seen}
use Rattle.cell_library.proofs.library.Library.find.Goals as goal

pub returns-in-Some : goal.returns-in-Some
returns-in-Some c =
    rw (← c.self.view_is) (c.in-Some.ensures
    ∙ named_seen (record { tech = c.self.inside.tech; scale = c.self.inside.scale; contents = c.self.inside.contents; tree = c.self.inside.tree })
    c.args.name.now)

pub returns-in-None : goal.returns-in-None
returns-in-None c =
    rw (← c.self.view_is) (c.in-None.ensures
    ∙ named_seen (record { tech = c.self.inside.tech; scale = c.self.inside.scale; contents = c.self.inside.contents; tree = c.self.inside.tree })
    c.args.name.now)
