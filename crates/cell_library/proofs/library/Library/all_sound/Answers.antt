use Rattle.cell_library.proofs.library.Library.all_sound.Goals as goal

pub returns : goal.returns
returns c = rw (← c.self.view_is) c.all_sound.ensures
