use Rattle.cell_library.proofs.LawfulViews.{sound_view}
use Rattle.cell_library.proofs.library.Library.sound_view.Goals as goal

pub returns : goal.returns
returns c = sound_view c.args.self.now c.lawful.ensures c.all_sound.ensures
