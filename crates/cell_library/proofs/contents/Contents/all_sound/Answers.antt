use Rattle.cell_library.proofs.Common.{subst, All, IsSoundHeld}
use Rattle.cell_library.proofs.contents.Contents.all_sound.Goals as goal

pub returns : goal.returns
returns c = subst (All IsSoundHeld) c.self.view_is c.self.invariant.sound
