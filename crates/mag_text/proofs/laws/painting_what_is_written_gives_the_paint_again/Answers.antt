use Rattle.mag_text.proofs.PaintAgain.{painted_again}
use Rattle.mag_text.proofs.laws.painting_what_is_written_gives_the_paint_again.Goals as goal

pub returns : goal.returns
returns c = λ raw layout strips w rules sound are. painted_again raw w rules layout sound strips are
