-- What is written of the replies of a vector file.
use Rattle.std.specs.Prelude.{ℕ, pos, List, ◌++◌, codes}
use Rattle.text_scan.specs.Decimal.{decimal}
use Rattle.switch_net.specs.declared.switches.Level.{Level}
use Rattle.switch_net.specs.declared.switches.Level.TheVariants.{Zero, One, X}
use Rattle.vector_runs.specs.declared.replies.VecReply.{VecReply}
use Rattle.vector_runs.specs.declared.replies.VecReply.TheVariants.{Settled, Unsettled, Shown}

abbrev pub level_text : Level → List ℕ
level_text Zero = codes "0"
level_text One = codes "1"
level_text X = codes "X"

-- `phase K settled S`, `phase K unsettled` and `NAME=LEVEL`
abbrev pub reply_text : VecReply → List ℕ
reply_text (Settled phase steps) = codes "phase " ++ decimal (pos phase) ++ codes " settled " ++ decimal (pos steps)
reply_text (Unsettled phase) = codes "phase " ++ decimal (pos phase) ++ codes " unsettled"
reply_text (Shown name level) = name ++ codes "=" ++ level_text level
