-- The draft of a text without a faulty line is sound.
use Rattle.tech_file.proofs.Common.{lines_of}
use Rattle.tech_file.proofs.SoundReading.{EndsWell-sound}
use Rattle.tech_file.proofs.whole.read_tech.Goals as goal

pub check_whole-requires : goal.check_whole-requires
check_whole-requires c = EndsWell-sound (lines_of c.args.bytes.now) c.in_ok-draft.draft c.in_ok-draft.ensures.read
