-- A line that is read keeps a draft sound.
use Rattle.std.proofs.lemmas.Result.{on_ok_weaker}
use Rattle.tech_draft.proofs.SoundLines.{IsSound-line}
use Rattle.tech_draft.proofs.draft.Draft.read_line.Goals as goal

pub returns-clause-sound : goal.returns-clause-sound
returns-clause-sound c =
    λ sound. on_ok_weaker c.read_in.result
    (λ e. IsSound-line c.args.section c.args.self.now c.read_in.new.self _ sound e) c.read_in.ensures.read
