use Rattle.meeting_laws.proofs.Common.{Passes}
use Rattle.meeting_laws.proofs.LinkLaws.{link_of_part}
use Rattle.meeting_laws.proofs.links_are_of_parts_or_within.Goals as goal

pub returns : goal.returns
returns c = λ within parts holds a b link. link_of_part (Passes within) parts holds c.args.tech.now a b link
