use Rattle.meeting_sums.proofs.StackTests.{pieces_are_tiles}
use Rattle.meeting_sums.proofs.stacks_are_layout_tiles.Goals as goal

pub returns : goal.returns
returns c = λ parts stacks are typed. pieces_are_tiles c.args.tech.now parts stacks are typed
