use Rattle.steady_state.proofs.Common.{arith}
use Rattle.steady_state.proofs.Moving.{same_states}
use Rattle.steady_state.proofs.changes.commit.Goals as goal

pub returns : goal.returns
returns c = same_states c.loop-node.state c.args.next.now (omega arith) (λ v ne. let q = c.loop-node.invariant v ne in absurd (omega (arith, q)))
