use Rattle.steady_state.proofs.Common.{network_in, Left}
use Rattle.steady_state.proofs.Collecting.{adds_then, covered_grown}
use Rattle.steady_state.proofs.Gathering.{gathered_of}
use Rattle.steady_state.proofs.beginning.gather.Goals as goal

pub returns-clause-gathered : goal.returns-clause-gathered
returns-clause-gathered c = gathered_of (network_in c.args.net.now) c.args.state.now c.args.node c.look_all-left.result c.look_all.result
    c.look_all.ensures.more c.look_all-left.ensures.pulled c.look_all.ensures.pulled c.look_all.ensures.gathering

pub returns-clause-adds : goal.returns-clause-adds
returns-clause-adds c = adds_then c.args.marks.now c.look_all-left.new.marks c.look_all.new.marks c.look_all-left.ensures.adds c.look_all.ensures.adds

pub returns-clause-reached : goal.returns-clause-reached
returns-clause-reached c = λ seeds k r. c.look_all.ensures.reached seeds (c.look_all-left.ensures.reached seeds k r) r

pub returns-clause-left : goal.returns-clause-left
returns-clause-left c = covered_grown (network_in c.args.net.now) c.args.state.now Left c.look_all-left.new.marks.inside c.look_all.new.marks.inside c.args.node
    c.look_all.ensures.adds.grown c.look_all-left.ensures.covered
