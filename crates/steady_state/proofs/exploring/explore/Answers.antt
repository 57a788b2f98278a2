use Rattle.steady_state.proofs.Common.{ℕ, arith, slice_index, Left, Right, network_in}
use Rattle.steady_state.proofs.Collecting.{adds_then, covered_late}
use Rattle.steady_state.proofs.Gathering.{gathered_more}
use Rattle.steady_state.proofs.exploring.explore.Goals as goal

pub nodes-init : goal.nodes-init
nodes-init c = record {
  marks = c.mark.ensures.marks;
  adds = c.mark.ensures.adds;
  begun = c.mark.ensures.adds.more;
  reached = λ seeds k r. c.mark.ensures.reached c.args.state.now seeds k (λ st. r);
  marked = c.mark.ensures.marked;
  left = λ i ge lt. absurd (omega arith);
  right = λ i ge lt. absurd (omega arith);
  gathered = λ i ge lt. absurd (omega arith);
}

pub nodes-preserved : goal.nodes-preserved
nodes-preserved c =
    let here = c.gather-begun.ensures in
    let inv = c.nodes.invariant in
    let net = network_in c.args.net.now in
    let node : ℕ = slice_index c.nodes.marks.order c.nodes.scanned in
    let same = c.items.ensures in
    let inside = c.nodes.marks.listed.listed c.nodes.scanned c.nodes-test.true in
    let in_net = (inv.marks.storage node inside).0 in
    record {
      marks = here.marks;
      adds = adds_then c.args.marks.now c.nodes.marks c.gather-begun.new.marks inv.adds here.adds;
      begun = omega (arith, here.adds.more);
      reached = λ seeds k r. let now = inv.reached seeds k r in here.reached seeds now (rw same (now node inside));
      marked = λ st. here.adds.grown c.args.seed (inv.marked st);
      left = covered_late net c.args.state.now Left c.nodes.marks.inside c.gather-begun.new.marks.inside c.nodes.marks.order c.gather-begun.new.marks.order
          c.args.marks.now.count c.nodes.scanned c.nodes.marks.count c.nodes-test.true here.adds.grown here.adds.same (rw same at here.left) inv.left;
      right = covered_late net c.args.state.now Right c.nodes.marks.inside c.gather-begun.new.marks.inside c.nodes.marks.order c.gather-begun.new.marks.order
          c.args.marks.now.count c.nodes.scanned c.nodes.marks.count c.nodes-test.true here.adds.grown here.adds.same (rw same at here.right) inv.right;
      gathered = rw same (gathered_more net c.args.state.now c.nodes.marks.order c.gather-begun.new.marks.order c.args.marks.now.count c.nodes.scanned
          c.nodes.definite c.nodes.one c.nodes.zero c.gather-begun.result
          (omega (arith, in_net, c.nodes.auto.definite, c.requires.definite)) (omega (arith, in_net, c.nodes.auto.one, c.requires.one))
          (omega (arith, in_net, c.nodes.auto.zero, c.requires.zero))
          (λ i lt. c.nodes.marks.listed.distinct i c.nodes.scanned lt c.nodes-test.true) (λ i lt. here.adds.same i (omega arith))
          (rw same at here.gathered) inv.gathered);
    }
