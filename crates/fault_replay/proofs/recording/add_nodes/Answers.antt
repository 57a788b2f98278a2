use Rattle.fault_replay.proofs.Common.{ℕ, take, ◌∙◌, Level, Zero, IsInside}
use Rattle.std.proofs.lemmas.List.Elements.{All-more, All-weaker}
use Rattle.fault_replay.proofs.recording.add_nodes.Goals as goal

pub loop-node-preserved : goal.loop-node-preserved
loop-node-preserved c =
    let before = c.loop-node.invariant in
    let new = c.add.new.self.inside in
    let d : ℕ × Level = (0, Zero) in
    record {
      fits = c.add.ensures.fits ∙ before.fits;
      grown = λ v ins. c.add.ensures.grown v (before.grown v ins);
      all = All-more (λ (change : ℕ × Level). IsInside new change.0) c.args.changes.now c.loop-node.node-index d c.loop-node-test.true
          (All-weaker (λ (change : ℕ × Level). IsInside c.loop-node.nodes.inside change.0) (λ (change : ℕ × Level). IsInside new change.0)
          (λ change ins. c.add.ensures.grown change.0 ins) (take c.loop-node.node-index c.args.changes.now) before.all) c.add.ensures.here;
    }
