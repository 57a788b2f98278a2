use Rattle.fault_replay.proofs.Common.{◌≡◌, ℕ, ◌+◌, ◌<◌, List, [], ◌∷◌, ◌++◌, ap, arith, length, slice_index, slice_index_or, slice_set, subst, sym}
use Rattle.fault_replay.proofs.Common.{take, ◌∙◌, All, get_or_default, All-push, Level, X, Zero, changed, taken_from}
use Rattle.std.specs.Prelude.{Vec}
use Rattle.std.specs.Global.{Global}
use Rattle.fault_replay.proofs.ChangedStates.{changed-append, taken_again, taken_more}
use Rattle.fault_replay.proofs.changing.changes_between.Goals as goal
use Rattle.fault_replay.proofs.changing.changes_between.Goals.{then-differs_at+in_ok-push, else-differs_at}

-- one node more that differs
added : (old new : List Level) (nodes : List ℕ) (i : ℕ) (items more : List (ℕ × Level)) → i < length nodes → slice_index nodes i < length new
    → changed items old ≡ changed (taken_from new (take i nodes)) old
    → more ≡ items ++ (slice_index nodes i, slice_index_or new (slice_index nodes i) Zero) ∷ []
    → changed more old ≡ changed (taken_from new (take (i + 1) nodes)) old
added old new nodes i items more below within before pushed =
    let v = slice_index nodes i in
    let x = slice_index_or new v Zero in
    ap (λ (all : List (ℕ × Level)). changed all old) pushed ∙ changed-append items ((v, x) ∷ []) old ∙ ap (λ (s : List Level). slice_set s v x) before
    ∙ ap (slice_set (changed (taken_from new (take i nodes)) old) v) (get_or_default new v Zero X within) ∙ sym (taken_more new nodes i 0 old below)

pub loop-node-preserved : goal.loop-node-preserved
loop-node-preserved c =
    let old = c.args.old.now in
    let new = c.args.new.now in
    let nodes = c.args.nodes.now in
    let i = c.loop-node.node-index in
    let v = slice_index nodes i in
    let in_old : v < length old = c.requires.nodes i 0 c.loop-node-test.true in
    let in_new : v < length new = omega (arith, in_old, c.requires.new) in
    let before = c.loop-node.invariant in
    elim c.if-differs_at.branch [
      | then-differs_at+in_ok-push w ↦ (
          let items = ap (λ (all : Vec (ℕ × Level) Global). all.items) w.changes-is ∙ w.in_ok-push.ensures.items in
          record {
            same = added old new nodes i c.loop-node.changes.items c.if-differs_at.changes.items c.loop-node-test.true in_new before.same items;
            within = subst (All (λ (change : ℕ × Level). change.0 < length old)) (sym items)
                (All-push (λ (change : ℕ × Level). change.0 < length old) c.loop-node.changes.items (v, slice_index_or new v Zero) before.within in_old);
          })
      | else-differs_at w ↦ (
          let items = ap (λ (all : Vec (ℕ × Level) Global). all.items) w.changes-is in
          record {
            same = ap (λ (all : List (ℕ × Level)). changed all old) items ∙ before.same
                ∙ sym (taken_more new nodes i 0 old c.loop-node-test.true ∙ taken_again new (take i nodes) old v (c.differs_at.ensures w.if-differs_at.false));
            within = subst (All (λ (change : ℕ × Level). change.0 < length old)) (sym items) before.within;
          })
    ]
