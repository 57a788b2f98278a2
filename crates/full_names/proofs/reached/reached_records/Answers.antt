use Rattle.full_names.proofs.Common.{◌≡◌, ◌+◌, ◌<◌, ◌++◌, ◌∷◌, [], ℕ, Bool, true, false, List, Vec, Global, length, get_or, sym, ◌∙◌, ap, subst}
use Rattle.full_names.proofs.Common.{arith, set, length-set, get_or_default, TreeElement, flat_at, AreReachedBelow}
use Rattle.full_names.proofs.ReachedLaws.{AreSoFar, reached_none, reached_again, reached_new}
use Rattle.full_names.proofs.RecordReads.{cell_within}
use Rattle.full_names.proofs.reached.reached_records.Goals as goal
use Rattle.full_names.proofs.reached.reached_records.Goals.{then-not-index+in_ok-push, else-not-index}

pub loop-number-init : goal.loop-number-init
loop-number-init c = record {
  long = sym c.in_ok-cells.cells.ok.0 ∙ c.in_ok-cells.ensures.len;
  so_far = reached_none c.items-element-items.result.now c.args.count c.in_ok-cells.cells.items c.new-firsts.result.items
      (c.in_ok-cells.ensures.items_if_clones_equal (λ y e. e)) c.new-firsts.ensures.items;
}

pub loop-number-preserved : goal.loop-number-preserved
loop-number-preserved c =
    let flats = c.items-element-items.result.now in
    let k = c.loop-number.number in
    let cells = c.loop-number.cells.items in
    let firsts = c.loop-number.firsts.items in
    let long = c.loop-number.invariant.long in
    let cell = (flat_at flats k).cell in
    let inside : cell < c.args.count =
    cell_within c.args.tree.now.elements flats c.args.count k c.items-element-items.ensures c.requires c.loop-number-test.true in
    let within : cell < length cells = omega (arith, inside, long) in
    let read : c.index.result.now ≡ get_or cells cell false = c.index.ensures ∙ get_or_default cells cell c.index.result.now false within in
    elim c.if-not-index.branch [
      | then-not-index+in_ok-push w ↦
          let cells_are : c.if-not-index.cells.items ≡ set cells cell true = ap (λ (v : Vec Bool Global). v.items) w.cells-is in
          let firsts_are : c.if-not-index.firsts.items ≡ firsts ++ k ∷ [] = ap (λ (v : Vec ℕ Global). v.items) w.firsts-is ∙ w.in_ok-push.ensures.items in
          record {
            long = ap length cells_are ∙ length-set cells cell true ∙ long;
            so_far = subst (λ (marks : List Bool). AreSoFar flats (k + 1) marks c.if-not-index.firsts.items) (sym cells_are)
                (subst (AreSoFar flats (k + 1) (set cells cell true)) (sym firsts_are)
                (reached_new flats k cells firsts within c.loop-number.invariant.so_far));
          }
      | else-not-index w ↦
          let cells_are : c.if-not-index.cells.items ≡ cells = ap (λ (v : Vec Bool Global). v.items) w.cells-is in
          let firsts_are : c.if-not-index.firsts.items ≡ firsts = ap (λ (v : Vec ℕ Global). v.items) w.firsts-is in
          record {
            long = ap length cells_are ∙ long;
            so_far = subst (λ (marks : List Bool). AreSoFar flats (k + 1) marks c.if-not-index.firsts.items) (sym cells_are)
                (subst (AreSoFar flats (k + 1) cells) (sym firsts_are)
                (reached_again flats k cells firsts (sym read ∙ w.if-not-index.false) c.loop-number.invariant.so_far));
          }
    ]

pub returns : goal.returns
returns c =
    let past = c.loop-number-test.false in
    let here = c.loop-number.auto.number-end in
    let all : c.loop-number.number ≡ length c.items-element-items.result.now = omega (arith, past, here) in
    record {
      long = c.loop-number.invariant.long;
      reached = subst (λ (flats : List TreeElement). AreReachedBelow flats (length flats) c.loop-number.cells.items c.loop-number.firsts.items)
          c.items-element-items.ensures
          (subst (λ (n : ℕ). AreReachedBelow c.items-element-items.result.now n c.loop-number.cells.items c.loop-number.firsts.items) all
          c.loop-number.invariant.so_far.below);
    }
