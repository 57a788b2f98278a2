use Rattle.cell_library.proofs.Common.{◌≡◌, ◌&&◌, true, false, true≢false, sym, ◌∙◌, subst, inl, inr, refl, rules, OnOk, and_parts, IfErr-weaker}
use Rattle.cell_library.proofs.Common.{Transform, is_displacement, cell_at, with_moved, IsEdited, TreeRefusesMove, to_z-of_z, moved_use}
use Rattle.cell_library.proofs.FaultLaws.{on_any_ok}
use Rattle.cell_library.proofs.UseSteps.{shift_of}
use mir.Syntax.{w64}
use Rattle.cell_library.proofs.uses.shift_use.Goals as goal

pub returns-then-not-stands_in_range-clause-fault : goal.returns-then-not-stands_in_range-clause-fault
returns-then-not-stands_in_range-clause-fault c =
    let same : c.moved_placing-placed.result ≡ (moved_use c.args.dx c.args.dy c.args.used).placed = c.moved_placing-placed.ensures
    ∙ (λ i. (moved_use (to_z-of_z w64 c.args.dx c.ranges.dx i) (to_z-of_z w64 c.args.dy c.ranges.dy i) c.args.used).placed) in
    let far : (is_displacement c.moved_placing-placed.result.dx && is_displacement c.moved_placing-placed.result.dy) ≡ false = search rules in
    inl (subst (λ (t : Transform). (is_displacement t.dx && is_displacement t.dy) ≡ false) same far, refl)

pub set_use-requires-clause-dx : goal.set_use-requires-clause-dx
set_use-requires-clause-dx c =
    let near : (is_displacement c.moved_placing-placed.result.dx && is_displacement c.moved_placing-placed.result.dy) ≡ true = search rules in
    shift_of _ (and_parts _ _ near).0

pub set_use-requires-clause-dy : goal.set_use-requires-clause-dy
set_use-requires-clause-dy c =
    let near : (is_displacement c.moved_placing-placed.result.dx && is_displacement c.moved_placing-placed.result.dy) ≡ true = search rules in
    shift_of _ (and_parts _ _ near).1

pub returns-clause-near : goal.returns-clause-near
returns-clause-near c =
    let same : c.moved_placing-placed.result ≡ (moved_use c.args.dx c.args.dy c.args.used).placed = c.moved_placing-placed.ensures
    ∙ (λ i. (moved_use (to_z-of_z w64 c.args.dx c.ranges.dx i) (to_z-of_z w64 c.args.dy c.ranges.dy i) c.args.used).placed) in
    let near : (is_displacement c.moved_placing-placed.result.dx && is_displacement c.moved_placing-placed.result.dy) ≡ true = search rules in
    on_any_ok _ c.set_use.result (subst (λ (t : Transform). (is_displacement t.dx && is_displacement t.dy) ≡ true) same near)

pub returns-clause-done : goal.returns-clause-done
returns-clause-done c =
    let same : c.moved_placing-placed.result ≡ (moved_use c.args.dx c.args.dy c.args.used).placed = c.moved_placing-placed.ensures
    ∙ (λ i. (moved_use (to_z-of_z w64 c.args.dx c.ranges.dx i) (to_z-of_z w64 c.args.dy c.ranges.dy i) c.args.used).placed) in
    subst (λ (t : Transform). OnOk c.set_use.result (IsEdited c.args.tree.now c.set_use.new.tree c.args.cell
    (with_moved (cell_at c.args.tree.now.cells c.args.cell) c.args.k t c.args.used.grid))) same c.set_use.ensures.done

pub returns-clause-fault : goal.returns-clause-fault
returns-clause-fault c =
    let same : c.moved_placing-placed.result ≡ (moved_use c.args.dx c.args.dy c.args.used).placed = c.moved_placing-placed.ensures
    ∙ (λ i. (moved_use (to_z-of_z w64 c.args.dx c.ranges.dx i) (to_z-of_z w64 c.args.dy c.ranges.dy i) c.args.used).placed) in
    let near : (is_displacement c.moved_placing-placed.result.dx && is_displacement c.moved_placing-placed.result.dy) ≡ true = search rules in
    let there = subst (λ (t : Transform). (is_displacement t.dx && is_displacement t.dy) ≡ true) same near in
    IfErr-weaker c.set_use.result (TreeRefusesMove c.args.tree.now c.args.cell c.args.k c.moved_placing-placed.result c.args.used.grid) _
    (λ told refuses. inr (
      λ far. true≢false (sym there ∙ far),
      subst (λ (t : Transform). TreeRefusesMove c.args.tree.now c.args.cell c.args.k t c.args.used.grid told) same refuses,
    ))
    c.set_use.ensures.fault
