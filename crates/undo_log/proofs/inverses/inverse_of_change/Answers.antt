use Rattle.undo_log.proofs.Common.{◌≡◌, ℕ, ℤ, List, map, subst, sym, refl, ◌<◌, IfOk-weaker, Distinct, UseBody, seen, IsLawfulView, CellView}
use Rattle.undo_log.proofs.Common.{LibraryView, view_at, Change, AddLabel, DeleteUse, DropLabel, InsertUse, MoveUse, Repaint, SetGrid, SetLabels}
use Rattle.undo_log.proofs.Common.{CanBeMade, TakesBack, changed, AddsLast, PutsBack}
use Rattle.undo_log.proofs.CellLaws.{cell_here, count_kept}
use Rattle.undo_log.proofs.ChangeLaws.{deletion_taken_back, drop_taken_back, grid_taken_back, insertion_taken_back, label_taken_back}
use Rattle.undo_log.proofs.ChangeLaws.{labels_taken_back, move_taken_back, remade, repaint_taken_back}
use Rattle.undo_log.proofs.LawfulLaws.{lawful_ids}
use Rattle.undo_log.proofs.UseMoves.{IsShort, moves_are_short, new_id, short_opposite, short_opposite_is}
use Rattle.undo_log.proofs.inverses.inverse_of_change.Goals as goal

-- what takes another name of the change back takes it back
as_named : (view : LibraryView) (cell : ℕ) (change named back : Change) → change ≡ named → TakesBack view (changed view cell named) cell back
    → TakesBack view (changed view cell change) cell back
as_named view cell change named back is takes = subst (λ (ch : Change). TakesBack view (changed view cell ch) cell back) (sym is) takes

-- what can be made, under another name
made_named : (view : LibraryView) (cell : ℕ) (change named : Change) → change ≡ named → CanBeMade view cell change → CanBeMade view cell named
made_named view cell change named is can = subst (CanBeMade view cell) is can

pub returns-in-Repaint : goal.returns-in-Repaint
returns-in-Repaint c =
    let view : LibraryView = seen c.args.library.now in
    let cell : ℕ = c.args.cell.0 in
    let arm = c.in-Repaint in
    IfOk-weaker c.paint_back.result (PutsBack view.tech (view_at view cell) arm.area) (λ back. TakesBack view (changed view cell c.args.change.now) cell back)
    (λ back puts. as_named view cell c.args.change.now (Repaint arm.area arm.field-1) back arm.is
    (repaint_taken_back view cell c.requires.change.there arm.area arm.field-1 back puts)) c.paint_back.ensures

pub returns-in_ok-copy-in-InsertUse : goal.returns-in_ok-copy-in-InsertUse
returns-in_ok-copy-in-InsertUse c =
    let view : LibraryView = seen c.args.library.now in
    let cell : ℕ = c.args.cell.0 in
    let arm = c.in-InsertUse in
    let there = c.requires.change.there in
    let can = made_named view cell c.args.change.now (InsertUse arm.field-0 arm.id arm.field-2) arm.is c.requires.change in
    let insert_it = remade (InsertUse arm.field-0 arm.id arm.field-2) in
    let differ : Distinct (map (λ (e : List ℕ × UseBody). e.0) (insert_it (view_at view cell)).uses) =
    subst (λ (held : CellView). Distinct (map (λ (e : List ℕ × UseBody). e.0) held.uses)) (cell_here view cell insert_it there)
    (lawful_ids (changed view cell (InsertUse arm.field-0 arm.id arm.field-2)) cell can.lawful
    (subst (λ (n : ℕ). cell < n) (sym (count_kept view cell insert_it)) there)) in
    let new = new_id (view_at view cell).uses arm.field-0 arm.id arm.field-2 differ in
    as_named view cell c.args.change.now (InsertUse arm.field-0 arm.id arm.field-2) (DeleteUse c.in_ok-copy-in-InsertUse.field-0) arm.is
    (subst (λ (id : List ℕ). TakesBack view (changed view cell (InsertUse arm.field-0 arm.id arm.field-2)) cell (DeleteUse id))
    (sym c.in_ok-copy-in-InsertUse.ensures) (insertion_taken_back view cell there arm.field-0 arm.id arm.field-2 new))

pub returns-in-Some : goal.returns-in-Some
returns-in-Some c =
    let view : LibraryView = seen c.args.library.now in
    let cell : ℕ = c.args.cell.0 in
    as_named view cell c.args.change.now (DeleteUse c.in-DeleteUse.id) c.in-Some.back c.in-DeleteUse.is
    (deletion_taken_back view cell c.requires.change.there c.in-DeleteUse.id c.in-Some.back (c.args.library.now, c.lawful.ensures, refl)
    (rw c.in-Some.is at c.in_ok-back-in-DeleteUse.ensures))

-- a move that can be made is short
short_moves : (view : LibraryView) (cell : ℕ) (change : Change) (id : List ℕ) (dx dy : ℤ) → change ≡ MoveUse id dx dy → IsLawfulView view
    → CanBeMade view cell change → IsShort dx × IsShort dy
short_moves view cell change id dx dy is lawful can =
    let named = made_named view cell change (MoveUse id dx dy) is can in
    moves_are_short view cell id dx dy named.there lawful named.lawful named.speaks

pub overflow_sub-result : goal.overflow_sub-result
overflow_sub-result c =
    let arm = c.in-MoveUse in
    short_opposite arm.dx
    (short_moves (seen c.args.library.now) c.args.cell.0 c.args.change.now arm.id arm.dx arm.dy arm.is
    (c.args.library.now, c.lawful.ensures, refl) c.requires.change).0

pub overflow_sub-result-in-MoveUse : goal.overflow_sub-result-in-MoveUse
overflow_sub-result-in-MoveUse c =
    let arm = c.in-MoveUse in
    short_opposite arm.dy
    (short_moves (seen c.args.library.now) c.args.cell.0 c.args.change.now arm.id arm.dx arm.dy arm.is
    (c.args.library.now, c.lawful.ensures, refl) c.requires.change).1

pub returns-in_ok-copy-in-MoveUse : goal.returns-in_ok-copy-in-MoveUse
returns-in_ok-copy-in-MoveUse c =
    let view : LibraryView = seen c.args.library.now in
    let cell : ℕ = c.args.cell.0 in
    let arm = c.in-MoveUse in
    let named = made_named view cell c.args.change.now (MoveUse arm.id arm.dx arm.dy) arm.is c.requires.change in
    let short =
    short_moves view cell c.args.change.now arm.id arm.dx arm.dy arm.is (c.args.library.now, c.lawful.ensures, refl) c.requires.change in
    let dx = short_opposite_is arm.dx short.0 in
    let dy = short_opposite_is arm.dy short.1 in
    as_named view cell c.args.change.now (MoveUse arm.id arm.dx arm.dy) _ arm.is
    (subst (λ (back : Change). TakesBack view (changed view cell (MoveUse arm.id arm.dx arm.dy)) cell back)
    (λ i. MoveUse (sym c.in_ok-copy-in-MoveUse.ensures i) (sym dx i) (sym dy i))
    (move_taken_back view cell named.there arm.id arm.dx arm.dy named.speaks))

pub returns-in-Some-2 : goal.returns-in-Some-2
returns-in-Some-2 c =
    let view : LibraryView = seen c.args.library.now in
    let cell : ℕ = c.args.cell.0 in
    let arm = c.in-SetGrid in
    let named = made_named view cell c.args.change.now (SetGrid arm.id arm.field-1) arm.is c.requires.change in
    as_named view cell c.args.change.now (SetGrid arm.id arm.field-1) c.in-Some-2.back arm.is
    (grid_taken_back view cell named.there arm.id c.in-Some-2.back (λ used. record used { grid = arm.field-1 }) (λ other grid. refl) named.speaks
    (c.args.library.now, c.lawful.ensures, refl) (rw c.in-Some-2.is at c.in_ok-back-in-SetGrid.ensures))

pub returns-in-AddLabel : goal.returns-in-AddLabel
returns-in-AddLabel c =
    let view : LibraryView = seen c.args.library.now in
    let cell : ℕ = c.args.cell.0 in
    as_named view cell c.args.change.now (AddLabel c.in-AddLabel.field-0) DropLabel c.in-AddLabel.is
    (label_taken_back view cell c.requires.change.there c.in-AddLabel.field-0)

pub returns-in-DropLabel : goal.returns-in-DropLabel
returns-in-DropLabel c =
    let view : LibraryView = seen c.args.library.now in
    let cell : ℕ = c.args.cell.0 in
    IfOk-weaker c.label_back.result (AddsLast (view_at view cell).labels) (λ back. TakesBack view (changed view cell c.args.change.now) cell back)
    (λ back adds. as_named view cell c.args.change.now DropLabel back c.in-DropLabel.is
    (drop_taken_back view cell c.requires.change.there back adds)) c.label_back.ensures

pub returns-in-SetLabels : goal.returns-in-SetLabels
returns-in-SetLabels c =
    let view : LibraryView = seen c.args.library.now in
    let cell : ℕ = c.args.cell.0 in
    let arm = c.in-SetLabels in
    IfOk-weaker c.labels_back.result (λ back. back ≡ SetLabels (view_at view cell).labels)
    (λ back. TakesBack view (changed view cell c.args.change.now) cell back)
    (λ back is. as_named view cell c.args.change.now (SetLabels arm.field-0) back arm.is
    (subst (λ (ch : Change). TakesBack view (changed view cell (SetLabels arm.field-0)) cell ch) (sym is)
    (labels_taken_back view cell c.requires.change.there (λ _. arm.field-0)))) c.labels_back.ensures
