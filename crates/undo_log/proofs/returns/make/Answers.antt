use Rattle.undo_log.proofs.Common.{◌≡◌, ℕ, ℤ, List, refl, subst, sym, w64, IsLabel, Label, LibFault, IsLawfulLibrary, LibraryParts, edits_of, seen}
use Rattle.undo_log.proofs.Common.{DeleteIsRefused, LabelIsRefused, MoveIsRefused, LibraryView, Change, AddLabel, DeleteUse, MoveUse, CanBeMade}
use Rattle.undo_log.proofs.MakeLaws.{deletes, label_is, labels, moves, nothing_else, nothing_else_or_memory, short_index, short_passed}
use Rattle.undo_log.proofs.UseMoves.{IsShort, moves_are_short}
use Rattle.undo_log.proofs.returns.make.Goals as goal
use mir.Val.{of_z, to_z}

-- a move that can be made is short
short_moves : (library : LibraryParts) (cell : ℕ) (change : Change) (id : List ℕ) (dx dy : ℤ) → IsLawfulLibrary library → change ≡ MoveUse id dx dy
    → CanBeMade (seen library) cell change → IsShort dx × IsShort dy
short_moves library cell change id dx dy lawful is can =
    let named : CanBeMade (seen library) cell (MoveUse id dx dy) = subst (CanBeMade (seen library) cell) is can in
    moves_are_short (seen library) cell id dx dy named.there (library, lawful, refl) named.lawful named.speaks

-- a label that can be added is of its form
label_formed : (library : LibraryParts) (cell : ℕ) (change : Change) (label copy : Label) → change ≡ AddLabel label → copy ≡ label
    → CanBeMade (seen library) cell change → IsLabel library.tech copy
label_formed library cell change label copy is same can =
    let named : CanBeMade (seen library) cell (AddLabel label) = subst (CanBeMade (seen library) cell) is can in
    subst (IsLabel library.tech) (sym same) (label_is (seen library) cell label named.there named.lawful)

pub move_use-requires-clause-dx : goal.move_use-requires-clause-dx
move_use-requires-clause-dx c =
    let arm = c.in-MoveUse in
    short_index arm.dx
    (short_moves c.args.library.now c.args.cell.0 c.args.change.now arm.id arm.dx arm.dy c.lawful.ensures arm.is c.requires.change).0

pub move_use-requires-clause-dy : goal.move_use-requires-clause-dy
move_use-requires-clause-dy c =
    let arm = c.in-MoveUse in
    short_index arm.dy
    (short_moves c.args.library.now c.args.cell.0 c.args.change.now arm.id arm.dx arm.dy c.lawful.ensures arm.is c.requires.change).1

pub label-requires-clause-layer : goal.label-requires-clause-layer
label-requires-clause-layer c =
    (label_formed c.args.library.now c.args.cell.0 c.args.change.now c.in-AddLabel.label c.in_ok-copy_label-in-AddLabel.field-0 c.in-AddLabel.is
    c.in_ok-copy_label-in-AddLabel.ensures c.requires.change).layer

pub label-requires-clause-position : goal.label-requires-clause-position
label-requires-clause-position c =
    (label_formed c.args.library.now c.args.cell.0 c.args.change.now c.in-AddLabel.label c.in_ok-copy_label-in-AddLabel.field-0 c.in-AddLabel.is
    c.in_ok-copy_label-in-AddLabel.ensures c.requires.change).position

pub label-requires-clause-text : goal.label-requires-clause-text
label-requires-clause-text c =
    (label_formed c.args.library.now c.args.cell.0 c.args.change.now c.in-AddLabel.label c.in_ok-copy_label-in-AddLabel.field-0 c.in-AddLabel.is
    c.in_ok-copy_label-in-AddLabel.ensures c.requires.change).text

pub returns-in-DeleteUse-clause-answers : goal.returns-in-DeleteUse-clause-answers
returns-in-DeleteUse-clause-answers c =
    let view : LibraryView = seen c.args.library.now in
    let cell : ℕ = c.args.cell.0 in
    let named : CanBeMade view cell (DeleteUse c.in-DeleteUse.id) = subst (CanBeMade view cell) c.in-DeleteUse.is c.requires.change in
    nothing_else (edits_of c.args.library.now) (DeleteIsRefused view cell c.bytes.result.now) c.delete_use.result
    (subst (λ (id : List ℕ). (fault : LibFault) → DeleteIsRefused view cell id fault → ⊥) (sym c.bytes.ensures)
    (deletes view cell c.in-DeleteUse.id named.speaks)) c.delete_use.ensures.answers

pub returns-in-MoveUse-clause-answers : goal.returns-in-MoveUse-clause-answers
returns-in-MoveUse-clause-answers c =
    let view : LibraryView = seen c.args.library.now in
    let cell : ℕ = c.args.cell.0 in
    let arm = c.in-MoveUse in
    let named : CanBeMade view cell (MoveUse arm.id arm.dx arm.dy) = subst (CanBeMade view cell) arm.is c.requires.change in
    let short = short_moves c.args.library.now cell c.args.change.now arm.id arm.dx arm.dy c.lawful.ensures arm.is c.requires.change in
    let id = c.bytes-in-MoveUse.ensures in
    let dx = short_passed arm.dx short.0 in
    let dy = short_passed arm.dy short.1 in
    let never : (fault : LibFault) → MoveIsRefused view cell arm.id arm.dx arm.dy fault → ⊥ =
    moves view cell arm.id arm.dx arm.dy named.there named.speaks named.lawful in
    nothing_else (edits_of c.args.library.now)
    (MoveIsRefused view cell c.bytes-in-MoveUse.result.now (to_z w64 (of_z w64 arm.dx)) (to_z w64 (of_z w64 arm.dy))) c.move_use.result
    (subst (λ (n : List ℕ). (fault : LibFault) → MoveIsRefused view cell n (to_z w64 (of_z w64 arm.dx)) (to_z w64 (of_z w64 arm.dy)) fault → ⊥) (sym id)
    (subst (λ (x : ℤ). (fault : LibFault) → MoveIsRefused view cell arm.id x (to_z w64 (of_z w64 arm.dy)) fault → ⊥) (sym dx)
    (subst (λ (y : ℤ). (fault : LibFault) → MoveIsRefused view cell arm.id arm.dx y fault → ⊥) (sym dy) never))) c.move_use.ensures.answers

pub returns-in_ok-copy_label-in-AddLabel-clause-answers : goal.returns-in_ok-copy_label-in-AddLabel-clause-answers
returns-in_ok-copy_label-in-AddLabel-clause-answers c =
    let view : LibraryView = seen c.args.library.now in
    let cell : ℕ = c.args.cell.0 in
    let arm = c.in-AddLabel in
    let copy : Label = c.in_ok-copy_label-in-AddLabel.field-0 in
    let named : CanBeMade view cell (AddLabel arm.label) = subst (CanBeMade view cell) arm.is c.requires.change in
    nothing_else_or_memory (edits_of c.args.library.now) (LabelIsRefused view cell copy) c.label.result
    (subst (λ (label : Label). (fault : LibFault) → LabelIsRefused view cell label fault → ⊥) (sym c.in_ok-copy_label-in-AddLabel.ensures)
    (labels view cell arm.label named.there named.lawful)) c.label.ensures.answers
