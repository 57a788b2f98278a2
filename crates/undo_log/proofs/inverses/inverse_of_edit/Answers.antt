use Rattle.undo_log.proofs.Common.{◌≡◌, ◌<◌, ◌&&◌, ℕ, ℤ, false, List, [], ◌∷◌, length, refl, subst, sym, arith, MatchOption, Option, None, Some}
use Rattle.undo_log.proofs.Common.{IfOk-weaker, is_in_range, has_square, CellKey, Grid, LibraryParts, edits_of, seen, has_id, LibraryView, view_at}
use Rattle.undo_log.proofs.Common.{count_seen, Command, editing_of, applied, grid_of, Change, DeleteUse, DropLabel, MoveUse, TakesBack, Accepts}
use Rattle.undo_log.proofs.Common.{BringsAgain, GivesGrid, PutsBack}
use Rattle.std.specs.Prelude.{IsSomeAnd}
use Rattle.edit_script.proofs.CellLibrary.UseLists.{has_there}
use Rattle.edit_script.specs.ScriptLines.declared.commands.Command.TheVariants as command
use Rattle.edit_script.specs.ScriptLines.Forms.{IsFormed}
use Rattle.undo_log.specs.steps.Makings.{OfUse}
use Rattle.undo_log.proofs.EditLaws.{arraying_refused, arraying_taken_back, deleting_refused, deleting_taken_back, erasing_refused, erasing_taken_back}
use Rattle.undo_log.proofs.EditLaws.{labelling_taken_back, moving_taken_back, painting_refused, painting_taken_back, placing_taken_back}
use Rattle.undo_log.proofs.EditLaws.{unlabelling_taken_back}
use Rattle.undo_log.proofs.UseMoves.{number_opposite, number_opposite_is}
use Rattle.undo_log.proofs.inverses.inverse_of_edit.Goals as goal

-- the command is taken back where it is accepted
abbrev Inverts : LibraryParts → CellKey → Command → Option Change → Type 0
Inverts library cell asked made =
    Accepts (editing_of library (Some cell)) asked
    → IsSomeAnd made (TakesBack (seen library) (applied (editing_of library (Some cell)) asked).library cell.0)

-- the same of a command that equals it
as_named : (library : LibraryParts) (cell : CellKey) (asked named : Command) (made : Option Change) → asked ≡ named
    → Inverts library cell named made → Inverts library cell asked made
as_named library cell asked named made is inverts = subst (λ (a : Command). Inverts library cell a made) (sym is) inverts

-- the cell is one that is seen
cell_there : (library : LibraryParts) (cell : CellKey) → cell.0 < length library.contents → cell.0 < length (seen library).cells
cell_there library cell there = subst (λ (n : ℕ). cell.0 < n) (sym (count_seen library)) there

-- what may be made of an area or a use takes the command back, where the command is refused without it
made_inverts : (library : LibraryParts) (cell : CellKey) (asked : Command) (Refused : Type 0) (Is : Change → Type 0) (made : Option Change)
    → (Refused → Accepts (editing_of library (Some cell)) asked → ⊥)
    → ((back : Change) → Is back → TakesBack (seen library) (applied (editing_of library (Some cell)) asked).library cell.0 back)
    → MatchOption made Refused Is → Inverts library cell asked made
made_inverts library cell asked Refused Is None refuses takes is accepts = refuses is accepts
made_inverts library cell asked Refused Is (Some back) refuses takes is accepts = takes back is

pub returns-in-Paint : goal.returns-in-Paint
returns-in-Paint c =
    let library : LibraryParts = c.args.library.now in
    let cell : CellKey = c.args.cell in
    let view : LibraryView = seen library in
    let there = cell_there library cell c.requires.cell in
    let arm = c.in-Paint in
    IfOk-weaker c.brush_back.result (λ made. MatchOption made ((has_square arm.area && is_in_range arm.area) ≡ false)
    (PutsBack view.tech (view_at view cell.0) arm.area)) (Inverts library cell c.args.command.now) (λ made is.
    as_named library cell c.args.command.now (command.Paint arm.field-0 arm.area) made arm.is
    (made_inverts library cell (command.Paint arm.field-0 arm.area) ((has_square arm.area && is_in_range arm.area) ≡ false)
    (PutsBack view.tech (view_at view cell.0) arm.area) made
    (painting_refused view (edits_of library) cell.0 there arm.field-0 arm.area)
    (λ back puts. painting_taken_back view (edits_of library) cell.0 there arm.field-0 arm.area back puts) is)) c.brush_back.ensures

pub returns-in-Erase : goal.returns-in-Erase
returns-in-Erase c =
    let library : LibraryParts = c.args.library.now in
    let cell : CellKey = c.args.cell in
    let view : LibraryView = seen library in
    let there = cell_there library cell c.requires.cell in
    let arm = c.in-Erase in
    IfOk-weaker c.brush_back-in-Erase.result (λ made. MatchOption made ((has_square arm.area && is_in_range arm.area) ≡ false)
    (PutsBack view.tech (view_at view cell.0) arm.area)) (Inverts library cell c.args.command.now) (λ made is.
    as_named library cell c.args.command.now (command.Erase arm.field-0 arm.area) made arm.is
    (made_inverts library cell (command.Erase arm.field-0 arm.area) ((has_square arm.area && is_in_range arm.area) ≡ false)
    (PutsBack view.tech (view_at view cell.0) arm.area) made
    (erasing_refused view (edits_of library) cell.0 there arm.field-0 arm.area)
    (λ back puts. erasing_taken_back view (edits_of library) cell.0 there arm.field-0 arm.area back puts) is)) c.brush_back-in-Erase.ensures

pub returns-in_ok-copy-in-Place : goal.returns-in_ok-copy-in-Place
returns-in_ok-copy-in-Place c =
    let library : LibraryParts = c.args.library.now in
    let cell : CellKey = c.args.cell in
    let there = cell_there library cell c.requires.cell in
    let arm = c.in-Place in
    as_named library cell c.args.command.now (command.Place arm.field-0 arm.id arm.field-2) (Some (DeleteUse c.in_ok-copy-in-Place.field-0)) arm.is
    (λ accepts. subst (λ (id : List ℕ). TakesBack (seen library)
    (applied (editing_of library (Some cell)) (command.Place arm.field-0 arm.id arm.field-2)).library cell.0 (DeleteUse id))
    (sym c.in_ok-copy-in-Place.ensures)
    (placing_taken_back (seen library) (edits_of library) cell.0 there arm.field-0 arm.id arm.field-2 accepts))

-- six numbers are a grid
six_grid : (six : List ℤ) → length six ≡ 6 → (grid : Grid) × (grid_of six ≡ Some grid)
six_grid [] long = absurd (omega arith)
six_grid (a ∷ []) long = absurd (omega arith)
six_grid (a ∷ b ∷ []) long = absurd (omega arith)
six_grid (a ∷ b ∷ c ∷ []) long = absurd (omega arith)
six_grid (a ∷ b ∷ c ∷ d ∷ []) long = absurd (omega arith)
six_grid (a ∷ b ∷ c ∷ d ∷ e ∷ []) long = absurd (omega arith)
six_grid (a ∷ b ∷ c ∷ d ∷ e ∷ f ∷ []) long = (record { xlo = a; xhi = b; xsep = c; ylo = d; yhi = e; ysep = f }, refl)
six_grid (a ∷ b ∷ c ∷ d ∷ e ∷ f ∷ g ∷ more) long = absurd (omega arith)

pub returns-in-Array : goal.returns-in-Array
returns-in-Array c =
    let library : LibraryParts = c.args.library.now in
    let cell : CellKey = c.args.cell in
    let view : LibraryView = seen library in
    let there = cell_there library cell c.requires.cell in
    let arm = c.in-Array in
    let formed = subst IsFormed arm.is c.requires.formed in
    let grid = six_grid arm.field-1 formed.1.count in
    IfOk-weaker c.grid_back.result (OfUse (view_at view cell.0) arm.id (GivesGrid (view_at view cell.0) arm.id))
    (Inverts library cell c.args.command.now) (λ made is.
    as_named library cell c.args.command.now (command.Array arm.id arm.field-1) made arm.is
    (made_inverts library cell (command.Array arm.id arm.field-1) (has_id (view_at view cell.0).uses arm.id ≡ false)
    (GivesGrid (view_at view cell.0) arm.id) made
    (λ none. arraying_refused view (edits_of library) cell.0 there arm.id arm.field-1 none grid.0 grid.1)
    (λ back gives. arraying_taken_back view (edits_of library) cell.0 there arm.id arm.field-1 back grid.0 grid.1
    (has_there (view_at view cell.0).uses gives.place arm.id gives.used gives.stands) (library, c.lawful.ensures, refl) gives) is)) c.grid_back.ensures

pub returns-in-Delete : goal.returns-in-Delete
returns-in-Delete c =
    let library : LibraryParts = c.args.library.now in
    let cell : CellKey = c.args.cell in
    let view : LibraryView = seen library in
    let there = cell_there library cell c.requires.cell in
    let arm = c.in-Delete in
    IfOk-weaker c.use_back.result (OfUse (view_at view cell.0) arm.id (BringsAgain (view_at view cell.0) arm.id))
    (Inverts library cell c.args.command.now) (λ made is.
    as_named library cell c.args.command.now (command.Delete arm.id) made arm.is
    (made_inverts library cell (command.Delete arm.id) (has_id (view_at view cell.0).uses arm.id ≡ false)
    (BringsAgain (view_at view cell.0) arm.id) made
    (deleting_refused view (edits_of library) cell.0 there arm.id)
    (λ back brings. deleting_taken_back view (edits_of library) cell.0 there arm.id back (library, c.lawful.ensures, refl) brings) is)) c.use_back.ensures

pub overflow_sub-result : goal.overflow_sub-result
overflow_sub-result c = number_opposite c.in-Move.dx (subst IsFormed c.in-Move.is c.requires.formed).1

pub overflow_sub-result-in-Move : goal.overflow_sub-result-in-Move
overflow_sub-result-in-Move c = number_opposite c.in-Move.dy (subst IsFormed c.in-Move.is c.requires.formed).2

pub returns-in_ok-copy-in-Move : goal.returns-in_ok-copy-in-Move
returns-in_ok-copy-in-Move c =
    let library : LibraryParts = c.args.library.now in
    let cell : CellKey = c.args.cell in
    let there = cell_there library cell c.requires.cell in
    let arm = c.in-Move in
    let formed = subst IsFormed arm.is c.requires.formed in
    let dx = number_opposite_is arm.dx formed.1 in
    let dy = number_opposite_is arm.dy formed.2 in
    as_named library cell c.args.command.now (command.Move arm.id arm.dx arm.dy) (Some _) arm.is
    (λ accepts. subst (TakesBack (seen library) (applied (editing_of library (Some cell)) (command.Move arm.id arm.dx arm.dy)).library cell.0)
    (λ i. MoveUse (sym c.in_ok-copy-in-Move.ensures i) (sym dx i) (sym dy i))
    (moving_taken_back (seen library) (edits_of library) cell.0 there arm.id arm.dx arm.dy accepts))

pub returns-in-Label : goal.returns-in-Label
returns-in-Label c =
    let library : LibraryParts = c.args.library.now in
    let cell : CellKey = c.args.cell in
    let arm = c.in-Label in
    as_named library cell c.args.command.now (command.Label arm.field-0 arm.field-1 arm.field-2 arm.field-3) (Some DropLabel) arm.is
    (labelling_taken_back (seen library) (edits_of library) cell.0 (cell_there library cell c.requires.cell) arm.field-0 arm.field-1 arm.field-2
    arm.field-3)

pub returns-in_ok-labels_back-in-Unlabel : goal.returns-in_ok-labels_back-in-Unlabel
returns-in_ok-labels_back-in-Unlabel c =
    let library : LibraryParts = c.args.library.now in
    let cell : CellKey = c.args.cell in
    let arm = c.in-Unlabel in
    as_named library cell c.args.command.now (command.Unlabel arm.field-0) (Some c.in_ok-labels_back-in-Unlabel.field-0) arm.is
    (λ _. subst (TakesBack (seen library) (applied (editing_of library (Some cell)) (command.Unlabel arm.field-0)).library cell.0)
    (sym c.in_ok-labels_back-in-Unlabel.ensures)
    (unlabelling_taken_back (seen library) (edits_of library) cell.0 (cell_there library cell c.requires.cell) arm.field-0))
