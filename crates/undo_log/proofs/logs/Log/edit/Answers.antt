use Rattle.undo_log.proofs.Common.{◌≡◌, List, ◌∷◌, ap, refl, subst, sym, ◌∙◌, Option, Some, CellKey, LibraryParts, seen, LibraryView, Editing}
use Rattle.undo_log.proofs.Common.{editing_of, applied, Change, Inverse, Inverses, TakesBack, Accepts}
use Rattle.std.specs.Option.{option_map}
use Rattle.undo_log.proofs.LeadLaws.{edit_kept}
use Rattle.undo_log.proofs.logs.Log.edit.Goals as goal

pub returns-in-Ok-clause-versions : goal.returns-in-Ok-clause-versions
returns-in-Ok-clause-versions c =
    λ versions keeps.
    let library : LibraryParts = c.args.library.now in
    let editing : Editing = editing_of library c.args.current.now in
    let change : Change = c.in-Some.change in
    let inverse : Inverse = record { cell = c.args.cell; change = change } in
    let made : seen c.apply-2.new.library ≡ (applied editing c.args.command.now).library =
    ap (λ (e : Editing). e.library) c.in-Ok.ensures.done in
    let accepts : Accepts (editing_of library (Some c.args.cell)) c.args.command.now =
    subst (λ (current : Option CellKey). Accepts (editing_of library current) c.args.command.now) c.requires.cell c.in-Ok.ensures.accepted in
    let takes : TakesBack (seen library) (applied (editing_of library (Some c.args.cell)) c.args.command.now).library c.args.cell.0 change =
    (rw c.in-Some.is at c.in_ok-change.ensures) accepts in
    let named : TakesBack (seen library) (seen c.apply-2.new.library) c.args.cell.0 change =
    subst (λ (view : LibraryView). TakesBack (seen library) view c.args.cell.0 change) (sym made)
    (subst (λ (current : Option CellKey). TakesBack (seen library) (applied (editing_of library current) c.args.command.now).library c.args.cell.0 change)
    (sym c.requires.cell) takes) in
    let log : c.self.inside.done ≡ c.args.self.now.done = ap (λ (l : Inverses). l.done) c.self.view_is in
    edit_kept editing c.args.command.now (seen c.apply-2.new.library) c.args.self.now
    (record { done = c.push.new.self; undone = c.clear.new.self }) inverse versions
    (ap (λ (current : Option CellKey). option_map (λ (key : CellKey). key.0) current) c.requires.cell) c.requires.edit
    (library, c.lawful.ensures, refl) named
    (λ i. record { done = (c.in_ok-push.ensures.added ∙ ap (λ (list : List Inverse). inverse ∷ list) log) i; undone = c.clear.ensures i }) keeps
