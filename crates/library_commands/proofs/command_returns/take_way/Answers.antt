use Rattle.library_commands.proofs.Common.{◌≡◌, ◌⊎◌, subst, sym, edited_state, workspace_of, Way, Redo, Undo, IsBrought, ReturnIsRefused}
use Rattle.std.specs.Prelude.{IfErr, OnOk}
use Rattle.look_commands.specs.UndoLog.declared.faults.UndoFault.TheVariants.{Memory}
use Rattle.library_commands.proofs.ReturnLaws.{way_brought, way_kept, way_refused}
use Rattle.library_commands.proofs.command_returns.take_way.Goals as goal

pub returns-in-Undo-clause-brought : goal.returns-in-Undo-clause-brought
returns-in-Undo-clause-brought c =
    let old = c.args.edited.now in
    subst (λ (way : Way). OnOk c.undo.result (IsBrought way (edited_state old) (workspace_of c.undo.new.library old.current old.cache c.undo.new.self)))
    (sym c.in-Undo.is)
    (way_brought Undo old.library c.undo.new.library old.current old.cache old.log c.undo.new.self c.lawful.ensures c.requires.edited.agrees
    c.requires.edited.log c.undo.result
    c.undo.ensures.returned c.undo.ensures.few)

pub returns-in-Undo-clause-kept : goal.returns-in-Undo-clause-kept
returns-in-Undo-clause-kept c =
    let old = c.args.edited.now in
    let (current, agrees, log) = way_kept Undo old.library c.undo.new.library old.current old.cache old.log c.undo.new.self c.lawful.ensures
    c.requires.edited.agrees
    c.requires.edited.log c.undo.result c.undo.ensures.returned c.undo.ensures.same c.undo.ensures.log c.requires.edited.current in
    record { current = current; agrees = agrees; log = log }

pub returns-in-Undo-clause-refused : goal.returns-in-Undo-clause-refused
returns-in-Undo-clause-refused c =
    let old = c.args.edited.now in
    subst (λ (way : Way). IfErr c.undo.result (λ fault. (fault ≡ Memory) ⊎ ReturnIsRefused way (edited_state old) fault)) (sym c.in-Undo.is)
    (way_refused old.library old.current old.cache old.log Undo c.undo.result c.undo.ensures.nothing c.undo.ensures.edits c.undo.ensures.others)

pub returns-in-Redo-clause-brought : goal.returns-in-Redo-clause-brought
returns-in-Redo-clause-brought c =
    let old = c.args.edited.now in
    subst (λ (way : Way). OnOk c.redo.result (IsBrought way (edited_state old) (workspace_of c.redo.new.library old.current old.cache c.redo.new.self)))
    (sym c.in-Redo.is)
    (way_brought Redo old.library c.redo.new.library old.current old.cache old.log c.redo.new.self c.lawful.ensures c.requires.edited.agrees
    c.requires.edited.log c.redo.result
    c.redo.ensures.returned c.redo.ensures.few)

pub returns-in-Redo-clause-kept : goal.returns-in-Redo-clause-kept
returns-in-Redo-clause-kept c =
    let old = c.args.edited.now in
    let (current, agrees, log) = way_kept Redo old.library c.redo.new.library old.current old.cache old.log c.redo.new.self c.lawful.ensures
    c.requires.edited.agrees
    c.requires.edited.log c.redo.result c.redo.ensures.returned c.redo.ensures.same c.redo.ensures.log c.requires.edited.current in
    record { current = current; agrees = agrees; log = log }

pub returns-in-Redo-clause-refused : goal.returns-in-Redo-clause-refused
returns-in-Redo-clause-refused c =
    let old = c.args.edited.now in
    subst (λ (way : Way). IfErr c.redo.result (λ fault. (fault ≡ Memory) ⊎ ReturnIsRefused way (edited_state old) fault)) (sym c.in-Redo.is)
    (way_refused old.library old.current old.cache old.log Redo c.redo.result c.redo.ensures.nothing c.redo.ensures.edits c.redo.ensures.others)
