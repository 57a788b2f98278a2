use Rattle.cell_library.proofs.Common.{◌∙◌, sym, cell_at}
use Rattle.cell_library.proofs.UseLists.{none_has}
use Rattle.cell_library.proofs.UseSteps.{single_lawful}
use Rattle.cell_library.proofs.uses.place_use.Goals as goal

pub place-requires-clause-new : goal.place-requires-clause-new
place-requires-clause-new c = λ k has.
    none_has (cell_at c.args.tree.now.cells c.args.cell).uses c.bytes.result.now c.in_ok-placed.ensures.new k
    (record { entry = has.entry; stands = has.stands; same = has.same ∙ c.in_ok-key.ensures.items ∙ c.bytes-2.ensures ∙ sym c.bytes.ensures })

pub place-requires-clause-lawful : goal.place-requires-clause-lawful
place-requires-clause-lawful c =
    single_lawful c.args.child.0 c.args.six c.in_ok-placed.placed c.in_ok-placed.ensures.six c.in_ok-placed.ensures.near
