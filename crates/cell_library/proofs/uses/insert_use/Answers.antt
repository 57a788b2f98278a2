use Rattle.cell_library.proofs.Common.{◌≡◌, ℕ, List, subst, ◌∙◌, RefusesInsertion}
use Rattle.cell_library.proofs.PutBackUses.{inserted_new, inserted_use, inserted_free, inserted_few, inserted_lacks_memory}
use Rattle.cell_library.proofs.uses.insert_use.Goals as goal

pub insert_use-requires-clause-new : goal.insert_use-requires-clause-new
insert_use-requires-clause-new c k has =
    inserted_new c.args.tree.now c.args.cell c.args.at c.args.id c.args.used c.requires.may c.requires.cell k
    (record { entry = has.entry; stands = has.stands; same = has.same ∙ c.in_ok-key.ensures.items ∙ c.bytes.ensures })

pub insert_use-requires-clause-lawful : goal.insert_use-requires-clause-lawful
insert_use-requires-clause-lawful c =
    (inserted_use c.args.tree.now c.args.cell c.args.at c.args.id c.args.used c.requires.may c.requires.cell).0

pub insert_use-requires-clause-child : goal.insert_use-requires-clause-child
insert_use-requires-clause-child c =
    (inserted_use c.args.tree.now c.args.cell c.args.at c.args.id c.args.used c.requires.may c.requires.cell).1

pub insert_use-requires-clause-free : goal.insert_use-requires-clause-free
insert_use-requires-clause-free c = inserted_free c.args.tree.now c.args.cell c.args.at c.args.id c.args.used c.requires.may c.requires.cell

pub insert_use-requires-clause-few : goal.insert_use-requires-clause-few
insert_use-requires-clause-few c =
    inserted_few c.args.tree.now c.args.cell c.args.at c.args.id c.args.used c.requires.may c.requires.cell c.requires.place

pub unreachable-requires : goal.unreachable-requires
unreachable-requires c =
    let named : c.in_ok-key.key.items ≡ c.args.id = c.in_ok-key.ensures.items ∙ c.bytes.ensures in
    c.in_default.not-Memory (inserted_lacks_memory c.args.tree.now c.args.cell c.args.at c.args.id c.args.used c.requires.may c.requires.cell c.in-Err.refused
    (subst (λ (id : List ℕ). RefusesInsertion c.args.tree.now c.args.cell c.args.at id c.args.used c.in-Err.refused) named c.in-Err.ensures.refused))
