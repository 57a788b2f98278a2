use Rattle.cell_tree.proofs.Common.{◌≡◌, false, List, Bool, length, slice_index_or, arith, ap, sym, subst, Size, IsRanked}
use Rattle.cell_tree.proofs.FindLaws.{lawful_ranked, found_lists, unseen-most}
use Rattle.cell_tree.proofs.size_books.SizeBook.find.Goals as goal

pub find_above-requires-clause-ranked : goal.find_above-requires-clause-ranked
find_above-requires-clause-ranked c =
    subst (λ (sizes : List Size). IsRanked c.args.cells.now sizes) (sym c.as_slice.ensures.value)
    (lawful_ranked c.args.cells.now c.args.self.now.sizes.items c.requires.lawful)

pub find_above-requires-clause-room : goal.find_above-requires-clause-room
find_above-requires-clause-room c =
    omega (
      arith,
      ap length c.requires.ready.order,
      unseen-most c.as_mut_slice.result.now,
      ap length c.as_mut_slice.ensures.value,
      c.requires.ready.room,
      c.requires.ready.seen,
    )

pub returns-clause-order : goal.returns-clause-order
returns-clause-order c =
    found_lists c.args.cells.now c.args.cell c.as_mut_slice.result.now c.find_above.new.seen c.args.self.now.order.items c.find_above.new.order.items
    c.requires.lawful.users c.requires.within c.requires.ready.order c.find_above.ensures.adds c.find_above.ensures.sorted c.find_above.ensures.there
    (c.find_above.ensures.last (subst (λ (seen : List Bool). slice_index_or seen c.args.cell false ≡ false) (sym c.as_mut_slice.ensures.value)
    (c.requires.ready.unseen c.args.cell)))
