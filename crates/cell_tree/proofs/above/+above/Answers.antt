use Rattle.cell_tree.proofs.Common.{◌≡◌, suc, ◌<◌, ◌≤◌, length, slice_get, Some, true, [], ◌∷◌, arith, refl, ◌∙◌, users_of, IsUserOf, size_at}
use Rattle.std.proofs.Common.{length-set, length-append}
use Rattle.std.proofs.lemmas.Option.{get_or_from_slice_get}
use Rattle.cell_tree.proofs.AboveLaws.{AreFound, AreFound-next, Adds-none, Adds-cell, AllStandBut-Adds, AllStandBut-mark, AllStandBut-higher, ComesAfterUsers-cell, unseen-set, StandsIn-end, found_all, EndsWith-cell}
use Rattle.cell_tree.proofs.above.+above.Goals as goal

pub add_users-loop-k-init : goal.add_users-loop-k-init
add_users-loop-k-init t c = (
  record {
    sorted = c.requires.sorted;
    adds = Adds-none c.args.cells.now c.args.cell c.args.seen.now c.args.order.now.items;
    there = λ k before. absurd (omega (arith, before));
    room = refl;
  },
  omega arith,
  refl,
)

pub add_users-find_above-requires : goal.add_users-find_above-requires
add_users-find_above-requires t c =
    let found : AreFound c.args.cells.now c.args.cell c.loop-k.k c.args.seen.now c.loop-k.seen c.args.order.now.items c.loop-k.order.items =
    c.loop-k.invariant.0 in
    let is : slice_get (users_of c.args.cells.now c.args.cell) c.loop-k.k ≡ Some c.user_at-user.result = c.user_at-user.ensures in
    let uses : IsUserOf c.args.cells.now c.args.cell c.user_at-user.result = (
      c.loop-k.k,
      omega (arith, c.loop-k-test.true, c.user_count-k-end.ensures),
      get_or_from_slice_get (users_of c.args.cells.now c.args.cell) c.loop-k.k
          c.user_at-user.result c.user_at-user.result is,
    ) in
    let rises : (size_at c.args.sizes.now c.args.cell).depth < (size_at c.args.sizes.now c.user_at-user.result).depth = c.requires.ranked.rises _ _ uses in
    let most : (size_at c.args.sizes.now c.user_at-user.result).depth ≤ 64 = c.requires.ranked.most c.user_at-user.result in (
      omega (arith, rises, most),
      (
        c.requires.ranked,
        (
          c.requires.ranked.within _ _ uses,
          (
            c.requires.cells,
            (
              c.loop-k.invariant.2 ∙ c.requires.each,
              (
                omega (arith, found.room, c.requires.room, c.loop-k.invariant.1),
                (
                  found.sorted,
                  AllStandBut-higher c.args.cells.now c.args.sizes.now (suc (size_at c.args.sizes.now c.args.cell).depth)
                      (size_at c.args.sizes.now c.user_at-user.result).depth c.loop-k.seen c.loop-k.order.items (omega (arith, rises))
                      (AllStandBut-Adds c.args.cells.now c.args.sizes.now (suc (size_at c.args.sizes.now c.args.cell).depth) found.adds c.requires.stand),
                ),
              ),
            ),
          ),
        ),
      ),
    )

pub add_users-loop-k-preserved : goal.add_users-loop-k-preserved
add_users-loop-k-preserved t c = (
  AreFound-next c.args.cells.now c.loop-k.invariant.0 c.user_at-user.ensures c.find_above.ensures.sorted c.find_above.ensures.adds c.find_above.ensures.there
      c.find_above.ensures.room,
  omega (arith, c.loop-k.invariant.1, c.find_above.ensures.capacity),
  c.find_above.ensures.each ∙ c.loop-k.invariant.2,
)

pub add_users-returns-clause-sorted : goal.add_users-returns-clause-sorted
add_users-returns-clause-sorted t c = c.loop-k.invariant.0.sorted

pub add_users-returns-clause-there : goal.add_users-returns-clause-there
add_users-returns-clause-there t c = found_all c.args.cells.now _ c.loop-k.k _ _ _ _ c.loop-k.invariant.0
    (omega (arith, c.user_count-k-end.ensures, c.loop-k-test.false))

pub find_above-add_users-requires : goal.find_above-add_users-requires
find_above-add_users-requires t c =
    let within : c.args.cell < length c.args.seen.now = omega (arith, c.requires.within, c.requires.each) in (
      omega arith,
      (
        c.requires.ranked,
        (
          c.requires.within,
          (
            c.requires.cells,
            (
              length-set c.args.seen.now c.args.cell true ∙ c.requires.each,
              (
                omega (arith, c.requires.room, unseen-set c.args.seen.now c.args.cell within c.if-seen-cell.false),
                (
                  c.requires.sorted,
                  AllStandBut-mark c.args.cells.now c.args.sizes.now c.args.cell c.args.seen.now c.args.order.now.items c.requires.stand,
                ),
              ),
            ),
          ),
        ),
      ),
    )

pub find_above-returns-clause-adds : goal.find_above-returns-clause-adds
find_above-returns-clause-adds t c = rw c.add.ensures.added
    (Adds-cell c.args.cells.now c.args.cell c.args.seen.now _ _ _ (omega (arith, c.requires.within, c.requires.each)) c.if-seen-cell.false
    c.add_users.ensures.adds)

pub find_above-returns-clause-sorted : goal.find_above-returns-clause-sorted
find_above-returns-clause-sorted t c = rw c.add.ensures.added
    (ComesAfterUsers-cell c.args.cells.now c.args.cell _ c.add_users.ensures.sorted c.add_users.ensures.there)

pub find_above-returns-clause-there : goal.find_above-returns-clause-there
find_above-returns-clause-there t c = rw c.add.ensures.added (StandsIn-end c.args.cell _)

pub find_above-returns-clause-room : goal.find_above-returns-clause-room
find_above-returns-clause-room t c =
    rw c.add.ensures.added (omega (
      arith,
      length-append c.add_users.new.order.items (c.args.cell ∷ []),
      c.add_users.ensures.room,
      unseen-set c.args.seen.now c.args.cell (omega (arith, c.requires.within, c.requires.each)) c.if-seen-cell.false,
    ))

pub find_above-add-requires : goal.find_above-add-requires
find_above-add-requires t c =
    omega (
      arith,
      c.add_users.ensures.room,
      c.add_users.ensures.capacity,
      c.requires.room,
      unseen-set c.args.seen.now c.args.cell (omega (arith, c.requires.within, c.requires.each)) c.if-seen-cell.false,
    )

pub find_above-returns-clause-last : goal.find_above-returns-clause-last
find_above-returns-clause-last t c unseen_before =
    rw c.add.ensures.added (EndsWith-cell c.args.cells.now c.args.cell c.args.seen.now _ _ _ (omega (arith, c.requires.within, c.requires.each))
    c.add_users.ensures.adds)
