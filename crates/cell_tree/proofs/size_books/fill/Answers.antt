use Rattle.cell_tree.proofs.Common.{◌≡◌, ◌++◌, ◌∷◌, [], ◌-◌, length, replicate, ap, ◌∙◌, arith, cond-true, length-append}
use Rattle.cell_tree.proofs.BookLaws.{filled_more}
use Rattle.cell_tree.proofs.size_books.fill.Goals as goal

pub loop-preserved : goal.loop-preserved
loop-preserved g c =
    let ok = c.push.ensures.succeeds (omega arith) in
    let items = c.push.ensures.items ∙ cond-true _ _ _ ok in
    record {
      filled = items ∙ filled_more c.args.list.now.items c.loop.list.items c.push.new.self.items c.args.value c.loop.invariant.filled items;
      room = omega (arith, c.push.ensures.capacity, c.loop.invariant.room);
      count = omega (arith, ap length items, length-append c.loop.list.items (c.args.value ∷ []), c.loop.invariant.count);
      low = omega arith;
    }

pub returns-clause-filled : goal.returns-clause-filled
returns-clause-filled g c =
    c.loop.invariant.filled ∙ ap (λ n. c.args.list.now.items ++ replicate n c.args.value)
    (let e : length c.loop.list.items - length c.args.list.now.items ≡ c.args.count - length c.args.list.now.items =
    omega (arith, c.loop.invariant.count, c.loop.invariant.low) in e)
