use Rattle.ext_cache.proofs.Common.{◌≡◌, ℕ, [], ◌∷◌, get_or, length, length-append, map, ap, sym, subst, ◌∙◌, arith, IsSome, Distinct, CellKey}
use Rattle.ext_cache.proofs.Common.{Records, entry_in, record_in}
use Rattle.std.proofs.lemmas.List.{take_all}
use Rattle.ext_cache.proofs.LendingLaws.{cells_of, lent_are_kept, one_more_cell, one_more_lent, records_of_numbers, still_some}
use Rattle.ext_cache.proofs.caches.Cache.lend.Goals as goal

pub loop-cell-preserved : goal.loop-cell-preserved
loop-cell-preserved c =
    let at = c.loop-cell in
    let new = c.lend_one.new in
    let one = c.lend_one.ensures.lent in
    let d : CellKey = record { 0 = 0 } in
    let cell : ℕ = (get_or c.args.cells.now at.cell-index d).0 in
    record {
      lent = one_more_lent c.args.self.now at.self new.self cell at.exts.items new.exts.items at.notes.items new.notes.items at.invariant.lent one;
      cells = one_more_cell at.self new.self c.args.cells.now at.cell-index d at.exts.items new.exts.items at.notes.items new.notes.items
          c.loop-cell-test.true at.invariant.cells one;
      kept = λ key some. subst (λ (r : Records). IsSome (entry_in r key)) (sym one.is)
          (still_some at.self cell one.other key (at.invariant.kept key some));
      exts = omega (arith, ap length one.exts_are, length-append at.exts.items (one.ext ∷ []), at.invariant.exts);
      notes = omega (arith, ap length one.notes_are, length-append at.notes.items (one.note ∷ []), at.invariant.notes);
      room_in_exts = omega (arith, c.lend_one.ensures.room.0, at.invariant.room_in_exts);
      room_in_notes = omega (arith, c.lend_one.ensures.room.1, at.invariant.room_in_notes);
    }

pub returns-clause-records : goal.returns-clause-records
returns-clause-records c =
    let at = c.loop-cell in
    let cells = c.args.cells.now in
    let all : cells_of at.notes.items ≡ map (λ cell. cell.0) cells =
    at.invariant.cells ∙ ap (map (λ (cell : CellKey). cell.0)) (take_all at.cell-index cells (omega (arith, c.loop-cell-test.false))) in
    lent_are_kept c.args.self.now at.self at.exts.items at.notes.items at.invariant.lent (subst Distinct (sym all) c.requires.once)
    ∙ ap (map (record_in c.args.self.now)) all ∙ records_of_numbers c.args.self.now cells
