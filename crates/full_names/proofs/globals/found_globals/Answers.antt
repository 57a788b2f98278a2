use Rattle.full_names.proofs.Common.{◌<◌, ℕ, List, length, get_or, ap, sym, subst, ◌∙◌, take_all, TreeElement, RecordNames, AreFound, flat_at}
use Rattle.full_names.proofs.GlobalLaws.{found_none, found_more, found_moved}
use Rattle.full_names.proofs.RecordReads.{record_read, globals_known}
use Rattle.full_names.proofs.globals.found_globals.Goals as goal

pub loop-first-init : goal.loop-first-init
loop-first-init c = found_none c.args.tree.now.elements c.args.records.now c.new-found.result.items c.new-found.ensures.items

pub loop-first-preserved : goal.loop-first-preserved
loop-first-preserved c =
    let flats = c.args.tree.now.elements in
    let items = c.items-elements.result.now in
    let records = c.args.records.now in
    let firsts = c.args.firsts.now in
    let k = c.loop-first.first-index in
    let first = get_or firsts k 0 in
    let own = c.index-records-cell.result in
    let inside : first < length flats = c.requires.firsts k 0 c.loop-first-test.true in
    let has = record_read flats items records first own c.items-elements.ensures c.requires.cells
    (subst (λ (list : List TreeElement). first < length list) (sym c.items-elements.ensures) inside) c.index-records-cell.is in
    let names = c.as_slice.ensures.value ∙ ap (λ (r : RecordNames). r.globals.items) (sym c.index-records-cell.is) in
    let known = globals_known records (flat_at flats first).cell own has in
    let added = c.in_ok-add_globals.ensures in
    found_more flats records firsts k c.loop-first.found.items c.add_globals.new.found.items c.as_slice.result.now c.loop-first-test.true inside
    (names ∙ sym known) c.loop-first.invariant (record { old = added.old; from = added.from; all = added.all })

pub returns : goal.returns
returns c = record {
  found = found_moved c.args.tree.now.elements c.args.records.now c.args.firsts.now c.loop-first.found.items c.sort_unstable.new.self.items
      c.sort_unstable.ensures.permutation
      (subst (λ (list : List ℕ). AreFound c.args.tree.now.elements c.args.records.now list c.loop-first.found.items)
      (take_all c.loop-first.first-index c.args.firsts.now c.loop-first-test.false) c.loop-first.invariant);
  in_order = c.sort_unstable.ensures.sorted;
}
