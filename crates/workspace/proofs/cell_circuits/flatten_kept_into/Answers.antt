use Rattle.workspace.proofs.Common.{◌≡◌, ◌<◌, List, length, ap, sym, subst, All, IsSome, Distinct, ArrayExt, CellKey, AreArrayRecords, plains}
use Rattle.workspace.proofs.Common.{LibraryParts, seen, Agrees, Records, record_in, named_tree_at, HasTreeRecords, Edited, IsFreshBelow, numbers}
use Rattle.std.specs.Prelude.{IfOk}
use Rattle.workspace.specs.CellCircuits.{IsGivenAt}
use Rattle.workspace.proofs.KeptLaws.{are_records, order_kept, order_once, root_clean, tree_records}
use Rattle.workspace.proofs.cell_circuits.flatten_kept_into.Goals as goal

pub lend-requires-clause-kept : goal.lend-requires-clause-kept
lend-requires-clause-kept g c =
    let library = c.reader-library.result in
    let cache = c.args.edited.now.cache in
    let back = sym c.reader-library.ensures in
    let agrees = subst (λ (l : LibraryParts). Agrees l cache) back c.requires.agrees in
    let there = subst (λ (l : LibraryParts). c.args.cell.0 < length l.contents) back c.requires.cell in
    let fresh = subst (λ (l : LibraryParts). IsFreshBelow l cache c.args.cell.0) back c.requires.fresh in
    subst (λ (order : List CellKey). All (λ (cell : CellKey). IsSome (record_in cache cell.0)) order) (sym c.as_slice.ensures.value)
    (order_kept library c.lawful.ensures cache agrees c.args.cell.0 there fresh c.in_ok-order.order.items c.in_ok-order.ensures)

pub lend-requires-clause-once : goal.lend-requires-clause-once
lend-requires-clause-once g c =
    let library = c.reader-library.result in
    subst (λ (order : List CellKey). Distinct (numbers order)) (sym c.as_slice.ensures.value)
    (order_once library c.lawful.ensures c.args.edited.now.cache
    (subst (λ (l : LibraryParts). Agrees l c.args.edited.now.cache) (sym c.reader-library.ensures) c.requires.agrees) c.args.cell.0
    (subst (λ (l : LibraryParts). c.args.cell.0 < length l.contents) (sym c.reader-library.ensures) c.requires.cell)
    (subst (λ (l : LibraryParts). IsFreshBelow l c.args.edited.now.cache c.args.cell.0) (sym c.reader-library.ensures) c.requires.fresh)
    c.in_ok-order.order.items c.in_ok-order.ensures)

pub flatten_records-flattened-requires-clause-cell : goal.flatten_records-flattened-requires-clause-cell
flatten_records-flattened-requires-clause-cell g c =
    subst (λ (l : LibraryParts). c.args.cell.0 < length l.contents) (sym c.reader-library.ensures) c.requires.cell

pub flatten_records-flattened-requires-clause-clean : goal.flatten_records-flattened-requires-clause-clean
flatten_records-flattened-requires-clause-clean g c =
    let library = c.reader-library.result in
    let cache = c.args.edited.now.cache in
    let back = sym c.reader-library.ensures in
    let agrees = subst (λ (l : LibraryParts). Agrees l cache) back c.requires.agrees in
    let there = subst (λ (l : LibraryParts). c.args.cell.0 < length l.contents) back c.requires.cell in
    let fresh = subst (λ (l : LibraryParts). IsFreshBelow l cache c.args.cell.0) back c.requires.fresh in
    root_clean library c.lawful.ensures cache agrees c.args.cell.0 there fresh

pub flatten_records-flattened-requires-clause-records : goal.flatten_records-flattened-requires-clause-records
flatten_records-flattened-requires-clause-records g c =
    let library = c.reader-library.result in
    let cache = c.args.edited.now.cache in
    let back = sym c.reader-library.ensures in
    let agrees = subst (λ (l : LibraryParts). Agrees l cache) back c.requires.agrees in
    let there = subst (λ (l : LibraryParts). c.args.cell.0 < length l.contents) back c.requires.cell in
    let fresh = subst (λ (l : LibraryParts). IsFreshBelow l cache c.args.cell.0) back c.requires.fresh in
    let copied = rw c.as_slice.ensures.value at c.in_ok-lent.ensures.records in
    subst (λ (exts : List ArrayExt). AreArrayRecords exts) (sym c.as_slice-2.ensures.value)
    (are_records library c.lawful.ensures cache agrees c.args.cell.0 there fresh c.in_ok-order.order.items c.in_ok-order.ensures
    c.in_ok-lent.lent.exts.items copied)

pub flatten_records-flattened-requires-clause-tree : goal.flatten_records-flattened-requires-clause-tree
flatten_records-flattened-requires-clause-tree g c =
    let library = c.reader-library.result in
    let cache = c.args.edited.now.cache in
    let back = sym c.reader-library.ensures in
    let agrees = subst (λ (l : LibraryParts). Agrees l cache) back c.requires.agrees in
    let there = subst (λ (l : LibraryParts). c.args.cell.0 < length l.contents) back c.requires.cell in
    let fresh = subst (λ (l : LibraryParts). IsFreshBelow l cache c.args.cell.0) back c.requires.fresh in
    let copied = rw c.as_slice.ensures.value at c.in_ok-lent.ensures.records in
    subst (λ (exts : List ArrayExt). HasTreeRecords library.tech (plains exts) (named_tree_at (seen library) c.args.cell.0)) (sym c.as_slice-2.ensures.value)
    (tree_records library c.lawful.ensures cache agrees c.args.cell.0 there fresh c.in_ok-order.order.items c.in_ok-order.ensures
    c.in_ok-lent.lent.exts.items copied
    c.listed_records_are_of_the_tree.ensures)

pub returns-clause-given : goal.returns-clause-given
returns-clause-given g c =
    subst (λ (l : LibraryParts). IfOk c.flatten_records-flattened.result (IsGivenAt g.S.FetSink.has (seen l) c.args.cell.0)) c.reader-library.ensures
    c.flatten_records-flattened.ensures.given

pub take_back-requires : goal.take_back-requires
take_back-requires g c = (c.args.edited.now.cache, c.in_ok-lent.ensures.lent)

pub returns-clause-same : goal.returns-clause-same
returns-clause-same g c =
    let edited : Edited = c.args.edited.now in
    let back : c.take_back.new.self ≡ edited.cache = c.take_back.ensures edited.cache c.in_ok-lent.ensures.lent in
    ap (λ (cache : Records). record edited { cache = cache }) back
