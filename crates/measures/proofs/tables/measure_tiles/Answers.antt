-- There is a column for each class, and a row of them for each region.
use Rattle.measures.proofs.Common.{◌<◌, List, [], length, map, sym, ◌∙◌, ap, subst, arith, All, get_or-map, length-map, ClassRec, Column, AreColumns}
use Rattle.tech_model.specs.declared.raw.RawTech.{RawTech}
use Rattle.measures.specs.declared.tables.MeasureRow.{MeasureRow}
use Rattle.measures.proofs.MeasureLaws.{columns_long, rows_measure}
use Rattle.measures.proofs.tables.measure_tiles.Goals as goal

pub row_at-requires-clause-areas : goal.row_at-requires-clause-areas
row_at-requires-clause-areas c =
    subst (λ (v : List Column). All (λ (column : Column). c.loop-region.region < length column.areas.items) v) (sym c.as_slice.ensures.value)
    (columns_long c.items-classes.result.now c.args.tiles.now c.args.contacts.now c.args.count c.loop-region.region
    c.in_ok-columns.columns.items
    c.loop-region-test.true c.in_ok-columns.ensures).0

pub row_at-requires-clause-perimeters : goal.row_at-requires-clause-perimeters
row_at-requires-clause-perimeters c =
    subst (λ (v : List Column). All (λ (column : Column). c.loop-region.region < length column.perimeters.items) v) (sym c.as_slice.ensures.value)
    (columns_long c.items-classes.result.now c.args.tiles.now c.args.contacts.now c.args.count c.loop-region.region
    c.in_ok-columns.columns.items
    c.loop-region-test.true c.in_ok-columns.ensures).1

pub returns : goal.returns
returns c = λ layout are.
    let raw = c.args.tech.now in
    let tiles = c.args.tiles.now in
    let contacts = c.args.contacts.now in
    let rows = c.loop-region.rows.items in
    let columns = c.in_ok-columns.columns.items in
    let classes = c.items-classes.ensures ∙ ap (λ (v : RawTech). v.classes) c.raw.ensures.value in
    let have : AreColumns raw.classes tiles contacts c.args.count columns =
    subst (λ (v : List ClassRec). AreColumns v tiles contacts c.args.count columns) classes c.in_ok-columns.ensures in
    let past = c.loop-region-test.false in
    let here = c.loop-region.auto.region-end in
    let many = c.loop-region.invariant.so_many in
    let so_many = length-map rows (λ (row : MeasureRow). row.pairs) in
    rw c.of-2.ensures (rows_measure raw layout tiles contacts c.args.count columns (map (λ (row : MeasureRow). row.pairs) rows)
    c.raw.ensures.well_formed are c.requires.contacts have (omega (arith, past, here, many, so_many))
    (λ k below. get_or-map (λ (row : MeasureRow). row.pairs) rows k (record { pairs = [] }) [] (omega (arith, past, here, many, below))
    ∙ c.loop-region.invariant.each k (omega (arith, past, here, below))))
