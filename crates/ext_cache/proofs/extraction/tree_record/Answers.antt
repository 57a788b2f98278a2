use Rattle.ext_cache.proofs.Common.{◌≡◌, ℕ, List, [], sym, subst, arith, All, option_map, nat_cmp, RawTech, ExtEntry, seen, HaveKeptRecordsBelow}
use Rattle.ext_cache.proofs.Common.{view_at, IsOwnRecord, MadeRecord}
use Rattle.std.proofs.lemmas.Result.{IfOk-weaker}
use Rattle.std.specs.FinMap as fin_map
use Rattle.tech_model.specs.declared.raw.Label.{Label}
use Rattle.tree_merges.specs.Names.Labels.{IsLabelOf}
use Rattle.tree_merges.specs.CellLibrary.CellPaint.Paints.{layout_of}
use Rattle.lawful_trees.proofs.LibraryTrees.LabelLaws.{labels_may_name}
use Rattle.ext_cache.proofs.MadeLaws.{found_empty, made_is_now, own_record_of}
use Rattle.ext_cache.proofs.extraction.tree_record.Goals as goal

pub cell_record-requires-clause-labels : goal.cell_record-requires-clause-labels
cell_record-requires-clause-labels g c =
    let library = c.args.library.now in
    subst (λ (raw : RawTech). All (IsLabelOf raw) c.labels_of.result.now) (sym c.tech.ensures)
    (subst (λ (labels : List Label). All (IsLabelOf library.tech) labels) (sym c.labels_of.ensures)
    (labels_may_name library c.args.cell.0 c.lawful.ensures c.requires.cell))

pub relate-requires-clause-records : goal.relate-requires-clause-records
relate-requires-clause-records g c =
    subst (λ (entries : fin_map.FinMap nat_cmp ExtEntry). HaveKeptRecordsBelow (seen c.args.library.now)
    (λ (key : ℕ). option_map (λ (entry : ExtEntry). entry.ext) (fin_map.get entries key)) c.args.cell.0) (sym c.table.ensures) c.requires.records

pub returns-in_err-related-clause-steps : goal.returns-in_err-related-clause-steps
returns-in_err-related-clause-steps g c work is = omega (arith, c.open.ensures.step, c.relate.ensures.steps work is)

pub returns-then-not-is_empty-clause-steps : goal.returns-then-not-is_empty-clause-steps
returns-then-not-is_empty-clause-steps g c work is = omega (arith, c.open.ensures.step, c.relate.ensures.steps work is)

pub returns-clause-record : goal.returns-clause-record
returns-clause-record g c =
    let library = c.args.library.now in
    let body = view_at (seen library) c.args.cell.0 in
    let own = c.in_ok-own.own in
    let related = c.in_ok-related.related in
    let none : related.offending ≡ [] =
    found_empty related.offending c.items.result.now c.is_empty.result c.items.ensures c.is_empty.ensures c.if-not-is_empty.false in
    let is_own : IsOwnRecord library.tech body.own body.labels body.name own.ext =
    own_record_of c.tech.result.now library.tech (layout_of c.open.result.now) body.own c.labels_of.result.now body.labels c.name_of.result.now body.name
    own.ext c.tech.ensures c.open.ensures.own c.labels_of.ensures c.name_of.ensures c.in_ok-own.ensures.record in
    IfOk-weaker c.with_relations.result _ _
    (λ (made : MadeRecord) is. made_is_now library c.args.cell.0 own related made c.lawful.ensures c.requires.cell c.record_is_lawful.ensures
    (c.in_ok-related.ensures.clean.0 none) is_own (c.in_ok-related.ensures.merges none) is) c.with_relations.ensures.made

pub returns-clause-steps : goal.returns-clause-steps
returns-clause-steps g c work is = omega (arith, c.open.ensures.step, c.relate.ensures.steps work is)

pub returns-clause-work : goal.returns-clause-work
returns-clause-work g c =
    let work = c.in_ok-related.ensures.work in
    IfOk-weaker c.with_relations.result _ _ (λ (made : MadeRecord) _. (work.0, work.1, omega (arith, c.open.ensures.step, work.2)))
    c.with_relations.ensures.made
