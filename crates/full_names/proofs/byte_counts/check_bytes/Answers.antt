use Rattle.full_names.proofs.Common.{ap, sym, ◌∙◌, arith, err_from_is_err_and, RecordNames}
use Rattle.full_names.proofs.ByteLaws.{element_counted, element_counts}
use Rattle.full_names.proofs.RecordReads.{record_read}
use Rattle.full_names.proofs.byte_counts.check_bytes.Goals as goal

pub returns-in_err-total-2-clause-many : goal.returns-in_err-total-2-clause-many
returns-in_err-total-2-clause-many c =
    let has = record_read c.args.tree.now.elements _ c.args.records.now c.loop-element.element-index _ c.items-element-items.ensures c.requires
    c.loop-element-test.true c.index-records-element.is in
    let within = element_counts c.args.tree.now.elements c.args.records.now c.loop-element.element-index c.index-records-element.result _ has
    (c.as_slice-locals.ensures.value ∙ ap (λ (r : RecordNames). r.locals.items) (sym c.index-records-element.is)) _ c.items-element-items.ensures
    c.loop-element-test.true in
    let p = err_from_is_err_and c.from_residual-in_err-total-2.result c.from_residual-in_err-total-2.ensures.1 in
    rw p.1 (omega (arith, within, c.in_err-total-2.ensures.many, c.loop-element.invariant.sum))

pub loop-element-preserved : goal.loop-element-preserved
loop-element-preserved c =
    let has = record_read c.args.tree.now.elements _ c.args.records.now c.loop-element.element-index _ c.items-element-items.ensures c.requires
    c.loop-element-test.true c.index-records-element.is in
    let counted = element_counted c.args.tree.now.elements c.args.records.now c.loop-element.element-index c.index-records-element.result _ has
    (c.as_slice-locals.ensures.value ∙ ap (λ (r : RecordNames). r.locals.items) (sym c.index-records-element.is)) _ c.items-element-items.ensures
    c.loop-element-test.true in
    record {
      sum = omega (arith, counted, c.in_ok-total-2.ensures.sum, c.loop-element.invariant.sum);
      few = c.in_ok-total-2.ensures.few;
    }
