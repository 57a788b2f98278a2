use Rattle.cell_nodes.proofs.Common.{◌≡◌, ◌+◌, ℤ, List, length, [], ◌∷◌, ◌∙◌, ap, subst, arith, NodeRec, MeasureRow, NamedNode, IsRecordOf, row_at}
use Rattle.std.proofs.lemmas.List.{get_or_default, length-append}
use Rattle.cell_nodes.proofs.RecordLaws.{records_more}
use Rattle.cell_nodes.proofs.nodes.records_of.Goals as goal

pub loop-k-preserved : goal.loop-k-preserved
loop-k-preserved c =
    let raw = c.args.tech.now in
    let nodes = c.args.nodes.now in
    let rows = c.args.rows.now in
    let k = c.loop-k.k in
    let node = c.index-nodes-k.result in
    let made = c.in_ok-record_of.field-0 in
    let inside = c.loop-k-test.true in
    let enough = c.requires.enough in
    let many = c.loop-k.invariant.so_many in
    let pairs : c.items.result.now ≡ row_at rows k = c.items.ensures ∙ ap (λ (row : MeasureRow). row.pairs)
    (get_or_default rows k c.index-rows-k.result (record { pairs = [] }) (omega (arith, inside, enough))) in
    let push = c.in_ok-push.ensures.items in
    record {
      so_many = ap (λ (v : List NodeRec). length v) push ∙ length-append c.loop-k.records.items (made ∷ []) ∙ ap (λ n. n + 1) many;
      each = records_more raw nodes rows k c.loop-k.records.items c.push.new.self.items node made inside many c.loop-k.invariant.each
          (subst (λ (v : NamedNode). IsRecordOf raw v (row_at rows k) made) c.index-nodes-k.is
          (subst (λ (v : List (ℤ × ℤ)). IsRecordOf raw node v made) pairs c.in_ok-record_of.ensures)) push;
    }
