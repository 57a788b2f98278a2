use Rattle.cell_records.proofs.Common.{◌+◌, List, [], ◌∷◌, length, ◌∙◌, ap, subst, FetRec, Fet, IsRecordOfFet}
use Rattle.std.proofs.lemmas.List.{length-append}
use Rattle.cell_records.proofs.RecordLists.{made_more}
use Rattle.cell_records.proofs.fet_records.fet_records.Goals as goal

pub loop-fet-preserved : goal.loop-fet-preserved
loop-fet-preserved c =
    let raw = c.args.raw.now in
    let nodes = c.args.nodes.now in
    let numbers = c.args.numbers.now in
    let fets = c.args.fets.now in
    let i = c.loop-fet.fet-index in
    let old = c.loop-fet.records.items in
    let fet = c.fet-item.result in
    let made = c.in_ok-fet_record.field-0 in
    let push = c.in_ok-push.ensures.items in
    let many = c.loop-fet.invariant.so_many in
    record {
      so_many = ap (λ (v : List FetRec). length v) push ∙ length-append old (made ∷ []) ∙ ap (λ n. n + 1) many;
      each = made_more (IsRecordOfFet raw nodes numbers) fets i old c.push.new.self.items fet made c.loop-fet-test.true many c.loop-fet.invariant.each
          (subst (λ (v : Fet). IsRecordOfFet raw nodes numbers v made) c.fet-item.is c.in_ok-fet_record.ensures) push;
    }
