use Rattle.name_classes.proofs.Common.{◌≡◌, ℕ, List, take, length, cond, refl, sym, ◌∙◌, ap, subst, arith, Some, bytes_eq, slice_get_read}
use Rattle.name_classes.proofs.Common.{take-slice_get, UseRec, IsTableOf, number_of}
use Rattle.std.proofs.lemmas.List.{length-take-le}
use Rattle.std.proofs.lemmas.Map.Text.{hash_map_updates_str}
use Rattle.name_classes.proofs.TableLaws.{table_push}
use Rattle.name_classes.proofs.tables.UseTable.of.Goals as goal

pub loop-number-preserved : goal.loop-number-preserved
loop-number-preserved c =
    let uses = c.args.uses.now in
    let number = c.loop-number.number in
    let used = c.index-uses-number.result in
    let here = slice_get_read uses (length uses) number used refl c.loop-number-test.true c.index-uses-number.is in
    let so_many : length (take number uses) ≡ number = length-take-le number uses (omega arith) in
    let reads : (id : List ℕ) → number_of (record { numbers = c.insert.new.self }) id
    ≡ cond (bytes_eq used.id id) (Some number) (number_of (record { numbers = c.loop-number.numbers }) id) =
    λ id. hash_map_updates_str c.bytes.result.now c.loop-number.numbers c.insert.new.self (Some number) c.in_ok-insert.ensures.updates id
    ∙ ap (λ (key : List ℕ). cond (bytes_eq key id) (Some number) (number_of (record { numbers = c.loop-number.numbers }) id)) c.bytes.ensures in
    let P : List UseRec → Type 0 = λ xs. IsTableOf xs (record { numbers = c.insert.new.self }) in
    subst P (sym (take-slice_get uses number used here))
    (table_push (take number uses) used (record { numbers = c.loop-number.numbers }) (record { numbers = c.insert.new.self }) c.loop-number.invariant
    (λ id. reads id
    ∙ ap (λ (k : ℕ). cond (bytes_eq used.id id) (Some k) (number_of (record { numbers = c.loop-number.numbers }) id)) (sym so_many)))
