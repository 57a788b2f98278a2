use Rattle.plain_records.proofs.Common.{◌≡◌, ◌+◌, ◌∷◌, ◌++◌, [], List, ℕ, map, sym, ap, ◌∙◌, append_assoc, arith, rules, range_with_len, map-append}
use Rattle.plain_records.proofs.Common.{plain_merge}
use Rattle.finite_sets.proofs.Searches.{range_push}
use Rattle.ext_model.specs.declared.records.MergeRec.{MergeRec}
use Rattle.plain_records.proofs.merges.add_merges.Goals as goal

pub loop-n-preserved : goal.loop-n-preserved
loop-n-preserved c =
    let row = c.args.row.now in
    let n = c.loop-n.n in
    let before = c.args.merges.now.items in
    let passed = range_with_len 0 n in
    let made : MergeRec = c.in_ok-plain_merge.field-0 in
    let one : made ≡ plain_merge row n = c.in_ok-plain_merge.ensures in
    let more : map (plain_merge row) (range_with_len 0 (n + 1)) ≡ map (plain_merge row) passed ++ plain_merge row n ∷ [] =
    ap (map (plain_merge row)) (range_push 0 n) ∙ map-append (plain_merge row) passed ((0 + n) ∷ [])
    ∙ ap (λ (m : ℕ). map (plain_merge row) passed ++ plain_merge row m ∷ []) (omega arith) in
    let pushed : c.push.new.self.items ≡ c.loop-n.merges.items ++ made ∷ [] = search rules in
    pushed ∙ ap (λ (z : List MergeRec). z ++ made ∷ []) c.loop-n.invariant
    ∙ ap (λ (z : MergeRec). (before ++ map (plain_merge row) passed) ++ z ∷ []) one
    ∙ append_assoc before (map (plain_merge row) passed) (plain_merge row n ∷ []) ∙ ap (λ (z : List MergeRec). before ++ z) (sym more)
