use Rattle.fet_regions.proofs.Common.{◌≡◌, ℕ, ◌+◌, ℤ, map, Vec, Global, get, Included, Excluded, key_cmp, AreTerminals}
use Rattle.std.specs.BTreeMap.Range.{entries_between}
use Rattle.std.proofs.lemmas.Result.{IfOk-weaker}
use Rattle.fet_regions.proofs.MapLaws.{terminals_in}
use Rattle.fet_regions.proofs.lengths.terminals_of.Goals as goal

pub returns : goal.returns
returns c =
    let label = c.args.label in
    let entries = c.args.lengths.now.entries in
    IfOk-weaker c.entries_of.result
    (λ (listed : Vec (ℕ × ℤ) Global). listed.items ≡ map (λ (entry : (ℕ × ℕ) × ℤ). (entry.0.1, entry.1))
    (entries_between key_cmp (Included (label, 0)) (Excluded (label + 1, 0)) entries))
    (λ (listed : Vec (ℕ × ℤ) Global). AreTerminals (get key_cmp c.args.lengths.now) label listed.items)
    (λ listed is. terminals_in label entries listed.items c.entries_of.ensures.ordered is) c.entries_of.ensures.listed
