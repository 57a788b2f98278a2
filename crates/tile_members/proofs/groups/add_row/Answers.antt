use Rattle.tile_members.proofs.Common.{◌≡◌, ℕ, List, Some, cond, ap, ◌∙◌, get_by, lookup, bytes_eq, raised}
use Rattle.std.proofs.Common.{Option}
use Rattle.tile_members.proofs.MergeFinds.{TableEntry, early_next, found_then, has_early, is_key_of}
use Rattle.tile_members.proofs.groups.add_row.Goals as goal

pub loop-steps-preserved : goal.loop-steps-preserved
loop-steps-preserved c member =
    let row = c.args.row.now in
    let found : Option ℕ = Some c.args.number in
    let before : Option ℕ = get_by (λ key. bytes_eq member key.items) c.args.by_second.now in
    ap (λ (entries : List TableEntry). lookup (is_key_of member) entries) c.in_ok-insert.ensures.entries
    ∙ found_then member c.loop-steps.by_second.entries c.in_ok-raised_text.field-0 c.args.number _ (c.loop-steps.invariant member)
    ∙ ap (λ (bytes : List ℕ). cond (bytes_eq member bytes) found (cond (has_early member row c.loop-steps.steps) found before))
    (c.in_ok-raised_text.ensures ∙ ap (λ (path : List ℕ). raised path c.loop-steps.steps) c.bytes.ensures)
    ∙ early_next member row c.loop-steps.steps found before
