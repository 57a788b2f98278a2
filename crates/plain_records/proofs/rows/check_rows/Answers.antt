use Rattle.plain_records.proofs.Common.{Bool, cond, inr, sym, ap, ◌∙◌, arith, Some, None, TooMany, Merges, MOST_MERGES, with_merges}
use Rattle.std.specs.Prelude.{false}
use Rattle.flat_limits.proofs.TreeLaws.{size_within, past_is}
use Rattle.plain_records.proofs.ReachLaws.{top_at}
use Rattle.plain_records.proofs.RowLaws.{size_of, as_many, sizes_are, row_fault}
use Rattle.plain_records.proofs.rows.check_rows.Goals as goal

pub is_past-requires : goal.is_past-requires
is_past-requires c =
    let exts = c.args.exts.now in
    let bare = c.args.bare.now in
    let called = c.requires.bare.expanded.called in
    size_within (size_of exts) bare c.args.root c.args.tree.now (omega (arith, c.requires.root, as_many exts bare called)) c.requires.tree
    c.as_slice.result.now (c.as_slice.ensures.value ∙ c.in_ok-sizes.ensures ∙ sizes_are exts bare c.requires.records called) c.items.result.now c.items.ensures

pub returns-then-is_past-clause-fault : goal.returns-then-is_past-clause-fault
returns-then-is_past-clause-fault c = inr (λ top at.
    let exts = c.args.exts.now in
    let bare = c.args.bare.now in
    sym (row_fault exts c.args.root bare c.requires.records c.requires.bare top at)
    ∙ past_is (size_of exts) bare c.args.root c.args.tree.now c.requires.tree c.as_slice.result.now
    (c.as_slice.ensures.value ∙ c.in_ok-sizes.ensures ∙ sizes_are exts bare c.requires.records c.requires.bare.expanded.called)
    c.items.result.now c.items.ensures MOST_MERGES Merges c.is_past.result c.is_past.ensures (with_merges false top)
    (top_at false exts c.args.root bare c.requires.bare top at)
    ∙ ap (λ (t : Bool). cond t (Some (TooMany Merges)) None) c.if-is_past.true)

pub returns-clause-few : goal.returns-clause-few
returns-clause-few c top at =
    let exts = c.args.exts.now in
    let bare = c.args.bare.now in
    sym (row_fault exts c.args.root bare c.requires.records c.requires.bare top at)
    ∙ past_is (size_of exts) bare c.args.root c.args.tree.now c.requires.tree c.as_slice.result.now
    (c.as_slice.ensures.value ∙ c.in_ok-sizes.ensures ∙ sizes_are exts bare c.requires.records c.requires.bare.expanded.called)
    c.items.result.now c.items.ensures MOST_MERGES Merges c.is_past.result c.is_past.ensures (with_merges false top)
    (top_at false exts c.args.root bare c.requires.bare top at)
    ∙ ap (λ (t : Bool). cond t (Some (TooMany Merges)) None) c.if-is_past.false
