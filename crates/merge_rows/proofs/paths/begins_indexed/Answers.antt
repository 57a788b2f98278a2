use Rattle.merge_rows.proofs.IndexedPaths.{parts_tested}
use Rattle.merge_rows.proofs.paths.begins_indexed.Goals as goal

pub returns : goal.returns
returns c =
    let a = c.cut_at.ensures in
    let b = c.cut_at-2.ensures in
    let d = c.cut_at-3.ensures in
    parts_tested c.args.path.now c.are_parts.result c.cut_at.result.0.now c.cut_at.result.1.now c.cut_at-2.result.0.now c.cut_at-2.result.1.now
    c.cut_at-3.result.0.now c.cut_at-3.result.1.now a.before a.behind b.before b.behind d.before d.behind c.are_parts.ensures
