use Rattle.name_classes.proofs.Common.{arith}
use Rattle.name_classes.proofs.RecordLaws.{cell_read, record_read}
use Rattle.name_classes.proofs.links.record_links.Goals as goal

pub bounds-resolver-items : goal.bounds-resolver-items
bounds-resolver-items c = cell_read c.args.resolver.now c.requires.resolver c.args.number c.requires.within c.items.result.now c.items.ensures _

pub merge_links-requires-clause-at : goal.merge_links-requires-clause-at
merge_links-requires-clause-at c =
    record_read c.args.resolver.now c.requires.resolver c.args.number c.requires.within c.items.result.now c.items.ensures _ c.index-resolver-items.result

pub node_links-requires-clause-at : goal.node_links-requires-clause-at
node_links-requires-clause-at c =
    record_read c.args.resolver.now c.requires.resolver c.args.number c.requires.within c.items.result.now c.items.ensures _ c.index-resolver-items.result

pub returns-clause-links : goal.returns-clause-links
returns-clause-links c = record {
  ext = _;
  at = record_read c.args.resolver.now c.requires.resolver c.args.number c.requires.within c.items.result.now c.items.ensures _ c.index-resolver-items.result;
  nodes = c.in_ok-node_links.ensures;
  merges = c.in_ok-merge_links.ensures.ok;
}

pub offset_bounds-resolver-items : goal.offset_bounds-resolver-items
offset_bounds-resolver-items c = let within = bounds-resolver-items c in omega (arith, within)
