use Rattle.cell_tree.proofs.Common.{rules, ◌≡◌, ◌<◌, length, ◌∙◌, sym, subst, size_at, grown, with_or_without}
use Rattle.cell_tree.proofs.SizeLaws.{refolded_with, refolded_without}
use Rattle.cell_tree.proofs.sizes.refolded.Goals as goal
use Rattle.cell_tree.proofs.sizes.refolded.Goals.{in-Some, in-None}

pub offset_bounds-sizes-child : goal.offset_bounds-sizes-child
offset_bounds-sizes-child c =
    let within : c.in-Some.body.child.0 < length c.args.sizes.now = (c.requires.body c.in-Some.body c.in-Some.is).1 in search rules

pub bounds-sizes-child : goal.bounds-sizes-child
bounds-sizes-child c = (c.requires.body c.in-Some.body c.in-Some.is).1

pub add_use-there-requires-clause-lawful : goal.add_use-there-requires-clause-lawful
add_use-there-requires-clause-lawful c = (c.requires.body c.in-Some.body c.in-Some.is).0

pub returns : goal.returns
returns c = elim c.match-used.branch [
  | in-Some w ↦
      subst (λ used. c.add_uses.result ≡ grown c.args.dimension (size_at c.args.sizes.now) c.args.size.now
      (with_or_without c.args.uses.now.entries c.args.at used)) (sym w.in-Some.is)
      (refolded_with c.args.dimension (size_at c.args.sizes.now) c.args.size.now c.add_uses-before.result c.match-used.there c.add_uses.result
      c.args.uses.now.entries c.args.at c.len.result w.in-Some.body
      c.requires.at c.len.ensures c.add_uses-before.ensures.grown (w.there-is ∙ w.add_use-there.ensures.added) c.add_uses.ensures.grown)
  | in-None w ↦
      subst (λ used. c.add_uses.result ≡ grown c.args.dimension (size_at c.args.sizes.now) c.args.size.now
      (with_or_without c.args.uses.now.entries c.args.at used)) (sym w.in-None.is)
      (refolded_without c.args.dimension (size_at c.args.sizes.now) c.args.size.now c.match-used.there c.add_uses.result c.args.uses.now.entries c.args.at
      c.len.result c.len.ensures
      (w.there-is ∙ c.add_uses-before.ensures.grown) c.add_uses.ensures.grown)
]
