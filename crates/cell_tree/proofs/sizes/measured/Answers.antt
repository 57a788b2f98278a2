use Rattle.cell_tree.proofs.Common.{◌-◌, ◌∙◌, ap, take, Size, size_at, grown}
use Rattle.cell_tree.proofs.SizeLaws.{alike_trans, alike_refl, grown-alike, grown-all}
use Rattle.cell_tree.proofs.sizes.measured.Goals as goal

pub returns : goal.returns
returns c =
    alike_trans c.args.dimension _ _ _
    (alike_refl c.args.dimension _ _ (c.add_uses.ensures.grown
    ∙ ap (λ (s : Size). grown c.args.dimension (size_at c.args.sizes.now) s (take (c.len.result - 0) c.args.uses.now.entries)) c.own_size.ensures
    ∙ grown-all c.args.dimension (size_at c.args.sizes.now) _ c.args.uses.now.entries c.len.result c.len.ensures))
    (grown-alike c.args.dimension (size_at c.args.sizes.now) (record { own = c.args.own; uses = c.args.uses.now.entries }))
