use Rattle.ext_loading.proofs.Common.{◌∙◌, ap, List, get_or, ArrayExt, ArrayUse}
use Rattle.ext_loading.proofs.Positions.{child_at, position_in}
use Rattle.ext_loading.proofs.read_exts.ReadExtsUseGraph.child.Goals as goal

pub returns : goal.returns
returns c =
    let ext = c.index.result.now in
    let used = c.index-items-place.result in
    c.position.ensures
    ∙ ap (position_in c.args.self.now) (c.bytes.ensures ∙ ap (λ (uses : List ArrayUse). (get_or uses c.args.place used).cell) c.items.ensures)
    ∙ child_at c.args.self.now c.args.cell c.args.place ext used c.requires.cell c.requires.place
    (c.index.ensures ∙ ap (λ (exts : List ArrayExt). get_or exts c.args.cell ext) c.self.view_is)
