use Rattle.ext_loading.proofs.Common.{◌∙◌, ap, position_or_len, bytes_eq, cells_read}
use Rattle.std.specs.Option.{unwrap_or}
use Rattle.finite_sets.proofs.FirstPlaces.{found_or_length}
use Rattle.ext_loading.proofs.read_exts.ReadExts.position.Goals as goal

pub returns : goal.returns
returns c =
    let test = bytes_eq c.args.name.now in
    let cells = c.self.inside.cells in
    c.unwrap_or.ensures ∙ (λ i. unwrap_or (c.find.ensures i) (c.len.ensures i)) ∙ found_or_length test cells
    ∙ ap (position_or_len test) (c.self.invariant ∙ ap cells_read c.self.view_is)
