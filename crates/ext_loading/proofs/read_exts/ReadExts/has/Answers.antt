use Rattle.ext_loading.proofs.Common.{◌∙◌, ap, list_any, bytes_eq, cells_read}
use Rattle.std.specs.Option.{is_some}
use Rattle.ext_reading.proofs.NameLaws.{found_place}
use Rattle.ext_loading.proofs.read_exts.ReadExts.has.Goals as goal

pub returns : goal.returns
returns c =
    c.is_some.ensures ∙ ap is_some c.find.ensures ∙ found_place (bytes_eq c.args.name.now) c.self.inside.cells
    ∙ ap (list_any (bytes_eq c.args.name.now)) (c.self.invariant ∙ ap cells_read c.self.view_is)
