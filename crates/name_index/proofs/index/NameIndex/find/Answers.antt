use Rattle.std.proofs.Common.{ap, ◌∙◌}
use Rattle.std.specs.List.{position}
use Rattle.std.specs.Str.{bytes_eq}
use Rattle.name_index.proofs.Keys.{number_of_key}
use Rattle.name_index.proofs.index.NameIndex.find.Goals as goal

pub returns : goal.returns
returns c =
    c.get_index_of.ensures.index ∙ number_of_key c.args.name.now c.self.inside.names.keys ∙ ap (position (bytes_eq c.args.name.now)) c.self.view_is
