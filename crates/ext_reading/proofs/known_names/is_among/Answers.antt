use Rattle.ext_reading.proofs.Common.{◌∙◌, ap, is_some, bytes_eq}
use Rattle.ext_reading.proofs.NameLaws.{found_place}
use Rattle.ext_reading.proofs.known_names.is_among.Goals as goal

pub returns : goal.returns
returns c = c.is_some.ensures ∙ ap is_some c.find.ensures ∙ found_place (bytes_eq c.args.name.now) c.args.names.now
