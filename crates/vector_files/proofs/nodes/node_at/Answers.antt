use Rattle.vector_files.proofs.Common.{◌∙◌, sym}
use Rattle.vector_files.proofs.Places.{named_found, named_nowhere, read_place}
use Rattle.vector_files.proofs.nodes.node_at.Goals as goal

pub returns-in-Some : goal.returns-in-Some
returns-in-Some c =
    let nodes = c.args.nodes.now in
    let place = c.in-Some.place in
    c.copied.ensures
    ∙ (read_place nodes place c.get.result c.get.ensures.lookup
    ∙ sym (named_found c.args.name.now c.args.names.now nodes place (sym c.in-Some.is ∙ c.find.ensures)))

pub returns-in-None : goal.returns-in-None
returns-in-None c = sym (named_nowhere c.args.name.now c.args.names.now c.args.nodes.now (sym c.in-None.is ∙ c.find.ensures))
