use Rattle.vector_files.proofs.Places.{index_added, index_kept}
use Rattle.vector_files.proofs.nodes.add_node.Goals as goal

pub returns-in_ok-push : goal.returns-in_ok-push
returns-in_ok-push c = λ named is.
    rw c.in_ok-push.ensures.items (
    index_added c.args.names.now c.insert.new.self c.args.nodes.now.items c.args.name.now c.args.node c.in_ok-insert.field-0
    c.in_ok-insert.ensures.new c.in_ok-insert.ensures.names c.if-branch.true named is
    )

pub returns-else-branch : goal.returns-else-branch
returns-else-branch c = λ named is.
    index_kept c.args.names.now c.insert.new.self c.args.nodes.now.items c.args.name.now c.args.node c.in_ok-insert.field-0
    c.in_ok-insert.ensures.new c.in_ok-insert.ensures.names c.if-branch.false named is
