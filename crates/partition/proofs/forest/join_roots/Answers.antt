use Rattle.std.proofs.Common.{get_or, ◌∙◌, ap, arith}
use Rattle.partition.specs.Parents.{leaders_of}
use Rattle.partition.proofs.Ancestors.{leaders_of-link}
use Rattle.partition.proofs.forest.join_roots.Goals as goal

pub returns-then-x-y-clause-leaders : goal.returns-then-x-y-clause-leaders
returns-then-x-y-clause-leaders c =
    (leaders_of-link c.root_of-y.new.parents (leaders_of c.args.parents.now) c.root_of-y.ensures.stays_down
    (c.root_of-y.ensures.leaders ∙ c.root_of-x.ensures.leaders) c.args.a c.args.b c.root_of-x.result c.root_of-y.result
    (omega (arith, c.requires.a_within)) (omega (arith, c.requires.b_within)) (omega arith) (omega arith)
    c.root_of-x.ensures.value
    (c.root_of-y.ensures.value ∙ ap (λ l. get_or l c.args.b 0) c.root_of-x.ensures.leaders)).0
    (omega arith)

pub returns-else-x-y-clause-leaders : goal.returns-else-x-y-clause-leaders
returns-else-x-y-clause-leaders c =
    (leaders_of-link c.root_of-y.new.parents (leaders_of c.args.parents.now) c.root_of-y.ensures.stays_down
    (c.root_of-y.ensures.leaders ∙ c.root_of-x.ensures.leaders) c.args.a c.args.b c.root_of-x.result c.root_of-y.result
    (omega (arith, c.requires.a_within)) (omega (arith, c.requires.b_within)) (omega arith) (omega arith)
    c.root_of-x.ensures.value
    (c.root_of-y.ensures.value ∙ ap (λ l. get_or l c.args.b 0) c.root_of-x.ensures.leaders)).1
    (omega arith)
