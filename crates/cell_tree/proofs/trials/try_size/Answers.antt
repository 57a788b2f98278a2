use Rattle.cell_tree.proofs.Common.{refl, ◌∙◌, Depth, Elements, Hull}
use Rattle.cell_tree.proofs.WholeTrialLaws.{ready, ready_within, two_alike, stops_one, stops_two, stops_three, all_others, all_tried, all_within}
use Rattle.cell_tree.proofs.trials.try_size.Goals as goal

pub try_dimension-requires-clause-ready : goal.try_dimension-requires-clause-ready
try_dimension-requires-clause-ready c = ready _ c.requires.lawful c.requires.order Depth refl (λ key. refl)

pub try_dimension-requires-clause-within : goal.try_dimension-requires-clause-within
try_dimension-requires-clause-within c = ready_within _ c.requires.lawful c.requires.order Depth _ (λ key. refl)

pub returns-then-not-try_dimension-clause-refused : goal.returns-then-not-try_dimension-clause-refused
returns-then-not-try_dimension-clause-refused c =
    stops_one _ c.requires.lawful c.requires.order c.try_dimension.ensures.pass (c.try_dimension.ensures.stopped c.if-not-try_dimension.true)

pub try_dimension-requires-2-clause-ready : goal.try_dimension-requires-2-clause-ready
try_dimension-requires-2-clause-ready c =
    ready _ c.requires.lawful c.requires.order Elements c.try_dimension.auto.next (c.try_dimension.ensures.pass.alike Elements (λ e. absurd (cc)))

pub try_dimension-requires-2-clause-within : goal.try_dimension-requires-2-clause-within
try_dimension-requires-2-clause-within c =
    ready_within _ c.requires.lawful c.requires.order Elements _ (c.try_dimension.ensures.pass.alike Elements (λ e. absurd (cc)))

pub returns-then-not-try_dimension-2-clause-refused : goal.returns-then-not-try_dimension-2-clause-refused
returns-then-not-try_dimension-2-clause-refused c =
    stops_two _ c.requires.lawful c.requires.order c.try_dimension.ensures.pass (c.try_dimension.ensures.done c.if-not-try_dimension.false)
    c.try_dimension-2.ensures.pass (c.try_dimension-2.ensures.stopped c.if-not-try_dimension-2.true)

pub try_dimension-requires-3-clause-ready : goal.try_dimension-requires-3-clause-ready
try_dimension-requires-3-clause-ready c =
    ready _ c.requires.lawful c.requires.order Hull (c.try_dimension-2.auto.next ∙ c.try_dimension.auto.next)
    (two_alike _ c.requires.lawful c.requires.order c.try_dimension.ensures.pass (c.try_dimension.ensures.done c.if-not-try_dimension.false)
    c.try_dimension-2.ensures.pass)

pub try_dimension-requires-3-clause-within : goal.try_dimension-requires-3-clause-within
try_dimension-requires-3-clause-within c =
    ready_within _ c.requires.lawful c.requires.order Hull _
    (two_alike _ c.requires.lawful c.requires.order c.try_dimension.ensures.pass (c.try_dimension.ensures.done c.if-not-try_dimension.false)
    c.try_dimension-2.ensures.pass)

pub returns-then-not-try_dimension-3-clause-refused : goal.returns-then-not-try_dimension-3-clause-refused
returns-then-not-try_dimension-3-clause-refused c =
    stops_three _ c.requires.lawful c.requires.order c.try_dimension.ensures.pass (c.try_dimension.ensures.done c.if-not-try_dimension.false)
    c.try_dimension-2.ensures.pass (c.try_dimension-2.ensures.done c.if-not-try_dimension-2.false)
    c.try_dimension-3.ensures.pass (c.try_dimension-3.ensures.stopped c.if-not-try_dimension-3.true)

pub returns-then-not-try_dimension-3-clause-others : goal.returns-then-not-try_dimension-3-clause-others
returns-then-not-try_dimension-3-clause-others c =
    all_others _ c.requires.lawful c.requires.order c.try_dimension.ensures.pass (c.try_dimension.ensures.done c.if-not-try_dimension.false)
    c.try_dimension-2.ensures.pass (c.try_dimension-2.ensures.done c.if-not-try_dimension-2.false) c.try_dimension-3.ensures.pass

pub returns-clause-tried : goal.returns-clause-tried
returns-clause-tried c =
    all_tried _ c.requires.lawful c.requires.order c.try_dimension.ensures.pass (c.try_dimension.ensures.done c.if-not-try_dimension.false)
    c.try_dimension-2.ensures.pass (c.try_dimension-2.ensures.done c.if-not-try_dimension-2.false)
    c.try_dimension-3.ensures.pass (c.try_dimension-3.ensures.done c.if-not-try_dimension-3.false)

pub returns-clause-within : goal.returns-clause-within
returns-clause-within c =
    all_within _ c.requires.lawful c.requires.order c.try_dimension.ensures.pass (c.try_dimension.ensures.done c.if-not-try_dimension.false)
    c.try_dimension-2.ensures.pass (c.try_dimension-2.ensures.done c.if-not-try_dimension-2.false)
    c.try_dimension-3.ensures.pass (c.try_dimension-3.ensures.done c.if-not-try_dimension-3.false)

pub returns-clause-others : goal.returns-clause-others
returns-clause-others c =
    all_others _ c.requires.lawful c.requires.order c.try_dimension.ensures.pass (c.try_dimension.ensures.done c.if-not-try_dimension.false)
    c.try_dimension-2.ensures.pass (c.try_dimension-2.ensures.done c.if-not-try_dimension-2.false) c.try_dimension-3.ensures.pass
