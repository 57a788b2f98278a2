use Rattle.cell_library.proofs.Common.{◌≡◌, ◌++◌, Option, sym, ap, subst, ◌∙◌, None, Some, append-nil, on_ok_weaker, Rect, Hull, element_hulls}
use Rattle.cell_library.proofs.Common.{IsHullInRange}
use Rattle.cell_library.proofs.BoxesBelow.{hull_seen}
use Rattle.cell_library.proofs.element_boxes.push_boxes.Goals as goal

pub push_elements-requires-clause-hull : goal.push_elements-requires-clause-hull
push_elements-requires-clause-hull c =
    subst IsHullInRange
    (sym (hull_seen c.args.library.now c.lawful.ensures c.args.body.now.child.0 (Some c.in-Some.hull) c.requires.child c.in-Some.ensures))
    (c.lawful.ensures.tree.sizes.within Hull c.args.body.now.child.0)

pub returns-in-Some : goal.returns-in-Some
returns-in-Some c =
    on_ok_weaker c.push_elements.result
    (λ (added : c.push_elements.new.boxes.items ≡ c.args.boxes.now.items ++ element_hulls c.args.body.now (Some c.in-Some.hull)).
    added
    ∙ ap (λ (hull : Option Rect). c.args.boxes.now.items ++ element_hulls c.args.body.now hull)
    (hull_seen c.args.library.now c.lawful.ensures c.args.body.now.child.0 (Some c.in-Some.hull) c.requires.child c.in-Some.ensures))
    c.push_elements.ensures

pub returns-in-None : goal.returns-in-None
returns-in-None c =
    sym (ap (λ (hull : Option Rect). c.args.boxes.now.items ++ element_hulls c.args.body.now hull)
    (sym (hull_seen c.args.library.now c.lawful.ensures c.args.body.now.child.0 None c.requires.child c.in-None.ensures))
    ∙ append-nil c.args.boxes.now.items)
