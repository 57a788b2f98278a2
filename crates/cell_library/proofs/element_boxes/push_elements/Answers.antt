use Rattle.cell_library.proofs.GridSteps.{one_box}
use Rattle.cell_library.proofs.element_boxes.push_elements.Goals as goal

pub returns-in_ok-push-in-None : goal.returns-in_ok-push-in-None
returns-in_ok-push-in-None c =
    one_box c.args.body.now c.args.hull c.rect.result c.args.boxes.now.items c.push.new.self.items c.in-None.is c.rect.ensures.value
    c.in_ok-push-in-None.ensures.items
