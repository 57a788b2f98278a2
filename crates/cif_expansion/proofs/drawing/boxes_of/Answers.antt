use Rattle.cif_expansion.proofs.Common.{◌≡◌, [], ◌∷◌, length, ◌∙◌, ap, arith, err_from_is_err_and, LeavesRange, StandsOutside}
use Rattle.cif_expansion.proofs.DrawnLaws.{range_fault_weaker}
use Rattle.cif_expansion.proofs.ExpansionLaws.{all_drawn_at, begun_outside, half_begun, last_read, lawful_last, near_last, outside_last, drawn_last}
use Rattle.cif_expansion.proofs.drawing.boxes_of.Goals as goal

pub returns-in_err-draw_items-clause-refused : goal.returns-in_err-draw_items-clause-refused
returns-in_err-draw_items-clause-refused c =
    let p = err_from_is_err_and c.from_residual-in_err-draw_items.result c.from_residual-in_err-draw_items.ensures.1 in
    rw (p.1, p.2) (range_fault_weaker (LeavesRange c.top.result.now (c.identity.result ∷ [])) (StandsOutside c.args.cif.now) c.in_err-draw_items.field-0.0
    (begun_outside c.args.cif.now c.top.result.now c.identity.result c.top.ensures c.identity.ensures) c.in_err-draw_items.ensures.refused)

pub loop-placements-init : goal.loop-placements-init
loop-placements-init c =
    half_begun c.args.cif.now c.top.result.now c.identity.result _ _ _ _ c.top.ensures c.identity.ensures c.lawful.ensures c.requires
    (c.in_ok-empty_lists.ensures.so_many ∙ ap length c.layers.ensures) (c.in_ok-empty_lists-2.ensures.so_many ∙ ap length c.symbols.ensures)
    c.in_ok-empty_lists.ensures.empty c.in_ok-empty_lists-2.ensures.empty c.in_ok-draw_items.ensures.drawn

pub draw_items-requires-in-Some-clause-lawful : goal.draw_items-requires-in-Some-clause-lawful
draw_items-requires-in-Some-clause-lawful c =
    let here : c.len.result ≡ length c.pop.new.self.items = omega (arith, c.len.ensures, c.pop.new.self.ok) in
    let last = last_read c.args.cif.now c.loop-placements.drawing.boxes.items _ c.pop.new.self.items _ c.items-in-Some.result.now _ _ _ c.items.result.now
    c.loop-placements.invariant c.in-Some.ensures.items c.items-in-Some.ensures c.symbols-in-Some.ensures here c.index-symbols-len.is c.items.ensures in
    lawful_last c.args.cif.now c.loop-placements.drawing.boxes.items c.pop.new.self.items c.items.result.now c.items-in-Some.result.now c.lawful.ensures last

pub draw_items-requires-in-Some-clause-near : goal.draw_items-requires-in-Some-clause-near
draw_items-requires-in-Some-clause-near c =
    let here : c.len.result ≡ length c.pop.new.self.items = omega (arith, c.len.ensures, c.pop.new.self.ok) in
    let last = last_read c.args.cif.now c.loop-placements.drawing.boxes.items _ c.pop.new.self.items _ c.items-in-Some.result.now _ _ _ c.items.result.now
    c.loop-placements.invariant c.in-Some.ensures.items c.items-in-Some.ensures c.symbols-in-Some.ensures here c.index-symbols-len.is c.items.ensures in
    near_last c.args.cif.now c.loop-placements.drawing.boxes.items c.pop.new.self.items c.items.result.now c.items-in-Some.result.now last

pub returns-in_err-draw_items-2-clause-refused : goal.returns-in_err-draw_items-2-clause-refused
returns-in_err-draw_items-2-clause-refused c =
    let here : c.len.result ≡ length c.pop.new.self.items = omega (arith, c.len.ensures, c.pop.new.self.ok) in
    let last = last_read c.args.cif.now c.loop-placements.drawing.boxes.items _ c.pop.new.self.items _ c.items-in-Some.result.now _ _ _ c.items.result.now
    c.loop-placements.invariant c.in-Some.ensures.items c.items-in-Some.ensures c.symbols-in-Some.ensures here c.index-symbols-len.is c.items.ensures in
    let p = err_from_is_err_and c.from_residual-in_err-draw_items-2.result c.from_residual-in_err-draw_items-2.ensures.1 in
    rw (p.1, p.2) (range_fault_weaker (LeavesRange c.items.result.now c.items-in-Some.result.now) (StandsOutside c.args.cif.now) c.in_err-draw_items-2.field-0.0
    (outside_last c.args.cif.now c.loop-placements.drawing.boxes.items c.pop.new.self.items c.items.result.now c.items-in-Some.result.now last)
    c.in_err-draw_items-2.ensures.refused)

pub loop-placements-preserved : goal.loop-placements-preserved
loop-placements-preserved c =
    let here : c.len.result ≡ length c.pop.new.self.items = omega (arith, c.len.ensures, c.pop.new.self.ok) in
    let last = last_read c.args.cif.now c.loop-placements.drawing.boxes.items _ c.pop.new.self.items _ c.items-in-Some.result.now _ _ _ c.items.result.now
    c.loop-placements.invariant c.in-Some.ensures.items c.items-in-Some.ensures c.symbols-in-Some.ensures here c.index-symbols-len.is c.items.ensures in
    drawn_last c.args.cif.now c.loop-placements.drawing.boxes.items _ c.pop.new.self.items _ c.items.result.now c.items-in-Some.result.now c.lawful.ensures last
    c.in_ok-draw_items-2.ensures.drawn

pub returns-clause-drawn : goal.returns-clause-drawn
returns-clause-drawn c =
    all_drawn_at c.args.cif.now c.loop-placements.drawing.boxes.items c.loop-placements.drawing.waiting.items
    (omega (arith, c.in_default.ensures.cases.0, c.loop-placements.drawing.waiting.ok)) c.loop-placements.invariant
