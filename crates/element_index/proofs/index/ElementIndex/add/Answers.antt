use Rattle.element_index.proofs.Common.{◌≡◌, ◌<◌, sym, ◌∙◌, arith}
use Rattle.std.proofs.Common.{vec_len}
use Rattle.element_index.proofs.HoldLaws.{holds_grown, holds_more, popped}
use Rattle.element_index.proofs.index.ElementIndex.add.Goals as goal

pub invariant_of-self-in_err-push : goal.invariant_of-self-in_err-push
invariant_of-self-in_err-push c =
    let held =
    holds_grown c.self.inside.ids c.number_of.new.ids c.self.inside.uses.items c.self.inside.areas c.block-block.result.id.now
    c.block-block.ensures.id_form c.in_ok-number.ensures.grown c.self.invariant in
    rw c.in_err-push.ensures.items held

pub invariant_of-self-in-Err : goal.invariant_of-self-in-Err
invariant_of-self-in-Err c =
    let held =
    holds_grown c.self.inside.ids c.number_of.new.ids c.self.inside.uses.items c.self.inside.areas c.block-block.result.id.now
    c.block-block.ensures.id_form c.in_ok-number.ensures.grown c.self.invariant in
    let some : 0 < vec_len c.push.new.self = omega (arith, c.in_ok-push.ensures.len) in
    let back : c.pop.new.self.items ≡ c.self.inside.uses.items =
    popped c.self.inside.uses.items c.pop.new.self.items c.args.used c.pop.result (c.pop.ensures.variant.1 some)
    (sym c.in_ok-push.ensures.items ∙ c.pop.ensures.items) in
    rw (back, c.in-Err.ensures.refused) held

pub invariant_of-self-in_default : goal.invariant_of-self-in_default
invariant_of-self-in_default c =
    let ids = c.number_of.new.ids in
    let uses = c.self.inside.uses.items in
    let block = c.block-block.result in
    let held =
    holds_grown c.self.inside.ids ids uses c.self.inside.areas block.id.now c.block-block.ensures.id_form c.in_ok-number.ensures.grown c.self.invariant in
    let more =
    holds_more ids uses c.self.inside.areas c.args.used block.id.now block.area c.in_ok-number.number c.in_ok-number.ensures.number c.block-block.ensures
    held in
    rw (c.in_ok-push.ensures.items, c.in_default.ensures.added, c.raised-area.ensures) more
