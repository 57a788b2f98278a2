use Rattle.rect_contacts.proofs.Common.{◌≡◌, List, ◌++◌, sym, ◌∙◌, ap, arith, rules, to_z, of_z, w64, to_z-of_z, Rect, rect_at, events_from}
use Rattle.std.proofs.lemmas.List.{append-nil, drop_all}
use Rattle.rect_contacts.proofs.EventOrder.{adds_more}
use Rattle.rect_contacts.proofs.events.add_events.Goals as goal

pub loop-owner-preserved : goal.loop-owner-preserved
loop-owner-preserved c =
    let rect : Rect = rect_at c.args.rects.now c.loop-owner.owner in
    let xlo : to_z w64 (of_z w64 rect.xlo) ≡ rect.xlo = to_z-of_z w64 rect.xlo (search rules) in
    let ylo : to_z w64 (of_z w64 rect.ylo) ≡ rect.ylo = to_z-of_z w64 rect.ylo (search rules) in
    let xhi : to_z w64 (of_z w64 rect.xhi) ≡ rect.xhi = to_z-of_z w64 rect.xhi (search rules) in
    let yhi : to_z w64 (of_z w64 rect.yhi) ≡ rect.yhi = to_z-of_z w64 rect.yhi (search rules) in
    adds_more c.args.of_second c.args.rects.now c.loop-owner.owner c.loop-owner.events.items c.push.new.self.items _ _ (omega arith)
    (rw (ylo, xlo, xhi) at c.in_ok-push.ensures.items) (rw (yhi, xlo, xhi) at c.in_ok-push-2.ensures.items) c.loop-owner.invariant

pub returns : goal.returns
returns c =
    let items = c.loop-owner.events.items in
    sym (append-nil items)
    ∙ ap (λ (v : List Rect). items ++ events_from c.args.of_second c.loop-owner.owner v) (sym (drop_all c.loop-owner.owner c.args.rects.now
    c.loop-owner-test.false))
    ∙ c.loop-owner.invariant
