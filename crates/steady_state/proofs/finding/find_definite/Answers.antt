use Rattle.steady_state.proofs.Common.{[], arith, inl, inr, refl, length, slice_index, cases_lt, near_end, Definite, IsInPart, network_in}
use Rattle.steady_state.proofs.Gathering.{first_above, least_definite, relaxed_alone, relaxed_least}
use Rattle.steady_state.proofs.Passes.{begun_working, found, order_below}
use Rattle.steady_state.proofs.Wires.{sound_of}
use Rattle.steady_state.proofs.finding.find_definite.Goals as goal

pub enqueue-requires-clause-order : goal.enqueue-requires-clause-order
enqueue-requires-clause-order c = rw c.requires.best (order_below (network_in c.args.net.now) c.args.part.now c.requires.part)

pub drain-requires-clause-pass : goal.drain-requires-clause-pass
drain-requires-clause-pass c = record { part = c.requires.part; floor = tt; floors = λ v ins. refl }

pub drain-requires-clause-working : goal.drain-requires-clause-working
drain-requires-clause-working c =
    let net = network_in c.args.net.now in
    let part = c.args.part.now in
    let order = part.order.now in
    let best = c.args.best.now in
    begun_working net part.state.now Definite (λ v. IsInPart part v) [] best c.enqueue.new.waiting.inside
    (λ v ins. first_above net part.state.now (sound_of c.args.net.now) Definite [] v (slice_index best v) (c.requires.part.storage v ins).0 refl
    (c.requires.gathered v ins) (omega arith))
    c.enqueue.ensures.inner
    (λ side w ins. elim (cases_lt 1 (length order)) [
      | inl many ↦ elim (cases_lt 1 (slice_index best (near_end side w))) [
        | inl strong ↦ inl (let at = ins.2 in rw at at (c.enqueue.ensures.waits ins.0 ins.1 many (rw at strong)))
        | inr weak ↦ inr (relaxed_least part.state.now Definite order [] best side w 1 weak
            (λ v ins'. least_definite net part.state.now (sound_of c.args.net.now) v (slice_index best v) (c.requires.part.storage v ins').0
            (c.requires.gathered v ins')))
      ]
      | inr one ↦ inr (relaxed_alone part.state.now Definite order [] best side w one ins)
    ])

pub returns-clause-strongest : goal.returns-clause-strongest
returns-clause-strongest c =
    let net = network_in c.args.net.now in
    let part = c.args.part.now in
    let best = c.args.best.now in
    found net (sound_of c.args.net.now) part c.requires.part Definite [] (λ v ins. refl) best c.drain.new.best c.drain.new.waiting
    (λ v ins. first_above net part.state.now (sound_of c.args.net.now) Definite [] v (slice_index best v) (c.requires.part.storage v ins).0 refl
    (c.requires.gathered v ins) (omega arith))
    c.drain.ensures.above c.drain.ensures.working c.drain.ensures.idle
