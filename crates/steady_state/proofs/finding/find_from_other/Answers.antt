use Rattle.steady_state.proofs.Common.{◌≡◌, ℕ, arith, inl, inr, length, slice_index, cases_lt, near_end, FromOther, IsFloor, IsInPart}
use Rattle.steady_state.proofs.Common.{IsFirstStrength, network_in}
use Rattle.steady_state.proofs.Gathering.{first_above, first_below, relaxed_alone, relaxed_least}
use Rattle.steady_state.proofs.Passes.{begun_working, definite_of, found, order_below}
use Rattle.steady_state.proofs.Wires.{sound_of}
use Rattle.steady_state.proofs.finding.find_from_other.Goals as goal
use Rattle.steady_state.proofs.finding.find_from_other.Goals.{After-lower}

pub lower-requires-clause-order : goal.lower-requires-clause-order
lower-requires-clause-order c = rw c.requires.best (order_below (network_in c.args.net.now) c.args.part.now c.requires.part)

-- the floors are those of the strongest definite paths
floors : (c : After-lower) (v : ℕ) → IsInPart c.args.part.now v →
    IsFloor (network_in c.args.net.now) c.args.part.now.state.now (FromOther c.args.level) v (slice_index c.args.floor.now v)
floors c v ins = definite_of (network_in c.args.net.now) c.args.part.now.state.now (sound_of c.args.net.now) v (slice_index c.args.floor.now v)
    (c.requires.part.storage v ins).0 (c.requires.definite v ins)

-- what is not below its floor stays, and else it is 0
begun : (c : After-lower) (v : ℕ) → IsInPart c.args.part.now v →
    IsFirstStrength (network_in c.args.net.now) c.args.part.now.state.now (FromOther c.args.level) c.args.floor.now v (slice_index c.lower.new.best v)
begun c v ins =
    let x = c.lower.ensures.lowered in
    let net = network_in c.args.net.now in
    let s = c.args.part.now.state.now in
    let old : ℕ = slice_index c.args.best.now v in
    let floor : ℕ = slice_index c.args.floor.now v in
    elim (cases_lt old floor) [
      | inl below ↦ (let at = ins.2 in
          let zero : slice_index c.lower.new.best v ≡ 0 = rw at at (x.low ins.0 ins.1 (rw at below)) in
          rw zero (first_below net s (sound_of c.args.net.now) (FromOther c.args.level) c.args.floor.now v old (c.requires.part.storage v ins).0
          (floors c v ins) (c.requires.gathered v ins) below))
      | inr above ↦ rw (x.kept v above) (first_above net s (sound_of c.args.net.now) (FromOther c.args.level) c.args.floor.now v old
          (c.requires.part.storage v ins).0 (floors c v ins) (c.requires.gathered v ins) above)
    ]

pub drain-requires-clause-pass : goal.drain-requires-clause-pass
drain-requires-clause-pass c =
    record { part = c.requires.part; floor = c.requires.floor; floors = floors (goal.at.drain-requires-clause-pass c).After-lower }

pub drain-requires-clause-working : goal.drain-requires-clause-working
drain-requires-clause-working c =
    let x = c.lower.ensures.lowered in
    let part = c.args.part.now in
    let order = part.order.now in
    let kind = FromOther c.args.level in
    begun_working (network_in c.args.net.now) part.state.now kind (λ v. IsInPart part v) c.args.floor.now c.lower.new.best c.lower.new.waiting.inside
    (begun (goal.at.drain-requires-clause-working c).After-lower) x.inner
    (λ side w ins. elim (cases_lt 1 (length order)) [
      | inl many ↦ elim (cases_lt (slice_index c.args.best.now (near_end side w)) (slice_index c.args.floor.now (near_end side w))) [
        | inl below ↦ inr (let at = ins.2 in
            let zero : slice_index c.lower.new.best (near_end side w) ≡ 0 = rw at at (x.low ins.0 ins.1 (rw at below)) in
            relaxed_least part.state.now kind order c.args.floor.now c.lower.new.best side w 0 (omega (arith, zero)) (λ v ins'. omega arith))
        | inr above ↦ inl (let at = ins.2 in rw at at (x.waits ins.0 ins.1 many (rw at above)))
      ]
      | inr one ↦ inr (relaxed_alone part.state.now kind order c.args.floor.now c.lower.new.best side w one ins)
    ])

pub returns-clause-strongest : goal.returns-clause-strongest
returns-clause-strongest c =
    let here = (goal.at.returns-clause-strongest c).After-lower in
    found (network_in c.args.net.now) (sound_of c.args.net.now) c.args.part.now c.requires.part (FromOther c.args.level) c.args.floor.now (floors here)
    c.lower.new.best c.drain.new.best c.drain.new.waiting (begun here) c.drain.ensures.above c.drain.ensures.working c.drain.ensures.idle
