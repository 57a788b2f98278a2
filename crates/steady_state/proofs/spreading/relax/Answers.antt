use Rattle.steady_state.proofs.Common.{◌≡◌, ◌∷◌, [], true, arith, near_end, far_end, IsStorage, goes_through, floors_in, IsOver, network_in}
use Rattle.steady_state.proofs.UnderWay.{conducts, rise_by_lift, raised_more, far_below}
use Rattle.steady_state.proofs.spreading.relax.Goals as goal

pub returns-then-lift-clause-working : goal.returns-then-lift-clause-working
returns-then-lift-clause-working c = λ k.
    let go : goes_through c.args.pass.now.part.state.now c.args.pass.now.kind c.args.switch.now ≡ true = cc in
    let sto : IsStorage (network_in c.args.net.now) (far_end c.args.side c.args.switch.now) = (
      far_below c.args.side c.args.switch.now c.args.net.now.nodes c.requires.switch.left c.requires.switch.right,
      rw c.far-to.ensures at c.if-not-net-to.true,
    ) in
    rise_by_lift (network_in c.args.net.now) c.args.pass.now.part.state.now c.args.pass.now.kind (IsOver c.args.pass.now) (floors_in c.args.pass.now.floor)
    c.args.best.now c.lift.new.best c.args.waiting.now.inside c.add.new.self.inside
    (near_end c.args.side c.args.switch.now ∷ []) c.args.side c.args.switch.now c.near.result c.far-to.result c.strength_of.result c.near.ensures
    c.far-to.ensures c.strength_of.ensures c.if-lift.ensures (cc)
    c.requires.near (rw c.far-to.ensures (c.requires.pass.part.closed c.args.side c.args.switch.now c.requires.switch.stands c.requires.near
    (conducts c.args.pass.now.part.state.now c.args.pass.now.kind c.args.switch.now go) sto)) c.requires.pass.floors c.requires.switch.stands
    (let lt = far_below c.args.side c.args.switch.now c.args.net.now.nodes c.requires.switch.left c.requires.switch.right in omega
    (arith, lt, c.far-to.ensures))
    c.add.ensures.here c.add.ensures.grown c.add.ensures.others k

pub returns-then-lift-clause-raised : goal.returns-then-lift-clause-raised
returns-then-lift-clause-raised c =
    let lift = c.if-lift.ensures in
    let lt = far_below c.args.side c.args.switch.now c.args.net.now.nodes c.requires.switch.left c.requires.switch.right in
    rw lift.0 (raised_more c.args.best.now c.args.waiting.now.count c.add.new.self.count c.far-to.result _ (omega (arith, lt, c.far-to.ensures)) lift.1
    c.add.ensures.few)
