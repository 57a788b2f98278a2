-- The part of a network that is worked out at once, and a pass over it.
use Rattle.std.specs.Prelude.{◌≡◌, ℕ, List, [], Option, Some, None, IfSome, true, Contains, slice_index, length}
use Rattle.std.specs.Borrow.{Bor}
use Rattle.switch_net.specs.declared.switches.Switch.{Switch}
use Rattle.switch_net.specs.declared.terminals.Side.{Side}
use Rattle.switch_net.specs.Network.{Network}
use Rattle.switch_net.specs.Path.{is_closed_or_unknown}
use Rattle.switch_net.specs.Sets.{IsAmong}
use Rattle.switch_net.specs.Terminals.{near_end, far_end}
use Rattle.switch_net.specs.Vicinity.{IsStorage}
use Rattle.steady_state.specs.declared.part.Part.{Part}
use Rattle.steady_state.specs.declared.part.Pass.{Pass}
use Rattle.steady_state.specs.steps.Kinds.{IsFloor}

-- the node is listed
abbrev pub IsInPart : Part → ℕ → Type 0
IsInPart part v = IsAmong part.order.now (length part.order.now) v

-- the nodes of the part store charge, and closed or unknown switches lead from them to no other nodes that do
pub record IsPartOf (net : Network) (part : Part) : Type 0 where
  pub state : length part.state.now ≡ net.nodes
  pub storage : (v : ℕ) → IsInPart part v → IsStorage net v
  pub closed : (side : Side) (w : Switch) → Contains net.switches w → IsInPart part (near_end side w) → is_closed_or_unknown part.state.now w ≡ true →
      IsStorage net (far_end side w) → IsInPart part (far_end side w)

-- the floors: where there are none, each is 0
abbrev pub floors_in : Option (Bor (List ℕ)) → List ℕ
floors_in None = []
floors_in (Some floors) = floors.now

-- each node of the part has its floor
pub record IsPassOver (net : Network) (pass : Pass) : Type 0 where
  pub part : IsPartOf net pass.part
  pub floor : IfSome pass.floor (λ floors. length floors.now ≡ net.nodes)
  pub floors : (v : ℕ) → IsInPart pass.part v → IsFloor net pass.part.state.now pass.kind v (slice_index (floors_in pass.floor) v)
