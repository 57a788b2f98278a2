-- A pass, and how far it has come.
use Rattle.std.specs.Prelude.{◌≡◌, ℕ, ◌<◌, List, Bool, slice_index_or, length}
use Rattle.switch_net.specs.declared.switches.Switch.{Switch}
use Rattle.switch_net.specs.Network.{Network}
use Rattle.switch_net.specs.declared.terminals.Side.{Side}
use Rattle.steady_state.specs.declared.part.Pass.{Pass}
use Rattle.switch_net.specs.Terminals.{near_end}
use Rattle.steady_state.specs.steps.Parts.{IsInPart, floors_in}
use Rattle.steady_state.specs.steps.Spreading.{IsRelaxed, IsWorking}

-- the node is of the part
abbrev pub IsOver : Pass → ℕ → Type 0
IsOver pass v = IsInPart pass.part v

-- the strengths are under way, where these nodes wait and these are being looked at
abbrev pub IsSpreading : Network → Pass → List ℕ → List Bool → List ℕ → Type 0
IsSpreading net pass best waiting busy = IsWorking net pass.part.state.now pass.kind (IsOver pass) (floors_in pass.floor) best waiting busy

-- the switch brings no more to its other end
abbrev pub BringsNoMore : Pass → List ℕ → Side → Switch → Type 0
BringsNoMore pass best side switch = IsRelaxed pass.part.state.now pass.kind (IsOver pass) (floors_in pass.floor) best side switch

-- nor does any switch with this end at the node
abbrev pub BringsNoMoreFrom : Network → Pass → List ℕ → Side → ℕ → Type 0
BringsNoMoreFrom net pass best side v =
    (k : ℕ) (d : Switch) → k < length net.switches → near_end side (slice_index_or net.switches k d) ≡ v →
    BringsNoMore pass best side (slice_index_or net.switches k d)
