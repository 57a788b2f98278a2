-- Changes of states.
use Rattle.std.specs.Prelude.{◌≢◌, ◌==◌, ◌&&◌, ℕ, Bool, false, not, List, [], ◌∷◌, filter, map, slice_index_or, slice_set}
use Rattle.switch_net.specs.declared.switches.Level.{Level}
use Rattle.switch_net.specs.Path.{state_of}
use Rattle.switch_net.specs.Sets.{IsInside}

-- the states once nodes took others
abbrev pub changed : List (ℕ × Level) → List Level → List Level
changed [] s = s
changed (change ∷ changes) s = changed changes (slice_set s change.0 change.1)

-- whether the node is neither marked nor held
abbrev pub is_copied : List Bool → ℕ → ℕ → Bool
is_copied inside held v = not (v == held) && not (slice_index_or inside v false)

-- the nodes, with their states
abbrev pub taken_from : List Level → List ℕ → List (ℕ × Level)
taken_from next nodes = map (λ v. (v, state_of next v)) nodes

-- where the node has two states, it is told
abbrev pub IsTold : List Level → List Level → List Bool → ℕ → Type 0
IsTold one other inside v = state_of one v ≢ state_of other v → IsInside inside v

-- the states that these changes and the marked nodes' next states make of others
abbrev pub replayed : List (ℕ × Level) → List Bool → List ℕ → ℕ → List Level → List Level → List Level
replayed changes inside marked held next s =
    changed (taken_from next marked) (changed (filter (λ change. is_copied inside held change.0) changes) s)
