-- Sets of places, and edges between them, that are moved there and back: they are as large, and as many.
use Rattle.tree_circuits.proofs.Common.{◌≡◌, ℤ, pos, subst, Total, Total-iff, Transform, IsEdgeCount, LeadsAcross, Place, AreNeighbours, place_back}
use Rattle.tree_circuits.proofs.Common.{place_forth, above_from_back, back_from_above, neighbours_above, neighbours_back}
use Rattle.finite_sets.proofs.Totals.{Total-image}

-- Places go to others and come back, and neighbours stay neighbours both ways.
pub record AreMoved (go come : Place → Place) : Type 0 where
  pub come_back : (place : Place) → come (go place) ≡ place
  pub go_again : (place : Place) → go (come place) ≡ place
  pub near_there : (a b : Place) → AreNeighbours a b → AreNeighbours (go a) (go b)
  pub near_back : (a b : Place) → AreNeighbours a b → AreNeighbours (come a) (come b)

-- a transform moves places
pub moved_forth : (placed : Transform) → AreMoved (place_forth placed) (place_back placed)
moved_forth placed = record {
  come_back = back_from_above placed;
  go_again = above_from_back placed;
  near_there = neighbours_above placed;
  near_back = neighbours_back placed;
}

-- and so does the way back
pub moved_back : (placed : Transform) → AreMoved (place_back placed) (place_forth placed)
moved_back placed = record {
  come_back = above_from_back placed;
  go_again = back_from_above placed;
  near_there = neighbours_back placed;
  near_back = neighbours_above placed;
}

module _ (go come : Place → Place) (moved : AreMoved go come) where
  -- places whose ways back are neighbours are neighbours
  near_from_back : (a b : Place) → AreNeighbours (come a) (come b) → AreNeighbours a b
  near_from_back a b near =
      subst (λ (p : Place). AreNeighbours p b) (moved.go_again a)
      (subst (λ (p : Place). AreNeighbours (go (come a)) p) (moved.go_again b) (moved.near_there (come a) (come b) near))

  -- as many places are in a set that is moved
  pub places_moved : (From There : Place → Type 0) (n : ℤ) → ((place : Place) → From (come place) → There place)
      → ((place : Place) → There place → From (come place)) → Total From (λ place. pos 1) n → Total There (λ place. pos 1) n
  places_moved From There n there back total =
      Total-iff (λ (place : Place). From (come place)) There (λ place. pos 1) n there back
      (Total-image From go come (λ place. pos 1) n moved.come_back moved.go_again total)

  abbrev edge_there : Place × Place → Place × Place
  edge_there edge = (go edge.0, go edge.1)

  abbrev edge_back : Place × Place → Place × Place
  edge_back edge = (come edge.0, come edge.1)

  edge_come_back : (edge : Place × Place) → edge_back (edge_there edge) ≡ edge
  edge_come_back edge =
      let first = moved.come_back edge.0 in
      let second = moved.come_back edge.1 in
      (λ i. (first i, second i))

  edge_go_again : (edge : Place × Place) → edge_there (edge_back edge) ≡ edge
  edge_go_again edge =
      let first = moved.go_again edge.0 in
      let second = moved.go_again edge.1 in
      (λ i. (first i, second i))

  -- and as many edges lead from it to another, where it is asked of the neighbours of the first alone that they are moved
  pub edges_moved : (From To There Beyond : Place → Type 0) (n : ℤ) → ((place : Place) → From (come place) → There place)
      → ((place : Place) → There place → From (come place))
      → ((a b : Place) → There a → AreNeighbours a b → To (come b) → Beyond b)
      → ((a b : Place) → There a → AreNeighbours a b → Beyond b → To (come b)) → IsEdgeCount From To n → IsEdgeCount There Beyond n
  edges_moved From To There Beyond n there back to_there to_back count =
      Total-iff (λ (edge : Place × Place). LeadsAcross From To (edge_back edge)) (LeadsAcross There Beyond) (λ edge. pos 1) n
      (λ edge leads.
      let near = near_from_back edge.0 edge.1 leads.near in
      let from = there edge.0 leads.from in
      record { from = from; to = to_there edge.0 edge.1 from near leads.to; near = near })
      (λ edge leads. record {
        from = back edge.0 leads.from;
        to = to_back edge.0 edge.1 leads.from leads.near leads.to;
        near = moved.near_back edge.0 edge.1 leads.near;
      })
      (Total-image (LeadsAcross From To) edge_there edge_back (λ edge. pos 1) n edge_come_back edge_go_again count)
