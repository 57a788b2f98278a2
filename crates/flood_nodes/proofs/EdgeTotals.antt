-- How many edges lead from some tiles to some tiles.
use Rattle.flood_nodes.proofs.Common.{◌≡◌, ◌≢◌, ℕ, ◌<◌, ℤ, pos, ◌+ℤ◌, ◌*ℤ◌, Bool, true, false, cond, eqb, ◌&&◌, List, [], ◌∷◌, length, inl, inr, sym}
use Rattle.flood_nodes.proofs.Common.{◌∙◌, ap, subst, arith, and_parts, ints, slice_get_within, In, Distinct, Lists, sum_on, Total, one_if}
use Rattle.flood_nodes.proofs.Common.{Total-iff, Total-at, Contact, Place, Layout, InFamily, Total-family, Total-gated, RegionTile, LeadsAcross}
use Rattle.flood_nodes.proofs.Common.{LiesIn, AreLayoutTiles, tile_at, indices_of, shared_by, inner_edges, IsTileContact}
use Rattle.std.proofs.lemmas.Bool.{and_from}
use Rattle.geo_core.specs.FiniteSets.Range.{pairs_of}
use Rattle.geo_core.proofs.FiniteSets.Ranges.{Lists-pairs_of}
use Rattle.geo_core.proofs.FiniteSets.Sums.{sum_on-same, sum_on-add, sum_on-nothing}
use Rattle.flood_nodes.specs.TileShares.{IsInTiles, edges_by_contacts, ContactsCountEdges}
use Rattle.flood_nodes.proofs.ShareLaws.{one_plane, two_planes}
use Rattle.rect_contacts.proofs.BothWays.{sum_on-nested}
use Rattle.flood_nodes.proofs.ShareLaws.{Lists-indices_of, contacts_both_ways}
use Rattle.flood_nodes.proofs.TileEdges.{lies_in_one, edges_of, edges_of_pair}

-- a sum over a list in which one thing alone counts
pick : (g : ℕ → ℤ) (i : ℕ) (xs : List ℕ) → Distinct xs → In i xs → sum_on (λ (j : ℕ). cond (eqb i j) (g j) (pos 0)) xs ≡ g i
pick g i [] distinct among = absurd among
pick g i (x ∷ xs) distinct (inl same) =
    let test : eqb i x ≡ true = one_plane i x (sym same) in
    ap (λ (t : Bool). cond t (g x) (pos 0) +ℤ sum_on (λ (j : ℕ). cond (eqb i j) (g j) (pos 0)) xs) test
    ∙ ap (λ (z : ℤ). g x +ℤ z) (sum_on-nothing (λ (j : ℕ). cond (eqb i j) (g j) (pos 0)) xs
    (λ j in_rest. let differ : i ≢ j = (λ e. distinct.0 (subst (λ (k : ℕ). In k xs) (sym e ∙ sym same) in_rest)) in
    ap (λ (t : Bool). cond t (g j) (pos 0)) (two_planes i j differ)))
    ∙ plus_none (g x) ∙ ap g same
  where
    plus_none : (z : ℤ) → z +ℤ pos 0 ≡ z
    plus_none z = omega (arith, ints)
pick g i (x ∷ xs) distinct (inr later) =
    let differ : i ≢ x = (λ e. distinct.0 (subst (λ (k : ℕ). In k xs) e later)) in
    ap (λ (t : Bool). cond t (g x) (pos 0) +ℤ sum_on (λ (j : ℕ). cond (eqb i j) (g j) (pos 0)) xs) (two_planes i x differ)
    ∙ none_plus (sum_on (λ (j : ℕ). cond (eqb i j) (g j) (pos 0)) xs) ∙ pick g i xs distinct.1 later
  where
    none_plus : (z : ℤ) → pos 0 +ℤ z ≡ z
    none_plus z = omega (arith, ints)

gate_splits : (test same : Bool) (inner shared : ℤ) → cond test (cond same inner (pos 0) +ℤ shared) (pos 0) ≡ cond same (one_if test *ℤ inner) (pos 0) +ℤ
    (one_if test *ℤ shared)
gate_splits true true inner shared = omega (arith, ints)
gate_splits true false inner shared = omega (arith, ints)
gate_splits false true inner shared = omega (arith, ints)
gate_splits false false inner shared = omega (arith, ints)

module _ (layout : Layout) (tiles : List RegionTile) (from to : ℕ → Bool) (are : AreLayoutTiles layout tiles) where
  abbrev indices : List ℕ
  indices = indices_of tiles

  abbrev Edges : ℕ × ℕ → Place × Place → Type 0
  Edges p = λ e. ((from p.0 && to p.1) ≡ true) × LeadsAcross (LiesIn tiles p.0) (LiesIn tiles p.1) e

  abbrev counted : ℕ × ℕ → ℤ
  counted p = cond (from p.0 && to p.1) (edges_of tiles p.0 p.1) (pos 0)

  pairs_listed : Lists {X = ℕ × ℕ} (λ p. (p.0 < length tiles) × (p.1 < length tiles)) (pairs_of indices indices)
  pairs_listed = Lists-pairs_of (λ k. k < length tiles) (λ k. k < length tiles) indices indices (Lists-indices_of tiles) (Lists-indices_of tiles)

  -- the edges, pair by pair of tiles
  by_pairs : Total (LeadsAcross (IsInTiles tiles from) (IsInTiles tiles to)) (λ e. pos 1) (sum_on counted (pairs_of indices indices))
  by_pairs =
      Total-iff (InFamily Edges (pairs_of indices indices)) (LeadsAcross (IsInTiles tiles from) (IsInTiles tiles to)) (λ e. pos 1) (sum_on counted (pairs_of
      indices indices))
      (λ e h.
      let tests = and_parts (from h.label.0) (to h.label.1) h.inside.0 in
      record {
        from = record { index = h.label.0; lies = h.inside.1.from; passes = tests.0 };
        to = record { index = h.label.1; lies = h.inside.1.to; passes = tests.1 };
        near = h.inside.1.near;
      })
      (λ e h. record {
        label = (h.from.index, h.to.index);
        among = pairs_listed.1 (h.from.index, h.to.index) (
          slice_get_within tiles h.from.index h.from.lies.tile h.from.lies.there,
          slice_get_within tiles
              h.to.index h.to.lies.tile h.to.lies.there,
        );
        inside = (and_from (from h.from.index) (to h.to.index) h.from.passes h.to.passes, record { from = h.from.lies; to = h.to.lies; near = h.near });
      })
      (Total-family Edges (λ e. pos 1) counted (pairs_of indices indices) pairs_listed.0
      (λ p q e in_p in_q.
      let first = lies_in_one tiles p.0 q.0 e.0 are.apart in_p.1.from in_q.1.from in
      let second = lies_in_one tiles p.1 q.1 e.1 are.apart in_p.1.to in_q.1.to in
      (λ k. (first k, second k)))
      (λ p among.
      let inside = pairs_listed.2 p among in
      Total-gated ((from p.0 && to p.1) ≡ true) (LeadsAcross (LiesIn tiles p.0) (LiesIn tiles p.1)) (λ e. pos 1) (edges_of tiles p.0 p.1) (from p.0 && to p.1)
      (λ e. e) (λ e. e) (edges_of_pair tiles p.0 p.1 are.proper are.apart inside.0 inside.1)))

  abbrev weight : ℕ → ℕ → ℤ
  weight i j = one_if (from i && to j)

  abbrev inner_at : ℕ → ℕ → ℤ
  inner_at i j = cond (eqb i j) (weight i j *ℤ inner_edges (tile_at tiles i).area) (pos 0)

  abbrev shared_at : ℕ → ℕ → ℤ
  shared_at i j = weight i j *ℤ shared_by (tile_at tiles i) (tile_at tiles j)

  -- and their number, by tiles and contacts
  number_is : (contacts : List Contact) → Lists (IsTileContact tiles) contacts → sum_on counted (pairs_of indices indices) ≡ edges_by_contacts tiles contacts
      from to
  number_is contacts listed =
      sum_on-nested counted indices indices
      ∙ sum_on-same (λ (i : ℕ). sum_on (λ (j : ℕ). counted (i, j)) indices) (λ (i : ℕ). (weight i i *ℤ inner_edges (tile_at tiles i).area) +ℤ sum_on
      (shared_at i) indices) indices
      (λ i among.
      sum_on-same (λ (j : ℕ). counted (i, j)) (λ (j : ℕ). inner_at i j +ℤ shared_at i j) indices
      (λ j _. gate_splits (from i && to j) (eqb i j) (inner_edges (tile_at tiles i).area) (shared_by (tile_at tiles i) (tile_at tiles j)))
      ∙ sum_on-add (inner_at i) (shared_at i) indices
      ∙ ap (λ (z : ℤ). z +ℤ sum_on (shared_at i) indices) (pick (λ (j : ℕ). weight i j *ℤ inner_edges (tile_at tiles i).area) i indices (Lists-indices_of
      tiles).0 among))
      ∙ sum_on-add (λ (i : ℕ). weight i i *ℤ inner_edges (tile_at tiles i).area) (λ (i : ℕ). sum_on (shared_at i) indices) indices
      ∙ ap (λ (z : ℤ). sum_on (λ (i : ℕ). weight i i *ℤ inner_edges (tile_at tiles i).area) indices +ℤ z) (sym (contacts_both_ways tiles contacts weight
      are.proper listed))

-- what lengths of contacts count
pub contacts_count_edges : ContactsCountEdges
contacts_count_edges layout tiles contacts from to are listed =
    Total-at (LeadsAcross (IsInTiles tiles from) (IsInTiles tiles to)) (λ e. pos 1) (sum_on (counted layout tiles from to are) (pairs_of (indices_of tiles)
    (indices_of tiles))) (edges_by_contacts tiles contacts from to)
    (number_is layout tiles from to are contacts listed) (by_pairs layout tiles from to are)
