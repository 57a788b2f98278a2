-- Transistors by their tiles: a channel's places are those of the tiles of its type with its label.
use Rattle.fet_regions.proofs.Common.{arith, ◌≡◌, ◌≢◌, ℕ, ◌<◌, pos, Bool, true, false, not, cond, eqb, ◌&&◌, List, length, refl, sym, ◌∙◌, ap}
use Rattle.fet_regions.proofs.Common.{slice_index, get_or_from_slice_get, and_parts, Lists, sum_on, Total, Contact, area_of, RawTech, Place, Layout}
use Rattle.fet_regions.proofs.Common.{IsMaterial, is_terminal, LeadsAcross, IsEdgeCount, LiesIn, AreLayoutTiles, IsInRegion, AreOneChannel}
use Rattle.fet_regions.proofs.Common.{IsTerminalOf, RegionTile, no_tile, tile_at, indices_of, IsTileContact, edges_by_contacts, open_by_contacts}
use Rattle.fet_regions.proofs.Common.{one_plane, same_from_test}
use Rattle.std.proofs.lemmas.Bool.Decides.{nat_tests}
use Rattle.std.proofs.lemmas.Bool.{and_from}
use Rattle.finite_sets.proofs.Chains.{Chain-push, Chain-keeps}
use Rattle.finite_sets.proofs.Totals.{Total-iff}
use Rattle.flood_nodes.specs.TileShares.{IsInTiles, is_of}
use Rattle.flood_nodes.proofs.EdgeTotals.{contacts_count_edges}
use Rattle.flood_nodes.proofs.OpenEdges.{tiles_count, contacts_close_edges}
use Rattle.fet_regions.proofs.AlikeTiles.{AreLabelled}

not_zero : (m : ℕ) → m ≢ 0 → eqb 0 m ≡ false
not_zero m h = grind (arith, nat_tests)

differ_from_test : (m n : ℕ) → not (eqb m n) ≡ true → m ≢ n
differ_from_test m n test = grind (arith, nat_tests)

test_from_differ : (m n : ℕ) → m ≢ n → not (eqb m n) ≡ true
test_from_differ m n h = grind (arith, nat_tests)

-- the tile is of the channel's type, and has its label
abbrev pub is_of_channel : List RegionTile → List ℕ → ℕ → ℕ → ℕ → Bool
is_of_channel tiles labels kind label i = eqb (tile_at tiles i).kind.0 kind && eqb (slice_index labels i) label

-- the tile is of a terminal's type, and of the region
abbrev pub is_terminal_of : RawTech → List RegionTile → ℕ → ℕ → ℕ → Bool
is_terminal_of raw tiles kind region j = is_terminal raw kind (tile_at tiles j).kind.0 && eqb (tile_at tiles j).region region

-- The numbers that tiles and contacts give are those of the channel of this place.
pub record IsMeasuredChannel (raw : RawTech) (layout : Layout) (tiles : List RegionTile) (contacts : List Contact) (labels : List ℕ) (kind label : ℕ)
    (place : Place) : Type 0 where
  pub area : Total (AreOneChannel layout place) (λ p. pos 1)
      (sum_on (λ (i : ℕ). cond (is_of_channel tiles labels kind label i) (area_of (tile_at tiles i).area) (pos 0)) (indices_of tiles))
  pub perimeter : IsEdgeCount (AreOneChannel layout place) (λ p. AreOneChannel layout place p → ⊥)
      (open_by_contacts tiles contacts (is_of_channel tiles labels kind label) (is_of tiles (λ t. eqb t kind)))
  pub terminals : (region : ℕ) → IsEdgeCount (AreOneChannel layout place) (IsTerminalOf raw layout (IsInRegion tiles) kind region)
      (edges_by_contacts tiles contacts (is_of_channel tiles labels kind label) (is_terminal_of raw tiles kind region))

module _ (raw : RawTech) (layout : Layout) (tiles : List RegionTile) (contacts : List Contact) (labels : List ℕ) (index : ℕ) (place : Place)
    (are : AreLayoutTiles layout tiles) (listed : Lists (IsTileContact tiles) contacts) (labelled : AreLabelled layout tiles labels)
    (lies : LiesIn tiles index place) (material : IsMaterial layout place) where
  abbrev kind : ℕ
  kind = layout place

  abbrev label : ℕ
  label = slice_index labels index

  -- all places of the channel have its type
  same_type : (p : Place) → AreOneChannel layout place p → kind ≡ layout p
  same_type p chain = Chain-keeps layout (λ a b alike. alike.same) chain

  abbrev from : ℕ → Bool
  from = is_of_channel tiles labels kind label

  tile_kind : (i : ℕ) (p : Place) → LiesIn tiles i p → (tile_at tiles i).kind.0 ≡ layout p
  tile_kind i p l = ap (λ (t : RegionTile). t.kind.0) (get_or_from_slice_get tiles i l.tile no_tile l.there) ∙ sym (are.kinds i p l)

  -- the places of the channel are those of the tiles with its label
  channel_in_tiles : (p : Place) → AreOneChannel layout place p → IsInTiles tiles from p
  channel_in_tiles p chain =
      let e = same_type p chain in
      let there = are.every p (λ none. material (e ∙ none)) in
      let i = there.0 in
      record {
        index = i;
        lies = there.1;
        passes = and_from (eqb (tile_at tiles i).kind.0 kind) (eqb (slice_index labels i) label)
            (one_plane (tile_at tiles i).kind.0 kind (tile_kind i p there.1 ∙ sym e))
            (one_plane (slice_index labels i) label (sym ((labelled index i place p lies there.1).1 chain)));
      }

  tiles_in_channel : (p : Place) → IsInTiles tiles from p → AreOneChannel layout place p
  tiles_in_channel p h =
      let tests = and_parts (eqb (tile_at tiles h.index).kind.0 kind) (eqb (slice_index labels h.index) label) h.passes in
      (labelled index h.index place p lies h.lies).0 (sym (same_from_test (slice_index labels h.index) label tests.1))

  -- a neighbour is outside where it has another type
  outside : (e : Place × Place) → LeadsAcross (IsInTiles tiles from) (λ b. not (eqb (layout b) kind) ≡ true) e
      → LeadsAcross (AreOneChannel layout place) (λ p. AreOneChannel layout place p → ⊥) e
  outside e h = record {
    from = tiles_in_channel e.0 h.from;
    to = (λ chain. differ_from_test (layout e.1) kind h.to (sym (same_type e.1 chain)));
    near = h.near;
  }

  inside_out : (e : Place × Place) → LeadsAcross (AreOneChannel layout place) (λ p. AreOneChannel layout place p → ⊥) e
      → LeadsAcross (IsInTiles tiles from) (λ b. not (eqb (layout b) kind) ≡ true) e
  inside_out e h = record {
    from = channel_in_tiles e.0 h.from;
    to = test_from_differ (layout e.1) kind
        (λ same. h.to (Chain-push h.from (record { near = h.near; same = sym (same_type e.0 h.from) ∙ sym same })));
    near = h.near;
  }

  beside : (region : ℕ) (b : Place) → IsInTiles tiles (is_terminal_of raw tiles kind region) b → IsTerminalOf raw layout (IsInRegion tiles) kind region b
  beside region b h =
      let tests = and_parts (is_terminal raw kind (tile_at tiles h.index).kind.0) (eqb (tile_at tiles h.index).region region) h.passes in
      record {
        listed = ap (is_terminal raw kind) (sym (tile_kind h.index b h.lies)) ∙ tests.0;
        owned = record {
          index = h.index;
          lies = h.lies;
          numbered = sym (ap (λ (t : RegionTile). t.region) (get_or_from_slice_get tiles h.index h.lies.tile no_tile h.lies.there))
              ∙ same_from_test (tile_at tiles h.index).region region tests.1;
        };
      }

  beside_back : (region : ℕ) (b : Place) → IsTerminalOf raw layout (IsInRegion tiles) kind region b → IsInTiles tiles (is_terminal_of raw tiles kind region) b
  beside_back region b h =
      let i = h.owned.index in
      record {
        index = i;
        lies = h.owned.lies;
        passes = and_from (is_terminal raw kind (tile_at tiles i).kind.0) (eqb (tile_at tiles i).region region)
            (ap (is_terminal raw kind) (tile_kind i b h.owned.lies) ∙ h.listed)
            (one_plane (tile_at tiles i).region region
            (ap (λ (t : RegionTile). t.region) (get_or_from_slice_get tiles i h.owned.lies.tile no_tile h.owned.lies.there) ∙ h.owned.numbered));
      }

  -- what tiles and contacts count is what the channel has
  pub measured : IsMeasuredChannel raw layout tiles contacts labels kind label place
  measured = record {
    area = Total-iff (IsInTiles tiles from) (AreOneChannel layout place) (λ p. pos 1)
        (sum_on (λ (i : ℕ). cond (from i) (area_of (tile_at tiles i).area) (pos 0)) (indices_of tiles))
        tiles_in_channel channel_in_tiles (tiles_count layout tiles from are);
    perimeter = Total-iff (LeadsAcross (IsInTiles tiles from) (λ b. not (eqb (layout b) kind) ≡ true))
        (LeadsAcross (AreOneChannel layout place) (λ p. AreOneChannel layout place p → ⊥)) (λ e. pos 1)
        (open_by_contacts tiles contacts from (is_of tiles (λ t. eqb t kind))) outside inside_out
        (contacts_close_edges layout tiles contacts (λ t. eqb t kind) from are listed (not_zero kind material)
        (λ i passes. (and_parts (eqb (tile_at tiles i).kind.0 kind) (eqb (slice_index labels i) label) passes).0));
    terminals = λ region.
        Total-iff (LeadsAcross (IsInTiles tiles from) (IsInTiles tiles (is_terminal_of raw tiles kind region)))
        (LeadsAcross (AreOneChannel layout place) (IsTerminalOf raw layout (IsInRegion tiles) kind region)) (λ e. pos 1)
        (edges_by_contacts tiles contacts from (is_terminal_of raw tiles kind region))
        (λ e h. record { from = tiles_in_channel e.0 h.from; to = beside region e.1 h.to; near = h.near })
        (λ e h. record { from = channel_in_tiles e.0 h.from; to = beside_back region e.1 h.to; near = h.near })
        (contacts_count_edges layout tiles contacts from (is_terminal_of raw tiles kind region) are listed);
  }

  -- the tiles with the label are those of the channel
  pub of_label : (i : ℕ) → i < length tiles → ((j : ℕ) → j < length tiles → (p : Place) × LiesIn tiles j p) → eqb (slice_index labels i) label ≡ from i
  of_label i below shown = gate (eqb (tile_at tiles i).kind.0 kind) (eqb (slice_index labels i) label) (λ e.
      let p = shown i below in
      let chain = (labelled index i place p.0 lies p.1).0 (sym (same_from_test (slice_index labels i) label e)) in
      one_plane (tile_at tiles i).kind.0 kind (tile_kind i p.0 p.1 ∙ sym (same_type p.0 chain)))
    where
      gate : (p q : Bool) → (q ≡ true → p ≡ true) → q ≡ (p && q)
      gate true q h = refl
      gate false true h = sym (h refl)
      gate false false h = refl
