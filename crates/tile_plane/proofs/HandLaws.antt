-- Handing the squares of a part from one tile to another keeps a partition.
use Rattle.tile_plane.proofs.Common.{◌≡◌, ◌⊎◌, inl, inr, ℕ, pos, ◌-ℤ◌, sym, ◌∙◌, subst, arith, ints, by_lt_z, Square, Rect, LiesWithin, Covers}
use Rattle.tile_plane.proofs.Common.{IsProper, plane_range, Tiles, tile_at, IsTaken, Owns, IsPartition, square_at, IsHandedOver}

-- an area has a square or not
pub covers_or_not : (area : Rect) (square : Square) → Covers area square ⊎ (Covers area square → ⊥)
covers_or_not area square =
    by_lt_z square.x area.xlo (λ less. inr (λ c. let h = c.right_of_xlo in omega (arith, ints)))
    (λ p. by_lt_z square.x area.xhi
    (λ q. by_lt_z square.y area.ylo (λ less. inr (λ c. let h = c.above_ylo in omega (arith, ints)))
    (λ r. by_lt_z square.y area.yhi (λ s. inl (record { right_of_xlo = p; left_of_xhi = q; above_ylo = r; below_yhi = s }))
    (λ more. inr (λ c. let h = c.below_yhi in omega (arith, ints)))))
    (λ more. inr (λ c. let h = c.left_of_xhi in omega (arith, ints))))

-- where all squares of a tile are in the range, so is the tile
within_by_squares : (tiles : Tiles) (id : ℕ) → IsTaken tiles id → ((square : Square) → Owns tiles id square → Covers plane_range square)
    → LiesWithin (tile_at tiles id).area plane_range
within_by_squares tiles id taken each =
    let proper = taken.proper in
    let low = each (square_at (tile_at tiles id).area.xlo (tile_at tiles id).area.ylo) (omega (arith, ints)) in
    let high = each (square_at ((tile_at tiles id).area.xhi -ℤ pos 1) ((tile_at tiles id).area.yhi -ℤ pos 1)) (omega (arith, ints)) in
    omega (arith, ints)

pub owned_in_range : (tiles : Tiles) (id : ℕ) (square : Square) → IsPartition tiles → Owns tiles id square → Covers plane_range square
owned_in_range tiles id square partition owns =
    let covers = owns.covers in
    let within = partition.within id (omega (arith, ints)) in
    omega (arith, ints)

pub hand_partition : (area : Rect) (id : ℕ) (old new : Tiles) → IsPartition old → IsHandedOver area id old new → LiesWithin area plane_range → IsPartition new
hand_partition area id old new partition hand within = record {
  one = λ a b square p q. elim (covers_or_not area square) [
    | inl inside ↦ hand.taker a square p inside ∙ sym (hand.taker b square q inside)
    | inr outside ↦ partition.one a b square (hand.source a square p outside) (hand.source b square q outside)
  ];
  whole = λ square inside. elim (covers_or_not area square) [
    | inl part ↦ (id, hand.given square part)
    | inr outside ↦ (let owner = partition.whole square inside in (owner.0, hand.kept owner.0 square owner.1 outside))
  ];
  within = λ k taken. within_by_squares new k taken (λ square owns. elim (covers_or_not area square) [
    | inl part ↦ omega (arith, ints)
    | inr outside ↦ owned_in_range old k square partition (hand.source k square owns outside)
  ]);
}

-- the same of tiles of the same areas
module _ (tiles others : Tiles) (areas : (k : ℕ) → (tile_at others k).area ≡ (tile_at tiles k).area) where
  own : (k : ℕ) (s : Square) → Owns tiles k s → Owns others k s
  own k s owns = record { covers = subst (λ (r : Rect). Covers r s) (sym (areas k)) owns.covers }

  back : (k : ℕ) (s : Square) → Owns others k s → Owns tiles k s
  back k s owns = record { covers = subst (λ (r : Rect). Covers r s) (areas k) owns.covers }

  pub areas_partition : IsPartition tiles → IsPartition others
  areas_partition partition = record {
    one = λ a b s p q. partition.one a b s (back a s p) (back b s q);
    whole = λ s inside. let owner = partition.whole s inside in (owner.0, own owner.0 s owner.1);
    within = λ k taken. subst (λ (r : Rect). LiesWithin r plane_range) (sym (areas k))
        (partition.within k (record { proper = subst IsProper (areas k) taken.proper }));
  }

  pub areas_hand : (area : Rect) (id : ℕ) (old : Tiles) → IsHandedOver area id old tiles → IsHandedOver area id old others
  areas_hand area id old hand = record {
    given = λ s covers. own id s (hand.given s covers);
    taker = λ k s owns covers. hand.taker k s (back k s owns) covers;
    kept = λ k s owns off. own k s (hand.kept k s owns off);
    source = λ k s owns off. hand.source k s (back k s owns) off;
  }

pub partition_moves : (tiles others : Tiles) → IsPartition tiles → ((k : ℕ) → (tile_at others k).area ≡ (tile_at tiles k).area) → IsPartition others
partition_moves tiles others partition areas = areas_partition tiles others areas partition
