-- Boxes by sets that are grown and shrunk, and that the squares of a set alone decide which of them are too narrow, too tight or too near.
use Rattle.square_sets.proofs.Common.{inl, inr, ℤ, pos, ◌+ℤ◌, ◌-ℤ◌, ◌≤ℤ◌, ◌<ℤ◌, List, sym, ◌∙◌, arith, ints, Square, Rect, Covers, IsInUnion}
use Rattle.square_sets.proofs.Common.{IsOutside, LiesInBox, LiesInNoBox, AreSameSquares, IsDilated, IsEroded, Reaches}
use Rattle.std.specs.List.{list_any}
use Rattle.std.proofs.lemmas.Bool.{cases_Bool, false≢true}
use Rattle.geo_core.proofs.FiniteSets.Searches.{list_any-In, list_any-source}
use Rattle.geo_core.specs.Covering.{is_covered}
use Rattle.geo_core.proofs.CoveringLaws.{Covers-is_covered, is_covered-Covers}
use Rattle.square_sets.specs.Boxes.{box_at, IsNearBy, IsTooNarrow}

-- ---- squares of a box, and its corner

-- the corner of a box reaches its squares
box_reached : (d : ℤ) (corner square : Square) → Covers (box_at d corner) square → Reaches (pos 0) (d -ℤ pos 1) corner square
box_reached d corner square c =
    let left : corner.x ≤ℤ square.x = c.right_of_xlo in
    let right : square.x <ℤ (corner.x +ℤ d) = c.left_of_xhi in
    let low : corner.y ≤ℤ square.y = c.above_ylo in
    let high : square.y <ℤ (corner.y +ℤ d) = c.below_yhi in
    record { left = omega (arith, ints); right = omega (arith, ints); below = omega (arith, ints); above = omega (arith, ints) }

-- and no others
reached_box : (d : ℤ) (corner square : Square) → Reaches (pos 0) (d -ℤ pos 1) corner square → Covers (box_at d corner) square
reached_box d corner square r =
    let left : (corner.x -ℤ pos 0) ≤ℤ square.x = r.left in
    let right : square.x ≤ℤ (corner.x +ℤ (d -ℤ pos 1)) = r.right in
    let low : (corner.y -ℤ pos 0) ≤ℤ square.y = r.below in
    let high : square.y ≤ℤ (corner.y +ℤ (d -ℤ pos 1)) = r.above in
    record { right_of_xlo = omega (arith, ints); left_of_xhi = omega (arith, ints); above_ylo = omega (arith, ints); below_yhi = omega (arith, ints) }

-- what reaches so far one way is reached so far the other way
pub reached_back : (low high : ℤ) (square other : Square) → Reaches low high square other → Reaches high low other square
reached_back low high square other r =
    let left : (square.x -ℤ low) ≤ℤ other.x = r.left in
    let right : other.x ≤ℤ (square.x +ℤ high) = r.right in
    let down : (square.y -ℤ low) ≤ℤ other.y = r.below in
    let up : other.y ≤ℤ (square.y +ℤ high) = r.above in
    record { left = omega (arith, ints); right = omega (arith, ints); below = omega (arith, ints); above = omega (arith, ints) }

-- ---- sets that are shrunk and grown

-- What is shrunk upwards and to the right, and grown so again, is what lies in boxes.
pub opened : (S : Square → Type 0) (d : ℤ) (corners boxes : List Rect) → AreSameSquares (IsInUnion corners) (IsEroded (pos 0) (d -ℤ pos 1) S)
    → AreSameSquares (IsInUnion boxes) (IsDilated (pos 0) (d -ℤ pos 1) (IsInUnion corners)) → AreSameSquares (IsInUnion boxes) (LiesInBox S d)
opened S d corners boxes shrunk grown = record {
  to = λ square u. (let at = grown.to square u in
      record {
        corner = at.0;
        covers = reached_box d at.0 square at.1.1;
        within = λ other c. shrunk.to at.0 at.1.0 other (box_reached d at.0 other c);
      });
  back = λ square box. grown.back square (
    box.corner,
    (
      shrunk.back box.corner (λ other reached. box.within other (reached_box d box.corner other reached)),
      box_reached d box.corner square box.covers,
    ),
  );
}

-- What is grown downwards and to the left, and shrunk so again, is what lies in no box outside the set.
pub closed : (S : Square → Type 0) (d : ℤ) (corners rest : List Rect) → AreSameSquares (IsInUnion corners) (IsDilated (d -ℤ pos 1) (pos 0) S)
    → AreSameSquares (IsInUnion rest) (IsEroded (d -ℤ pos 1) (pos 0) (IsInUnion corners)) → AreSameSquares (IsInUnion rest) (LiesInNoBox (IsOutside S) d)
closed S d corners rest grown shrunk = record {
  to = λ square u box. (let at = grown.to box.corner (shrunk.to square u box.corner (back box.corner square box.covers)) in
      box.within at.0 (forth box.corner at.0 at.1.1) at.1.0);
  back = λ square none. shrunk.back square (λ corner reached. elim (cases_Bool (list_any (λ area. is_covered area corner) corners)) [
    | inl some ↦ (let found = list_any-source (λ area. is_covered area corner) corners some in
        (found.0, (found.1.0, Covers-is_covered found.0 corner found.1.1)))
    | inr nowhere ↦ absurd (none (record {
      corner = corner;
      covers = forth corner square reached;
      within = λ other c s. (let u = grown.back corner (other, (s, back corner other c)) in
          false≢true (sym (list_any-In (λ area. is_covered area corner) corners u.0 nowhere u.1.0) ∙ is_covered-Covers u.0 corner u.1.1));
    }))
  ]);
}
  where
    back : (corner square : Square) → Covers (box_at d corner) square → Reaches (d -ℤ pos 1) (pos 0) square corner
    back corner square c = reached_back (pos 0) (d -ℤ pos 1) corner square (box_reached d corner square c)

    forth : (corner square : Square) → Reaches (d -ℤ pos 1) (pos 0) square corner → Covers (box_at d corner) square
    forth corner square r = reached_box d corner square (reached_back (d -ℤ pos 1) (pos 0) square corner r)

-- What is grown on all sides is what is near.
pub around : (S : Square → Type 0) (d : ℤ) (areas : List Rect) → AreSameSquares (IsInUnion areas) (IsDilated d d S)
    → AreSameSquares (IsInUnion areas) (λ square. (other : Square) × (S other × IsNearBy d square other))
around S d areas grown = record {
  to = λ square u. (let at = grown.to square u in
      let r = reached_back d d at.0 square at.1.1 in
      (at.0, (at.1.0, record { left = r.left; right = r.right; below = r.below; above = r.above })));
  back = λ square n. (let near = n.1.1 in
      let r : Reaches d d square n.0 = record { left = near.left; right = near.right; below = near.below; above = near.above } in
      grown.back square (n.0, (n.1.0, reached_back d d square n.0 r)));
}

-- ---- sets with the same squares

-- what has the squares of what has those of a set has those of the set
pub same_trans : (S T U : Square → Type 0) → AreSameSquares S T → AreSameSquares T U → AreSameSquares S U
same_trans S T U first second =
    record { to = λ square s. second.to square (first.to square s); back = λ square u. first.back square (second.back square u) }

-- a square lies in boxes of one set as of one that has its squares
in_wider : (S T : Square → Type 0) (d : ℤ) (square : Square) → ((other : Square) → S other → T other) → LiesInBox S d square → LiesInBox T d square
in_wider S T d square to box = record { corner = box.corner; covers = box.covers; within = λ other c. to other (box.within other c) }

-- sets with the same squares are too narrow at the same squares
pub narrow_same : (S T : Square → Type 0) (d : ℤ) → AreSameSquares S T → AreSameSquares (IsTooNarrow S d) (IsTooNarrow T d)
narrow_same S T d same = record {
  to = λ square n. (same.to square n.0, λ box. n.1 (in_wider T S d square same.back box));
  back = λ square n. (same.back square n.0, λ box. n.1 (in_wider S T d square same.to box));
}
