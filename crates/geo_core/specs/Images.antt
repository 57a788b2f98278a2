-- Where a transform takes points, squares and rectangles, and which transforms follow and undo others.
use Rattle.std.specs.Prelude.{◌≡◌, Bool, ℤ, pos, neg_ℤ, ◌+ℤ◌, ◌*ℤ◌, int_lt, if◌then◌else◌, List, [], ◌∷◌}
use Rattle.std.specs.Int.{int_min}
use Rattle.geo_core.specs.declared.orients.Orient.{Orient}
use Rattle.geo_core.specs.declared.orients.Orient.TheVariants.{R0}
use Rattle.geo_core.specs.declared.squares.Square.{Square}
use Rattle.geo_core.specs.declared.squares.Rect.{Rect}
use Rattle.geo_core.specs.declared.transforms.Transform.{Transform}
use Rattle.geo_core.specs.Orientation.{matrix, orient_then, orient_inverse}

-- The point (x, y) goes to (a*x + b*y + dx, d*x + e*y + dy).
abbrev pub point_x : Transform → ℤ → ℤ → ℤ
point_x t x y = ((matrix t.orient).a *ℤ x) +ℤ ((matrix t.orient).b *ℤ y) +ℤ t.dx

-- the y of a point of the image
abbrev pub point_y : Transform → ℤ → ℤ → ℤ
point_y t x y = ((matrix t.orient).d *ℤ x) +ℤ ((matrix t.orient).e *ℤ y) +ℤ t.dy

-- The image of a square is the square that its corners go to. Its lower left corner has the least x and the least y
-- of where two opposite corners go.
unfoldable pub image : Transform → Square → Square
image t square =
    let right = square.x +ℤ pos 1 in
    let top = square.y +ℤ pos 1 in
    record {
      x = int_min (point_x t square.x square.y) (point_x t right top);
      y = int_min (point_y t square.x square.y) (point_y t right top);
    }

-- The centre of the square goes to the centre of the other: all is counted twice, since a centre lies half a unit
-- to the right of and above the lower left corner.
pub record CentreGoesTo (t : Transform) (from to : Square) : Type 0 where
  pub x : ((pos 2 *ℤ to.x) +ℤ pos 1)
      ≡ (((matrix t.orient).a *ℤ ((pos 2 *ℤ from.x) +ℤ pos 1)) +ℤ ((matrix t.orient).b *ℤ ((pos 2 *ℤ from.y) +ℤ pos 1)) +ℤ (pos 2 *ℤ t.dx))
  pub y : ((pos 2 *ℤ to.y) +ℤ pos 1)
      ≡ (((matrix t.orient).d *ℤ ((pos 2 *ℤ from.x) +ℤ pos 1)) +ℤ ((matrix t.orient).e *ℤ ((pos 2 *ℤ from.y) +ℤ pos 1)) +ℤ (pos 2 *ℤ t.dy))

-- The transform turns the axis of the image's x, or of its y, round: its two ends change places.
abbrev pub turns_x : Orient → Bool
turns_x o = int_lt ((matrix o).a +ℤ (matrix o).b) (pos 0)

-- whether the orientation turns the axes of y round
abbrev pub turns_y : Orient → Bool
turns_y o = int_lt ((matrix o).d +ℤ (matrix o).e) (pos 0)

-- The image of a rectangle is the one whose corners are where its corners go.
unfoldable pub rect_image : Transform → Rect → Rect
rect_image t area =
    let left = point_x t area.xlo area.ylo in
    let right = point_x t area.xhi area.yhi in
    let bottom = point_y t area.xlo area.ylo in
    let top = point_y t area.xhi area.yhi in
    record {
      xlo = if turns_x t.orient then right else left;
      ylo = if turns_y t.orient then top else bottom;
      xhi = if turns_x t.orient then left else right;
      yhi = if turns_y t.orient then bottom else top;
    }

-- The transform that does what the inner one does and then what the outer one does.
abbrev pub composed : Transform → Transform → Transform
composed inner outer = record {
  orient = orient_then inner.orient outer.orient;
  dx = point_x outer inner.dx inner.dy;
  dy = point_y outer inner.dx inner.dy;
}

-- The transform that leaves everything in its place.
abbrev pub identity : Transform
identity = record { orient = R0; dx = pos 0; dy = pos 0 }

-- The transform that undoes another.
abbrev pub inverted : Transform → Transform
inverted t =
    let back : Transform = record { orient = orient_inverse t.orient; dx = pos 0; dy = pos 0 } in
    record {
      orient = orient_inverse t.orient;
      dx = point_x back (neg_ℤ t.dx) (neg_ℤ t.dy);
      dy = point_y back (neg_ℤ t.dx) (neg_ℤ t.dy);
    }

-- The six numbers of a transform, a b c d e f of x' = a*x + b*y + c and y' = d*x + e*y + f.
abbrev pub six_of : Transform → List ℤ
six_of t = (matrix t.orient).a ∷ (matrix t.orient).b ∷ t.dx ∷ (matrix t.orient).d ∷ (matrix t.orient).e ∷ t.dy ∷ []
