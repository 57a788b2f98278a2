-- What is computed from the fields of a placement, said of the transform that it is seen as.
use Rattle.cif_expansion.proofs.Common.{◌≡◌, ℕ, ℤ, sym, ◌∙◌, ap, subst, Orient, Rect, Transform, composed, rect_image, across, upward, point_x_at}
use Rattle.cif_expansion.proofs.Common.{point_y_at, IsAtMost, MovesWithin}
use Rattle.std.proofs.Common.{Bool, cond}
use Rattle.geo_core.specs.Orientation.{orient_then}
use Rattle.geo_core.specs.Images.{point_x, point_y, turns_x, turns_y}
use Rattle.geo_core.proofs.ImageLaws.{transform_of, composed-from_parts, rect_image-from_corners}

-- how far the parts move, if the whole moves no farther
pub dx_seen : (n : ℕ) (inside t : Transform) → inside ≡ t → MovesWithin n t → IsAtMost n inside.dx
dx_seen n inside t seen moves = (subst (MovesWithin n) (sym seen) moves).dx

pub dy_seen : (n : ℕ) (inside t : Transform) → inside ≡ t → MovesWithin n t → IsAtMost n inside.dy
dy_seen n inside t seen moves = (subst (MovesWithin n) (sym seen) moves).dy

-- what the arm of an orientation computes is the image's
pub point_seen : (inside t : Transform) (o : Orient) (r s x y : ℤ) → inside ≡ t → inside.orient ≡ o → r ≡ across o inside.dx x y
    → s ≡ upward o inside.dy x y → record { across : r ≡ point_x t x y; up : s ≡ point_y t x y }
point_seen inside t o r s x y seen is e f = record {
  across = subst (λ u. r ≡ point_x u x y) seen (point_x_at inside o r x y is e);
  up = subst (λ u. s ≡ point_y u x y) seen (point_y_at inside o s x y is f);
}

-- the composed transform from its parts
pub composed_seen : (inside inner outside outer : Transform) (o : Orient) (x y dx dy : ℤ) → inside ≡ inner → outside ≡ outer
    → o ≡ orient_then inside.orient outside.orient → x ≡ inside.dx → y ≡ inside.dy → dx ≡ point_x outer x y → dy ≡ point_y outer x y
    → transform_of o dx dy ≡ composed inner outer
composed_seen inside inner outside outer o x y dx dy seen seen' e-o e-x e-y e-dx e-dy =
    composed-from_parts inner outer o x y dx dy
    (e-o ∙ ap (λ (t : Transform). orient_then t.orient outside.orient) seen ∙ ap (λ (t : Transform). orient_then inner.orient t.orient) seen')
    (e-x ∙ ap (λ (t : Transform). t.dx) seen) (e-y ∙ ap (λ (t : Transform). t.dy) seen) e-dx e-dy

-- the rectangle from the images of two opposite corners
pub rect_seen : (inside t : Transform) (area : Rect) (turned_x turned_y : Bool) (left bottom right top left' bottom' right' top' xlo ylo xhi yhi : ℤ)
    → inside ≡ t → turned_x ≡ turns_x inside.orient → turned_y ≡ turns_y inside.orient
    → left ≡ area.xlo → bottom ≡ area.ylo → right ≡ area.xhi → top ≡ area.yhi
    → left' ≡ point_x t left bottom → bottom' ≡ point_y t left bottom → right' ≡ point_x t right top → top' ≡ point_y t right top
    → xlo ≡ cond turned_x right' left' → xhi ≡ cond turned_x left' right'
    → ylo ≡ cond turned_y top' bottom' → yhi ≡ cond turned_y bottom' top'
    → record { xlo = xlo; ylo = ylo; xhi = xhi; yhi = yhi } ≡ rect_image t area
rect_seen inside t area turned_x turned_y left bottom right top left' bottom' right' top' xlo ylo xhi yhi seen e-x e-y =
    rect_image-from_corners t area turned_x turned_y left bottom right top left' bottom' right' top' xlo ylo xhi yhi
    (e-x ∙ ap (λ (s : Transform). turns_x s.orient) seen) (e-y ∙ ap (λ (s : Transform). turns_y s.orient) seen)
