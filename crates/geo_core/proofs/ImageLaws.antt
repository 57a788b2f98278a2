-- Transforms on squares and rectangles: what each orientation does, and that transforms follow and undo each other.
use Rattle.geo_core.proofs.Common.{◌≡◌, inl, inr, ◌∙◌, arith, refl, sym, ap, ℤ, pos, ◌+ℤ◌, ◌-ℤ◌, ints, clamps, int_min, Orient, R0, R90, R180, R270}
use Rattle.geo_core.proofs.Common.{Mx, My, Mx90, My90, Square, Rect, Transform, Covers, AreEdgeNeighbours}
use Rattle.std.proofs.Common.{neg_ℤ, Bool, cond}
use Rattle.geo_core.specs.Orientation.{orient_then, orient_inverse}
use Rattle.geo_core.specs.Images.{point_x, point_y, turns_x, turns_y, image, rect_image, composed, inverted, CentreGoesTo}
use Rattle.geo_core.proofs.SquareLaws.{square_is, rect_is}

-- the transform of these parts
abbrev pub transform_of : Orient → ℤ → ℤ → Transform
transform_of o dx dy = record { orient = o; dx = dx; dy = dy }

-- the image of a square by orientation
abbrev pub moved : Orient → ℤ → ℤ → Square → Square
moved R0 dx dy s = record { x = s.x +ℤ dx; y = s.y +ℤ dy }
moved R90 dx dy s = record { x = dx -ℤ (s.y +ℤ pos 1); y = s.x +ℤ dy }
moved R180 dx dy s = record { x = dx -ℤ (s.x +ℤ pos 1); y = dy -ℤ (s.y +ℤ pos 1) }
moved R270 dx dy s = record { x = s.y +ℤ dx; y = dy -ℤ (s.x +ℤ pos 1) }
moved Mx dx dy s = record { x = s.x +ℤ dx; y = dy -ℤ (s.y +ℤ pos 1) }
moved My dx dy s = record { x = dx -ℤ (s.x +ℤ pos 1); y = s.y +ℤ dy }
moved Mx90 dx dy s = record { x = s.y +ℤ dx; y = s.x +ℤ dy }
moved My90 dx dy s = record { x = dx -ℤ (s.y +ℤ pos 1); y = dy -ℤ (s.x +ℤ pos 1) }

image-by_orient : (o : Orient) (dx dy : ℤ) (s : Square) → image (transform_of o dx dy) s ≡ moved o dx dy s
unfolding image
image-by_orient R0 dx dy s = square_is _ _ (omega (arith, ints, clamps)) (omega (arith, ints, clamps))
image-by_orient _ dx dy s = square_is _ _ (omega (arith, ints, clamps)) (omega (arith, ints, clamps))

-- that is the image
pub image-moved : (t : Transform) (s : Square) → image t s ≡ moved t.orient t.dx t.dy s
image-moved t s = image-by_orient t.orient t.dx t.dy s

centre-by_orient : (o : Orient) (dx dy : ℤ) (s : Square) → CentreGoesTo (transform_of o dx dy) s (moved o dx dy s)
centre-by_orient R0 dx dy s = record { x = omega (arith, ints); y = omega (arith, ints) }
centre-by_orient _ dx dy s = record { x = omega (arith, ints); y = omega (arith, ints) }

-- the centre of a square goes to the centre of its image
pub image-centre : (t : Transform) (s : Square) → CentreGoesTo t s (image t s)
image-centre t s = rw (image-moved t s) (centre-by_orient t.orient t.dx t.dy s)

composed-by_orient : (i o : Orient) (dx dy ex ey : ℤ) (s : Square)
    → (let t = composed (transform_of i dx dy) (transform_of o ex ey) in moved t.orient t.dx t.dy s) ≡ moved o ex ey (moved i dx dy s)
composed-by_orient R0 R0 dx dy ex ey s = square_is _ _ (omega (arith, ints)) (omega (arith, ints))
composed-by_orient R0 _ dx dy ex ey s = square_is _ _ (omega (arith, ints)) (omega (arith, ints))
composed-by_orient R90 R0 dx dy ex ey s = square_is _ _ (omega (arith, ints)) (omega (arith, ints))
composed-by_orient R90 _ dx dy ex ey s = square_is _ _ (omega (arith, ints)) (omega (arith, ints))
composed-by_orient R180 R0 dx dy ex ey s = square_is _ _ (omega (arith, ints)) (omega (arith, ints))
composed-by_orient R180 _ dx dy ex ey s = square_is _ _ (omega (arith, ints)) (omega (arith, ints))
composed-by_orient R270 R0 dx dy ex ey s = square_is _ _ (omega (arith, ints)) (omega (arith, ints))
composed-by_orient R270 _ dx dy ex ey s = square_is _ _ (omega (arith, ints)) (omega (arith, ints))
composed-by_orient Mx R0 dx dy ex ey s = square_is _ _ (omega (arith, ints)) (omega (arith, ints))
composed-by_orient Mx _ dx dy ex ey s = square_is _ _ (omega (arith, ints)) (omega (arith, ints))
composed-by_orient My R0 dx dy ex ey s = square_is _ _ (omega (arith, ints)) (omega (arith, ints))
composed-by_orient My _ dx dy ex ey s = square_is _ _ (omega (arith, ints)) (omega (arith, ints))
composed-by_orient Mx90 R0 dx dy ex ey s = square_is _ _ (omega (arith, ints)) (omega (arith, ints))
composed-by_orient Mx90 _ dx dy ex ey s = square_is _ _ (omega (arith, ints)) (omega (arith, ints))
composed-by_orient My90 R0 dx dy ex ey s = square_is _ _ (omega (arith, ints)) (omega (arith, ints))
composed-by_orient My90 _ dx dy ex ey s = square_is _ _ (omega (arith, ints)) (omega (arith, ints))

-- the composed transform does what the inner one and then the outer one does
pub image-composed : (inner outer : Transform) (s : Square) → image (composed inner outer) s ≡ image outer (image inner s)
image-composed inner outer s =
    image-moved (composed inner outer) s
    ∙ composed-by_orient inner.orient outer.orient inner.dx inner.dy outer.dx outer.dy s
    ∙ ap (moved outer.orient outer.dx outer.dy) (sym (image-moved inner s))
    ∙ sym (image-moved outer (image inner s))

inverted-by_orient : (o : Orient) (dx dy : ℤ) (s : Square)
    → (let t = inverted (transform_of o dx dy) in moved t.orient t.dx t.dy (moved o dx dy s)) ≡ s
inverted-by_orient R0 dx dy s = square_is _ _ (omega (arith, ints)) (omega (arith, ints))
inverted-by_orient _ dx dy s = square_is _ _ (omega (arith, ints)) (omega (arith, ints))

-- the inverted transform undoes the transform
pub image-back : (t : Transform) (s : Square) → image (inverted t) (image t s) ≡ s
image-back t s =
    image-moved (inverted t) (image t s)
    ∙ ap (moved (inverted t).orient (inverted t).dx (inverted t).dy) (image-moved t s)
    ∙ inverted-by_orient t.orient t.dx t.dy s

reverted-by_orient : (o : Orient) (dx dy : ℤ) (s : Square)
    → (let t = inverted (transform_of o dx dy) in moved o dx dy (moved t.orient t.dx t.dy s)) ≡ s
reverted-by_orient R0 dx dy s = square_is _ _ (omega (arith, ints)) (omega (arith, ints))
reverted-by_orient _ dx dy s = square_is _ _ (omega (arith, ints)) (omega (arith, ints))

-- and the transform undoes its inverted one
pub image-forth : (t : Transform) (s : Square) → image t (image (inverted t) s) ≡ s
image-forth t s =
    image-moved t (image (inverted t) s)
    ∙ ap (moved t.orient t.dx t.dy) (image-moved (inverted t) s)
    ∙ reverted-by_orient t.orient t.dx t.dy s

-- different squares have different images
pub image-injective : (t : Transform) (a b : Square) → image t a ≡ image t b → a ≡ b
image-injective t a b same = sym (image-back t a) ∙ ap (image (inverted t)) same ∙ image-back t b

neighbours-by_orient : (o : Orient) (dx dy : ℤ) (a b : Square) → AreEdgeNeighbours a b → AreEdgeNeighbours (moved o dx dy a) (moved o dx dy b)
neighbours-by_orient R0 dx dy a b (inl (inl up, same)) = inl (inl (omega (arith, ints)), omega (arith, ints))
neighbours-by_orient R0 dx dy a b (inl (inr down, same)) = inl (inr (omega (arith, ints)), omega (arith, ints))
neighbours-by_orient R0 dx dy a b (inr (same, inl up)) = inr (omega (arith, ints), inl (omega (arith, ints)))
neighbours-by_orient R0 dx dy a b (inr (same, inr down)) = inr (omega (arith, ints), inr (omega (arith, ints)))
neighbours-by_orient R90 dx dy a b (inl (inl up, same)) = inr (omega (arith, ints), inl (omega (arith, ints)))
neighbours-by_orient R90 dx dy a b (inl (inr down, same)) = inr (omega (arith, ints), inr (omega (arith, ints)))
neighbours-by_orient R90 dx dy a b (inr (same, inl up)) = inl (inr (omega (arith, ints)), omega (arith, ints))
neighbours-by_orient R90 dx dy a b (inr (same, inr down)) = inl (inl (omega (arith, ints)), omega (arith, ints))
neighbours-by_orient R180 dx dy a b (inl (inl up, same)) = inl (inr (omega (arith, ints)), omega (arith, ints))
neighbours-by_orient R180 dx dy a b (inl (inr down, same)) = inl (inl (omega (arith, ints)), omega (arith, ints))
neighbours-by_orient R180 dx dy a b (inr (same, inl up)) = inr (omega (arith, ints), inr (omega (arith, ints)))
neighbours-by_orient R180 dx dy a b (inr (same, inr down)) = inr (omega (arith, ints), inl (omega (arith, ints)))
neighbours-by_orient R270 dx dy a b (inl (inl up, same)) = inr (omega (arith, ints), inr (omega (arith, ints)))
neighbours-by_orient R270 dx dy a b (inl (inr down, same)) = inr (omega (arith, ints), inl (omega (arith, ints)))
neighbours-by_orient R270 dx dy a b (inr (same, inl up)) = inl (inl (omega (arith, ints)), omega (arith, ints))
neighbours-by_orient R270 dx dy a b (inr (same, inr down)) = inl (inr (omega (arith, ints)), omega (arith, ints))
neighbours-by_orient Mx dx dy a b (inl (inl up, same)) = inl (inl (omega (arith, ints)), omega (arith, ints))
neighbours-by_orient Mx dx dy a b (inl (inr down, same)) = inl (inr (omega (arith, ints)), omega (arith, ints))
neighbours-by_orient Mx dx dy a b (inr (same, inl up)) = inr (omega (arith, ints), inr (omega (arith, ints)))
neighbours-by_orient Mx dx dy a b (inr (same, inr down)) = inr (omega (arith, ints), inl (omega (arith, ints)))
neighbours-by_orient My dx dy a b (inl (inl up, same)) = inl (inr (omega (arith, ints)), omega (arith, ints))
neighbours-by_orient My dx dy a b (inl (inr down, same)) = inl (inl (omega (arith, ints)), omega (arith, ints))
neighbours-by_orient My dx dy a b (inr (same, inl up)) = inr (omega (arith, ints), inl (omega (arith, ints)))
neighbours-by_orient My dx dy a b (inr (same, inr down)) = inr (omega (arith, ints), inr (omega (arith, ints)))
neighbours-by_orient Mx90 dx dy a b (inl (inl up, same)) = inr (omega (arith, ints), inl (omega (arith, ints)))
neighbours-by_orient Mx90 dx dy a b (inl (inr down, same)) = inr (omega (arith, ints), inr (omega (arith, ints)))
neighbours-by_orient Mx90 dx dy a b (inr (same, inl up)) = inl (inl (omega (arith, ints)), omega (arith, ints))
neighbours-by_orient Mx90 dx dy a b (inr (same, inr down)) = inl (inr (omega (arith, ints)), omega (arith, ints))
neighbours-by_orient My90 dx dy a b (inl (inl up, same)) = inr (omega (arith, ints), inr (omega (arith, ints)))
neighbours-by_orient My90 dx dy a b (inl (inr down, same)) = inr (omega (arith, ints), inl (omega (arith, ints)))
neighbours-by_orient My90 dx dy a b (inr (same, inl up)) = inl (inr (omega (arith, ints)), omega (arith, ints))
neighbours-by_orient My90 dx dy a b (inr (same, inr down)) = inl (inl (omega (arith, ints)), omega (arith, ints))

-- edge neighbours stay edge neighbours
pub neighbours-image : (t : Transform) (a b : Square) → AreEdgeNeighbours a b → AreEdgeNeighbours (image t a) (image t b)
neighbours-image t a b h = rw (image-moved t a, image-moved t b) (neighbours-by_orient t.orient t.dx t.dy a b h)

-- and no others become edge neighbours
pub image-neighbours : (t : Transform) (a b : Square) → AreEdgeNeighbours (image t a) (image t b) → AreEdgeNeighbours a b
image-neighbours t a b h = rw (image-back t a, image-back t b) at (neighbours-image (inverted t) (image t a) (image t b) h)

covers-by_orient : (o : Orient) (dx dy : ℤ) (area : Rect) (s : Square) → Covers area s → Covers (rect_image (transform_of o dx dy) area) (moved o dx dy s)
unfolding rect_image
covers-by_orient R0 dx dy area s c = record {
  right_of_xlo = omega (arith, ints);
  left_of_xhi = omega (arith, ints);
  above_ylo = omega (arith, ints);
  below_yhi = omega (arith, ints);
}
covers-by_orient _ dx dy area s c = record {
  right_of_xlo = omega (arith, ints);
  left_of_xhi = omega (arith, ints);
  above_ylo = omega (arith, ints);
  below_yhi = omega (arith, ints);
}

covered-by_orient : (o : Orient) (dx dy : ℤ) (area : Rect) (s : Square) → Covers (rect_image (transform_of o dx dy) area) (moved o dx dy s) → Covers area s
unfolding rect_image
covered-by_orient R0 dx dy area s c = record {
  right_of_xlo = omega (arith, ints);
  left_of_xhi = omega (arith, ints);
  above_ylo = omega (arith, ints);
  below_yhi = omega (arith, ints);
}
covered-by_orient _ dx dy area s c = record {
  right_of_xlo = omega (arith, ints);
  left_of_xhi = omega (arith, ints);
  above_ylo = omega (arith, ints);
  below_yhi = omega (arith, ints);
}

-- the image of a rectangle has the images of its squares
pub rect_image-covers : (t : Transform) (area : Rect) (s : Square) → Covers area s → Covers (rect_image t area) (image t s)
rect_image-covers t area s c = rw (image-moved t s) (covers-by_orient t.orient t.dx t.dy area s c)

-- and no others
pub rect_image-covered : (t : Transform) (area : Rect) (s : Square) → Covers (rect_image t area) (image t s) → Covers area s
rect_image-covered t area s c = covered-by_orient t.orient t.dx t.dy area s (rw (image-moved t s) at c)

-- where a point goes, by orientation
abbrev pub across : Orient → ℤ → ℤ → ℤ → ℤ
across R0 dx x y = dx +ℤ x
across R90 dx x y = dx -ℤ y
across R180 dx x y = dx -ℤ x
across R270 dx x y = dx +ℤ y
across Mx dx x y = dx +ℤ x
across My dx x y = dx -ℤ x
across Mx90 dx x y = dx +ℤ y
across My90 dx x y = dx -ℤ y

-- the y of an image by orientation
abbrev pub upward : Orient → ℤ → ℤ → ℤ → ℤ
upward R0 dy x y = dy +ℤ y
upward R90 dy x y = dy +ℤ x
upward R180 dy x y = dy -ℤ y
upward R270 dy x y = dy -ℤ x
upward Mx dy x y = dy -ℤ y
upward My dy x y = dy +ℤ y
upward Mx90 dy x y = dy +ℤ x
upward My90 dy x y = dy -ℤ x

across-point_x : (o : Orient) (dx dy x y : ℤ) → across o dx x y ≡ point_x (transform_of o dx dy) x y
across-point_x R0 dx dy x y = omega (arith, ints)
across-point_x _ dx dy x y = omega (arith, ints)

upward-point_y : (o : Orient) (dx dy x y : ℤ) → upward o dy x y ≡ point_y (transform_of o dx dy) x y
upward-point_y R0 dx dy x y = omega (arith, ints)
upward-point_y _ dx dy x y = omega (arith, ints)

-- what the arm of an orientation computes is the x of the image
pub point_x_at : (t : Transform) (o : Orient) (r x y : ℤ) → t.orient ≡ o → r ≡ across o t.dx x y → r ≡ point_x t x y
point_x_at t o r x y is e = e ∙ ap (λ p. across p t.dx x y) (sym is) ∙ across-point_x t.orient t.dx t.dy x y

-- and its y
pub point_y_at : (t : Transform) (o : Orient) (r x y : ℤ) → t.orient ≡ o → r ≡ upward o t.dy x y → r ≡ point_y t x y
point_y_at t o r x y is e = e ∙ ap (λ p. upward p t.dy x y) (sym is) ∙ upward-point_y t.orient t.dx t.dy x y

-- transforms of equal parts are equal
pub transform_is : (t u : Transform) → t.orient ≡ u.orient → t.dx ≡ u.dx → t.dy ≡ u.dy → t ≡ u
transform_is t u orients across up =
    let whole : record { orient = t.orient; dx = t.dx; dy = t.dy } ≡ u = rw (orients, across, up) refl in whole

along_x : (t : Transform) (x y x' y' : ℤ) → x' ≡ x → y' ≡ y → point_x t x' y' ≡ point_x t x y
along_x t x y x' y' e f = ap (λ v. point_x t v y') e ∙ ap (point_x t x) f

along_y : (t : Transform) (x y x' y' : ℤ) → x' ≡ x → y' ≡ y → point_y t x' y' ≡ point_y t x y
along_y t x y x' y' e f = ap (λ v. point_y t v y') e ∙ ap (point_y t x) f

-- the square whose lower left corner has the least coordinates of two opposite corners' images
pub image-from_corners : (t : Transform) (s : Square) (left bottom right top left' bottom' right' top' x y : ℤ)
    → left ≡ s.x → bottom ≡ s.y → right ≡ s.x +ℤ pos 1 → top ≡ s.y +ℤ pos 1
    → left' ≡ point_x t left bottom → bottom' ≡ point_y t left bottom → right' ≡ point_x t right top → top' ≡ point_y t right top
    → x ≡ int_min left' right' → y ≡ int_min bottom' top'
    → record { x = x; y = y } ≡ image t s
unfolding image
image-from_corners t s left bottom right top left' bottom' right' top' x y e-left e-bottom e-right e-top e-left' e-bottom' e-right' e-top' e-x e-y =
    square_is _ _
    (e-x ∙ ap (λ v. int_min v right') (e-left' ∙ along_x t _ _ _ _ e-left e-bottom) ∙ ap (int_min (point_x t s.x s.y))
    (e-right' ∙ along_x t _ _ _ _ e-right e-top))
    (e-y ∙ ap (λ v. int_min v top') (e-bottom' ∙ along_y t _ _ _ _ e-left e-bottom) ∙ ap (int_min (point_y t s.x s.y))
    (e-top' ∙ along_y t _ _ _ _ e-right e-top))

chosen : (b b' : Bool) (p p' q q' r : ℤ) → b ≡ b' → p ≡ p' → q ≡ q' → r ≡ cond b p q → r ≡ cond b' p' q'
chosen b b' p p' q q' r same first second e = rw (← same, ← first, ← second) e

-- the rectangle between the images of two opposite corners
pub rect_image-from_corners : (t : Transform) (area : Rect) (turned_x turned_y : Bool) (left bottom right top left' bottom' right' top' xlo ylo xhi yhi : ℤ)
    → turned_x ≡ turns_x t.orient → turned_y ≡ turns_y t.orient
    → left ≡ area.xlo → bottom ≡ area.ylo → right ≡ area.xhi → top ≡ area.yhi
    → left' ≡ point_x t left bottom → bottom' ≡ point_y t left bottom → right' ≡ point_x t right top → top' ≡ point_y t right top
    → xlo ≡ cond turned_x right' left' → xhi ≡ cond turned_x left' right'
    → ylo ≡ cond turned_y top' bottom' → yhi ≡ cond turned_y bottom' top'
    → record { xlo = xlo; ylo = ylo; xhi = xhi; yhi = yhi } ≡ rect_image t area
unfolding rect_image
rect_image-from_corners t area turned_x turned_y left bottom right top left' bottom' right' top' xlo ylo xhi yhi e-x e-y e-left e-bottom e-right e-top
    e-left' e-bottom' e-right' e-top' e-xlo e-xhi e-ylo e-yhi =
    let l = e-left' ∙ along_x t _ _ _ _ e-left e-bottom in
    let b = e-bottom' ∙ along_y t _ _ _ _ e-left e-bottom in
    let r = e-right' ∙ along_x t _ _ _ _ e-right e-top in
    let u = e-top' ∙ along_y t _ _ _ _ e-right e-top in
    rect_is _ _
    (chosen _ _ _ _ _ _ _ e-x r l e-xlo) (chosen _ _ _ _ _ _ _ e-y u b e-ylo)
    (chosen _ _ _ _ _ _ _ e-x l r e-xhi) (chosen _ _ _ _ _ _ _ e-y b u e-yhi)

-- the composed transform from its parts
pub composed-from_parts : (inner outer : Transform) (o : Orient) (x y dx dy : ℤ) → o ≡ orient_then inner.orient outer.orient
    → x ≡ inner.dx → y ≡ inner.dy → dx ≡ point_x outer x y → dy ≡ point_y outer x y → transform_of o dx dy ≡ composed inner outer
composed-from_parts inner outer o x y dx dy e-o e-x e-y e-dx e-dy =
    transform_is _ _ e-o (e-dx ∙ along_x outer _ _ _ _ e-x e-y) (e-dy ∙ along_y outer _ _ _ _ e-x e-y)

-- the inverted transform from its parts
pub inverted-from_parts : (t : Transform) (o : Orient) (x y dx dy : ℤ) → o ≡ orient_inverse t.orient → x ≡ neg_ℤ t.dx → y ≡ neg_ℤ t.dy
    → dx ≡ point_x (transform_of o (pos 0) (pos 0)) x y → dy ≡ point_y (transform_of o (pos 0) (pos 0)) x y → transform_of o dx dy ≡ inverted t
inverted-from_parts t o x y dx dy e-o e-x e-y e-dx e-dy =
    let back = transform_of (orient_inverse t.orient) (pos 0) (pos 0) in
    transform_is _ _ e-o
    (e-dx ∙ ap (λ p. point_x (transform_of p (pos 0) (pos 0)) x y) e-o ∙ along_x back _ _ _ _ e-x e-y)
    (e-dy ∙ ap (λ p. point_y (transform_of p (pos 0) (pos 0)) x y) e-o ∙ along_y back _ _ _ _ e-x e-y)
