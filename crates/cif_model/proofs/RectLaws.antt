-- Where transforms take rectangles, one after another.
use Rattle.std.proofs.Common.{◌≡◌, ℤ, pos, ◌+ℤ◌, ◌-ℤ◌, ◌∙◌, ap, sym, arith}
use Rattle.std.proofs.lemmas.Int.{ints}
use Rattle.geo_core.specs.declared.orients.Orient.{Orient}
use Rattle.geo_core.specs.declared.orients.Orient.TheVariants.{R0, R90, R180, R270, Mx, My, Mx90, My90}
use Rattle.geo_core.specs.declared.squares.Rect.{Rect}
use Rattle.geo_core.specs.declared.transforms.Transform.{Transform}
use Rattle.geo_core.specs.Images.{composed, identity, rect_image}
use Rattle.geo_core.proofs.ImageLaws.{transform_of}
use Rattle.geo_core.proofs.SquareLaws.{rect_is}

-- the image of a rectangle by orientation
abbrev pub rect_moved : Orient → ℤ → ℤ → Rect → Rect
rect_moved R0 dx dy r = record { xlo = dx +ℤ r.xlo; ylo = dy +ℤ r.ylo; xhi = dx +ℤ r.xhi; yhi = dy +ℤ r.yhi }
rect_moved R90 dx dy r = record { xlo = dx -ℤ r.yhi; ylo = dy +ℤ r.xlo; xhi = dx -ℤ r.ylo; yhi = dy +ℤ r.xhi }
rect_moved R180 dx dy r = record { xlo = dx -ℤ r.xhi; ylo = dy -ℤ r.yhi; xhi = dx -ℤ r.xlo; yhi = dy -ℤ r.ylo }
rect_moved R270 dx dy r = record { xlo = dx +ℤ r.ylo; ylo = dy -ℤ r.xhi; xhi = dx +ℤ r.yhi; yhi = dy -ℤ r.xlo }
rect_moved Mx dx dy r = record { xlo = dx +ℤ r.xlo; ylo = dy -ℤ r.yhi; xhi = dx +ℤ r.xhi; yhi = dy -ℤ r.ylo }
rect_moved My dx dy r = record { xlo = dx -ℤ r.xhi; ylo = dy +ℤ r.ylo; xhi = dx -ℤ r.xlo; yhi = dy +ℤ r.yhi }
rect_moved Mx90 dx dy r = record { xlo = dx +ℤ r.ylo; ylo = dy +ℤ r.xlo; xhi = dx +ℤ r.yhi; yhi = dy +ℤ r.xhi }
rect_moved My90 dx dy r = record { xlo = dx -ℤ r.yhi; ylo = dy -ℤ r.xhi; xhi = dx -ℤ r.ylo; yhi = dy -ℤ r.xlo }

moved-by_orient : (o : Orient) (dx dy : ℤ) (r : Rect) → rect_image (transform_of o dx dy) r ≡ rect_moved o dx dy r
unfolding rect_image
moved-by_orient R0 dx dy r = rect_is _ _ (omega (arith, ints)) (omega (arith, ints)) (omega (arith, ints)) (omega (arith, ints))
moved-by_orient _ dx dy r = rect_is _ _ (omega (arith, ints)) (omega (arith, ints)) (omega (arith, ints)) (omega (arith, ints))

pub rect_image-moved : (t : Transform) (r : Rect) → rect_image t r ≡ rect_moved t.orient t.dx t.dy r
rect_image-moved t r = moved-by_orient t.orient t.dx t.dy r

composed-by_orient : (i o : Orient) (dx dy ex ey : ℤ) (r : Rect)
    → (let t = composed (transform_of i dx dy) (transform_of o ex ey) in rect_moved t.orient t.dx t.dy r) ≡ rect_moved o ex ey (rect_moved i dx dy r)
composed-by_orient R0 R0 dx dy ex ey r = rect_is _ _ (omega (arith, ints)) (omega (arith, ints)) (omega (arith, ints)) (omega (arith, ints))
composed-by_orient R0 _ dx dy ex ey r = rect_is _ _ (omega (arith, ints)) (omega (arith, ints)) (omega (arith, ints)) (omega (arith, ints))
composed-by_orient R90 R0 dx dy ex ey r = rect_is _ _ (omega (arith, ints)) (omega (arith, ints)) (omega (arith, ints)) (omega (arith, ints))
composed-by_orient R90 _ dx dy ex ey r = rect_is _ _ (omega (arith, ints)) (omega (arith, ints)) (omega (arith, ints)) (omega (arith, ints))
composed-by_orient R180 R0 dx dy ex ey r = rect_is _ _ (omega (arith, ints)) (omega (arith, ints)) (omega (arith, ints)) (omega (arith, ints))
composed-by_orient R180 _ dx dy ex ey r = rect_is _ _ (omega (arith, ints)) (omega (arith, ints)) (omega (arith, ints)) (omega (arith, ints))
composed-by_orient R270 R0 dx dy ex ey r = rect_is _ _ (omega (arith, ints)) (omega (arith, ints)) (omega (arith, ints)) (omega (arith, ints))
composed-by_orient R270 _ dx dy ex ey r = rect_is _ _ (omega (arith, ints)) (omega (arith, ints)) (omega (arith, ints)) (omega (arith, ints))
composed-by_orient Mx R0 dx dy ex ey r = rect_is _ _ (omega (arith, ints)) (omega (arith, ints)) (omega (arith, ints)) (omega (arith, ints))
composed-by_orient Mx _ dx dy ex ey r = rect_is _ _ (omega (arith, ints)) (omega (arith, ints)) (omega (arith, ints)) (omega (arith, ints))
composed-by_orient My R0 dx dy ex ey r = rect_is _ _ (omega (arith, ints)) (omega (arith, ints)) (omega (arith, ints)) (omega (arith, ints))
composed-by_orient My _ dx dy ex ey r = rect_is _ _ (omega (arith, ints)) (omega (arith, ints)) (omega (arith, ints)) (omega (arith, ints))
composed-by_orient Mx90 R0 dx dy ex ey r = rect_is _ _ (omega (arith, ints)) (omega (arith, ints)) (omega (arith, ints)) (omega (arith, ints))
composed-by_orient Mx90 _ dx dy ex ey r = rect_is _ _ (omega (arith, ints)) (omega (arith, ints)) (omega (arith, ints)) (omega (arith, ints))
composed-by_orient My90 R0 dx dy ex ey r = rect_is _ _ (omega (arith, ints)) (omega (arith, ints)) (omega (arith, ints)) (omega (arith, ints))
composed-by_orient My90 _ dx dy ex ey r = rect_is _ _ (omega (arith, ints)) (omega (arith, ints)) (omega (arith, ints)) (omega (arith, ints))

-- the composed transform does to a rectangle what the inner one and then the outer one does
pub rect_image-composed : (inner outer : Transform) (r : Rect) → rect_image (composed inner outer) r ≡ rect_image outer (rect_image inner r)
rect_image-composed inner outer r =
    rect_image-moved (composed inner outer) r
    ∙ composed-by_orient inner.orient outer.orient inner.dx inner.dy outer.dx outer.dy r
    ∙ ap (rect_moved outer.orient outer.dx outer.dy) (sym (rect_image-moved inner r))
    ∙ sym (rect_image-moved outer (rect_image inner r))

-- the identity leaves a rectangle in its place
pub rect_image-identity : (r : Rect) → rect_image identity r ≡ r
rect_image-identity r =
    rect_image-moved identity r ∙ rect_is _ _ (omega (arith, ints)) (omega (arith, ints)) (omega (arith, ints)) (omega (arith, ints))
