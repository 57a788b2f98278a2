-- Transforms of rectangles, one after another and back.
use Rattle.cell_library.proofs.Common.{◌≡◌, ℤ, ◌≤ℤ◌, refl, sym, ap, ◌∙◌, arith, ints, clamps, Orient, R0, R90, R180, R270, Mx, My, Mx90, My90}
use Rattle.cell_library.proofs.Common.{Square, Rect, Transform, common_rect, LiesWithin, Covers, IsProper, composed, identity, image, inverted}
use Rattle.cell_library.proofs.Common.{rect_is, transform_of, image-forth, rect_image-covers, Place, place_back}
use Rattle.geo_core.specs.Images.{point_x, point_y, rect_image}
use Rattle.geo_core.specs.Orientation.{after_turn, after_mirror, orient_then}
use Rattle.geo_core.proofs.ImageLaws.{transform_is, image-composed, image-injective}

-- ---- there and back

forth-by_orient : (o : Orient) (dx dy : ℤ) (area : Rect) → rect_image (transform_of o dx dy) (rect_image (inverted
    (transform_of o dx dy)) area) ≡ area
unfolding rect_image
forth-by_orient R0 dx dy area = rect_is _ _ (omega (arith, ints)) (omega (arith, ints)) (omega (arith, ints)) (omega (arith, ints))
forth-by_orient _ dx dy area = rect_is _ _ (omega (arith, ints)) (omega (arith, ints)) (omega (arith, ints)) (omega (arith, ints))

-- a transform takes a rectangle back to where its inverse took it from
pub rect_forth : (t : Transform) (area : Rect) → rect_image t (rect_image (inverted t) area) ≡ area
rect_forth t area = forth-by_orient t.orient t.dx t.dy area

common-by_orient : (o : Orient) (dx dy : ℤ) (a b : Rect)
    → rect_image (transform_of o dx dy) (common_rect a b) ≡ common_rect (rect_image (transform_of o dx dy) a) (rect_image (transform_of o dx dy) b)
unfolding rect_image
common-by_orient R0 dx dy a b = rect_is _ _ (omega (arith, ints, clamps)) (omega (arith, ints, clamps)) (omega (arith, ints, clamps)) (omega
    (arith, ints, clamps))
common-by_orient _ dx dy a b = rect_is _ _ (omega (arith, ints, clamps)) (omega (arith, ints, clamps)) (omega (arith, ints, clamps)) (omega
    (arith, ints, clamps))

-- the image of what two rectangles have in common is what their images have
pub rect_common : (t : Transform) (a b : Rect) → rect_image t (common_rect a b) ≡ common_rect (rect_image t a) (rect_image t b)
rect_common t a b = common-by_orient t.orient t.dx t.dy a b

proper-by_orient : (o : Orient) (dx dy : ℤ) (area : Rect) → IsProper area → IsProper (rect_image (transform_of o dx dy) area)
unfolding rect_image
proper-by_orient R0 dx dy area proper =
    record { wide = omega (arith, ints, proper.wide, proper.high); high = omega (arith, ints, proper.wide, proper.high) }
proper-by_orient _ dx dy area proper =
    record { wide = omega (arith, ints, proper.wide, proper.high); high = omega (arith, ints, proper.wide, proper.high) }

-- the image of a rectangle with a square has one
pub rect_proper : (t : Transform) (area : Rect) → IsProper area → IsProper (rect_image t area)
rect_proper t area proper = proper-by_orient t.orient t.dx t.dy area proper

unproper-by_orient : (o : Orient) (dx dy : ℤ) (area : Rect) → IsProper (rect_image (transform_of o dx dy) area) → IsProper area
unfolding rect_image
unproper-by_orient R0 dx dy area proper =
    record { wide = omega (arith, ints, proper.wide, proper.high); high = omega (arith, ints, proper.wide, proper.high) }
unproper-by_orient _ dx dy area proper =
    record { wide = omega (arith, ints, proper.wide, proper.high); high = omega (arith, ints, proper.wide, proper.high) }

-- and none where it has none
pub rect_unproper : (t : Transform) (area : Rect) → IsProper (rect_image t area) → IsProper area
rect_unproper t area proper = unproper-by_orient t.orient t.dx t.dy area proper

within_both : (strip back hull : Rect) → LiesWithin strip hull → common_rect strip (common_rect back hull) ≡ common_rect strip back
within_both strip back hull within =
    let p0 : hull.xlo ≤ℤ strip.xlo = within.right_of_xlo in
    let p1 : hull.ylo ≤ℤ strip.ylo = within.above_ylo in
    let p2 : strip.xhi ≤ℤ hull.xhi = within.left_of_xhi in
    let p3 : strip.yhi ≤ℤ hull.yhi = within.below_yhi in
    rect_is _ _ (omega (arith, ints, clamps)) (omega (arith, ints, clamps)) (omega (arith, ints, clamps)) (omega (arith, ints, clamps))

-- a strip within the hull that is cut where an area comes back to it, and then taken to where it stands, is its image, cut to the area
pub cut_there : (t : Transform) (strip hull area : Rect) → LiesWithin strip hull
    → rect_image t (common_rect strip (common_rect (rect_image (inverted t) area) hull)) ≡ common_rect (rect_image t strip) area
cut_there t strip hull area within =
    ap (rect_image t) (within_both strip (rect_image (inverted t) area) hull within)
    ∙ rect_common t strip (rect_image (inverted t) area)
    ∙ ap (common_rect (rect_image t strip)) (rect_forth t area)

-- ---- one after another

turn_first : (inner outer : Orient) → orient_then (after_turn inner) outer ≡ after_turn (orient_then inner outer)
turn_first R270 R0 = refl
turn_first R270 _ = refl
turn_first Mx R0 = refl
turn_first Mx _ = refl
turn_first My R0 = refl
turn_first My _ = refl
turn_first Mx90 R0 = refl
turn_first Mx90 _ = refl
turn_first My90 R0 = refl
turn_first My90 _ = refl
turn_first _ outer = refl

mirror_first : (inner outer : Orient) → orient_then (after_mirror inner) outer ≡ after_mirror (orient_then inner outer)
mirror_first R0 R0 = refl
mirror_first R0 _ = refl
mirror_first R90 R0 = refl
mirror_first R90 _ = refl
mirror_first R180 R0 = refl
mirror_first R180 _ = refl
mirror_first R270 R0 = refl
mirror_first R270 _ = refl
mirror_first Mx R0 = refl
mirror_first Mx _ = refl
mirror_first My R0 = refl
mirror_first My _ = refl
mirror_first Mx90 R0 = refl
mirror_first Mx90 _ = refl
mirror_first My90 R0 = refl
mirror_first My90 _ = refl

twice : (b c : Orient) → orient_then (after_turn (after_turn b)) c ≡ after_turn (after_turn (orient_then b c))
twice b c = turn_first (after_turn b) c ∙ ap after_turn (turn_first b c)

thrice : (b c : Orient) → orient_then (after_turn (after_turn (after_turn b))) c ≡ after_turn (after_turn (after_turn (orient_then b c)))
thrice b c = turn_first (after_turn (after_turn b)) c ∙ ap after_turn (twice b c)

orient_assoc : (a b c : Orient) → orient_then a (orient_then b c) ≡ orient_then (orient_then a b) c
orient_assoc R0 b c = refl
orient_assoc R90 b c = sym (turn_first b c)
orient_assoc R180 b c = sym (twice b c)
orient_assoc R270 b c = sym (thrice b c)
orient_assoc Mx b c = sym (mirror_first b c)
orient_assoc My b c = sym (mirror_first (after_turn (after_turn b)) c ∙ ap after_mirror (twice b c))
orient_assoc Mx90 b c = sym (mirror_first (after_turn b) c ∙ ap after_mirror (turn_first b c))
orient_assoc My90 b c = sym (mirror_first (after_turn (after_turn (after_turn b))) c ∙ ap after_mirror (thrice b c))

-- where a point goes by two transforms
record GoesOn (inner outer : Transform) (x y : ℤ) : Type 0 where
  right : point_x (composed inner outer) x y ≡ point_x outer (point_x inner x y) (point_y inner x y)
  up : point_y (composed inner outer) x y ≡ point_y outer (point_x inner x y) (point_y inner x y)

goes_on : (i o : Orient) (dx dy ex ey x y : ℤ) → GoesOn (transform_of i dx dy) (transform_of o ex ey) x y
goes_on R0 R0 dx dy ex ey x y = record { right = omega (arith, ints); up = omega (arith, ints) }
goes_on R0 _ dx dy ex ey x y = record { right = omega (arith, ints); up = omega (arith, ints) }
goes_on R90 R0 dx dy ex ey x y = record { right = omega (arith, ints); up = omega (arith, ints) }
goes_on R90 _ dx dy ex ey x y = record { right = omega (arith, ints); up = omega (arith, ints) }
goes_on R180 R0 dx dy ex ey x y = record { right = omega (arith, ints); up = omega (arith, ints) }
goes_on R180 _ dx dy ex ey x y = record { right = omega (arith, ints); up = omega (arith, ints) }
goes_on R270 R0 dx dy ex ey x y = record { right = omega (arith, ints); up = omega (arith, ints) }
goes_on R270 _ dx dy ex ey x y = record { right = omega (arith, ints); up = omega (arith, ints) }
goes_on Mx R0 dx dy ex ey x y = record { right = omega (arith, ints); up = omega (arith, ints) }
goes_on Mx _ dx dy ex ey x y = record { right = omega (arith, ints); up = omega (arith, ints) }
goes_on My R0 dx dy ex ey x y = record { right = omega (arith, ints); up = omega (arith, ints) }
goes_on My _ dx dy ex ey x y = record { right = omega (arith, ints); up = omega (arith, ints) }
goes_on Mx90 R0 dx dy ex ey x y = record { right = omega (arith, ints); up = omega (arith, ints) }
goes_on Mx90 _ dx dy ex ey x y = record { right = omega (arith, ints); up = omega (arith, ints) }
goes_on My90 R0 dx dy ex ey x y = record { right = omega (arith, ints); up = omega (arith, ints) }
goes_on My90 _ dx dy ex ey x y = record { right = omega (arith, ints); up = omega (arith, ints) }

-- it is all the same which two of three transforms come first
pub composed_assoc : (a b c : Transform) → composed a (composed b c) ≡ composed (composed a b) c
composed_assoc a b c =
    let on = goes_on b.orient c.orient b.dx b.dy c.dx c.dy a.dx a.dy in
    transform_is (composed a (composed b c)) (composed (composed a b) c) (orient_assoc a.orient b.orient c.orient) on.right on.up

identity_then-by_orient : (o : Orient) (dx dy : ℤ) → composed identity (transform_of o dx dy) ≡ transform_of o dx dy
identity_then-by_orient R0 dx dy = transform_is _ _ refl (omega (arith, ints)) (omega (arith, ints))
identity_then-by_orient _ dx dy = transform_is _ _ refl (omega (arith, ints)) (omega (arith, ints))

-- what leaves everything in its place changes nothing before another
pub identity_then : (t : Transform) → composed identity t ≡ t
identity_then t = identity_then-by_orient t.orient t.dx t.dy

then_identity-by_orient : (o : Orient) (dx dy : ℤ) → composed (transform_of o dx dy) identity ≡ transform_of o dx dy
then_identity-by_orient R0 dx dy = transform_is _ _ refl (omega (arith, ints)) (omega (arith, ints))
then_identity-by_orient _ dx dy = transform_is _ _ refl (omega (arith, ints)) (omega (arith, ints))

-- nor behind one
pub then_identity : (t : Transform) → composed t identity ≡ t
then_identity t = then_identity-by_orient t.orient t.dx t.dy

-- ---- places

-- the place from which two transforms bring a place, one after the other
pub back_on : (inner outer : Transform) (place : Place) → place_back (composed inner outer) place ≡ place_back inner (place_back outer place)
back_on inner outer place =
    let whole = composed inner outer in
    let there : image whole (image (inverted inner) (image (inverted outer) place.square)) ≡ place.square =
    image-composed inner outer (image (inverted inner) (image (inverted outer) place.square))
    ∙ ap (image outer) (image-forth inner (image (inverted outer) place.square)) ∙ image-forth outer place.square in
    let same : image (inverted whole) place.square ≡ image (inverted inner) (image (inverted outer) place.square) =
    image-injective whole _ _ (image-forth whole place.square ∙ sym there) in
    ap (λ (square : Square). record { plane = place.plane; square = square }) same

-- what an area has at a place, comes back with both
pub covers_back : (t : Transform) (area : Rect) (place : Place) → Covers area place.square
    → Covers (rect_image (inverted t) area) (place_back t place).square
covers_back t area place covers = rect_image-covers (inverted t) area place.square covers

still : (square : Square) → image (inverted identity) square ≡ square
still square = image-injective identity _ _ (image-forth identity square ∙ sym (stays square))
  where
    stays : (square : Square) → image identity square ≡ square
    stays square = ap (λ (s : Square). image identity s) (sym (image-forth identity square))
        ∙ sym (image-composed identity identity (image (inverted identity) square)) ∙ image-forth identity square

-- what leaves everything in its place brings a place from itself
pub identity_back : (place : Place) → place_back identity place ≡ place
identity_back place = ap (λ (square : Square). record { plane = place.plane; square = square }) (still place.square)

back-by_orient : (o : Orient) (dx dy : ℤ) (area : Rect) → rect_image (inverted (transform_of o dx dy)) (rect_image (transform_of o dx dy) area) ≡ area
unfolding rect_image
back-by_orient R0 dx dy area = rect_is _ _ (omega (arith, ints)) (omega (arith, ints)) (omega (arith, ints)) (omega (arith, ints))
back-by_orient _ dx dy area = rect_is _ _ (omega (arith, ints)) (omega (arith, ints)) (omega (arith, ints)) (omega (arith, ints))

-- the inverse takes the image of a rectangle back
pub rect_back : (t : Transform) (area : Rect) → rect_image (inverted t) (rect_image t area) ≡ area
rect_back t area = back-by_orient t.orient t.dx t.dy area
