-- The strips of a cell's paint can be written.
use Rattle.mag_text.proofs.Common.{◌≡◌, ◌<◌, ℕ, ℤ, suc, pos, true, List, [], ◌∷◌, length, get_or, refl, sym, ap, ◌∙◌, subst, arith, nat_le}
use Rattle.mag_text.proofs.Common.{AllByRecursion, and_parts, nat_tests, ints, Rect, Square, has_square, HasValue, IsStrip, RawTech, is_type}
use Rattle.mag_text.proofs.Common.{plane_of, no_layer, type_number, IsWellFormed, Layout, is_coordinate, is_in_range, LayerStrips, own_image}
use Rattle.mag_text.proofs.Common.{AreAllStrips, OneLabel, WrittenUse, IsPaintable, AreWritable, IsPaintInRange, FitsText, IsReadAs}
use Rattle.std.proofs.Common.{◌≢◌}
use Rattle.std.specs.Prelude.{◌-ℤ◌, ◌≤ℤ◌, ◌<ℤ◌, neg_ℤ}
use Rattle.finite_sets.proofs.Searches.{AllByRecursion-from_In}
use Rattle.geo_core.specs.declared.limits.TheConstants.{PAINT_EDGE}
use Rattle.cell_library.specs.CellPaint.Painting.{kinds_on, place_at}
use Rattle.mag_text.specs.MagTexts.{mag_in}
use Rattle.mag_text.specs.WrittenTexts.{IsWrittenText}
use Rattle.mag_text.proofs.ReadText.{mag_in-mag_text}

-- what holds at each place holds of each item
pub by_places : {X : Type 0} (P : X → Type 0) (xs : List X) → ((k : ℕ) (d : X) → k < length xs → P (get_or xs k d)) → AllByRecursion P xs
by_places P [] each = tt
by_places P (x ∷ xs) each = (each 0 x (omega arith), by_places P xs (λ k d inside. each (suc k) d (omega arith)))

-- the image of a layer on its own plane is a type, and so not space
pub own_image-type : (raw : RawTech) → IsWellFormed raw → (layer : ℕ) → layer < length raw.layers → is_type raw (own_image raw layer) ≡ true
own_image-type raw formed layer below =
    let is = formed.layers layer no_layer below in
    is.images 0 (type_number 0) is.placed

type_is_some : (raw : RawTech) (t : ℕ) → is_type raw t ≡ true → t ≢ 0
type_is_some raw t is = λ none.
    let low : nat_le 1 t ≡ true = (and_parts (nat_le 1 t) (nat_le t (length raw.types)) is).0 in
    absurd (grind (arith, nat_tests))

square_test : (area : Rect) → area.xlo <ℤ area.xhi → area.ylo <ℤ area.yhi → has_square area ≡ true
square_test area wide high = grind (arith, ints)

-- both corner squares lie in the range of paint, so the rectangle does
range_test : (xlo ylo xhi yhi : ℤ) → xlo <ℤ xhi → ylo <ℤ yhi → neg_ℤ PAINT_EDGE ≤ℤ xlo → neg_ℤ PAINT_EDGE ≤ℤ ylo
    → (xhi -ℤ pos 1) <ℤ PAINT_EDGE → (yhi -ℤ pos 1) <ℤ PAINT_EDGE → is_in_range (record { xlo = xlo; ylo = ylo; xhi = xhi; yhi = yhi }) ≡ true
range_test xlo ylo xhi yhi wide high left low right top =
    let a : is_coordinate xlo ≡ true = grind (arith, ints) in
    let b : is_coordinate ylo ≡ true = grind (arith, ints) in
    let c : is_coordinate xhi ≡ true = grind (arith, ints) in
    let d : is_coordinate yhi ≡ true = grind (arith, ints) in
    rw (a, b, c, d) refl

strip-fits : (layout : Layout) (plane value : ℕ) (area : Rect) → IsPaintInRange layout → value ≢ 0 → IsStrip (HasValue (kinds_on layout plane) value) area
    → IsPaintable area
strip-fits layout plane value area range some is =
    let lowest = is.runs area.ylo (omega (arith, ints)) is.high in
    let y = area.yhi -ℤ pos 1 in
    let x = area.xhi -ℤ pos 1 in
    let highest = is.runs y (let h = is.high in omega (arith, ints)) (omega (arith, ints)) in
    let corner : Square = record { x = area.xlo; y = area.ylo } in
    let far : Square = record { x = x; y = y } in
    let first : kinds_on layout plane corner ≡ value = lowest.within area.xlo (omega (arith, ints)) lowest.long in
    let last : kinds_on layout plane far ≡ value = highest.within x (let l = highest.long in omega (arith, ints)) (omega (arith, ints)) in
    let a = range (place_at plane corner) (λ none. some (sym first ∙ none)) in
    let b = range (place_at plane far) (λ none. some (sym last ∙ none)) in (
      range_test area.xlo area.ylo area.xhi area.yhi lowest.long is.high a.right_of_xlo a.above_ylo b.left_of_xhi b.below_yhi,
      square_test area lowest.long is.high,
    )

-- the strips of a cell's paint can be written
pub strips_fit : (raw : RawTech) → IsWellFormed raw → (layout : Layout) → IsPaintInRange layout → (strips : List LayerStrips) → AreAllStrips raw layout strips
    → AllByRecursion (AreWritable raw) strips
strips_fit raw formed layout range strips are =
    by_places (AreWritable raw) strips (λ layer other inside.
    let below : layer < length raw.layers = subst (λ (n : ℕ). layer < n) are.one_each inside in
    let group = get_or strips layer other in
    let is = are.each layer other below in
    record {
      layer = subst (λ (n : ℕ). n < length raw.layers) (sym is.of_layer) below;
      areas =
          AllByRecursion-from_In IsPaintable group.areas (λ area there.
          strip-fits layout (plane_of raw (own_image raw layer)) (own_image raw layer) area range
          (type_is_some raw (own_image raw layer) (own_image-type raw formed layer below)) (is.strips.each area there));
    })

-- what is written is read back
pub read-written : (raw : RawTech) (scale : ℕ × ℕ) (layout : Layout) (uses : List WrittenUse) (labels : List OneLabel) (text : List ℕ)
    → FitsText raw scale layout uses labels → IsWrittenText raw scale layout uses labels text → IsReadAs raw scale layout uses labels text
read-written raw scale layout uses labels text fits written =
    let strips = written.strips in
    record {
      strips = strips;
      are_strips = written.are_strips;
      reads =
          ap (mag_in raw) written.text_is
          ∙ mag_in-mag_text raw scale strips uses labels (record {
            well_formed = fits.well_formed;
            numerator = fits.numerator;
            denominator = fits.denominator;
            strips_fit = strips_fit raw fits.well_formed layout fits.range strips written.are_strips;
            uses_fit = fits.uses_fit;
            ids_differ = fits.ids_differ;
            labels_fit = fits.labels_fit;
          });
    }
