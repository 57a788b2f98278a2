-- What a line says is of the forms that a cell's parts have.
use Rattle.mag_text.proofs.Common.{◌≡◌, ◌<◌, ℕ, ℤ, pos, Bool, true, false, cond, List, [], ◌∷◌, length, Option, Some, None, Result, Ok, Err, refl}
use Rattle.mag_text.proofs.Common.{arith, ◌&&◌, codes, IfOk, IfSome, IsTrue, ok_or, option_map, bytes_eq, and_from, and_parts, Grid, Rect}
use Rattle.mag_text.proofs.Common.{has_square, is_orientation, number_of, is_plain_name, words_of, and_then, LayerId, RawTech, has_name, layer_named}
use Rattle.mag_text.proofs.Common.{layer_number, is_coordinate, is_in_range, IsLabel, is_use_id, is_label_text, are_few_elements, is_grid}
use Rattle.mag_text.proofs.Common.{is_placing, is_position, has_sides, is_label_area, is_scale_number, MagFault, BadLine, NoLayer, Range, EmptyRect}
use Rattle.mag_text.proofs.Common.{NoOrientation, OneGroup, Paint, Labels, ReadOver, MagLine, Nothing, Tech, Timestamp, Scale, Group, End, Area}
use Rattle.mag_text.proofs.Common.{Label, Use, Array, Transform, Box, Four, coordinate_in, index_in, if_painted, if_touched, grid_in, six_in}
use Rattle.mag_text.proofs.Common.{if_form, words_say, says}
use Rattle.std.proofs.Common.{negsuc}
use Rattle.finite_sets.proofs.Searches.{position_from-below}
use Rattle.text_scan.specs.declared.numeral.NumFault.{NumFault}
use Rattle.cell_library.specs.CellBodies.Numbers.{is_displacement, is_index, are_indices, are_displacements, are_elements}
use Rattle.mag_text.specs.NumberForms.{Six, are_four_decimal, number_in, if_in, displacement_in, if_scale_number}
use Rattle.mag_text.specs.NumberForms.{scale_number_in, scale_in}
use Rattle.mag_text.specs.NumberForms.{if_position, position_in, rect_in}
use Rattle.mag_text.specs.WordForms.{after_word}
use Rattle.mag_text.specs.LineForms.{layer_in, label_layer_in, tech_line, timestamp_line, scale_line, is_read_over_name, group_named, group_line}
use Rattle.mag_text.specs.LineForms.{four_numbers, six_numbers, label_place, label_at, label_line_of, label_behind, label_line, label_text, use_line}
use Rattle.mag_text.specs.LineForms.{is_left_out, other_line, header_line, line_of_use, line_by_key, begins_with_hash}

-- a rectangle that may be painted
abbrev pub IsPainted : Rect → Type 0
IsPainted area = (has_square area ≡ true) × (is_in_range area ≡ true)

abbrev pub IsGoodGroup : RawTech → OneGroup → Type 0
IsGoodGroup raw (Paint layer) = layer.0 < length raw.layers
IsGoodGroup raw _ = Unit {0}

abbrev pub IsGoodScale : ℕ × ℕ → Type 0
IsGoodScale scale = IsTrue (is_scale_number scale.0) × IsTrue (is_scale_number scale.1)

-- what a line says is of its form
abbrev pub IsGoodLine : RawTech → MagLine → Type 0
IsGoodLine raw (Scale scale) = IfOk scale IsGoodScale
IsGoodLine raw (Group group) = IfOk group (IsGoodGroup raw)
IsGoodLine raw (Area area) = IfOk area IsPainted
IsGoodLine raw (Label label) = IfOk label (IsLabel raw)
IsGoodLine raw (Use cell id) = IsTrue (is_plain_name cell) × IsTrue (is_use_id id)
IsGoodLine raw (Array grid) = IfOk grid (λ grid. IsTrue (is_grid grid))
IsGoodLine raw (Transform six) = IfOk six (λ six. IsTrue (is_placing six))
IsGoodLine raw _ = Unit {0}

-- one step and then another: what the first gives, the second may take for granted
then_good : {A B : Type 0} (Q : A → Type 0) (P : B → Type 0) (found : Result A MagFault) (next : A → Result B MagFault)
    → IfOk found Q → ((a : A) → Q a → IfOk (next a) P) → IfOk (and_then found next) P
then_good Q P (Ok a) next holds more = more a holds
then_good Q P (Err fault) next holds more = tt

-- the same where nothing is known of the first
then_any : {A B : Type 0} (P : B → Type 0) (found : Result A MagFault) (next : A → Result B MagFault)
    → ((a : A) → IfOk (next a) P) → IfOk (and_then found next) P
then_any P (Ok a) next more = more a
then_any P (Err fault) next more = tt

if_good : {A : Type 0} (P : A → Type 0) (test : Bool) (value : A) (fault : MagFault) → (test ≡ true → P value) → IfOk (cond test (Ok value) (Err fault)) P
if_good P true value fault holds = holds refl
if_good P false value fault holds = tt

either_good : {A : Type 0} (P : A → Type 0) (test : Bool) (x y : Result A MagFault) → IfOk x P → IfOk y P → IfOk (cond test x y) P
either_good P true x y here there = here
either_good P false x y here there = there

coordinate-good : (read : Result ℤ NumFault) → IfOk (coordinate_in read) (λ z. is_coordinate z ≡ true)
coordinate-good read = then_any (λ z. is_coordinate z ≡ true) (number_in read) (λ z. if_in (is_coordinate z) z)
    (λ z. if_good (λ z. is_coordinate z ≡ true) (is_coordinate z) z Range (λ e. e))

displacement-good : (read : Result ℤ NumFault) → IfOk (displacement_in read) (λ z. is_displacement z ≡ true)
displacement-good read = then_any (λ z. is_displacement z ≡ true) (number_in read) (λ z. if_in (is_displacement z) z)
    (λ z. if_good (λ z. is_displacement z ≡ true) (is_displacement z) z Range (λ e. e))

index-good : (read : Result ℤ NumFault) → IfOk (index_in read) (λ z. is_index z ≡ true)
index-good read = then_any (λ z. is_index z ≡ true) (number_in read) (λ z. if_in (is_index z) z)
    (λ z. if_good (λ z. is_index z ≡ true) (is_index z) z Range (λ e. e))

if_scale_number-good : (z : ℤ) → IfOk (if_scale_number z) (λ n. is_scale_number n ≡ true)
if_scale_number-good (pos n) = if_good (λ n. is_scale_number n ≡ true) (is_scale_number n) n Range (λ e. e)
if_scale_number-good (negsuc n) = tt

scale_number-good : (read : Result ℤ NumFault) → IfOk (scale_number_in read) (λ n. is_scale_number n ≡ true)
scale_number-good read = then_any (λ n. is_scale_number n ≡ true) (number_in read) if_scale_number if_scale_number-good

scale-good : (n d : Result ℤ NumFault) → IfOk (scale_in n d) IsGoodScale
scale-good n d =
    then_good (λ n. is_scale_number n ≡ true) IsGoodScale (scale_number_in n) (λ n. and_then (scale_number_in d) (λ d. Ok (n, d))) (scale_number-good n)
    (λ n first.
    then_good (λ d. is_scale_number d ≡ true) IsGoodScale (scale_number_in d) (λ d. Ok (n, d)) (scale_number-good d) (λ d second. (first, second)))

rect-good : (words : Four) → IfOk (rect_in words) (λ area. is_in_range area ≡ true)
rect-good words =
    let P : Rect → Type 0 = λ area. is_in_range area ≡ true in
    let C : ℤ → Type 0 = λ z. is_coordinate z ≡ true in
    then_good C P (coordinate_in words.0) _ (coordinate-good words.0) (λ a ha.
    then_good C P (coordinate_in words.1) _ (coordinate-good words.1) (λ b hb.
    then_good C P (coordinate_in words.2) _ (coordinate-good words.2) (λ c hc.
    then_good C P (coordinate_in words.3) _ (coordinate-good words.3) (λ d hd.
    and_from (is_coordinate a && is_coordinate b && is_coordinate c) (is_coordinate d)
    (and_from (is_coordinate a && is_coordinate b) (is_coordinate c) (and_from (is_coordinate a) (is_coordinate b) ha hb) hc) hd))))

painted-good : (words : Four) → IfOk (and_then (rect_in words) if_painted) IsPainted
painted-good words = then_good (λ area. is_in_range area ≡ true) IsPainted (rect_in words) if_painted (rect-good words)
    (λ area range. if_good IsPainted (has_square area) area EmptyRect (λ square. (square, range)))

-- numbers of the form of a grid's are a grid's
pub grid-is : (xlo xhi xsep ylo yhi ysep : ℤ) → is_index xlo ≡ true → is_index xhi ≡ true → is_displacement xsep ≡ true → is_index ylo ≡ true
    → is_index yhi ≡ true
    → is_displacement ysep ≡ true → are_few_elements xlo xhi ylo yhi ≡ true
    → is_grid (record { xlo = xlo; xhi = xhi; xsep = xsep; ylo = ylo; yhi = yhi; ysep = ysep }) ≡ true
unfolding are_elements
grid-is xlo xhi xsep ylo yhi ysep h1 h2 h3 h4 h5 h6 few =
    and_from (are_elements xlo xhi ylo yhi) (are_displacements xsep ysep)
    (and_from (are_indices xlo xhi ylo yhi) (are_few_elements xlo xhi ylo yhi)
    (and_from (is_index xlo && is_index xhi && is_index ylo) (is_index yhi)
    (and_from (is_index xlo && is_index xhi) (is_index ylo) (and_from (is_index xlo) (is_index xhi) h1 h2) h4) h5) few)
    (and_from (is_displacement xsep) (is_displacement ysep) h3 h6)

grid-good : (words : Six) → IfOk (grid_in words) (λ grid. IsTrue (is_grid grid))
grid-good words =
    let P : Grid → Type 0 = λ grid. IsTrue (is_grid grid) in
    let I : ℤ → Type 0 = λ z. is_index z ≡ true in
    let D : ℤ → Type 0 = λ z. is_displacement z ≡ true in
    then_good I P (index_in words.0) _ (index-good words.0) (λ a ha.
    then_good I P (index_in words.1) _ (index-good words.1) (λ b hb.
    then_good D P (displacement_in words.2) _ (displacement-good words.2) (λ c hc.
    then_good I P (index_in words.3) _ (index-good words.3) (λ d hd.
    then_good I P (index_in words.4) _ (index-good words.4) (λ e he.
    then_good D P (displacement_in words.5) _ (displacement-good words.5) (λ f hf.
    if_good P (are_few_elements a b d e) _ Range (grid-is a b c d e f ha hb hc hd he hf)))))))

six-good : (words : Six) → IfOk (six_in words) (λ six. IsTrue (is_placing six))
six-good words =
    let P : List ℤ → Type 0 = λ six. IsTrue (is_placing six) in
    let D : ℤ → Type 0 = λ z. is_displacement z ≡ true in
    then_any P (number_in words.0) _ (λ a.
    then_any P (number_in words.1) _ (λ b.
    then_good D P (displacement_in words.2) _ (displacement-good words.2) (λ c hc.
    then_any P (number_in words.3) _ (λ d.
    then_any P (number_in words.4) _ (λ e.
    then_good D P (displacement_in words.5) _ (displacement-good words.5) (λ f hf.
    if_good P (is_orientation a b d e) (a ∷ b ∷ c ∷ d ∷ e ∷ f ∷ []) NoOrientation
    (λ is. and_from (are_displacements c f) (is_orientation a b d e) (and_from (is_displacement c) (is_displacement f) hc hf) is)))))))

found_layer : (raw : RawTech) (found : Option ℕ) (word : List ℕ) → layer_named raw word ≡ found
    → IfOk (ok_or (option_map layer_number found) NoLayer) (λ layer. layer.0 < length raw.layers)
found_layer raw None word is = tt
found_layer raw (Some layer) word is = let below = position_from-below (has_name word) 0 raw.layers layer is in omega arith

layer-good : (raw : RawTech) (word : List ℕ) → IfOk (layer_in raw word) (λ layer. layer.0 < length raw.layers)
layer-good raw word = found_layer raw (layer_named raw word) word refl

label_layer-good : (raw : RawTech) (word : List ℕ) → IfOk (label_layer_in raw word) (λ layer. IfSome layer (λ l. l.0 < length raw.layers))
label_layer-good raw word =
    let P : Option LayerId → Type 0 = λ layer. IfSome layer (λ l. l.0 < length raw.layers) in
    either_good P (bytes_eq word (codes "space")) (Ok None) (and_then (layer_in raw word) (λ layer. Ok (Some layer))) tt
    (then_good (λ layer. layer.0 < length raw.layers) P (layer_in raw word) (λ layer. Ok (Some layer)) (layer-good raw word) (λ layer below. below))

-- the layer and the rectangle of a label are those of one
abbrev IsGoodPlace : RawTech → Option LayerId × Rect → Type 0
IsGoodPlace raw place = IfSome place.0 (λ l. l.0 < length raw.layers) × IsTrue (is_label_area place.1)

place-good : (raw : RawTech) (layer : List ℕ) (edges : Four) → IfOk (label_place raw layer (rect_in edges)) (IsGoodPlace raw)
place-good raw layer edges =
    then_good (λ l. IfSome l (λ l. l.0 < length raw.layers)) (IsGoodPlace raw) (label_layer_in raw layer) _ (label_layer-good raw layer) (λ l below.
    then_good (λ area. is_in_range area ≡ true) (IsGoodPlace raw) (rect_in edges) _ (rect-good edges) (λ area range.
    then_good (λ touched. IsTrue (is_label_area touched)) (IsGoodPlace raw) (if_touched area) _
    (if_good (λ touched. IsTrue (is_label_area touched)) (has_sides area) area EmptyRect (λ sides. and_from (has_sides area) (is_in_range area) sides range))
    (λ touched is. (below, is))))

label-good : (raw : RawTech) (layer : List ℕ) (edges : Four) (position : ℕ) (text : List ℕ) → IsTrue (is_position position) → IsTrue (is_label_text text)
    → IfOk (label_at (label_place raw layer (rect_in edges)) position text) (IsLabel raw)
label-good raw layer edges position text is_one is_text =
    then_good (IsGoodPlace raw) (IsLabel raw) (label_place raw layer (rect_in edges)) _ (place-good raw layer edges)
    (λ place is. record { layer = is.0; area = is.1; position = is_one; text = is_text })

tested_position : (n : ℕ) (test : Bool) → is_position n ≡ test → IfSome (cond test (Some n) None) (λ position. IsTrue (is_position position))
tested_position n true is = is
tested_position n false is = tt

if_position-good : (z : ℤ) → IfSome (if_position z) (λ position. IsTrue (is_position position))
if_position-good (pos n) = tested_position n (is_position n) refl
if_position-good (negsuc n) = tt

position-good : (read : Result ℤ NumFault) → IfSome (position_in read) (λ position. IsTrue (is_position position))
position-good (Ok z) = if_position-good z
position-good (Err fault) = tt

form-good : (raw : RawTech) (form : Bool) (said : MagLine) → (form ≡ true → IsGoodLine raw said) → IfOk (if_form form said) (IsGoodLine raw)
form-good raw form said good = if_good (IsGoodLine raw) form said BadLine good

label_line_of-good : (raw : RawTech) (layer : List ℕ) (edges : Four) (position : Option ℕ) (text : List ℕ)
    → IfSome position (λ position. IsTrue (is_position position)) → IfOk (label_line_of raw layer edges position text) (IsGoodLine raw)
unfolding label_line_of
label_line_of-good raw layer edges None text is = tt
label_line_of-good raw layer edges (Some position) text is =
    form-good raw (are_four_decimal edges && is_label_text text) (Label (label_at (label_place raw layer (rect_in edges)) position text))
    (λ form. let parts = and_parts (are_four_decimal edges) (is_label_text text) form in label-good raw layer edges position text is parts.1)

label_behind-good : (raw : RawTech) (layer xbot ybot : List ℕ) (words : List (List ℕ)) (text : List ℕ)
    → IfOk (label_behind raw layer xbot ybot words text) (IsGoodLine raw)
unfolding label_behind
label_behind-good raw layer xbot ybot (xtop ∷ ytop ∷ position ∷ words) text =
    label_line_of-good raw layer (number_of xbot, number_of ybot, number_of xtop, number_of ytop) (position_in (number_of position)) text
    (position-good (number_of position))
label_behind-good raw layer xbot ybot _ text = tt

label_line-good : (raw : RawTech) (words : List (List ℕ)) (text : List ℕ) → IfOk (label_line raw words text) (IsGoodLine raw)
label_line-good raw (layer ∷ xbot ∷ ybot ∷ words) text = label_behind-good raw layer xbot ybot words text
label_line-good raw _ text = tt

tech_line-good : (raw : RawTech) (words : List (List ℕ)) → IfOk (tech_line words) (IsGoodLine raw)
tech_line-good raw [] = tt
tech_line-good raw (a ∷ []) = tt
tech_line-good raw (a ∷ b ∷ words) = tt

timestamp_line-good : (raw : RawTech) (words : List (List ℕ)) → IfOk (timestamp_line words) (IsGoodLine raw)
timestamp_line-good raw (time ∷ []) = form-good raw _ (Timestamp (number_in (number_of time))) (λ form. tt)
timestamp_line-good raw _ = tt

scale_line-good : (raw : RawTech) (words : List (List ℕ)) → IfOk (scale_line words) (IsGoodLine raw)
scale_line-good raw (n ∷ d ∷ []) = form-good raw _ (Scale (scale_in (number_of n) (number_of d))) (λ form. scale-good (number_of n) (number_of d))
scale_line-good raw _ = tt

group_named-good : (raw : RawTech) (name : List ℕ) → IfOk (group_named raw name) (IsGoodGroup raw)
group_named-good raw name =
    let P = IsGoodGroup raw in
    either_good P (bytes_eq name (codes "labels")) (Ok Labels) _ tt
    (either_good P (is_read_over_name name) (Ok ReadOver) _ tt
    (then_good (λ layer. layer.0 < length raw.layers) P (layer_in raw name) (λ layer. Ok (Paint layer)) (layer-good raw name) (λ layer below. below)))

end_or_group : (raw : RawTech) (test : Bool) (group : Result OneGroup MagFault) → IfOk group (IsGoodGroup raw) → IsGoodLine raw (cond test End (Group group))
end_or_group raw true group good = tt
end_or_group raw false group good = good

group_line-good : (raw : RawTech) (words : List (List ℕ)) → IfOk (group_line raw words) (IsGoodLine raw)
group_line-good raw (name ∷ closing ∷ []) =
    form-good raw (bytes_eq closing (codes ">>")) _ (λ form. end_or_group raw (bytes_eq name (codes "end")) (group_named raw name) (group_named-good raw name))
group_line-good raw _ = tt

use_line-good : (raw : RawTech) (words : List (List ℕ)) → IfOk (use_line words) (IsGoodLine raw)
use_line-good raw (cell ∷ id ∷ words) = form-good raw (is_plain_name cell && is_use_id id) (Use cell id)
    (λ form. and_parts (is_plain_name cell) (is_use_id id) form)
use_line-good raw _ = tt

other_line-good : (raw : RawTech) (key : List ℕ) → IfOk (other_line key) (IsGoodLine raw)
other_line-good raw key = either_good (IsGoodLine raw) (is_left_out key) _ _ tt tt

header_line-good : (raw : RawTech) (key rest : List ℕ) → IfOk (header_line key rest) (IsGoodLine raw)
header_line-good raw key rest =
    let P = IsGoodLine raw in
    let words = words_of rest in
    either_good P (bytes_eq key (codes "tech")) _ _ (tech_line-good raw words)
    (either_good P (bytes_eq key (codes "timestamp")) _ _ (timestamp_line-good raw words)
    (either_good P (bytes_eq key (codes "magscale")) _ _ (scale_line-good raw words) (other_line-good raw key)))

line_of_use-good : (raw : RawTech) (key rest : List ℕ) → IfOk (line_of_use key rest) (IsGoodLine raw)
line_of_use-good raw key rest =
    let P = IsGoodLine raw in
    let words = words_of rest in
    either_good P (bytes_eq key (codes "use")) _ _ (use_line-good raw words)
    (either_good P (bytes_eq key (codes "array")) _ _ (then_any P (six_numbers words) (λ numbers. Ok (Array (grid_in numbers))) grid-good)
    (either_good P (bytes_eq key (codes "transform")) _ _ (then_any P (six_numbers words) (λ numbers. Ok (Transform (six_in numbers))) six-good)
    (either_good P (bytes_eq key (codes "box")) _ _ (then_any P (four_numbers words) (λ edges. Ok Box) (λ edges. tt)) (header_line-good raw key rest))))

line_by_key-good : (raw : RawTech) (key rest : List ℕ) → IfOk (line_by_key raw key rest) (IsGoodLine raw)
unfolding line_by_key
line_by_key-good raw key rest =
    let P = IsGoodLine raw in
    let words = words_of rest in
    either_good P (bytes_eq key (codes "rect")) _ _ (then_any P (four_numbers words) (λ edges. Ok (Area (and_then (rect_in edges) if_painted))) painted-good)
    (either_good P (bytes_eq key (codes "rlabel")) _ _ (label_line-good raw words (label_text rest))
    (either_good P (bytes_eq key (codes "<<")) _ _ (group_line-good raw words) (line_of_use-good raw key rest)))

words_say-good : (raw : RawTech) (words : List (List ℕ)) (rest : List ℕ) → IfOk (words_say raw words rest) (IsGoodLine raw)
words_say-good raw [] rest = tt
words_say-good raw (key ∷ words) rest = line_by_key-good raw key rest

-- what a line says is of its form
pub says-good : (raw : RawTech) (line : List ℕ) → IfOk (says raw line) (IsGoodLine raw)
says-good raw line = either_good (IsGoodLine raw) (begins_with_hash line) (Ok Nothing) _ tt (words_say-good raw (words_of line) (after_word line))
