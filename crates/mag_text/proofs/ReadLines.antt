-- What written lines say by themselves.
use Rattle.mag_text.proofs.Common.{◌≡◌, ◌<◌, ◌==◌, ℕ, zero, suc, ℤ, pos, Bool, true, false, cond, List, [], ◌∷◌, length, get_or, drop, map, Ok, Err}
use Rattle.mag_text.proofs.Common.{FitsSigned, refl, sym, ap, ◌∙◌, subst, arith, ◌&&◌, not, codes, nat_le, w64, AllByRecursion, list_all, and_parts}
use Rattle.mag_text.proofs.Common.{Decides-by_and, nat_tests, ints, length-prefix_len, Grid, Rect, has_square, words_of, is_blank, from_first_word}
use Rattle.mag_text.proofs.Common.{IsWord, line_of, number_of-decimal, IsWord-test, words_of-line_of, words-decimals, and_then, RawTech}
use Rattle.mag_text.proofs.Common.{is_coordinate, is_in_range, is_use_id, matrix, is_orientation, is_plain_name, is_grid, is_placing}
use Rattle.mag_text.proofs.Common.{are_few_elements, Range, EmptyRect, NoOrientation, Nothing, Area, Use, Array, Transform, Box, coordinate_in}
use Rattle.mag_text.proofs.Common.{index_in, if_painted, grid_in, six_in, if_form, words_say, says, numbers_line}
use Rattle.std.specs.List.{before_first, position_or_len}
use Rattle.text_scan.specs.Decimal.{decimal}
use Rattle.text_scan.specs.Written.{is_separator}
use Rattle.text_scan.proofs.WordLemmas.{words_of-split, words_of-none}
use Rattle.cell_library.specs.CellBodies.Words.{is_use_id_byte}
use Rattle.ext_model.specs.declared.limits.TheConstants.{LONGEST_USE_ID}
use Rattle.geo_core.proofs.OrientationLaws.{six_of-is_orientation}
use Rattle.geo_core.specs.declared.orients.Orient.{Orient}
use Rattle.geo_core.specs.declared.orients.Orient.TheVariants.{R0, R90, R180, R270, Mx, My, Mx90, My90}
use Rattle.geo_core.specs.Images.{six_of}
use Rattle.text_scan.specs.PlainNames.{is_plain_byte}
use Rattle.text_scan.specs.declared.plain_name.TheConstants.{LONGEST_NAME}
use Rattle.cell_library.specs.CellBodies.Numbers.{is_displacement, is_index, are_elements, are_indices, are_displacements}
use Rattle.mag_text.specs.NumberForms.{if_in, displacement_in, rect_in}
use Rattle.mag_text.specs.WordForms.{after_word}
use Rattle.mag_text.specs.LineForms.{if_four, if_six, four_numbers, six_numbers, area_line, use_line, array_line, transform_line, box_line}
use Rattle.mag_text.specs.LineForms.{line_by_key, begins_with_hash}
use Rattle.mag_text.specs.WrittenTexts.{edges_of, numbers_of_grid}

has_word_by : (line key : List ℕ) (words : List (List ℕ)) (n : ℕ) → words_of line ≡ key ∷ words → length (from_first_word line) ≡ n → 0 < n
has_word_by line key words zero is none =
    let no : [] ≡ key ∷ words = sym (words_of-none line none) ∙ is in absurd (let never : ⊥ = cc in never)
has_word_by line key words (suc n) is none = omega arith

has_word : (line key : List ℕ) (words : List (List ℕ)) → words_of line ≡ key ∷ words → 0 < length (from_first_word line)
has_word line key words is = has_word_by line key words (length (from_first_word line)) is refl

-- what follows the first word of a line has the other words
pub words-after : (line key : List ℕ) (words : List (List ℕ)) → words_of line ≡ key ∷ words → words_of (after_word line) ≡ words
unfolding after_word
words-after line key words is =
    let from = from_first_word line in
    let some : 0 < length from = has_word line key words is in
    let split = words_of-split line some in
    let place : length (before_first is_blank from) ≡ position_or_len is_blank from = length-prefix_len (λ (b : ℕ). not (is_blank b)) from in
    let both : before_first is_blank from ∷ words_of (drop (position_or_len is_blank from) from) ≡ key ∷ words = sym split ∙ is in
    let rest : words_of (drop (position_or_len is_blank from) from) ≡ words = cc in
    ap (λ (k : ℕ). words_of (drop k from)) place ∙ rest

-- a line of words, the first of which has no `#` in front, says what its first word and what follows it say
pub says-words : (raw : RawTech) (key : List ℕ) (words : List (List ℕ)) → AllByRecursion IsWord (key ∷ words) → begins_with_hash (line_of (key ∷ words)) ≡ false
    → says raw (line_of (key ∷ words)) ≡ line_by_key raw key (after_word (line_of (key ∷ words)))
says-words raw key words all plain =
    let line = line_of (key ∷ words) in
    ap (λ (b : Bool). cond b (Ok Nothing) (words_say raw (words_of line) (after_word line))) plain
    ∙ ap (λ (ws : List (List ℕ)). words_say raw ws (after_word line)) (words_of-line_of (key ∷ words) all)

pub coordinate_fits : (z : ℤ) → is_coordinate z ≡ true → FitsSigned w64 z
coordinate_fits z is = record { sfits = grind (arith, ints) }

displacement_fits : (z : ℤ) → is_displacement z ≡ true → FitsSigned w64 z
displacement_fits z is = record { sfits = grind (arith, ints) }

index_fits : (z : ℤ) → is_index z ≡ true → FitsSigned w64 z
index_fits z is = record { sfits = grind (arith, ints) }

coordinate-read : (z : ℤ) → is_coordinate z ≡ true → coordinate_in (Ok z) ≡ Ok z
coordinate-read z is = ap (λ (b : Bool). if_in b z) is

displacement-read : (z : ℤ) → is_displacement z ≡ true → displacement_in (Ok z) ≡ Ok z
displacement-read z is = ap (λ (b : Bool). if_in b z) is

index-read : (z : ℤ) → is_index z ≡ true → index_in (Ok z) ≡ Ok z
index-read z is = ap (λ (b : Bool). if_in b z) is

-- a line of a word and numbers says what its word says of the numbers
pub says-numbers : (raw : RawTech) (key : List ℕ) (numbers : List ℤ) → IsWord key → begins_with_hash (numbers_line key numbers) ≡ false
    → (rest : List ℕ) × (words_of rest ≡ map decimal numbers) × (says raw (numbers_line key numbers) ≡ line_by_key raw key rest)
says-numbers raw key numbers word plain =
    let all : AllByRecursion IsWord (key ∷ map decimal numbers) = (word, words-decimals numbers) in
    let line = numbers_line key numbers in (
      after_word line,
      words-after line key (map decimal numbers) (words_of-line_of (key ∷ map decimal numbers) all),
      says-words raw key (map decimal numbers)
          all plain,
    )

four-read : (a b c d : ℤ) → FitsSigned w64 a → FitsSigned w64 b → FitsSigned w64 c → FitsSigned w64 d
    → four_numbers (map decimal (a ∷ b ∷ c ∷ d ∷ [])) ≡ Ok (Ok a, Ok b, Ok c, Ok d)
unfolding if_four
four-read a b c d ha hb hc hd = rw (number_of-decimal a ha, number_of-decimal b hb, number_of-decimal c hc, number_of-decimal d hd) refl

six-read : (a b c d e f : ℤ) → FitsSigned w64 a → FitsSigned w64 b → FitsSigned w64 c → FitsSigned w64 d → FitsSigned w64 e → FitsSigned w64 f
    → six_numbers (map decimal (a ∷ b ∷ c ∷ d ∷ e ∷ f ∷ [])) ≡ Ok (Ok a, Ok b, Ok c, Ok d, Ok e, Ok f)
unfolding if_six
six-read a b c d e f ha hb hc hd he hf =
    rw (number_of-decimal a ha, number_of-decimal b hb, number_of-decimal c hc, number_of-decimal d hd, number_of-decimal e he, number_of-decimal f hf) refl

-- a coordinate test of each edge
pub record HasCoordinates (area : Rect) : Type 0 where
  pub xlo : is_coordinate area.xlo ≡ true
  pub ylo : is_coordinate area.ylo ≡ true
  pub xhi : is_coordinate area.xhi ≡ true
  pub yhi : is_coordinate area.yhi ≡ true

pub has_coordinates : (area : Rect) → is_in_range area ≡ true → HasCoordinates area
has_coordinates area is =
    let a = and_parts (is_coordinate area.xlo && is_coordinate area.ylo && is_coordinate area.xhi) (is_coordinate area.yhi) is in
    let b = and_parts (is_coordinate area.xlo && is_coordinate area.ylo) (is_coordinate area.xhi) a.0 in
    let c = and_parts (is_coordinate area.xlo) (is_coordinate area.ylo) b.0 in
    record { xlo = c.0; ylo = c.1; xhi = b.1; yhi = a.1 }

pub rect-read : (area : Rect) → is_in_range area ≡ true → rect_in (Ok area.xlo, Ok area.ylo, Ok area.xhi, Ok area.yhi) ≡ Ok area
rect-read area is =
    let has = has_coordinates area is in
    rw (coordinate-read area.xlo has.xlo, coordinate-read area.ylo has.ylo, coordinate-read area.xhi has.xhi, coordinate-read area.yhi has.yhi) refl

edges-read : (area : Rect) → is_in_range area ≡ true → four_numbers (map decimal (edges_of area)) ≡ Ok (Ok area.xlo, Ok area.ylo, Ok area.xhi, Ok area.yhi)
edges-read area is =
    let has = has_coordinates area is in
    four-read area.xlo area.ylo area.xhi area.yhi (coordinate_fits area.xlo has.xlo) (coordinate_fits area.ylo has.ylo) (coordinate_fits area.xhi has.xhi)
    (coordinate_fits area.yhi has.yhi)

area_line-read : (words : List (List ℕ)) (area : Rect) → words ≡ map decimal (edges_of area) → is_in_range area ≡ true → has_square area ≡ true
    → area_line words ≡ Ok (Area (Ok area))
area_line-read words area is range square =
    ap area_line is
    ∙ ap (λ found. and_then found (λ edges. Ok (Area (and_then (rect_in edges) if_painted)))) (edges-read area range)
    ∙ ap (λ found. Ok (Area (and_then found if_painted))) (rect-read area range)
    ∙ ap (λ (b : Bool). Ok (Area (cond b (Ok area) (Err EmptyRect)))) square

by_rect : (raw : RawTech) (rest : List ℕ) → line_by_key raw (codes "rect") rest ≡ area_line (words_of rest)
unfolding line_by_key
by_rect raw rest = refl

-- a rectangle that is written says itself
pub says-area : (raw : RawTech) (area : Rect) → is_in_range area ≡ true → has_square area ≡ true
    → says raw (numbers_line (codes "rect") (edges_of area)) ≡ Ok (Area (Ok area))
says-area raw area range square =
    let line = says-numbers raw (codes "rect") (edges_of area) (IsWord-test (codes "rect") refl) refl in
    line.2 ∙ by_rect raw line.0 ∙ area_line-read (words_of line.0) area line.1 range square

by_box : (raw : RawTech) (rest : List ℕ) → line_by_key raw (codes "box") rest ≡ box_line (words_of rest)
unfolding line_by_key
by_box raw rest = refl

pub says-box : (raw : RawTech) (area : Rect) → is_in_range area ≡ true → says raw (numbers_line (codes "box") (edges_of area)) ≡ Ok Box
says-box raw area range =
    let line = says-numbers raw (codes "box") (edges_of area) (IsWord-test (codes "box") refl) refl in
    line.2 ∙ by_box raw line.0 ∙ ap box_line line.1 ∙ ap (λ found. and_then found (λ edges. Ok Box)) (edges-read area range)

-- the parts of a grid that a use may have
grid-read : (grid : Grid) → is_grid grid ≡ true
    → (six_numbers (map decimal (numbers_of_grid grid)) ≡ Ok (Ok grid.xlo, Ok grid.xhi, Ok grid.xsep, Ok grid.ylo, Ok grid.yhi, Ok grid.ysep))
    × (grid_in (Ok grid.xlo, Ok grid.xhi, Ok grid.xsep, Ok grid.ylo, Ok grid.yhi, Ok grid.ysep) ≡ Ok grid)
unfolding are_elements
grid-read grid is =
    let all = are_elements grid.xlo grid.xhi grid.ylo grid.yhi in
    let a = and_parts all (are_displacements grid.xsep grid.ysep) is in
    let b = and_parts (is_displacement grid.xsep) (is_displacement grid.ysep) a.1 in
    let c = and_parts (are_indices grid.xlo grid.xhi grid.ylo grid.yhi) (are_few_elements grid.xlo grid.xhi grid.ylo grid.yhi) a.0 in
    let d = and_parts (is_index grid.xlo && is_index grid.xhi && is_index grid.ylo) (is_index grid.yhi) c.0 in
    let e = and_parts (is_index grid.xlo && is_index grid.xhi) (is_index grid.ylo) d.0 in
    let f = and_parts (is_index grid.xlo) (is_index grid.xhi) e.0 in (
      six-read grid.xlo grid.xhi grid.xsep grid.ylo grid.yhi grid.ysep (index_fits grid.xlo f.0) (index_fits grid.xhi f.1) (displacement_fits grid.xsep b.0)
          (index_fits grid.ylo e.1) (index_fits grid.yhi d.1) (displacement_fits grid.ysep b.1),
      rw (
        index-read grid.xlo f.0,
        index-read grid.xhi f.1,
        displacement-read grid.xsep b.0,
        index-read grid.ylo e.1,
        index-read grid.yhi d.1,
        displacement-read grid.ysep b.1,
      )
          (ap (λ (b : Bool). cond b (Ok grid) (Err Range)) c.1),
    )

by_array : (raw : RawTech) (rest : List ℕ) → line_by_key raw (codes "array") rest ≡ array_line (words_of rest)
unfolding line_by_key
by_array raw rest = refl

-- a grid that is written says itself
pub says-grid : (raw : RawTech) (grid : Grid) → is_grid grid ≡ true → says raw (numbers_line (codes "array") (numbers_of_grid grid)) ≡ Ok (Array (Ok grid))
says-grid raw grid is =
    let line = says-numbers raw (codes "array") (numbers_of_grid grid) (IsWord-test (codes "array") refl) refl in
    let read = grid-read grid is in
    line.2 ∙ by_array raw line.0 ∙ ap array_line line.1
    ∙ ap (λ found. and_then found (λ numbers. Ok (Array (grid_in numbers)))) read.0 ∙ ap (λ found. Ok (Array found)) read.1

matrix_fits : (o : Orient) → FitsSigned w64 (matrix o).a × FitsSigned w64 (matrix o).b × FitsSigned w64 (matrix o).d × FitsSigned w64 (matrix o).e
matrix_fits R0 = (record { sfits = omega arith }, record { sfits = omega arith }, record { sfits = omega arith }, record { sfits = omega arith })
matrix_fits R90 = (record { sfits = omega arith }, record { sfits = omega arith }, record { sfits = omega arith }, record { sfits = omega arith })
matrix_fits R180 = (record { sfits = omega arith }, record { sfits = omega arith }, record { sfits = omega arith }, record { sfits = omega arith })
matrix_fits R270 = (record { sfits = omega arith }, record { sfits = omega arith }, record { sfits = omega arith }, record { sfits = omega arith })
matrix_fits Mx = (record { sfits = omega arith }, record { sfits = omega arith }, record { sfits = omega arith }, record { sfits = omega arith })
matrix_fits My = (record { sfits = omega arith }, record { sfits = omega arith }, record { sfits = omega arith }, record { sfits = omega arith })
matrix_fits Mx90 = (record { sfits = omega arith }, record { sfits = omega arith }, record { sfits = omega arith }, record { sfits = omega arith })
matrix_fits My90 = (record { sfits = omega arith }, record { sfits = omega arith }, record { sfits = omega arith }, record { sfits = omega arith })

factor_fits : (a b d e : ℤ) → is_orientation a b d e ≡ true → FitsSigned w64 a × FitsSigned w64 b × FitsSigned w64 d × FitsSigned w64 e
factor_fits a b d e is =
    let one = six_of-is_orientation a b d e is in
    let m = matrix one.0.orient in
    let same : six_of one.0 ≡ a ∷ b ∷ pos 0 ∷ d ∷ e ∷ pos 0 ∷ [] = one.1 in
    let ea : m.a ≡ a = cc in
    let eb : m.b ≡ b = cc in
    let ed : m.d ≡ d = cc in
    let ee : m.e ≡ e = cc in
    let fits = matrix_fits one.0.orient in (
      subst (λ (z : ℤ). FitsSigned w64 z) ea fits.0,
      subst (λ (z : ℤ). FitsSigned w64 z) eb fits.1,
      subst (λ (z : ℤ). FitsSigned w64 z) ed fits.2,
      subst
          (λ (z : ℤ). FitsSigned w64 z) ee fits.3,
    )

by_transform : (raw : RawTech) (rest : List ℕ) → line_by_key raw (codes "transform") rest ≡ transform_line (words_of rest)
unfolding line_by_key
by_transform raw rest = refl

six_numbers-are : (a b c d e f : ℤ) → is_placing (a ∷ b ∷ c ∷ d ∷ e ∷ f ∷ []) ≡ true
    → (six_numbers (map decimal (a ∷ b ∷ c ∷ d ∷ e ∷ f ∷ [])) ≡ Ok (Ok a, Ok b, Ok c, Ok d, Ok e, Ok f))
    × (six_in (Ok a, Ok b, Ok c, Ok d, Ok e, Ok f) ≡ Ok (a ∷ b ∷ c ∷ d ∷ e ∷ f ∷ []))
six_numbers-are a b c d e f is =
    let parts = and_parts (are_displacements c f) (is_orientation a b d e) is in
    let moves = and_parts (is_displacement c) (is_displacement f) parts.0 in
    let fits = factor_fits a b d e parts.1 in (
      six-read a b c d e f fits.0 fits.1 (displacement_fits c moves.0) fits.2 fits.3 (displacement_fits f moves.1),
      rw (displacement-read c moves.0, displacement-read f moves.1) (ap (λ (t : Bool). cond t (Ok (a ∷ b ∷ c ∷ d ∷ e ∷ f ∷ [])) (Err NoOrientation)) parts.1),
    )

placing-read : (six : List ℤ) → is_placing six ≡ true → transform_line (map decimal six) ≡ Ok (Transform (Ok six))
placing-read (a ∷ b ∷ c ∷ d ∷ e ∷ f ∷ []) is =
    let read = six_numbers-are a b c d e f is in
    ap (λ found. and_then found (λ numbers. Ok (Transform (six_in numbers)))) read.0 ∙ ap (λ found. Ok (Transform found)) read.1
placing-read _ is = absurd (let no : ⊥ = cc in no)

transform_plain : (six : List ℤ) → begins_with_hash (numbers_line (codes "transform") six) ≡ false
transform_plain [] = refl
transform_plain (z ∷ six) = refl

-- six numbers that are written say themselves
pub says-transform : (raw : RawTech) (six : List ℤ) → is_placing six ≡ true → says raw (numbers_line (codes "transform") six) ≡ Ok (Transform (Ok six))
says-transform raw six is =
    let line = says-numbers raw (codes "transform") six (IsWord-test (codes "transform") refl) (transform_plain six) in
    line.2 ∙ by_transform raw line.0 ∙ ap transform_line line.1 ∙ placing-read six is

-- bytes that are printing and no blanks make a word
graphic_word : (test : ℕ → Bool) → ((byte : ℕ) → test byte ≡ true → is_separator byte ≡ false) → (word : List ℕ) → 0 < length word → list_all test word ≡ true
    → IsWord word
graphic_word test plain word some all =
    let tells = Decides-by_and test (λ b. test b ≡ true) (list_all test) (λ b. (λ e. e, λ e. e)) refl (λ _ _. refl) word in
    record { some = some; plain = λ k d inside. plain (get_or word k d) (tells.0 all k d inside) }

plain_separates : (byte : ℕ) → is_plain_byte byte ≡ true → is_separator byte ≡ false
plain_separates byte is = grind (arith, nat_tests)

printing : (byte : ℕ) → nat_le 33 byte ≡ true → is_separator byte ≡ false
printing byte is = grind (arith, nat_tests)

id_separates : (byte : ℕ) → is_use_id_byte byte ≡ true → is_separator byte ≡ false
id_separates byte is =
    let a = and_parts (nat_le 33 byte && nat_le byte 126 && not (byte == 47) && not (byte == 91) && not (byte == 93) && not (byte == 44)) (not (byte == 34))
    is in
    let b = and_parts (nat_le 33 byte && nat_le byte 126 && not (byte == 47) && not (byte == 91) && not (byte == 93)) (not (byte == 44)) a.0 in
    let c = and_parts (nat_le 33 byte && nat_le byte 126 && not (byte == 47) && not (byte == 91)) (not (byte == 93)) b.0 in
    let d = and_parts (nat_le 33 byte && nat_le byte 126 && not (byte == 47)) (not (byte == 91)) c.0 in
    let e = and_parts (nat_le 33 byte && nat_le byte 126) (not (byte == 47)) d.0 in
    let f = and_parts (nat_le 33 byte) (nat_le byte 126) e.0 in
    printing byte f.0

pub IsWord-plain_name : (word : List ℕ) → is_plain_name word ≡ true → IsWord word
IsWord-plain_name word is =
    let parts = and_parts (nat_le 1 (length word) && nat_le (length word) LONGEST_NAME) (list_all is_plain_byte word) is in
    let most = and_parts (nat_le 1 (length word)) (nat_le (length word) LONGEST_NAME) parts.0 in
    graphic_word is_plain_byte plain_separates word (grind (arith, nat_tests, most.0)) parts.1

pub IsWord-use_id : (word : List ℕ) → is_use_id word ≡ true → IsWord word
IsWord-use_id word is =
    let parts = and_parts (nat_le 1 (length word) && nat_le (length word) LONGEST_USE_ID) (list_all is_use_id_byte word) is in
    let most = and_parts (nat_le 1 (length word)) (nat_le (length word) LONGEST_USE_ID) parts.0 in
    graphic_word is_use_id_byte id_separates word (grind (arith, nat_tests, most.0)) parts.1

by_use : (raw : RawTech) (rest : List ℕ) → line_by_key raw (codes "use") rest ≡ use_line (words_of rest)
unfolding line_by_key
by_use raw rest = refl

-- the name of a use that is written says itself
pub says-use : (raw : RawTech) (cell id : List ℕ) → is_plain_name cell ≡ true → is_use_id id ≡ true
    → says raw (line_of (codes "use" ∷ cell ∷ id ∷ [])) ≡ Ok (Use cell id)
says-use raw cell id cell_is id_is =
    let words : List (List ℕ) = cell ∷ id ∷ [] in
    let all : AllByRecursion IsWord (codes "use" ∷ words) = (IsWord-test (codes "use") refl, (IsWord-plain_name cell cell_is, (IsWord-use_id id id_is, tt))) in
    let line = line_of (codes "use" ∷ words) in
    let behind = words-after line (codes "use") words (words_of-line_of (codes "use" ∷ words) all) in
    says-words raw (codes "use") words all refl ∙ by_use raw (after_word line) ∙ ap use_line behind
    ∙ ap (λ (b : Bool). if_form (b && is_use_id id) (Use cell id)) cell_is ∙ ap (λ (b : Bool). if_form b (Use cell id)) id_is
