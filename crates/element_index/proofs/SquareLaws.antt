-- A name has one square, and a square one name.
use Rattle.element_index.proofs.Common.{◌≡◌, ℕ, ℤ, pos, ◌-ℤ◌, ◌*ℤ◌, ◌≤ℤ◌, ◌<ℤ◌, List, [], ◌∷◌, ◌++◌, inl, inr, IsTrue, to_z, of_z, sym, ap, ◌∙◌}
use Rattle.element_index.proofs.Common.{subst, arith, length-append, slice_get, Some, w32, w64, FitsSigned, ints, slice_get-get_or, slice_get_within}
use Rattle.element_index.proofs.Common.{get_or_from_slice_get, Square, square_is, is_use_id, ROWS_OF_AN_ID, lowered, IsNameAt}
use Rattle.std.specs.Prelude.{neg_ℤ}
use Rattle.std.proofs.lemmas.Bool.{cases_order}
use Rattle.std.proofs.lemmas.List.{get_or_append_left}
use Rattle.finite_sets.specs.Lists.{Distinct}
use Rattle.finite_sets.proofs.Distincts.{Distinct-places}
use Rattle.ext_model.proofs.TextCuts.{front_of}
use Rattle.ext_model.proofs.IndexedNames.{id_plain, id_of_indexed, id_of_whole, indexed_told}
use Rattle.element_index.specs.Holds.{IsSquareOf}
use Rattle.element_index.proofs.IdLaws.{whole_or_indexed}

-- a number of 32 bits with sign lies between these
pub short_low : (z : ℤ) → FitsSigned w32 z → neg_ℤ (pos 2147483648) ≤ℤ z
short_low z fits = omega (arith, ints)

pub short_high : (z : ℤ) → FitsSigned w32 z → z <ℤ pos 2147483648
short_high z fits = omega (arith, ints)

-- and what lies between them is one
pub short_from : (z : ℤ) → neg_ℤ (pos 2147483648) ≤ℤ z → z <ℤ pos 2147483648 → FitsSigned w32 z
short_from z low high = record { sfits = grind (arith, ints) }

-- what lies well between the ends of 64 bits fits them
pub fits_wide : (z : ℤ) → neg_ℤ (pos 4611686018427387904) ≤ℤ z → z ≤ℤ pos 4611686018427387904 → FitsSigned w64 z
fits_wide z low high = record { sfits = grind (arith, ints) }

-- a number of 32 bits stays as it is on its way through 64
pub kept_short : (z : ℤ) → FitsSigned w32 z → to_z w64 (of_z w64 z) ≡ z
kept_short z fits = omega (arith, ints)

-- a name tells its id
pub id_told : (id name : List ℕ) (square : Square) → IsTrue (is_use_id id) → IsNameAt id name square → id ≡ front_of 91 name
id_told id name square form (inl at) = sym (ap (front_of 91) at.text ∙ id_of_indexed id square.x square.y form)
id_told id name square form (inr at) = sym (ap (front_of 91) at.text ∙ id_of_whole id form)

-- and with its id its square
pub spot_told : (id name : List ℕ) (a b : Square) → IsTrue (is_use_id id) → IsNameAt id name a → IsNameAt id name b → a ≡ b
spot_told id name a b form (inl p) (inl q) =
    let told = indexed_told id id a.x a.y b.x b.y form form (sym p.text ∙ q.text) in square_is a b told.1 told.2
spot_told id name a b form (inl p) (inr q) = absurd (whole_or_indexed id id a.x a.y (id_plain id form) (sym q.text ∙ p.text))
spot_told id name a b form (inr p) (inl q) = absurd (whole_or_indexed id id b.x b.y (id_plain id form) (sym p.text ∙ q.text))
spot_told id name a b form (inr p) (inr q) = square_is a b (p.column ∙ sym q.column) (p.row ∙ sym q.row)

-- the square and the id tell the name
pub name_told : (id name other : List ℕ) (square : Square) → IsNameAt id name square → IsNameAt id other square → name ≡ other
name_told id name other square (inl p) (inl q) = p.text ∙ sym q.text
name_told id name other square (inl p) (inr q) = absurd (let high = short_high square.x p.i_fits in let at = q.column in omega (arith, ints))
name_told id name other square (inr p) (inl q) = absurd (let high = short_high square.x q.i_fits in let at = p.column in omega (arith, ints))
name_told id name other square (inr p) (inr q) = p.text ∙ sym q.text

-- The row of a name is near the first row of its id.
record IsNear (z : ℤ) : Type 0 where
  low : neg_ℤ (pos 2147483648) ≤ℤ z
  high : z <ℤ pos 2147483648

row_near : (id name : List ℕ) (square : Square) → IsNameAt id name square → IsNear square.y
row_near id name square (inl at) = record { low = short_low square.y at.j_fits; high = short_high square.y at.j_fits }
row_near id name square (inr at) = let row = at.row in record { low = omega (arith, ints); high = omega (arith, ints) }

-- so the row of a square tells the number of the id
one_number : (y : ℤ) (m n : ℕ) → IsNear (y -ℤ pos m *ℤ ROWS_OF_AN_ID) → IsNear (y -ℤ pos n *ℤ ROWS_OF_AN_ID) → m ≡ n
one_number y m n a b =
    let a0 = a.low in let a1 = a.high in let b0 = b.low in let b1 = b.high in
    elim (cases_order m n) [
      | inl same ↦ same
      | inr (inl less) ↦ absurd (omega (arith, ints))
      | inr (inr more) ↦ absurd (omega (arith, ints))
    ]

-- of equal ids the numbers are equal
one_place : (ids : List (List ℕ)) (id : List ℕ) (m n : ℕ) → Distinct ids → slice_get ids m ≡ Some id → slice_get ids n ≡ Some id → m ≡ n
one_place ids id m n once at there =
    let within = slice_get_within ids m id at in
    let inside = slice_get_within ids n id there in
    let same = get_or_from_slice_get ids m id [] at ∙ sym (get_or_from_slice_get ids n id [] there) in
    elim (cases_order m n) [
      | inl equal ↦ equal
      | inr (inl less) ↦ absurd (Distinct-places ids m n [] once less inside same)
      | inr (inr more) ↦ absurd (Distinct-places ids n m [] once more within (sym same))
    ]

-- the square of the id of the number, lifted to its rows
lowered_tells : (a b : Square) (n : ℕ) → lowered a n ≡ lowered b n → a ≡ b
lowered_tells a b n same =
    let columns : a.x ≡ b.x = ap (λ (s : Square). s.x) same in
    let rows : a.y -ℤ pos n *ℤ ROWS_OF_AN_ID ≡ b.y -ℤ pos n *ℤ ROWS_OF_AN_ID = ap (λ (s : Square). s.y) same in
    square_is a b columns (omega (arith, ints))

-- a name has one square
pub one_square_of : (ids : List (List ℕ)) (name : List ℕ) (a b : Square) → Distinct ids → IsSquareOf ids name a → IsSquareOf ids name b → a ≡ b
one_square_of ids name a b once p q =
    let same : p.id ≡ q.id = id_told p.id name (lowered a p.number) p.id_form p.spot ∙ sym (id_told q.id name (lowered b q.number) q.id_form q.spot) in
    let number : p.number ≡ q.number = one_place ids q.id p.number q.number once (p.there ∙ ap Some same) q.there in
    let spot : IsNameAt q.id name (lowered a q.number) =
    subst (λ (id : List ℕ). IsNameAt id name (lowered a q.number)) same
    (subst (λ (n : ℕ). IsNameAt p.id name (lowered a n)) number p.spot) in
    lowered_tells a b q.number (spot_told q.id name (lowered a q.number) (lowered b q.number) q.id_form spot q.spot)

-- a square has one name
pub one_name_of : (ids : List (List ℕ)) (name other : List ℕ) (square : Square) → IsSquareOf ids name square → IsSquareOf ids other square
    → name ≡ other
one_name_of ids name other square p q =
    let number : p.number ≡ q.number =
    one_number square.y p.number q.number (row_near p.id name (lowered square p.number) p.spot)
    (row_near q.id other (lowered square q.number) q.spot) in
    let found : Some p.id ≡ Some q.id = sym p.there ∙ ap (slice_get ids) number ∙ q.there in
    let same : p.id ≡ q.id = cc in
    let spot : IsNameAt q.id name (lowered square q.number) =
    subst (λ (id : List ℕ). IsNameAt id name (lowered square q.number)) same
    (subst (λ (n : ℕ). IsNameAt p.id name (lowered square n)) number p.spot) in
    name_told q.id name other (lowered square q.number) spot q.spot

-- ids keep their numbers as more come
pub there_later : (ids : List (List ℕ)) (last id : List ℕ) (number : ℕ) → slice_get ids number ≡ Some id → slice_get (ids ++ last ∷ []) number ≡ Some id
there_later ids last id number at =
    let within = slice_get_within ids number id at in
    slice_get-get_or (ids ++ last ∷ []) number [] (omega (arith, within, length-append ids (last ∷ [])))
    ∙ ap Some (get_or_append_left ids (last ∷ []) [] number within ∙ get_or_from_slice_get ids number id [] at)

-- and names their squares
pub square_later : (ids : List (List ℕ)) (last name : List ℕ) (square : Square) → IsSquareOf ids name square → IsSquareOf (ids ++ last ∷ []) name square
square_later ids last name square p =
    record { number = p.number; id = p.id; there = there_later ids last p.id p.number p.there; id_form = p.id_form; spot = p.spot }
