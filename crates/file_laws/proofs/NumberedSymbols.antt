-- Symbols that are numbered from 1 are found by their numbers.
use Rattle.file_laws.proofs.Common.{◌≡◌, ◌<◌, ℕ, suc, pos, true, false, List, length, refl, sym, ap, ◌∙◌, arith, inl, inr, slice_get, int_eq}
use Rattle.file_laws.proofs.Common.{cases_Bool, slice_get_within, In-slice_get, slice_get-In, slice_get-below, CifSymbol}
use Rattle.std.specs.Prelude.{Some}
use Rattle.std.proofs.lemmas.Bool.Decides.{Decides-int_eq}
use Rattle.finite_sets.proofs.Searches.{list_any-fails, list_any-passes}
use Rattle.cif_reading.specs.Drafts.{has_number, has_symbol, symbol_place}
use Rattle.finite_sets.proofs.FirstPlaces.{first_place}

-- Each symbol has the number behind its place.
abbrev pub AreNumbered : List CifSymbol → Type 0
AreNumbered symbols = (place : ℕ) (symbol : CifSymbol) → slice_get symbols place ≡ Some symbol → symbol.number ≡ pos (suc place)

module _ (symbols : List CifSymbol) (are : AreNumbered symbols) where
  -- whether a symbol at a place has a number
  number_passes : (n place : ℕ) (symbol : CifSymbol) → slice_get symbols place ≡ Some symbol → n ≡ suc place → has_number (pos n) symbol ≡ true
  number_passes n place symbol at is =
      let same : symbol.number ≡ pos n = are place symbol at ∙ ap pos (sym is) in
      ap (λ z. int_eq (pos n) z) same ∙ (Decides-int_eq (pos n) (pos n)).1 refl

  number_fails : (n place : ℕ) (symbol : CifSymbol) → slice_get symbols place ≡ Some symbol → (n ≡ suc place → ⊥) → has_number (pos n) symbol ≡ false
  number_fails n place symbol at differ = elim (cases_Bool (has_number (pos n) symbol)) [
    | inl passes ↦ (
        let same : pos n ≡ pos (suc place) = (Decides-int_eq (pos n) symbol.number).0 passes ∙ are place symbol at in
        absurd (differ (let numbers : n ≡ suc place = cc in numbers)))
    | inr fails ↦ fails
  ]

  -- a symbol is found by the number behind its place
  pub numbered_place : (place : ℕ) → place < length symbols → symbol_place (pos (suc place)) symbols ≡ place
  numbered_place place below =
      let at = slice_get-below symbols place below in
      first_place (has_number (pos (suc place))) symbols place at.0 at.1 (number_passes (suc place) place at.0 at.1 refl)
      (λ j other less there. number_fails (suc place) j other there (λ same. omega arith))

  -- and so there is one
  pub numbered_there : (place : ℕ) → place < length symbols → has_symbol (pos (suc place)) symbols ≡ true
  unfolding has_symbol
  numbered_there place below =
      let at = slice_get-below symbols place below in
      list_any-passes (has_number (pos (suc place))) symbols at.0 (In-slice_get symbols place at.0 at.1) (number_passes (suc place) place at.0 at.1 refl)

  -- the next number is new
  pub numbered_new : has_symbol (pos (suc (length symbols))) symbols ≡ false
  unfolding has_symbol
  numbered_new =
      list_any-fails (has_number (pos (suc (length symbols)))) symbols
      (λ symbol among. (
      let at = slice_get-In symbol symbols among in
      let within = slice_get_within symbols at.0 symbol at.1 in
      number_fails (suc (length symbols)) at.0 symbol at.1 (λ same. omega arith)))
