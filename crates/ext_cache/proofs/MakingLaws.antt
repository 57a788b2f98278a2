-- Records that are made one after another, and which cells are dirty then.
use Rattle.ext_cache.proofs.Common.{◌≡◌, ◌⊎◌, ◌<◌, ℕ, false, List, [], ◌∷◌, ◌++◌, length, Option, inl, inr, refl, sym, ap, subst, ◌∙◌, eqb_tells, In}
use Rattle.ext_cache.proofs.Common.{ArrayExt, ExtEntry, AreUnattached, LibraryParts, seen, view_at, Extracted, Agrees, IsRecordNow, MakesRecords}
use Rattle.ext_cache.proofs.Common.{Records, entry_in, is_dirty, is_stale, stamp_in, with_record}
use Rattle.ext_cache.proofs.RecordLaws.{agrees_made, clean_made, found_there}

-- the cell is listed, or it is none of the list
listed_or_not : (key : ℕ) (cells : List ℕ) → In key cells ⊎ (In key cells → ⊥)
listed_or_not key [] = inr (λ absent. absent)
listed_or_not key (cell ∷ cells) = elim (eqb_tells key cell) [
  | inl same ↦ inl (inl (sym same.1))
  | inr other ↦ elim (listed_or_not key cells) [
    | inl listed ↦ inl (inr listed)
    | inr absent ↦ inr (λ listed. elim listed [ inl same ↦ other.1 (sym same) | inr later ↦ absent later ])
  ]
]

module _ (library : LibraryParts) where
  -- where each of the cells is one of the library, records agree with it when these are made
  pub agrees_making : (cells : List ℕ) (records after : Records) (told : List Extracted) → ((cell : ℕ) → In cell cells → cell < length library.contents)
      → Agrees library records → MakesRecords library cells records after told → Agrees library after
  agrees_making [] records after told there agrees makes = subst (Agrees library) (sym makes.0) agrees
  agrees_making (cell ∷ cells) records after told there agrees (ext, unattached, rest, now, are, told_is, later) =
      agrees_making cells (with_record records cell ext (stamp_in library cell)) after rest (λ key listed. there key (inr listed))
      (agrees_made library records cell ext (there cell (inl refl)) now agrees) later

  -- a cell of which no record is made has the entry that it had
  pub kept_unmade : (cells : List ℕ) (records after : Records) (told : List Extracted) → MakesRecords library cells records after told
      → (key : ℕ) → (In key cells → ⊥) → entry_in after key ≡ entry_in records key
  kept_unmade [] records after told makes key absent = ap (λ (r : Records). entry_in r key) makes.0
  kept_unmade (cell ∷ cells) records after told (ext, unattached, rest, now, are, told_is, later) key absent =
      kept_unmade cells (with_record records cell ext (stamp_in library cell)) after rest later key (λ listed. absent (inr listed))
      ∙ found_there records cell ext (stamp_in library cell) key (λ same. absent (inl (sym same)))

  -- so it is dirty as before
  pub dirty_unmade : (cells : List ℕ) (records after : Records) (told : List Extracted) → MakesRecords library cells records after told
      → (key : ℕ) → (In key cells → ⊥) → is_dirty library after key ≡ is_dirty library records key
  dirty_unmade cells records after told makes key absent =
      ap (λ (found : Option ExtEntry). is_stale found (stamp_in library key)) (kept_unmade cells records after told makes key absent)

  -- a cell of which a record is made is not dirty then
  pub clean_making : (cells : List ℕ) (records after : Records) (told : List Extracted) → MakesRecords library cells records after told
      → (key : ℕ) → In key cells → is_dirty library after key ≡ false
  clean_making [] records after told makes key absent = absurd absent
  clean_making (cell ∷ cells) records after told (ext, unattached, rest, now, are, told_is, later) key listed =
      let made = with_record records cell ext (stamp_in library cell) in
      elim (listed_or_not key cells) [
        | inl again ↦ clean_making cells made after rest later key again
        | inr once ↦
            let here : key ≡ cell = elim listed [ inl same ↦ sym same | inr later_on ↦ absurd (once later_on) ] in
            dirty_unmade cells made after rest later key once
            ∙ subst (λ (at : ℕ). is_dirty library made at ≡ false) (sym here) (clean_made library records cell ext)
      ]

  -- one more record
  pub makes_more : (cells : List ℕ) (cell : ℕ) (records mid : Records) (told : List Extracted) (ext : ArrayExt) (unattached : List (List ℕ))
      → MakesRecords library cells records mid told → IsRecordNow (seen library) cell ext
      → AreUnattached (seen library).tech (view_at (seen library) cell).own (view_at (seen library) cell).labels unattached
      → MakesRecords library (cells ++ cell ∷ []) records (with_record mid cell ext (stamp_in library cell))
      (told ++ record { cell = record { 0 = cell }; unattached = unattached } ∷ [])
  makes_more [] cell records mid told ext unattached (same, none) now are =
      let one : Extracted = record { cell = record { 0 = cell }; unattached = unattached } in (
        ext,
        unattached,
        [],
        now,
        are,
        ap (λ (t : List Extracted). t ++ one ∷ []) none,
        (ap (λ (r : Records). with_record r cell ext (stamp_in library cell)) same, refl),
      )
  makes_more (first ∷ cells) cell records mid told ext unattached (first_ext, first_unattached, rest, first_now, first_are, told_is, later) now are =
      let one : Extracted = record { cell = record { 0 = cell }; unattached = unattached } in (
        first_ext,
        first_unattached,
        rest ++ one ∷ [],
        first_now,
        first_are,
        ap (λ (t : List Extracted). t ++ one ∷ []) told_is,
        makes_more cells cell (with_record records first first_ext (stamp_in library first)) mid rest ext unattached later now are,
      )
