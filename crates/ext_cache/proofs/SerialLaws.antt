-- Records that are made one after another: how far they are counted, and which serials they have.
use Rattle.ext_cache.proofs.Common.{◌≡◌, ◌⊎◌, ◌<◌, ◌+◌, ℕ, List, [], ◌∷◌, length, map, Some, inl, inr, sym, ap, ◌∙◌, arith, option_map, Distinct}
use Rattle.ext_cache.proofs.Common.{ArrayExt, ExtEntry, LibraryParts, Extracted, MakesRecords, Records, dirty_cells, entry_in, is_dirty, stamp_in}
use Rattle.ext_cache.proofs.Common.{with_record}
use Rattle.std.proofs.Common.{suc}
use Rattle.std.specs.List.{range_with_len}
use Rattle.std.specs.Prelude.{Option}
use Rattle.finite_sets.proofs.Distincts.{Distinct-filter}
use Rattle.ext_cache.specs.Caches.{Extracts, HasNewSerials, HasSerialsFor, IsCounted}
use Rattle.ext_cache.specs.Caches.{next_serial, serial_in}
use Rattle.ext_cache.proofs.MakingLaws.{kept_unmade}
use Rattle.ext_cache.proofs.RecordLaws.{found_as, found_here, serial_rises}

-- the cells that were told
abbrev cells_of : List Extracted → List ℕ
cells_of told = map (λ one. one.cell.0) told

module _ (library : LibraryParts) where
  -- each cell of which a record is made is told, in their order
  told_cells : (cells : List ℕ) (records after : Records) (told : List Extracted) → MakesRecords library cells records after told
      → cells_of told ≡ cells
  told_cells [] records after told makes = ap cells_of makes.1
  told_cells (cell ∷ cells) records after told (ext, unattached, rest, now, are, told_is, later) =
      ap cells_of told_is
      ∙ ap (λ (keys : List ℕ). cell ∷ keys) (told_cells cells (with_record records cell ext (stamp_in library cell)) after rest later)

  -- the count after the next record, and the room that is left
  next_made : (records : Records) (cell : ℕ) (ext : ArrayExt) (told rest : List Extracted) (one : Extracted) → told ≡ one ∷ rest
      → HasSerialsFor records (length told)
      → ((with_record records cell ext (stamp_in library cell)).made ≡ suc records.made)
      × HasSerialsFor (with_record records cell ext (stamp_in library cell)) (length rest)
  next_made records cell ext told rest one is room =
      let long : length told ≡ suc (length rest) = ap length is in
      let next : next_serial records.made ≡ suc records.made = serial_rises records.made (omega (arith, room, long)) in
      (next, omega (arith, next, room, long))

  -- the count rises by the number of cells that are told
  made_by_number : (cells : List ℕ) (records after : Records) (told : List Extracted) → MakesRecords library cells records after told
      → HasSerialsFor records (length told) → after.made ≡ records.made + length told
  made_by_number [] records after told makes room =
      let same : after.made ≡ records.made = ap (λ (r : Records). r.made) makes.0 in
      let none : length told ≡ 0 = ap length makes.1 in
      omega (arith, same, none)
  made_by_number (cell ∷ cells) records after told (ext, unattached, rest, now, are, told_is, later) room =
      let one : Extracted = record { cell = record { 0 = cell }; unattached = unattached } in
      let next = next_made records cell ext told rest one told_is room in
      let last = made_by_number cells (with_record records cell ext (stamp_in library cell)) after rest later next.1 in
      let long : length told ≡ suc (length rest) = ap length told_is in
      omega (arith, next.0, last, long)

  -- an entry is one that the cell had, or its serial is above the count
  kept_or_new : (cells : List ℕ) (records after : Records) (told : List Extracted) → MakesRecords library cells records after told
      → HasSerialsFor records (length told) → (key : ℕ) (entry : ExtEntry) → entry_in after key ≡ Some entry
      → (entry_in records key ≡ Some entry) ⊎ (records.made < entry.serial)
  kept_or_new [] records after told makes room key entry is = inl (ap (λ (r : Records). entry_in r key) (sym makes.0) ∙ is)
  kept_or_new (cell ∷ cells) records after told (ext, unattached, rest, now, are, told_is, later) room key entry is =
      let one : Extracted = record { cell = record { 0 = cell }; unattached = unattached } in
      let next = next_made records cell ext told rest one told_is room in
      elim (kept_or_new cells (with_record records cell ext (stamp_in library cell)) after rest later next.1 key entry is) [
        | inl was ↦ elim (found_as records cell ext (stamp_in library cell) key entry was) [
          | inl here ↦
              let serial : next_serial records.made ≡ entry.serial = ap (λ (e : ExtEntry). e.serial) here.1 in
              inr (omega (arith, serial, next.0))
          | inr there ↦ inl there
        ]
        | inr above ↦ inr (omega (arith, above, next.0))
      ]

  -- the cells that are told have the serials that follow the count
  serials_follow : (cells : List ℕ) (records after : Records) (told : List Extracted) → Distinct cells
      → MakesRecords library cells records after told → HasSerialsFor records (length told)
      → map (λ one. serial_in after one.cell.0) told ≡ map Some (range_with_len (records.made + 1) (length told))
  serials_follow [] records after told distinct makes room =
      ap (λ (t : List Extracted). map (λ (one : Extracted). serial_in after one.cell.0) t) makes.1
      ∙ sym (ap (λ (t : List Extracted). map (λ (k : ℕ). Some k) (range_with_len (records.made + 1) (length t))) makes.1)
  serials_follow (cell ∷ cells) records after told distinct (ext, unattached, rest, now, are, told_is, later) room =
      let mid : Records = with_record records cell ext (stamp_in library cell) in
      let one : Extracted = record { cell = record { 0 = cell }; unattached = unattached } in
      let next = next_made records cell ext told rest one told_is room in
      let count : mid.made ≡ records.made + 1 = omega (arith, next.0) in
      let here : serial_in after cell ≡ Some (records.made + 1) =
      ap (λ (found : Option ExtEntry). option_map (λ (e : ExtEntry). e.serial) found)
      (kept_unmade library cells mid after rest later cell distinct.0 ∙ found_here records cell ext (stamp_in library cell))
      ∙ ap (λ (k : ℕ). Some k) count in
      let others = serials_follow cells mid after rest distinct.1 later next.1 in
      ap (λ (t : List Extracted). map (λ (o : Extracted). serial_in after o.cell.0) t) told_is
      ∙ ap (λ (head : Option ℕ). head ∷ map (λ (o : Extracted). serial_in after o.cell.0) rest) here
      ∙ ap (λ (tail : List (Option ℕ)). Some (records.made + 1) ∷ tail) others
      ∙ ap (λ (k : ℕ). Some (records.made + 1) ∷ map (λ (n : ℕ). Some n) (range_with_len (k + 1) (length rest))) count
      ∙ sym (ap (λ (t : List Extracted). map (λ (n : ℕ). Some n) (range_with_len (records.made + 1) (length t))) told_is)

-- What an extraction tells is counted.
pub extraction_is_counted : (library : LibraryParts) (before after : Records) (root : ℕ) (told : List Extracted)
    → Extracts library before root after told → IsCounted library before root after told
extraction_is_counted library before after root told extracts =
    let cells : List ℕ = dirty_cells library before extracts.order in
    record {
      order = extracts.order;
      is_order = extracts.is_order;
      cells = told_cells library cells before after told extracts.makes;
      made = made_by_number library cells before after told extracts.makes;
    }

-- Its records have new serials, where the cells of the order are different.
pub serials_are_new : (library : LibraryParts) (before after : Records) (order : List ℕ) (told : List Extracted) → Distinct order
    → MakesRecords library (dirty_cells library before order) before after told → HasSerialsFor before (length told)
    → HasNewSerials before after told
serials_are_new library before after order told distinct makes room =
    let cells : List ℕ = dirty_cells library before order in
    record {
      each = kept_or_new library cells before after told makes room;
      in_order = serials_follow library cells before after told (Distinct-filter (is_dirty library before) order distinct) makes room;
    }
