-- Records that were lent and are taken back.
use Rattle.ext_cache.proofs.Common.{◌≡◌, ◌<◌, ◌+◌, ◌==◌, ℕ, Bool, cond, List, [], ◌∷◌, ◌++◌, get_or, length, map, take, Option, Some, inl, inr, refl}
use Rattle.ext_cache.proofs.Common.{sym, ap, subst, ◌∙◌, IsSome, is_some, option_map, unsigned_tied, eqb_tells, nat_cmp_total, Distinct, In}
use Rattle.ext_cache.proofs.Common.{map-same, ArrayExt, CellKey, ExtEntry, LentNote, Records, entry_in, record_in, AreLent, with_entry}
use Rattle.std.specs.FinMap as fin_map
use Rattle.std.proofs.lemmas.List.{map-append, take_more}
use Rattle.ext_cache.specs.Lending.{LendsOne, entry_with, replaced}
use Rattle.ext_cache.proofs.UndoingLaws.{put_back_same}

-- the numbers of the cells of lent records
abbrev pub cells_of : List LentNote → List ℕ
cells_of notes = map (λ note. note.cell.0) notes

-- the entries of cells once one is put in the place of another
replaced_entry : (records : Records) (cell : ℕ) (entry : ExtEntry) (key : ℕ)
    → entry_in (replaced records cell entry) key ≡ cond (key == cell) (Some entry) (entry_in records key)
replaced_entry records cell entry key =
    fin_map.get-insert nat_cmp_total records.entries cell entry key
    ∙ ap (λ (tied : Bool). cond tied (Some entry) (entry_in records key)) (unsigned_tied key cell)

-- each other cell has its entry still
pub others_stay : (records : Records) (cell : ℕ) (entry : ExtEntry) (key : ℕ) → (key ≡ cell → ⊥)
    → entry_in (replaced records cell entry) key ≡ entry_in records key
others_stay records cell entry key differ =
    replaced_entry records cell entry key ∙ elim (eqb_tells key cell) [
      | inl same ↦ absurd (differ same.1)
      | inr other ↦ rw other.0 refl
    ]

-- and no cell is left without one
pub still_some : (records : Records) (cell : ℕ) (entry : ExtEntry) (key : ℕ) → IsSome (entry_in records key)
    → IsSome (entry_in (replaced records cell entry) key)
still_some records cell entry key some =
    ap is_some (replaced_entry records cell entry key) ∙ elim (eqb_tells key cell) [
      | inl same ↦ rw same.0 refl
      | inr other ↦ rw other.0 some
    ]

-- an entry that is put back in its place leaves the records as they were
pub put_back : (records : Records) (cell : ℕ) (entry other : ExtEntry) → entry_in records cell ≡ Some entry
    → replaced (replaced records cell other) cell entry ≡ records
put_back records cell entry other there =
    let same =
    subst (λ (found : Option ExtEntry). with_entry (fin_map.insert records.entries cell other) cell found ≡ records.entries) there
    (put_back_same records.entries cell other) in
    λ i. record { entries = same i; made = records.made }

-- one more record is lent
pub lent_more : (before mid : Records) (exts : List ArrayExt) (notes : List LentNote) (ext : ArrayExt) (note : LentNote) (other : ExtEntry)
    → AreLent before exts notes mid → entry_in mid note.cell.0 ≡ Some (entry_with ext note)
    → AreLent before (exts ++ ext ∷ []) (notes ++ note ∷ []) (replaced mid note.cell.0 other)
lent_more before mid [] [] ext note other same is =
    (other, ap (λ (r : Records). entry_in r note.cell.0) (sym same) ∙ is, ap (λ (r : Records). replaced r note.cell.0 other) same)
lent_more before mid [] (first ∷ notes) ext note other none is = absurd none
lent_more before mid (first ∷ exts) [] ext note other none is = absurd none
lent_more before mid (first ∷ exts) (of ∷ notes) ext note other (in_place, there, rest) is =
    (in_place, there, lent_more (replaced before of.cell.0 in_place) mid exts notes ext note other rest is)

pub one_more_lent : (before mid after : Records) (cell : ℕ) (exts more : List ArrayExt) (notes longer : List LentNote)
    → AreLent before exts notes mid → LendsOne mid cell exts notes more longer after → AreLent before more longer after
one_more_lent before mid after cell exts more notes longer are one =
    let is = one.is ∙ ap (λ (c : ℕ). replaced mid c one.other) (sym one.of) in
    subst (λ (all : List ArrayExt). AreLent before all longer after) (sym one.exts_are)
    (subst (λ (all : List LentNote). AreLent before (exts ++ one.ext ∷ []) all after) (sym one.notes_are)
    (subst (AreLent before (exts ++ one.ext ∷ []) (notes ++ one.note ∷ [])) (sym is)
    (lent_more before mid exts notes one.ext one.note one.other are (ap (entry_in mid) one.of ∙ one.entry))))

-- and their cells are one more of the list
pub one_more_cell : (mid after : Records) (cells : List CellKey) (place : ℕ) (d : CellKey) (exts more : List ArrayExt) (notes longer : List LentNote)
    → place < length cells → cells_of notes ≡ map (λ cell. cell.0) (take place cells)
    → LendsOne mid (get_or cells place d).0 exts notes more longer after → cells_of longer ≡ map (λ cell. cell.0) (take (place + 1) cells)
one_more_cell mid after cells place d exts more notes longer below so_far one =
    ap cells_of one.notes_are ∙ map-append (λ (note : LentNote). note.cell.0) notes (one.note ∷ [])
    ∙ (λ i. so_far i ++ one.of i ∷ [])
    ∙ sym (map-append (λ (cell : CellKey). cell.0) (take place cells) (get_or cells place d ∷ []))
    ∙ ap (map (λ (cell : CellKey). cell.0)) (sym (take_more cells place d below))

-- The last of the records that were lent is this one.
pub record IsLast (before : Records) (exts : List ArrayExt) (notes : List LentNote) (ext : ArrayExt) (note : LentNote) (records : Records) : Type 0 where
  pub mid : Records
  pub other : ExtEntry
  pub lent : AreLent before exts notes mid
  pub entry : entry_in mid note.cell.0 ≡ Some (entry_with ext note)
  pub is : records ≡ replaced mid note.cell.0 other

pub last_lent : (before records : Records) (exts : List ArrayExt) (notes : List LentNote) (ext : ArrayExt) (note : LentNote)
    → AreLent before (exts ++ ext ∷ []) (notes ++ note ∷ []) records → IsLast before exts notes ext note records
last_lent before records [] [] ext note (other, there, same) =
    record { mid = before; other = other; lent = refl; entry = there; is = same }
last_lent before records [] (of ∷ []) ext note (other, there, none) = absurd none
last_lent before records [] (of ∷ next ∷ notes) ext note (other, there, none) = absurd none
last_lent before records (first ∷ []) [] ext note (other, there, none) = absurd none
last_lent before records (first ∷ second ∷ exts) [] ext note (other, there, none) = absurd none
last_lent before records (first ∷ exts) (of ∷ notes) ext note (other, there, rest) =
    let last = last_lent (replaced before of.cell.0 other) records exts notes ext note rest in
    record { mid = last.mid; other = last.other; lent = (other, there, last.lent); entry = last.entry; is = last.is }

-- where no note is left the records are what they were
pub none_left : (before records : Records) (exts : List ArrayExt) (notes : List LentNote) → notes ≡ [] → AreLent before exts notes records
    → records ≡ before
none_left before records [] [] none same = same
none_left before records (ext ∷ exts) [] none lent = absurd lent
none_left before records exts (note ∷ notes) none lent = cc

-- the cell of the last record has an entry
pub last_there : (before records : Records) (exts : List ArrayExt) (notes : List LentNote) (ext : ArrayExt) (note : LentNote)
    → IsLast before exts notes ext note records → IsSome (entry_in records note.cell.0)
last_there before records exts notes ext note last =
    subst (λ (r : Records). IsSome (entry_in r note.cell.0)) (sym last.is)
    (still_some last.mid note.cell.0 last.other note.cell.0 (ap is_some last.entry))

-- the last record is taken back
pub last_back : (before records : Records) (exts : List ArrayExt) (notes : List LentNote) (ext : ArrayExt) (note : LentNote)
    → IsLast before exts notes ext note records → AreLent before exts notes (replaced records note.cell.0 (entry_with ext note))
last_back before records exts notes ext note last =
    let back : replaced records note.cell.0 (entry_with ext note) ≡ last.mid =
    ap (λ (r : Records). replaced r note.cell.0 (entry_with ext note)) last.is
    ∙ put_back last.mid note.cell.0 (entry_with ext note) last.other last.entry in
    subst (AreLent before exts notes) (sym back) last.lent

-- where each cell stands once, the records that were lent are those that were kept
pub lent_are_kept : (before records : Records) (exts : List ArrayExt) (notes : List LentNote) → AreLent before exts notes records
    → Distinct (cells_of notes) → map (λ ext. Some ext) exts ≡ map (record_in before) (cells_of notes)
lent_are_kept before records [] [] same once = refl
lent_are_kept before records [] (note ∷ notes) none once = absurd none
lent_are_kept before records (ext ∷ exts) [] none once = absurd none
lent_are_kept before records (ext ∷ exts) (note ∷ notes) (other, there, rest) once =
    let here : Some ext ≡ record_in before note.cell.0 = sym (ap (option_map (λ (entry : ExtEntry). entry.ext)) there) in
    let later = lent_are_kept (replaced before note.cell.0 other) records exts notes rest once.1 in
    let same = map-same (record_in (replaced before note.cell.0 other)) (record_in before) (cells_of notes)
    (λ cell among. ap (option_map (λ (entry : ExtEntry). entry.ext))
    (others_stay before note.cell.0 other cell (λ is. once.0 (subst (λ (c : ℕ). In c (cells_of notes)) is among)))) in
    λ i. here i ∷ (later ∙ same) i

-- records of cells, by the numbers of these
pub records_of_numbers : (records : Records) (cells : List CellKey)
    → map (record_in records) (map (λ cell. cell.0) cells) ≡ map (λ cell. record_in records cell.0) cells
records_of_numbers records [] = refl
records_of_numbers records (cell ∷ cells) = ap (λ rest. record_in records cell.0 ∷ rest) (records_of_numbers records cells)
