-- Lists of records that are kept, and what is found in them by the names of cells.
use Rattle.library_trees.proofs.Common.{◌≡◌, ◌<◌, ℕ, zero, suc, true, List, [], ◌∷◌, ◌++◌, inl, inr, refl, sym, ap, subst, ◌∙◌, arith, Option, None}
use Rattle.library_trees.proofs.Common.{Some, cases_lt, In, In-append_cases, CellExt, ext_of}
use Rattle.std.proofs.Common.{false, if◌then◌else◌}
use Rattle.std.proofs.Common.{true≢false}
use Rattle.std.specs.Str.{bytes_eq}
use Rattle.std.proofs.lemmas.Bool.{cases_Bool}
use Rattle.std.proofs.lemmas.Option.{none-some, same_Some}
use Rattle.std.proofs.lemmas.Slice.Eq.{bytes_eq-Decides}
use Rattle.finite_sets.proofs.Members.{In-append_left, In-append_right}

-- the record of a cell, by its position, with each element and each merge by itself
abbrev pub PlainRecords : Type 0
PlainRecords = ℕ → Option CellExt

-- a record of the name among some is found under it, where there is no other
pub found_under : (exts : List CellExt) (name : List ℕ) (ext : CellExt) → In ext exts → ext.cell ≡ name
    → ((other : CellExt) → In other exts → other.cell ≡ name → other ≡ ext) → ext_of exts name ≡ Some ext
found_under [] name ext none named one = absurd none
found_under (first ∷ exts) name ext listed named one = elim (cases_Bool (bytes_eq first.cell name)) [
  | inl passes ↦ rw passes (ap (λ (e : CellExt). Some e) (one first (inl refl) ((bytes_eq-Decides first.cell name).0 passes)))
  | inr fails ↦ rw fails (found_under exts name ext (behind fails listed) named (λ other among same. one other (inr among) same))
]
  where
    behind : bytes_eq first.cell name ≡ false → In ext (first ∷ exts) → In ext exts
    behind fails (inl same) =
        absurd (true≢false (sym ((bytes_eq-Decides first.cell name).1 (ap (λ (e : CellExt). e.cell) same ∙ named)) ∙ fails))
    behind fails (inr later) = later

-- the record that is kept of a cell, where it is of that name
abbrev pub named_record : Option CellExt → List ℕ → List CellExt
named_record None name = []
named_record (Some ext) name = if bytes_eq ext.cell name then (ext ∷ []) else []

-- it is the one that is kept, and of that name
record IsNamedRecord (found : Option CellExt) (name : List ℕ) (ext : CellExt) : Type 0 where
  is : found ≡ Some ext
  named : ext.cell ≡ name

named_one : (found : Option CellExt) (name : List ℕ) (ext : CellExt) → In ext (named_record found name) → IsNamedRecord found name ext
named_one None name ext none = absurd none
named_one (Some first) name ext listed = elim (cases_Bool (bytes_eq first.cell name)) [
  | inl passes ↦ only passes (rw passes at listed)
  | inr fails ↦ absurd (rw fails at listed)
]
  where
    only : bytes_eq first.cell name ≡ true → In ext (first ∷ []) → IsNamedRecord (Some first) name ext
    only passes (inl same) = record {
      is = ap (λ (e : CellExt). Some e) same;
      named = ap (λ (e : CellExt). e.cell) (sym same) ∙ (bytes_eq-Decides first.cell name).0 passes;
    }
    only passes (inr none) = absurd none

one_named : (found : Option CellExt) (name : List ℕ) (ext : CellExt) → IsNamedRecord found name ext → In ext (named_record found name)
one_named None name ext is = absurd (none-some ext is.is)
one_named (Some first) name ext is =
    let same : first ≡ ext = same_Some first ext is.is in
    let passes = (bytes_eq-Decides first.cell name).1 (ap (λ (e : CellExt). e.cell) same ∙ is.named) in
    rw passes (inl same)

-- The record is kept at a position below the count, and is of the name there.
pub record IsKeptAt (names : ℕ → List ℕ) (kept : PlainRecords) (count : ℕ) (ext : CellExt) : Type 0 where
  pub position : ℕ
  pub below : position < count
  pub is : kept position ≡ Some ext
  pub named : ext.cell ≡ names position

-- the records that are kept at positions below the count, of the names there
abbrev pub records_to : (ℕ → List ℕ) → PlainRecords → ℕ → List CellExt
records_to names kept zero = []
records_to names kept (suc count) = named_record (kept count) (names count) ++ records_to names kept count

-- each of them is kept there
pub kept_there : (names : ℕ → List ℕ) (kept : PlainRecords) (count : ℕ) (ext : CellExt) → In ext (records_to names kept count)
    → IsKeptAt names kept count ext
kept_there names kept zero ext none = absurd none
kept_there names kept (suc count) ext listed =
    elim (In-append_cases ext (named_record (kept count) (names count)) (records_to names kept count) listed) [
      | inl here ↦
          let is = named_one (kept count) (names count) ext here in
          record { position = count; below = omega arith; is = is.is; named = is.named }
      | inr later ↦
          let at = kept_there names kept count ext later in
          record { position = at.position; below = let within = at.below in omega arith; is = at.is; named = at.named }
    ]

-- and each that is kept there is one of them
pub listed_there : (names : ℕ → List ℕ) (kept : PlainRecords) (count : ℕ) (ext : CellExt) → IsKeptAt names kept count ext
    → In ext (records_to names kept count)
listed_there names kept zero ext at = absurd (let within = at.below in omega arith)
listed_there names kept (suc count) ext at = elim (cases_lt at.position count) [
  | inl before ↦
      In-append_right ext (named_record (kept count) (names count)) (records_to names kept count)
      (listed_there names kept count ext (record { position = at.position; below = before; is = at.is; named = at.named }))
  | inr last ↦
      let same : at.position ≡ count = let within = at.below in omega arith in
      In-append_left ext (named_record (kept count) (names count)) (records_to names kept count)
      (one_named (kept count) (names count) ext
      (subst (λ (n : ℕ). IsNamedRecord (kept n) (names n) ext) same (record { is = at.is; named = at.named })))
]
