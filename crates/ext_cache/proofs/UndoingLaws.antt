-- New records that are put back: the records are then what they were.
use Rattle.ext_cache.proofs.Common.{◌≡◌, ◌==◌, ℕ, Bool, cond, List, [], ◌∷◌, ◌++◌, Option, Some, None, inl, inr, refl, sym, ap, subst, ◌∙◌, IsSome}
use Rattle.ext_cache.proofs.Common.{is_some, unsigned_tied, nat_cmp, eqb_tells, nat_cmp_total, ArrayExt, ExtEntry, Undo, Records, entry_in}
use Rattle.ext_cache.proofs.Common.{with_record, IsLogOf, undo_of, with_entry}
use Rattle.std.specs.FinMap as fin_map
use Rattle.ext_cache.specs.steps.Undoing.{undone}
use Rattle.ext_cache.proofs.RecordLaws.{found_here}

-- the entries after one is put back
with_entry_get : (entries : fin_map.FinMap nat_cmp ExtEntry) (cell : ℕ) (entry : Option ExtEntry) (key : ℕ)
    → fin_map.get (with_entry entries cell entry) key ≡ cond (key == cell) entry (fin_map.get entries key)
with_entry_get entries cell None key =
    fin_map.get-remove nat_cmp_total entries cell key
    ∙ ap (λ (tied : Bool). cond tied None (fin_map.get entries key)) (unsigned_tied key cell)
with_entry_get entries cell (Some entry) key =
    fin_map.get-insert nat_cmp_total entries cell entry key
    ∙ ap (λ (tied : Bool). cond tied (Some entry) (fin_map.get entries key)) (unsigned_tied key cell)

-- an entry that was inserted and then put back leaves the entries as they were
pub put_back_same : (entries : fin_map.FinMap nat_cmp ExtEntry) (cell : ℕ) (entry : ExtEntry)
    → with_entry (fin_map.insert entries cell entry) cell (fin_map.get entries cell) ≡ entries
put_back_same entries cell entry =
    fin_map.same_map nat_cmp_total fin_map.nat_cmp-IsAntisymmetric (with_entry (fin_map.insert entries cell entry) cell (fin_map.get entries cell)) entries
    (λ key. with_entry_get (fin_map.insert entries cell entry) cell (fin_map.get entries cell) key ∙ elim (eqb_tells key cell) [
      | inl same ↦ rw same.0 (ap (fin_map.get entries) (sym same.1))
      | inr other ↦ rw other.0 (with_entry_get entries cell (Some entry) key ∙ rw other.0 refl)
    ])

-- a new record that is put back leaves the records as they were
pub undone_same : (before : Records) (cell : ℕ) (ext : ArrayExt) (stamp : ℕ) → undone (with_record before cell ext stamp) (undo_of before cell) ≡ before
undone_same before cell ext stamp =
    let entry : ExtEntry = record { ext = ext; serial = (with_record before cell ext stamp).made; stamp = stamp } in
    λ i. record { entries = put_back_same before.entries cell entry i; made = before.made }

-- one more record in the log
pub log_more : (before mid : Records) (log : List Undo) (cell : ℕ) (ext : ArrayExt) (stamp : ℕ) → IsLogOf before log mid
    → IsLogOf before (log ++ undo_of mid cell ∷ []) (with_record mid cell ext stamp)
log_more before mid [] cell ext stamp same =
    subst (λ (r : Records). IsLogOf before (undo_of r cell ∷ []) (with_record r cell ext stamp)) (sym same) (ext, stamp, refl, refl)
log_more before mid (undo ∷ log) cell ext stamp (first, at, is, later) =
    (first, at, is, log_more (with_record before undo.cell.0 first at) mid log cell ext stamp later)

-- What the last note of a log says: the records before the last of them was kept.
pub record HasLast (before : Records) (log : List Undo) (undo : Undo) (records : Records) : Type 0 where
  pub mid : Records
  pub ext : ArrayExt
  pub stamp : ℕ
  pub is : undo ≡ undo_of mid undo.cell.0
  pub logged : IsLogOf before log mid
  pub kept : records ≡ with_record mid undo.cell.0 ext stamp

pub last_of : (before records : Records) (log : List Undo) (undo : Undo) → IsLogOf before (log ++ undo ∷ []) records → HasLast before log undo records
last_of before records [] undo (ext, stamp, is, same) =
    record { mid = before; ext = ext; stamp = stamp; is = is; logged = refl; kept = same }
last_of before records (first ∷ log) undo (ext, stamp, is, later) =
    let last = last_of (with_record before first.cell.0 ext stamp) records log undo later in
    record { mid = last.mid; ext = last.ext; stamp = last.stamp; is = last.is; logged = (ext, stamp, is, last.logged); kept = last.kept }

-- the last cell of a log has an entry
pub last_there : (before records : Records) (log : List Undo) (undo : Undo) → HasLast before log undo records → IsSome (entry_in records undo.cell.0)
last_there before records log undo last =
    subst (λ (r : Records). IsSome (entry_in r undo.cell.0)) (sym last.kept)
    (ap (λ (found : Option ExtEntry). is_some found) (found_here last.mid undo.cell.0 last.ext last.stamp))

-- when the last is put back the log before it tells of the records
pub undone_last : (before records : Records) (log : List Undo) (undo : Undo) → HasLast before log undo records → IsLogOf before log (undone records undo)
undone_last before records log undo last =
    let back : undone records undo ≡ last.mid =
    ap (λ (r : Records). undone r undo) last.kept
    ∙ ap (undone (with_record last.mid undo.cell.0 last.ext last.stamp)) last.is
    ∙ undone_same last.mid undo.cell.0 last.ext last.stamp in
    subst (IsLogOf before log) (sym back) last.logged
