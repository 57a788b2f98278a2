-- Tables of uses that grow use by use.
use Rattle.name_classes.proofs.Common.{◌≡◌, ℕ, Bool, true, cond, inl, inr, List, [], ◌∷◌, ◌++◌, length, length-append, sym, ◌∙◌, ap, subst, arith}
use Rattle.name_classes.proofs.Common.{Some, None, slice_get, bytes_eq, bytes_eq-Decides, cases_Bool, In-push_cases, UseRec, CellExt, UseTable}
use Rattle.name_classes.proofs.Common.{number_of, IsTableOf, AreUseTables}
use Rattle.partition.proofs.FiniteSets.Places.{slice_get-append_left, slice_get-push_new}
use Rattle.name_classes.proofs.ListLaws.{slice_get-push_both}

-- the table with one more use
pub table_push : (uses : List UseRec) (used : UseRec) (old new : UseTable) → IsTableOf uses old
    → ((id : List ℕ) → number_of new id ≡ cond (bytes_eq used.id id) (Some (length uses)) (number_of old id))
    → IsTableOf (uses ++ used ∷ []) new
table_push uses used old new table reads = record {
  sound = λ id number found. elim (cases_Bool (bytes_eq used.id id)) [
    | inl same ↦
        let here : Some (length uses) ≡ Some number = sym (ap (λ (t : Bool). cond t (Some (length uses)) (number_of old id)) same) ∙ (sym (reads id) ∙ found) in
        let last : length uses ≡ number = cc in record {
          used = used;
          found = subst (λ (k : ℕ). slice_get (uses ++ used ∷ []) k ≡ Some used) last (slice_get-push_new uses used);
          named = (bytes_eq-Decides used.id id).0 same;
        }
    | inr other ↦
        let before : number_of old id ≡ Some number =
        sym (ap (λ (t : Bool). cond t (Some (length uses)) (number_of old id)) other) ∙ (sym (reads id) ∙ found) in
        let has = table.sound id number before in
        record { used = has.used; found = slice_get-append_left uses (used ∷ []) number has.used has.found; named = has.named }
  ];
  whole = λ id none use_ here named. elim (cases_Bool (bytes_eq used.id id)) [
    | inl same ↦
        let some : Some (length uses) ≡ None = sym (ap (λ (t : Bool). cond t (Some (length uses)) (number_of old id)) same) ∙ (sym (reads id) ∙ none) in
        absurd (cc)
    | inr other ↦
        let before : number_of old id ≡ None = sym (ap (λ (t : Bool). cond t (Some (length uses)) (number_of old id)) other) ∙ (sym (reads id) ∙ none) in
        elim (In-push_cases use_ uses used here) [
          | inl there ↦ table.whole id before use_ there named
          | inr last ↦
              let same : bytes_eq used.id id ≡ true = (bytes_eq-Decides used.id id).1 (ap (λ (u : UseRec). u.id) last ∙ named) in
              absurd (cc)
        ]
  ];
}

-- the tables of one more record
pub tables_push : (exts : List CellExt) (ext : CellExt) (tables : List UseTable) (table : UseTable) → AreUseTables exts tables → IsTableOf ext.uses table
    → AreUseTables (exts ++ ext ∷ []) (tables ++ table ∷ [])
tables_push exts ext tables table are is = record {
  long = omega (arith, length-append exts (ext ∷ []), length-append tables (table ∷ []), are.long);
  each = slice_get-push_both (λ (e : CellExt) (t : UseTable). IsTableOf e.uses t) exts tables ext table are.long are.each is;
}
