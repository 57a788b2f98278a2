-- The finite map of the entries of a hash table, and what a change of the table does to it.
use Rattle.ext_model.proofs.Common.{◌≡◌, ℕ, ◌<◌, ◌≤◌, inl, inr, Bool, true, false, cond, List, [], ◌∷◌, refl, sym, ap, subst, ◌∙◌, arith}
use Rattle.ext_model.proofs.Common.{nat_cmp_total, nat_cmp, ExtEntry, Table}
use Rattle.std.proofs.Common.{Option, Some, None, IsSome}
use Rattle.std.proofs.lemmas.Cmp.{eq_by_cmp_equiv}
use Rattle.std.specs.Cmp.{unsigned_tied}
use Rattle.std.specs.Ordering.{eq_by_cmp}
use Rattle.std.specs.Prelude.{nat_eq}
use Rattle.std.specs.Map.{lookup}
use Rattle.std.specs.FinMap as fin_map
use Rattle.std.specs.FinMap.{FinMap}
use Rattle.std.specs.FinMap.Entries.{find}
use Rattle.ext_model.specs.declared.tables.CellKey.{CellKey}
use Rattle.ext_model.specs.Tables.{entry_of, HasRoomFor}

module _ {X : Type 0} where
  find-lookup : (key : ℕ) (entries : List (ℕ × X)) → find nat_cmp key entries ≡ lookup (nat_eq key) entries
  find-lookup key [] = refl
  find-lookup key (entry ∷ entries) =
      ap (λ (tied : Bool). cond tied (Some entry.1) (find nat_cmp key entries)) (unsigned_tied key entry.0)
      ∙ ap (cond (nat_eq key entry.0) (Some entry.1)) (find-lookup key entries)

  -- a key has what a search along the entries finds
  pub get-from_entries : (entries : List (ℕ × X)) (key : ℕ)
      → fin_map.get (fin_map.from_entries {R = nat_cmp} entries) key ≡ lookup (nat_eq key) entries
  get-from_entries entries key = fin_map.get-from_entries nat_cmp_total entries key ∙ find-lookup key entries

  -- maps that answer alike everywhere are one map
  same_entries : (m n : FinMap nat_cmp X) → ((key : ℕ) → fin_map.get m key ≡ fin_map.get n key) → m ≡ n
  same_entries = fin_map.same_map nat_cmp_total fin_map.nat_cmp-IsAntisymmetric

  -- entries in another order make the same map
  pub from_entries-reordered : (old new : List (ℕ × X)) → ((key : ℕ) → lookup (nat_eq key) new ≡ lookup (nat_eq key) old)
      → ◌≡◌ {A = FinMap nat_cmp X} (fin_map.from_entries new) (fin_map.from_entries old)
  from_entries-reordered old new alike = same_entries _ _ (λ key. get-from_entries new key ∙ alike key ∙ sym (get-from_entries old key))

  -- the same of tests of keys that are turned round
  turned : (key q : ℕ) (value : Option X) (rest : Option X) → cond (nat_eq key q) value rest ≡ cond (eq_by_cmp nat_cmp q key) value rest
  turned key q value rest = ap (λ (tied : Bool). cond tied value rest) (sym (unsigned_tied key q) ∙ (eq_by_cmp_equiv nat_cmp_total).symm key q)

  -- an entry that is put among the entries is put into the map
  pub from_entries-put : (old new : List (ℕ × X)) (key : ℕ) (value : X)
      → ((q : ℕ) → lookup (nat_eq q) new ≡ cond (nat_eq key q) (Some value) (lookup (nat_eq q) old))
      → ◌≡◌ {A = FinMap nat_cmp X} (fin_map.from_entries new) (fin_map.insert (fin_map.from_entries old) key value)
  from_entries-put old new key value put = same_entries _ _ (λ q.
      get-from_entries new q ∙ put q ∙ turned key q (Some value) (lookup (nat_eq q) old)
      ∙ ap (cond (eq_by_cmp nat_cmp q key) (Some value)) (sym (get-from_entries old q))
      ∙ sym (fin_map.get-insert nat_cmp_total (fin_map.from_entries old) key value q))

  -- an entry that is taken out of the entries is taken out of the map
  pub from_entries-taken : (old new : List (ℕ × X)) (key : ℕ)
      → ((q : ℕ) → lookup (nat_eq q) new ≡ cond (nat_eq key q) None (lookup (nat_eq q) old))
      → ◌≡◌ {A = FinMap nat_cmp X} (fin_map.from_entries new) (fin_map.remove (fin_map.from_entries old) key)
  from_entries-taken old new key taken = same_entries _ _ (λ q.
      get-from_entries new q ∙ taken q ∙ turned key q None (lookup (nat_eq q) old)
      ∙ ap (cond (eq_by_cmp nat_cmp q key) None) (sym (get-from_entries old q))
      ∙ sym (fin_map.get-remove nat_cmp_total (fin_map.from_entries old) key q))

-- the entry of a cell is what a search along the entries finds
pub entry_of-entries : (entries : List (ℕ × ExtEntry)) (spare : ℕ) (table : Table) → record { entries = fin_map.from_entries entries; spare = spare } ≡ table
    → (cell : CellKey) → entry_of table cell ≡ lookup (nat_eq cell.0) entries
entry_of-entries entries spare table same cell =
    ap (λ (t : Table). fin_map.get t.entries cell.0) (sym same) ∙ get-from_entries entries cell.0

-- a new entry finds room where a cell has one, or where some is spare
pub finds_room : (old : Table) (cell : CellKey) (spare room : ℕ) → HasRoomFor old cell → spare ≡ old.spare → spare ≤ room → entry_of old cell ≡ None
    → 0 < room
finds_room old cell spare room (inl some) same within none = let never : false ≡ true = subst IsSome none some in cc
finds_room old cell spare room (inr one) same within none = omega arith
