-- Files: what a name has after a file is put under a name.
use Rattle.std.proofs.Common.{◌≡◌, ℕ, List, [], ◌∷◌, map, Bool, true, cond, refl, sym, ap, subst, ◌∙◌, ◌&&◌, T}
use Rattle.std.specs.Prelude.{Some}
use Rattle.std.specs.Ordering.{nat_cmp, eq_by_cmp, is_lt}
use Rattle.std.specs.declared.cmp.Ordering.{Ordering}
use Rattle.std.specs.declared.cmp.Ordering.TheVariants.{Less}
use Rattle.std.specs.Cmp.{eq_by_cmp_equiv}
use Rattle.std.specs.Cmp.Lexicographic.{slice_cmp, nat_list_cmp_total}
use Rattle.std.specs.FinMap as finmap
use Rattle.std.specs.FinMap.Entries.{find, below_all, is_sorted}
use Rattle.std.specs.List.{AllByRecursion}
use Rattle.std.specs.List.Sorted.{IsStrictlySortedBy}
use Rattle.std.specs.BTreeMap.{is_at}
use Rattle.std.specs.Map.{lookup}
use Rattle.outside_io.specs.Files.{Files, bytes_of, names_of, with_file}

-- names tie only where they are one
names_apart : finmap.IsAntisymmetric (slice_cmp nat_cmp)
names_apart = finmap.slice_cmp-IsAntisymmetric finmap.nat_cmp-IsAntisymmetric

-- two shelves whose names have the same bytes are the same
pub same_files : (old new : Files) → ((name : List ℕ) → bytes_of old name ≡ bytes_of new name) → old ≡ new
same_files = finmap.same_map nat_list_cmp_total names_apart

-- after a file was put, its name has its bytes, and each other name its own
pub bytes_of-with_file : (files : Files) (name bytes other : List ℕ)
    → bytes_of (with_file files name bytes) other ≡ cond (eq_by_cmp (slice_cmp nat_cmp) other name) (Some bytes) (bytes_of files other)
bytes_of-with_file files name bytes other = finmap.get-insert nat_list_cmp_total files name bytes other

find-lookup : (name : List ℕ) (entries : List (List ℕ × List ℕ)) → find (slice_cmp nat_cmp) name entries ≡ lookup (is_at (slice_cmp nat_cmp name)) entries
find-lookup name [] = refl
find-lookup name (entry ∷ entries) = ap (cond (eq_by_cmp (slice_cmp nat_cmp) name entry.0) (Some entry.1)) (find-lookup name entries)

-- the bytes of a name are those of its entry
pub bytes_of-from_entries : (entries : List (List ℕ × List ℕ)) (name : List ℕ)
    → bytes_of (finmap.from_entries entries) name ≡ lookup (is_at (slice_cmp nat_cmp name)) entries
bytes_of-from_entries entries name = finmap.get-from_entries nat_list_cmp_total entries name ∙ find-lookup name entries

-- entries that are updated at a name make the files with a file put under it
pub from_entries-updated : (old new : List (List ℕ × List ℕ)) (name bytes : List ℕ)
    → ((q : List ℕ) → lookup (is_at (slice_cmp nat_cmp q)) new
    ≡ cond (is_at (slice_cmp nat_cmp name) q) (Some bytes) (lookup (is_at (slice_cmp nat_cmp q)) old))
    → ◌≡◌ {A = Files} (finmap.from_entries new) (with_file (finmap.from_entries old) name bytes)
from_entries-updated old new name bytes updated = same_files _ _ (λ q.
    bytes_of-from_entries new q ∙ updated q
    ∙ ap (λ (b : Bool). cond b (Some bytes) (lookup (is_at (slice_cmp nat_cmp q)) old)) ((eq_by_cmp_equiv nat_list_cmp_total).symm name q)
    ∙ ap (cond (eq_by_cmp (slice_cmp nat_cmp) q name) (Some bytes)) (sym (bytes_of-from_entries old q))
    ∙ sym (bytes_of-with_file (finmap.from_entries old) name bytes q))

-- a name that is below each of these names stands before their entries
below_all-from_order : (name : List ℕ) (entries : List (List ℕ × List ℕ))
    → AllByRecursion (λ other. slice_cmp nat_cmp name other ≡ Less) (map (λ e. e.0) entries) → below_all (slice_cmp nat_cmp) name entries ≡ true
below_all-from_order name [] below = refl
below_all-from_order name (e ∷ entries) below =
    ap (λ (r : Ordering). is_lt r && below_all (slice_cmp nat_cmp) name entries) below.0 ∙ below_all-from_order name entries below.1

-- entries are in order where their names rise
is_sorted-from_order : (entries : List (List ℕ × List ℕ))
    → IsStrictlySortedBy (slice_cmp nat_cmp) (map (λ e. e.0) entries) → is_sorted (slice_cmp nat_cmp) entries ≡ true
unfolding IsStrictlySortedBy
is_sorted-from_order [] order = refl
is_sorted-from_order (e ∷ entries) order =
    ap (λ (b : Bool). b && is_sorted (slice_cmp nat_cmp) entries) (below_all-from_order e.0 entries order.0) ∙ is_sorted-from_order entries order.1

-- the names of entries whose names rise
pub names_of-from_entries : (entries : List (List ℕ × List ℕ))
    → IsStrictlySortedBy (slice_cmp nat_cmp) (map (λ e. e.0) entries) → names_of (finmap.from_entries entries) ≡ map (λ e. e.0) entries
names_of-from_entries entries order =
    let rising : T (is_sorted (slice_cmp nat_cmp) entries) = subst T (sym (is_sorted-from_order entries order)) tt in
    let same : ◌≡◌ {A = Files} (finmap.from_entries entries) (finmap.from_sorted entries) =
    same_files _ _ (λ q. finmap.get-from_entries nat_list_cmp_total entries q ∙ sym (finmap.get-from_sorted (slice_cmp nat_cmp) entries q rising)) in
    ap names_of same ∙ ap (map (λ e. e.0)) (finmap.entries-from_sorted (slice_cmp nat_cmp) entries rising)
