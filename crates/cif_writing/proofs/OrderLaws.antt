-- The cells of a library order are cells of the library, and an index of them gives their numbers.
use Rattle.cif_writing.proofs.Common.{◌≡◌, ◌+◌, ◌<◌, ℕ, Bool, List, [], ◌∷◌, ◌++◌, map, take, sym, ap, ◌∙◌, length, arith, Option, Some, slice_get}
use Rattle.cif_writing.proofs.Common.{CellKey, In, slice_get-map_there, children_in, IsLawfulLibrary, LibraryParts, seen, symbol_number}
use Rattle.std.proofs.Common.{if◌then◌else◌}
use Rattle.std.specs.Prelude.{nat_eq, unwrap_or}
use Rattle.std.specs.List.{position, position_or_len}
use Rattle.std.proofs.lemmas.Bool.Decides.{Decides-eqb}
use Rattle.std.proofs.lemmas.List.{map-append}
use Rattle.indexmap.specs.IndexSet.{insert_key}
use Rattle.geo_core.specs.FiniteSets.Lists.{Distinct, Lists}
use Rattle.geo_core.proofs.FiniteSets.Members.{In-map_source}
use Rattle.geo_core.proofs.FiniteSets.Places.{one_place, slice_get-In_take, take-slice_get}
use Rattle.geo_core.proofs.FiniteSets.Searches.{list_any-of_absent}
use Rattle.geo_core.proofs.FiniteSets.FirstPlaces.{found_or_length}
use Rattle.use_orders.specs.Uses.{IsAtOrBelow}
use Rattle.cell_library.proofs.ChildLaws.{below_there}

module _ (library : LibraryParts) (lawful : IsLawfulLibrary library) where
  -- so the cells of an order are
  pub order_there : (root : ℕ) (order : List ℕ) → root < length library.contents → Lists (IsAtOrBelow (children_in (seen library)) root) order
      → (cell : ℕ) → In cell order → cell < length library.contents
  order_there root order there lists cell among = below_there library lawful root cell there (lists.2 cell among)

-- ---- an index of cells

-- the next cell is none of those before it
new_cell : (order : List CellKey) (k : ℕ) (key : CellKey) → Distinct (map (λ (one : CellKey). one.0) order) → slice_get order k ≡ Some key
    → In key.0 (map (λ (one : CellKey). one.0) (take k order)) → ⊥
new_cell order k key once at there =
    let from = In-map_source (λ (one : CellKey). one.0) key.0 (take k order) there in
    let before = slice_get-In_take order k from.0 from.1.0 in
    let same : before.0 ≡ k =
    one_place (map (λ (one : CellKey). one.0) order) before.0 k key.0 once
    (slice_get-map_there (λ (one : CellKey). one.0) order before.0 from.0 before.1.1 ∙ ap Some from.1.1)
    (slice_get-map_there (λ (one : CellKey). one.0) order k key at) in
    let earlier = before.1.0 in
    absurd (omega arith)

-- one cell more
pub cells_more : (order : List CellKey) (k : ℕ) (key : CellKey) (keys new : List ℕ) → Distinct (map (λ (one : CellKey). one.0) order)
    → slice_get order k ≡ Some key → keys ≡ map (λ (one : CellKey). one.0) (take k order) → new ≡ insert_key nat_eq keys key.0
    → new ≡ map (λ (one : CellKey). one.0) (take (k + 1) order)
cells_more order k key keys new once at are is =
    let old = map (λ (one : CellKey). one.0) (take k order) in
    is ∙ ap (λ (l : List ℕ). insert_key nat_eq l key.0) are
    ∙ ap (λ (known : Bool). if known then old else old ++ key.0 ∷ [])
    (list_any-of_absent nat_eq Decides-eqb key.0 old (new_cell order k key once at))
    ∙ sym (map-append (λ (one : CellKey). one.0) (take k order) (key ∷ []))
    ∙ ap (map (λ (one : CellKey). one.0)) (sym (take-slice_get order k key at))

-- so the number of a cell's symbol is found
pub number_found : (keys order : List ℕ) (cell found count : ℕ) (place : Option ℕ) → keys ≡ order → place ≡ position (nat_eq cell) keys
    → count ≡ length keys → found ≡ unwrap_or place count → found + 1 ≡ symbol_number order cell
number_found keys order cell found count place same at many is =
    let first : found ≡ position_or_len (nat_eq cell) order =
    is ∙ (λ i. unwrap_or (at i) (many i)) ∙ found_or_length (nat_eq cell) keys ∙ ap (position_or_len (nat_eq cell)) same in
    omega arith
