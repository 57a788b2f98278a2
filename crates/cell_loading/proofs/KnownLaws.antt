-- Which names cells have, of the library and of those that were read, and whether there is room for one more.
use Rattle.cell_loading.proofs.Common.{◌≡◌, ◌≤◌, ◌+◌, inl, inr, ℕ, Bool, false, List, [], refl, sym, ap, ◌∙◌, arith, ◌||◌, Option, Some, None}
use Rattle.cell_loading.proofs.Common.{IsSome, list_any, bytes_eq, CellBody, LibraryParts, seen, cell_named, names_of, is_among, names_in}
use Rattle.std.proofs.Common.{◌-◌, true≢false}
use Rattle.std.specs.Prelude.{nat_le, is_some}
use Rattle.std.specs.List.{position}
use Rattle.std.specs.Option.{option_map}
use Rattle.std.proofs.lemmas.Bool.{cases_Bool, le-leb, leb-true}
use Rattle.std.proofs.lemmas.List.Folds.{list_any-append, list_any_at, list_any_none}
use Rattle.std.proofs.lemmas.List.Quantifiers.{position-Some}
use Rattle.std.proofs.lemmas.List.Sums.{fails_before_first}
use Rattle.cell_tree.specs.ExtModel.declared.tables.CellKey.{CellKey}
use Rattle.mag_text.specs.CellLibrary.declared.limits.TheConstants.{MOST_CELLS}
use Rattle.mag_text.proofs.CellLibrary.ContentLaws.{position_past}

found_or_not : (test : List ℕ → Bool) (names : List (List ℕ)) (found : Option ℕ) → position test names ≡ found
    → is_some (position test names) ≡ list_any test names
found_or_not test names None is =
    let past = position_past test names is in
    ap is_some is ∙ sym (list_any_none test names (λ k d inside. fails_before_first test names k d (omega (arith, past, inside))))
found_or_not test names (Some k) is =
    let there = position-Some test names k [] is in
    ap is_some is ∙ sym (list_any_at test names k [] there.0 there.1)

some_mapped : {X Y : Type 0} (f : X → Y) (found : Option X) → is_some found ≡ is_some (option_map f found)
some_mapped f None = refl
some_mapped f (Some x) = refl

-- a name is known where the library has it, or a cell that was read
pub known_is_among : (library : LibraryParts) (cells : List (List ℕ × CellBody)) (name : List ℕ) (found : Option CellKey) (has : Bool)
    → option_map (λ key. key.0) found ≡ cell_named (seen library) name → has ≡ list_any (bytes_eq name) (names_in cells)
    → (is_some found || has) ≡ is_among (seen library) cells name
known_is_among library cells name found has is has_is =
    let some : is_some found ≡ list_any (bytes_eq name) (names_of (seen library).cells) =
    some_mapped (λ (key : CellKey). key.0) found ∙ ap is_some is ∙ found_or_not (bytes_eq name) (names_of (seen library).cells) (cell_named
    (seen library) name) refl in
    (λ i. some i || has_is i) ∙ sym (list_any-append (bytes_eq name) (names_of (seen library).cells) (names_in cells))

-- where nothing was read, the names are the library's
pub new_is_not_among : (library : LibraryParts) (name : List ℕ) (found : Option CellKey)
    → option_map (λ key. key.0) found ≡ cell_named (seen library) name → is_some found ≡ false → is_among (seen library) [] name ≡ false
new_is_not_among library name found is none =
    sym (known_is_among library [] name found false is refl) ∙ ap (λ (b : Bool). b || false) none

nat_le_same : (a b c d : ℕ) → (a ≤ b → c ≤ d) → (c ≤ d → a ≤ b) → nat_le a b ≡ nat_le c d
nat_le_same a b c d on back = elim (cases_Bool (nat_le a b)) [
  | inl holds ↦ holds ∙ sym (le-leb c d (on (leb-true a b holds)))
  | inr fails ↦ elim (cases_Bool (nat_le c d)) [
    | inl holds ↦ le-leb a b (back (leb-true c d holds)) ∙ sym holds
    | inr also ↦ fails ∙ sym also
  ]
]

-- the room that is left is none where the cells are as many as may be
pub full_either_way : (contents seen read count read_count : ℕ) → count ≡ contents → read_count ≡ read → seen ≡ contents → contents ≤ MOST_CELLS
    → nat_le (MOST_CELLS - count) read_count ≡ nat_le MOST_CELLS (seen + read)
full_either_way contents seen read count read_count is read_is seen_is few =
    nat_le_same (MOST_CELLS - count) read_count MOST_CELLS (seen + read) (λ full. omega (arith, full)) (λ full. omega (arith, full))

-- a name that isn't found is not the name of a cell
pub not_named : (library : LibraryParts) (name : List ℕ) (found : Option CellKey) → option_map (λ key. key.0) found ≡ cell_named (seen library) name
    → is_some found ≡ false → IsSome (cell_named (seen library) name) → ⊥
not_named library name found is none some =
    true≢false (sym some ∙ sym (some_mapped (λ (key : CellKey). key.0) found ∙ ap is_some is) ∙ none)
