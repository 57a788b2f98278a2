-- What is told where no cells are made.
use Rattle.layout_gen.proofs.Common.{◌≡◌, ◌+◌, ◌≤◌, ◌∙◌, ℕ, Option, Some, None, length, refl, ap, arith, inl, inr, nat_le, option_map, option_or}
use Rattle.layout_gen.proofs.Common.{cases_Bool, nat_tests, RawTech, MOST_CELLS, MOST_EDITS, LibraryParts, seen, count_seen, TileLayers}
use Rattle.layout_gen.proofs.Common.{GenerateFault, MADE_CELLS, AreLayers, AreNew}
use Rattle.std.specs.Prelude.{◌==◌}
use Rattle.std.specs.Option.{option_map_or}
use Rattle.cell_library.specs.declared.limits.LibraryLimit.TheVariants.{Cells, Edits}
use Rattle.cell_library.specs.Views.{LibraryView}
use Rattle.layout_gen.specs.declared.faults.GenerateFault.TheVariants.{CellExists, NoLayer, TooMany}
use Rattle.layout_gen.specs.Generated.{diff_name, poly_name, row_name, stack_name, tile_name}
use Rattle.layout_gen.specs.Refusals.{IsFaultOrMemory, edits_fault, generate_fault, layers_fault, names_fault, room_fault}

-- what one of two causes is told for, where it comes first
first_told : (first later : Option GenerateFault) (told : GenerateFault) → IsFaultOrMemory first told → IsFaultOrMemory (option_or first later) told
first_told first later told (inl memory) = inl memory
first_told first later told (inr is) = inr (ap (λ (o : Option GenerateFault). option_or o later) is)

-- and where the first is none
later_told : (first later : Option GenerateFault) (told : GenerateFault) → first ≡ None → IsFaultOrMemory later told
    → IsFaultOrMemory (option_or first later) told
later_told first later told none (inl memory) = inl memory
later_told first later told none (inr is) = inr (ap (λ (o : Option GenerateFault). option_or o later) none ∙ is)

-- names that are new are no fault
no_names : (view : LibraryView) → AreNew view → names_fault view ≡ None
no_names view new =
    (λ i. option_or (option_map (λ (cell : ℕ). CellExists tile_name) (new.tile i))
    (option_or (option_map (λ (cell : ℕ). CellExists row_name) (new.row i)) (option_map (λ (cell : ℕ). CellExists stack_name) (new.stack i))))

-- layers that are there are none
no_layers : (raw : RawTech) (layers : TileLayers) → AreLayers raw layers → layers_fault raw ≡ None
no_layers raw layers are =
    (λ i. option_or (option_map_or (λ (layer : ℕ). None) (are.poly i) (Some (NoLayer poly_name)))
    (option_map_or (λ (layer : ℕ). None) (are.diff i) (Some (NoLayer diff_name))))

room_is : (count : ℕ) → count + MADE_CELLS ≤ MOST_CELLS → room_fault count ≡ None
room_is count fits = elim (cases_Bool (nat_le (count + MADE_CELLS) MOST_CELLS)) [
  | inl few ↦ rw few refl
  | inr many ↦ absurd (grind (arith, nat_tests))
]

no_room : (count : ℕ) → (count + MADE_CELLS ≤ MOST_CELLS → ⊥) → room_fault count ≡ Some (TooMany Cells)
no_room count full = elim (cases_Bool (nat_le (count + MADE_CELLS) MOST_CELLS)) [
  | inl few ↦ absurd (full (grind (arith, nat_tests)))
  | inr many ↦ rw many refl
]

module _ (library : LibraryParts) (layers : TileLayers) (edits : ℕ) (new : AreNew (seen library)) (are : AreLayers library.tech layers) where
  -- what is told for want of room
  pub room_told : (length library.contents + MADE_CELLS ≤ MOST_CELLS → ⊥) → IsFaultOrMemory (generate_fault (seen library) edits) (TooMany Cells)
  room_told full =
      later_told (names_fault (seen library)) _ (TooMany Cells) (no_names (seen library) new)
      (later_told (layers_fault library.tech) _ (TooMany Cells) (no_layers library.tech layers are)
      (first_told (room_fault (length (seen library).cells)) (edits_fault edits) (TooMany Cells)
      (inr (ap room_fault (count_seen library) ∙ no_room (length library.contents) full))))

  -- where there is room, the number of edits is left
  edits_left : length library.contents + MADE_CELLS ≤ MOST_CELLS → generate_fault (seen library) edits ≡ edits_fault edits
  edits_left fits =
      (λ i. option_or (no_names (seen library) new i)
      (option_or (no_layers library.tech layers are i)
      (option_or ((ap room_fault (count_seen library) ∙ room_is (length library.contents) fits) i)
      (edits_fault edits))))

  -- too many edits
  pub edits_told : length library.contents + MADE_CELLS ≤ MOST_CELLS → edits ≡ MOST_EDITS → generate_fault (seen library) edits ≡ Some (TooMany Edits)
  edits_told fits full = edits_left fits ∙ ap edits_fault full

  -- nothing is told
  pub none_told : length library.contents + MADE_CELLS ≤ MOST_CELLS → (edits ≡ MOST_EDITS → ⊥) → generate_fault (seen library) edits ≡ None
  none_told fits free = edits_left fits ∙ elim (cases_Bool (edits == MOST_EDITS)) [
    | inl full ↦ absurd (free (grind (arith, nat_tests)))
    | inr few ↦ rw few refl
  ]
