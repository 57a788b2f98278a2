-- The walk over thin records finds the fault of the plain ones.
use Rattle.plain_records.proofs.Common.{◌≡◌, ℕ, zero, suc, ◌<◌, cond, List, [], ◌∷◌, ◌++◌, length, map, inl, inr, refl, sym, ◌∙◌, ap, arith, Option}
use Rattle.plain_records.proofs.Common.{Some, None, flat_map, option_or, option_map, length-map, In, UseRec, CellExt, ArrayUse, ArrayExt, plain}
use Rattle.plain_records.proofs.Common.{plain_uses, FlatFault, Cycle, ext_of, walk_fault, at_use, plains, first_use, thin, thins}
use Rattle.circuit_model.specs.FlatNodes.{is_among}
use Rattle.circuit_model.specs.Refusals.{first_fault, use_fault}
use Rattle.plain_records.proofs.UseLaws.{some_uses, uses_cell, first_in}
use Rattle.plain_records.proofs.PlaceLaws.{array_of, ext_of-plains, ext_of-thins}

twice : (v rest : Option FlatFault) → option_or v (option_or v rest) ≡ option_or v rest
twice None rest = refl
twice (Some fault) rest = refl

-- things that give the same give it once
one_block : (g : UseRec → Option FlatFault) (v : Option FlatFault) (block uses : List UseRec) → ((one : UseRec) → In one block → g one ≡ v)
    → 0 < length block → first_fault g (block ++ uses) ≡ option_or v (first_fault g uses)
one_block g v [] uses same some = absurd (omega (arith, some))
one_block g v (x ∷ []) uses same some = ap (λ o. option_or o (first_fault g uses)) (same x (inl refl))
one_block g v (x ∷ y ∷ block) uses same some =
    ap (λ o. option_or o (first_fault g (y ∷ (block ++ uses)))) (same x (inl refl))
    ∙ ap (option_or v) (one_block g v (y ∷ block) uses (λ one here. same one (inr here)) (omega arith))
    ∙ twice v (first_fault g uses)

-- the first fault of first elements is that of all elements where those of a use have the same
first_blocks : (f g : UseRec → Option FlatFault) (uses : List ArrayUse)
    → ((used : ArrayUse) (one : UseRec) → In one (plain_uses used) → g one ≡ f (first_use used))
    → first_fault f (map first_use uses) ≡ first_fault g (flat_map plain_uses uses)
first_blocks f g [] same = refl
first_blocks f g (used ∷ uses) same =
    ap (option_or (f (first_use used))) (first_blocks f g uses same)
    ∙ sym (one_block g (f (first_use used)) (plain_uses used) (flat_map plain_uses uses) (same used) (some_uses used))

module _ (exts : List ArrayExt) where
  abbrev here : ℕ → List CellExt → List (List ℕ) → List ℕ → Option FlatFault
  here bound records open_cells cell = at_use bound records open_cells cell (ext_of records cell)

  step_same : (bound : ℕ) (open_cells : List (List ℕ)) (cell : List ℕ)
      → ((child : ArrayExt) → use_fault bound (thins exts) (cell ∷ open_cells) (thin child) ≡ use_fault bound (plains exts) (cell ∷ open_cells) (plain child))
      → here bound (thins exts) open_cells cell ≡ here bound (plains exts) open_cells cell
  step_same bound open_cells cell same =
      ap (at_use bound (thins exts) open_cells cell) (ext_of-thins exts cell) ∙ between (array_of exts cell)
      ∙ sym (ap (at_use bound (plains exts) open_cells cell) (ext_of-plains exts cell))
    where
      between : (found : Option ArrayExt)
          → at_use bound (thins exts) open_cells cell (option_map thin found) ≡ at_use bound (plains exts) open_cells cell (option_map plain found)
      between None = refl
      between (Some child) = ap (cond (is_among open_cells cell) (Some (Cycle cell))) (same child)

  use_fault-thin : (bound : ℕ) (open_cells : List (List ℕ)) (ext : ArrayExt)
      → use_fault bound (thins exts) open_cells (thin ext) ≡ use_fault bound (plains exts) open_cells (plain ext)
  unfolding use_fault
  use_fault-thin zero open_cells ext = refl
  use_fault-thin (suc bound) open_cells ext =
      first_blocks (λ used. here bound (thins exts) open_cells used.cell) (λ used. here bound (plains exts) open_cells used.cell) ext.uses
      (λ used one at.
      ap (here bound (plains exts) open_cells) (uses_cell used one at)
      ∙ sym (step_same bound open_cells used.cell (use_fault-thin bound (used.cell ∷ open_cells)))
      ∙ sym (ap (here bound (thins exts) open_cells) (uses_cell used (first_use used) (first_in used))))

  -- the fault of the walk
  pub walk-thin : (top : ArrayExt) → walk_fault (thins exts) (thin top) ≡ walk_fault (plains exts) (plain top)
  walk-thin top =
      ap (λ n. use_fault (suc n) (thins exts) (top.cell ∷ []) (thin top)) (length-map exts thin ∙ sym (length-map exts plain))
      ∙ use_fault-thin (suc (length (plains exts))) (top.cell ∷ []) top
