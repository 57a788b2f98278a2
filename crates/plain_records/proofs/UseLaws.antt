-- The elements of uses.
use Rattle.plain_records.proofs.Common.{◌≡◌, ℕ, ◌+◌, ◌<◌, ◌≤◌, List, [], ◌∷◌, ◌++◌, length, map, get_or, take, inl, inr, refl, sym, ◌∙◌, ap, subst}
use Rattle.plain_records.proofs.Common.{arith, Option, Some, None, slice_get, length-map, map-append, In, In-map_source, slice_get-map_source, Grid}
use Rattle.plain_records.proofs.Common.{elements_of, UseRec, ArrayUse, plain_uses, element_use, first_use}
use Rattle.finite_sets.proofs.Places.{take-slice_get}
use Rattle.geo_core.specs.declared.limits.TheConstants.{MOST_ELEMENTS}
use Rattle.geo_core.specs.Elements.{IsLawful}
use Rattle.geo_core.proofs.ElementLaws.{length-elements_of}
use Rattle.ext_model.specs.LawfulArrays.{HasIdForm}
use Rattle.ext_model.specs.Plain.{uses_of_grid}

-- a grid has elements
pub some_elements : (grid : Grid) → 0 < length (elements_of grid)
some_elements grid = omega (arith, length-elements_of grid)

some_of_grid : (used : ArrayUse) (grid : Option Grid) → 0 < length (uses_of_grid used grid)
some_of_grid used None = omega arith
some_of_grid used (Some grid) = omega (arith, length-map (elements_of grid) (element_use used), some_elements grid)

-- a use has elements
pub some_uses : (used : ArrayUse) → 0 < length (plain_uses used)
some_uses used = some_of_grid used used.grid

cell_of_grid : (used : ArrayUse) (grid : Option Grid) (one : UseRec) → In one (uses_of_grid used grid) → one.cell ≡ used.cell
cell_of_grid used None one (inl same) = ap (λ (z : UseRec). z.cell) (sym same)
cell_of_grid used None one (inr none) = absurd none
cell_of_grid used (Some grid) one here =
    let made = In-map_source (element_use used) one (elements_of grid) here in ap (λ (z : UseRec). z.cell) (sym made.1.1)

-- which are of its cell
pub uses_cell : (used : ArrayUse) (one : UseRec) → In one (plain_uses used) → one.cell ≡ used.cell
uses_cell used one here = cell_of_grid used used.grid one here

first_in_list : {X : Type 0} (xs : List X) (d : X) → 0 < length xs → In (get_or xs 0 d) xs
first_in_list [] d some = absurd (omega (arith, some))
first_in_list (x ∷ xs) d some = inl refl

-- the first is one of them
pub first_in : (used : ArrayUse) → In (first_use used) (plain_uses used)
first_in used = first_in_list (plain_uses used) (record { cell = used.cell; id = []; six = [] }) (some_uses used)

-- the grid of a use of its form is lawful
pub grid_lawful : (found : Option Grid) (id : List ℕ) (grid : Grid) → HasIdForm found id → found ≡ Some grid → IsLawful grid
grid_lawful found id grid form is = let F : Option Grid → Type 0 = λ g. HasIdForm g id in let f = subst F is form in f.1

-- and has no more elements than a grid may have
pub few_elements : (grid : Grid) → IsLawful grid → length (elements_of grid) ≤ MOST_ELEMENTS
few_elements grid lawful = omega (arith, length-elements_of grid, lawful.count)

-- one more image
pub images_more : {X Y : Type 0} (f : X → Y) (xs : List X) (k : ℕ) (y : Y) → slice_get (map f xs) k ≡ Some y
    → map f (take (k + 1) xs) ≡ map f (take k xs) ++ y ∷ []
images_more {X} {Y} f xs k y at =
    let made = slice_get-map_source f xs k y at in
    ap (map f) (take-slice_get xs k made.0 made.1.0) ∙ map-append f (take k xs) (made.0 ∷ []) ∙ ap (λ (z : Y). map f (take k xs) ++ z ∷ []) made.1.1
