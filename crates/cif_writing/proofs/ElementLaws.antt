-- The elements of a grid, one by one.
use Rattle.cif_writing.proofs.Common.{◌≡◌, ℕ, ℤ, map, sym, ap, subst, ◌∙◌, Some, slice_get, Grid, Transform, slice_get-map_there, displacements}
use Rattle.cif_writing.proofs.Common.{element_transform}
use Rattle.std.proofs.lemmas.Option.{same_Some}
use Rattle.geo_core.specs.declared.orients.Orient.TheVariants.{R0}
use Rattle.geo_core.specs.Elements.{elements_of}
use Rattle.geo_core.specs.Images.{composed}
use Rattle.geo_core.specs.Reach.{IsInReach, MovesInReach}
use Rattle.cell_tree.specs.Uses.{IsLawfulGrid}
use Rattle.cell_library.proofs.GridSpots.{IsStepSmall, step_in_reach, step_small}
use Rattle.cell_library.proofs.RowSpots.{kept, kept_step}

module _ (grid : Grid) (lawful : IsLawfulGrid grid) (k : ℕ) (element : ℤ × ℤ × ℤ × ℤ) (at : slice_get (elements_of grid) k ≡ Some element) where
  -- how far the element is displaced
  displaced_there : slice_get (displacements (Some grid)) k ≡ Some (element.2, element.3)
  displaced_there = slice_get-map_there (λ (e : ℤ × ℤ × ℤ × ℤ). (e.2, e.3)) (elements_of grid) k element at

  displaced_little : IsStepSmall (element.2, element.3)
  displaced_little = step_small (Some grid) k (element.2, element.3) (λ g is. subst IsLawfulGrid (same_Some grid g is) lawful) displaced_there

  -- the displacement, its numbers on their way through 64 bits
  abbrev pub moved : Transform
  moved = record { orient = R0; dx = kept element.2; dy = kept element.3 }

  -- it is in reach
  pub moved_in_reach : MovesInReach moved
  moved_in_reach =
      let keeps = kept_step (element.2, element.3) displaced_little in
      let reach = step_in_reach (element.2, element.3) displaced_little in
      record { dx = subst IsInReach (sym keeps.0) reach.dx; dy = subst IsInReach (sym keeps.1) reach.dy }

  -- and makes the element what it is
  pub element_there : (placed stands : Transform) → stands ≡ composed moved placed
      → slice_get (map (element_transform placed) (displacements (Some grid))) k ≡ Some stands
  element_there placed stands is =
      let keeps = kept_step (element.2, element.3) displaced_little in
      slice_get-map_there (element_transform placed) (displacements (Some grid)) k (element.2, element.3) displaced_there
      ∙ (λ i. Some (composed (record { orient = R0; dx = sym keeps.0 i; dy = sym keeps.1 i }) placed))
      ∙ ap Some (sym is)
