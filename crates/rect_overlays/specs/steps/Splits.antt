-- Regions that are made stacks or cut in two, until none is left.
use Rattle.std.specs.Prelude.{◌≡◌, ◌⊎◌, ℕ, List, AllPairs}
use Rattle.geo_core.specs.FiniteSets.Lists.{In}
use Rattle.geo_core.specs.declared.squares.Square.{Square}
use Rattle.geo_core.specs.declared.squares.Rect.{Rect}
use Rattle.geo_core.specs.Areas.{AreDisjoint}
use Rattle.geo_core.specs.Covering.{Covers}
use Rattle.rect_overlays.specs.declared.cuts.Cut.{Cut}
use Rattle.rect_overlays.specs.declared.regions.Regions.{Regions}
use Rattle.rect_overlays.specs.declared.stacks.Stack.{Stack}
use Rattle.rect_overlays.specs.steps.Cuts.{low_half, high_half}
use Rattle.rect_overlays.specs.steps.Regions.{Region, AllGoRound, AddsPart, Holds, IsRegion}
use Rattle.geo_core.specs.Covering.{CoversAt}
use Rattle.rect_overlays.specs.Stacks.{IsStack}

-- The stack has the area of the region and its members, which all go round it.
pub record IsMade (rects : List Rect) (region : Region) (stack : Stack) : Type 0 where
  pub area : stack.area ≡ region.area
  pub members : stack.members.items ≡ region.members
  pub around : AllGoRound rects region.area region.members

-- What is in the two halves of the region is added to a list of regions.
abbrev pub AddsHalves : List Rect → Region → Cut → List Region → List Region → Type 0
AddsHalves rects region cut before after =
    (between : List Region)
    × (AddsPart rects region.members (low_half region.area cut) before between
    × AddsPart rects region.members (high_half region.area cut) between after)

-- The same of the regions that are kept.
abbrev pub CutsInTwo : List Rect → Region → Cut → Regions → Regions → Type 0
CutsInTwo rects region cut before after =
    (held : List Region) → Holds before held → (held' : List Region) × (Holds after held' × AddsHalves rects region cut held held')

-- The stacks and the regions lie apart and have each square that some rectangle covers.
pub record IsSplit (rects : List Rect) (regions : List Region) (stacks : List Stack) : Type 0 where
  pub each_region : (region : Region) → In region regions → IsRegion rects region
  pub each_stack : (stack : Stack) → In stack stacks → IsStack rects stack
  pub regions_apart : AllPairs (λ a b. AreDisjoint a.area b.area) regions
  pub stacks_apart : AllPairs (λ a b. AreDisjoint a.area b.area) stacks
  pub between : (stack : Stack) (region : Region) → In stack stacks → In region regions → AreDisjoint stack.area region.area
  pub every : (index : ℕ) (square : Square) → CoversAt rects index square
      → ((stack : Stack) × (In stack stacks × Covers stack.area square)) ⊎ ((region : Region) × (In region regions × Covers region.area square))

-- The stacks and the regions that are kept are such a split.
abbrev pub IsSplitWith : List Rect → Regions → List Stack → Type 0
IsSplitWith rects regions stacks = (held : List Region) × (Holds regions held × IsSplit rects held stacks)
