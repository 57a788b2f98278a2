-- The spots of a cell's elements, which of them are kept, and what is told at them.
use Rattle.cell_library.proofs.Common.{◌≡◌, ◌+◌, ◌*◌, ℕ, zero, suc, ℤ, List, [], ◌∷◌, ◌++◌, length, take, drop, refl, sym, ap, subst, ◌∙◌, arith}
use Rattle.cell_library.proofs.Common.{inl, inr, append_assoc, Some, slice_get, append-nil, drop_all, In, In-append_cases, Rect, Transform, composed}
use Rattle.cell_library.proofs.Common.{Size, UseBody, displacements, elements_below, CellTree, Standing, PartTile, Spot, element_transform}
use Rattle.cell_library.proofs.Common.{elements_at, elements_from, spots_at, spots_from, own_elements, cells_at, AreSifted, AreSiftedBy, AreNumbered}
use Rattle.cell_library.proofs.Common.{AreToldTo, AddsSpots, placed_cells, placed_below, AddsTiles, AreOutside}
use Rattle.std.proofs.lemmas.List.{length-append}
use Rattle.cell_bodies.specs.LayoutModel.CellTrees.{Elements}
use Rattle.cell_library.proofs.PlacedCells.{cells_in, length-placed}
use Rattle.cell_library.proofs.ToldTiles.{adds_none, adds_both}

-- ---- lists

-- what is left of a list from a place on, where something stands there
pub drop-get : {X : Type 0} (xs : List X) (i : ℕ) (x : X) → slice_get xs i ≡ Some x → drop i xs ≡ x ∷ drop (suc i) xs
drop-get [] i x is = absurd (cc)
drop-get (y ∷ ys) zero x is = ap (λ z. z ∷ ys) (let e : y ≡ x = cc in e)
drop-get (y ∷ ys) (suc i) x is = drop-get ys i x is

-- ---- what is kept

-- spots of two lists that were sifted
pub sifted_append : (P : Spot → Type 0) (all more kept others : List Spot) → AreSiftedBy P all kept → AreSiftedBy P more others
    → AreSiftedBy P (all ++ more) (kept ++ others)
sifted_append P [] more kept others is rest = subst (λ (k : List Spot). AreSiftedBy P more (k ++ others)) (sym is) rest
sifted_append P (spot ∷ all) more kept others (inl (outside, is)) rest = inl (outside, sifted_append P all more kept others is rest)
sifted_append P (spot ∷ all) more kept others (inr (later, same, is)) rest =
    inr (later ++ others, ap (λ (k : List Spot). k ++ others) same, sifted_append P all more later others is rest)

-- what can be dropped for one reason can be for another
pub sifted_weaken : (P Q : Spot → Type 0) (all kept : List Spot) → ((spot : Spot) → In spot all → P spot → Q spot) → AreSiftedBy P all kept
    → AreSiftedBy Q all kept
sifted_weaken P Q [] kept each is = is
sifted_weaken P Q (spot ∷ all) kept each (inl (out, is)) = inl (
  each spot (inl refl) out,
  sifted_weaken P Q all kept (λ other stands. each other
      (inr stands)) is,
)
sifted_weaken P Q (spot ∷ all) kept each (inr (others, same, is)) =
    inr (others, same, sifted_weaken P Q all others (λ other stands. each other (inr stands)) is)

-- what was kept is one of all
pub sifted_in : (P : Spot → Type 0) (all kept : List Spot) (spot : Spot) → AreSiftedBy P all kept → In spot kept → In spot all
sifted_in P [] kept spot is stands = subst (In spot) is stands
sifted_in P (first ∷ all) kept spot (inl (outside, is)) stands = inr (sifted_in P all kept spot is stands)
sifted_in P (first ∷ all) kept spot (inr (others, same, is)) stands = elim (subst (In spot) same stands) [
  | inl here ↦ inl here
  | inr later ↦ inr (sifted_in P all others spot is later)
]

-- no spots were added to those of none
pub spots_none : (P : Spot → Type 0) (old : List Spot) → AddsSpots P [] old old
spots_none P old = record { kept = []; is = sym (append-nil old); sifted = refl }

-- spots were added twice
pub spots_both : (P : Spot → Type 0) (all more old mid new : List Spot) → AddsSpots P all old mid → AddsSpots P more mid new
    → AddsSpots P (all ++ more) old new
spots_both P all more old mid new one two = record {
  kept = one.kept ++ two.kept;
  is = two.is ∙ ap (λ (xs : List Spot). xs ++ two.kept) one.is ∙ append_assoc old one.kept two.kept;
  sifted = sifted_append P all more one.kept two.kept one.sifted two.sifted;
}

-- one spot was added
pub spots_one : (P : Spot → Type 0) (spot : Spot) (old new : List Spot) → new ≡ old ++ spot ∷ [] → AddsSpots P (spot ∷ []) old new
spots_one P spot old new is = record { kept = spot ∷ []; is = is; sifted = inr ([], refl, refl) }

-- spots that can be dropped were
pub spots_dropped : (P : Spot → Type 0) (all old : List Spot) → ((spot : Spot) → In spot all → P spot) → AddsSpots P all old old
spots_dropped P all old each = record { kept = []; is = sym (append-nil old); sifted = dropped all each }
  where
    dropped : (all : List Spot) → ((spot : Spot) → In spot all → P spot) → AreSiftedBy P all []
    dropped [] each = refl
    dropped (spot ∷ all) each = inl (each spot (inl refl), dropped all (λ other stands. each other (inr stands)))

-- The spots before the first that is kept have nothing in the area.
pub record IsNext (trees : ℕ → CellTree) (area : Rect) (all : List Spot) (next : Spot) (more : List Spot) : Type 0 where
  pub skipped : List Spot
  pub later : List Spot
  pub is : all ≡ skipped ++ next ∷ later
  pub outside : AreOutside area (cells_at trees skipped)
  pub left : AreSifted trees area later more

-- there is such a front
pub next_kept : (trees : ℕ → CellTree) (area : Rect) (all : List Spot) (next : Spot) (more : List Spot) → AreSifted trees area all (next ∷ more)
    → IsNext trees area all next more
next_kept trees area [] next more is = absurd (cc)
next_kept trees area (spot ∷ all) next more (inl (outside, is)) =
    let found = next_kept trees area all next more is in
    record {
      skipped = spot ∷ found.skipped;
      later = found.later;
      is = ap (λ (xs : List Spot). spot ∷ xs) found.is;
      outside = λ standing stands. elim (In-append_cases standing (placed_cells 0 spot.part spot.to_top (trees spot.cell.0))
          (cells_at trees found.skipped) stands) [
            | inl here ↦ outside standing here
            | inr there ↦ found.outside standing there
          ];
      left = found.left;
    }
next_kept trees area (spot ∷ all) next more (inr (others, same, is)) =
    let here : spot ≡ next = cc in
    let rest : others ≡ more = cc in
    record {
      skipped = [];
      later = all;
      is = ap (λ (s : Spot). s ∷ all) here;
      outside = λ standing none. absurd none;
      left = subst (AreSifted trees area all) rest is;
    }

-- where nothing is kept any more, nothing has anything in the area
pub none_kept : (trees : ℕ → CellTree) (area : Rect) (all : List Spot) → AreSifted trees area all [] → AreOutside area (cells_at trees all)
none_kept trees area [] is standing none = absurd none
none_kept trees area (spot ∷ all) (inl (outside, is)) standing stands =
    elim (In-append_cases standing (placed_cells 0 spot.part spot.to_top (trees spot.cell.0)) (cells_at trees all) stands) [
      | inl here ↦ outside standing here
      | inr there ↦ none_kept trees area all is standing there
    ]
none_kept trees area (spot ∷ all) (inr (others, same, is)) standing stands = absurd (cc)

-- ---- cells at spots

-- the cells at the spots of two lists
pub cells_at-append : (trees : ℕ → CellTree) (xs ys : List Spot) → cells_at trees (xs ++ ys) ≡ cells_at trees xs ++ cells_at trees ys
cells_at-append trees [] ys = refl
cells_at-append trees (x ∷ xs) ys =
    ap (λ (cells : List Standing). placed_cells 0 x.part x.to_top (trees x.cell.0) ++ cells) (cells_at-append trees xs ys)
    ∙ sym (append_assoc (placed_cells 0 x.part x.to_top (trees x.cell.0)) (cells_at trees xs) (cells_at trees ys))

below_at : (trees : ℕ → CellTree) (step size : ℕ) (outer : Transform) (used : UseBody) (steps : List (ℤ × ℤ)) (rest : Elements) (part number : ℕ)
    → placed_below step part outer (elements_at (trees used.child.0) used.placed steps rest)
    ≡ cells_at trees (spots_at step size outer used steps part number) ++ placed_below step (part + length steps * step) outer rest
below_at trees step size outer used [] rest part number = ap (λ (n : ℕ). placed_below step n outer rest) (let e : part ≡ part + 0 * step =
    omega arith in e)
below_at trees step size outer used (displaced ∷ steps) rest part number =
    let here = placed_cells 0 part (composed (element_transform used.placed displaced) outer) (trees used.child.0) in
    ap (λ (cells : List Standing). here ++ cells)
    (below_at trees step size outer used steps rest (part + step) (number + size)
    ∙ ap (λ (n : ℕ). cells_at trees (spots_at step size outer used steps (part + step) (number + size)) ++ placed_below step n outer rest)
    (let e : part + step + length steps * step ≡ part + suc (length steps) * step = omega arith in e))
    ∙ sym (append_assoc here (cells_at trees (spots_at step size outer used steps (part + step) (number + size)))
    (placed_below step (part + suc (length steps) * step) outer rest))

-- the cells at the spots of uses are those at and below their elements
pub below_from : (trees : ℕ → CellTree) (step : ℕ) (sizes : ℕ → Size) (outer : Transform) (uses : List (List ℕ × UseBody)) (part number : ℕ)
    → placed_below step part outer (elements_from trees uses) ≡ cells_at trees (spots_from step sizes outer uses part number)
below_from trees step sizes outer [] part number = refl
below_from trees step sizes outer (entry ∷ rest) part number =
    let steps = displacements entry.1.grid in
    let size = (sizes entry.1.child.0).elements in
    below_at trees step size outer entry.1 steps (elements_from trees rest) part number
    ∙ ap (λ (cells : List Standing). cells_at trees (spots_at step size outer entry.1 steps part number) ++ cells)
    (below_from trees step sizes outer rest (part + length steps * step) (number + length steps * size))
    ∙ sym (cells_at-append trees (spots_at step size outer entry.1 steps part number)
    (spots_from step sizes outer rest (part + length steps * step) (number + length steps * size)))

-- ---- numbers

numbered_append : (trees : ℕ → CellTree) (first : ℕ) (xs ys : List Spot) → AreNumbered trees first xs
    → AreNumbered trees (first + length (cells_at trees xs)) ys
    → AreNumbered trees first (xs ++ ys)
numbered_append trees first [] ys one two = subst (λ (n : ℕ). AreNumbered trees n ys) (let e : first + 0 ≡ first = omega arith in e) two
numbered_append trees first (x ∷ xs) ys one two =
    let here = placed_cells 0 x.part x.to_top (trees x.cell.0) in
    let long = length-append here (cells_at trees xs) in (
      one.0,
      numbered_append trees (first + length here) xs ys one.1
          (subst (λ (n : ℕ). AreNumbered trees n ys) (let e : first + length (here ++ cells_at trees xs) ≡ first + length here + length
          (cells_at trees xs) = omega (arith, long) in e) two),
    )

-- the number of a spot is that of the first and of all cells at the spots before it
pub numbered_at : (trees : ℕ → CellTree) (first : ℕ) (xs ys : List Spot) (spot : Spot) → AreNumbered trees first (xs ++ spot ∷ ys)
    → spot.element ≡ first + length (cells_at trees xs)
numbered_at trees first [] ys spot numbered = numbered.0 ∙ omega arith
numbered_at trees first (x ∷ xs) ys spot numbered =
    let here = placed_cells 0 x.part x.to_top (trees x.cell.0) in
    let long = length-append here (cells_at trees xs) in
    let later = numbered_at trees (first + length here) xs ys spot numbered.1 in
    omega (arith, long, later)

length-cells_at : (trees : ℕ → CellTree) (step size : ℕ) (outer : Transform) (used : UseBody) (steps : List (ℤ × ℤ)) (part number : ℕ)
    → cells_in (trees used.child.0) ≡ size → length (cells_at trees (spots_at step size outer used steps part number)) ≡ length steps * size
length-cells_at trees step size outer used [] part number same = omega arith
length-cells_at trees step size outer used (displaced ∷ steps) part number same =
    let here = placed_cells 0 part (composed (element_transform used.placed displaced) outer) (trees used.child.0) in
    let long = length-placed 0 part (composed (element_transform used.placed displaced) outer) (trees used.child.0) in
    let later = length-cells_at trees step size outer used steps (part + step) (number + size) same in
    length-append here (cells_at trees (spots_at step size outer used steps (part + step) (number + size))) ∙ omega (arith, long, later, same)

numbered_spots : (trees : ℕ → CellTree) (step size : ℕ) (outer : Transform) (used : UseBody) (steps : List (ℤ × ℤ)) (part number : ℕ)
    → cells_in (trees used.child.0) ≡ size → AreNumbered trees number (spots_at step size outer used steps part number)
numbered_spots trees step size outer used [] part number same = tt
numbered_spots trees step size outer used (displaced ∷ steps) part number same =
    let long = length-placed 0 part (composed (element_transform used.placed displaced) outer) (trees used.child.0) in (
      refl,
      subst (λ (n : ℕ). AreNumbered trees (number + n) (spots_at step size outer used steps (part + step) (number + size))) (sym (long ∙ same))
          (numbered_spots trees step size outer used steps (part + step) (number + size) same),
    )

-- the spots of uses are numbered, where sizes tell how many cells the trees have
pub numbered_from : (trees : ℕ → CellTree) (step : ℕ) (sizes : ℕ → Size) (outer : Transform) (uses : List (List ℕ × UseBody)) (part number : ℕ)
    → ((k : ℕ) (entry : List ℕ × UseBody) → slice_get uses k ≡ Some entry → cells_in (trees entry.1.child.0) ≡ (sizes entry.1.child.0).elements)
    → AreNumbered trees number (spots_from step sizes outer uses part number)
numbered_from trees step sizes outer [] part number same = tt
numbered_from trees step sizes outer (entry ∷ rest) part number same =
    let steps = displacements entry.1.grid in
    let size = (sizes entry.1.child.0).elements in
    let here = spots_at step size outer entry.1 steps part number in
    let later = spots_from step sizes outer rest (part + length steps * step) (number + length steps * size) in
    numbered_append trees number here later (numbered_spots trees step size outer entry.1 steps part number (same 0 entry refl))
    (subst (λ (n : ℕ). AreNumbered trees (number + n) later) (sym (length-cells_at trees step size outer entry.1 steps part number
    (same 0 entry refl)))
    (numbered_from trees step sizes outer rest (part + length steps * step) (number + length steps * size) (λ k other is. same (suc k) other is)))

-- ---- one more spot

-- the spots of the first elements of a use, and one more
pub spots_at-more : (step size : ℕ) (outer : Transform) (used : UseBody) (steps : List (ℤ × ℤ)) (k : ℕ) (displaced : ℤ × ℤ) (part number : ℕ)
    → slice_get steps k ≡ Some displaced
    → spots_at step size outer used (take (suc k) steps) part number
    ≡ spots_at step size outer used (take k steps) part number
    ++ record {
      cell = used.child;
      to_top = composed (element_transform used.placed displaced) outer;
      part = part + k * step;
      element =
          number + k * size;
    } ∷ []
spots_at-more step size outer used [] k displaced part number is = absurd (cc)
spots_at-more step size outer used (first ∷ steps) zero displaced part number is =
    let same : first ≡ displaced = cc in
    let parts : part ≡ part + 0 * step = omega arith in
    let numbers : number ≡ number + 0 * size = omega arith in
    λ i. record { cell = used.child; to_top = composed (element_transform used.placed (same i)) outer; part = parts i; element = numbers i } ∷ []
spots_at-more step size outer used (first ∷ steps) (suc k) displaced part number is =
    let parts : part + step + k * step ≡ part + suc k * step = omega arith in
    let numbers : number + size + k * size ≡ number + suc k * size = omega arith in
    let head : Spot = record { cell = used.child; to_top = composed (element_transform used.placed first) outer; part = part; element = number } in
    ap (λ (spots : List Spot). head ∷ spots)
    (spots_at-more step size outer used steps k displaced (part + step) (number + size) is
    ∙ (λ i. spots_at step size outer used (take k steps) (part + step) (number + size)
    ++ record { cell = used.child; to_top = composed (element_transform used.placed displaced) outer; part = parts i; element = numbers i } ∷ []))

-- the spots of the first uses, and of one more
pub spots_from-more : (step : ℕ) (sizes : ℕ → Size) (outer : Transform) (uses : List (List ℕ × UseBody)) (k : ℕ) (entry : List ℕ × UseBody)
    (part number : ℕ)
    → slice_get uses k ≡ Some entry
    → spots_from step sizes outer (take (suc k) uses) part number
    ≡ spots_from step sizes outer (take k uses) part number
    ++ spots_at step (sizes entry.1.child.0).elements outer entry.1 (displacements entry.1.grid) (part + own_elements (take k uses) * step)
    (number + elements_below sizes (take k uses))
spots_from-more step sizes outer [] k entry part number is = absurd (cc)
spots_from-more step sizes outer (first ∷ uses) zero entry part number is =
    let same : first ≡ entry = cc in
    let parts : part ≡ part + 0 * step = omega arith in
    let numbers : number ≡ number + 0 = omega arith in
    append-nil (spots_at step (sizes first.1.child.0).elements outer first.1 (displacements first.1.grid) part number)
    ∙ (λ i. spots_at step (sizes (same i).1.child.0).elements outer (same i).1 (displacements (same i).1.grid) (parts i) (numbers i))
spots_from-more step sizes outer (first ∷ uses) (suc k) entry part number is =
    let n = length (displacements first.1.grid) in
    let size = (sizes first.1.child.0).elements in
    let front = spots_at step size outer first.1 (displacements first.1.grid) part number in
    let parts : part + n * step + own_elements (take k uses) * step ≡ part + (n + own_elements (take k uses)) * step = omega arith in
    let numbers : number + n * size + elements_below sizes (take k uses) ≡ number + (n * size + elements_below sizes (take k uses)) = omega arith in
    let middle = spots_from step sizes outer (take k uses) (part + n * step) (number + n * size) in
    let last : ℕ → ℕ → List Spot = λ p m. spots_at step (sizes entry.1.child.0).elements outer entry.1 (displacements entry.1.grid) p m in
    ap (λ (spots : List Spot). front ++ spots)
    (spots_from-more step sizes outer uses k entry (part + n * step) (number + n * size) is ∙ (λ i. middle ++ last (parts i) (numbers i)))
    ∙ sym (append_assoc front middle (last (part + (n + own_elements (take k uses)) * step) (number + (n * size + elements_below sizes
    (take k uses)))))

-- ---- what is told

-- the cell's own tiles are told first
pub told_start : (trees : ℕ → CellTree) (area : Rect) (own : Standing) (first : ℕ) (all kept : List Spot) (old now : List PartTile)
    → AddsTiles (own ∷ []) first area old now → AreSifted trees area all kept → AreToldTo trees area own first all kept 0 old now
told_start trees area own first all kept old now adds left = record { done = []; rest = all; is = refl; left = left; adds = adds }

-- then those at each spot that was kept
pub told_next : (trees : ℕ → CellTree) (area : Rect) (own : Standing) (first : ℕ) (all kept : List Spot) (i j : ℕ) (next : Spot)
    (old mid now : List PartTile)
    → AreToldTo trees area own first all kept i old mid → j ≡ suc i → slice_get kept i ≡ Some next → AreNumbered trees (suc first) all
    → AddsTiles (placed_cells 0 next.part next.to_top (trees next.cell.0)) next.element area mid now
    → AreToldTo trees area own first all kept j old now
told_next trees area own first all kept i j next old mid now told after is numbered adds =
    let found = next_kept trees area told.rest next (drop (suc i) kept) (subst (AreSifted trees area told.rest)
    (drop-get kept i next is) told.left) in
    let here = placed_cells 0 next.part next.to_top (trees next.cell.0) in
    let before = cells_at trees told.done in
    let between = cells_at trees found.skipped in
    let whole : all ≡ told.done ++ found.skipped ++ next ∷ found.later =
    told.is ∙ ap (λ (xs : List Spot). told.done ++ xs) found.is ∙ sym (append_assoc told.done found.skipped (next ∷ found.later)) in
    let at : next.element ≡ suc first + length (cells_at trees (told.done ++ found.skipped)) =
    numbered_at trees (suc first) (told.done ++ found.skipped) found.later next (subst (AreNumbered trees (suc first)) whole numbered) in
    let split : length (cells_at trees (told.done ++ found.skipped)) ≡ length before + length between =
    ap (λ (xs : List Standing). length xs) (cells_at-append trees told.done found.skipped) ∙ length-append before between in
    let long : length ((own ∷ before) ++ between) ≡ suc (length before) + length between = length-append (own ∷ before) between in
    let cells : ((own ∷ before) ++ between) ++ here ≡ own ∷ cells_at trees (told.done ++ found.skipped ++ next ∷ []) =
    ap (λ (xs : List Standing). own ∷ (xs ++ here)) (sym (cells_at-append trees told.done found.skipped))
    ∙ ap (λ (xs : List Standing). own ∷ (cells_at trees (told.done ++ found.skipped) ++ xs)) (sym (append-nil here))
    ∙ ap (λ (xs : List Standing). own ∷ xs) (sym (cells_at-append trees (told.done ++ found.skipped) (next ∷ []))) in
    record {
      done = told.done ++ found.skipped ++ next ∷ [];
      rest = found.later;
      is = whole ∙ sym (append_assoc (told.done ++ found.skipped) (next ∷ []) found.later);
      left = subst (λ (n : ℕ). AreSifted trees area found.later (drop n kept)) (sym after) found.left;
      adds = subst (λ (c : List Standing). AddsTiles c first area old now) cells
          (adds_both ((own ∷ before) ++ between) here first next.element area old mid now
          (adds_both (own ∷ before) between first (first + suc (length before)) area old mid mid told.adds refl
          (adds_none between (first + suc (length before)) area mid found.outside))
          (omega (arith, at, split, long)) adds);
    }

-- and behind the last spot that was kept all is told
pub told_end : (trees : ℕ → CellTree) (area : Rect) (own : Standing) (first : ℕ) (all kept : List Spot) (i : ℕ) (old now : List PartTile)
    → AreToldTo trees area own first all kept i old now → i ≡ length kept → AddsTiles (own ∷ cells_at trees all) first area old now
told_end trees area own first all kept i old now told end =
    let before = cells_at trees told.done in
    let after = cells_at trees told.rest in
    let none : drop i kept ≡ [] = ap (λ (n : ℕ). drop n kept) end ∙ drop_all (length kept) kept (omega arith) in
    let outside = none_kept trees area told.rest (subst (AreSifted trees area told.rest) none told.left) in
    let cells : (own ∷ before) ++ after ≡ own ∷ cells_at trees all =
    ap (λ (xs : List Standing). own ∷ xs) (sym (cells_at-append trees told.done told.rest) ∙ ap (cells_at trees) (sym told.is)) in
    subst (λ (c : List Standing). AddsTiles c first area old now) cells
    (adds_both (own ∷ before) after first (first + suc (length before)) area old now now told.adds refl
    (adds_none after (first + suc (length before)) area now outside))
