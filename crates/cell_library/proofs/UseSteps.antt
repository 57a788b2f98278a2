-- Steps of edits of uses.
use Rattle.cell_library.proofs.Common.{◌≡◌, ◌≢◌, ◌<◌, ◌&&◌, ℕ, true, List, [], ◌∷◌, length, Option, refl, sym, ap, ◌∙◌, arith, Some, None, IfSome}
use Rattle.cell_library.proofs.Common.{option_map, ints, to_z-of_z, and_parts, slice_get_within, Orient, R0, R90, R180, R270, Mx, My, Mx90, My90}
use Rattle.cell_library.proofs.Common.{Transform, is_displacement, UseBody, HasIdAt, IsShift, IsLawfulUse, CellState, Tree, IsLawfulTree, cell_at}
use Rattle.cell_library.proofs.Common.{cell_is, HasUseAt, has_id}
use Rattle.std.specs.Prelude.{IfNone, ℤ, pos, neg_ℤ, ◌+ℤ◌, ◌≤ℤ◌, ◌<ℤ◌, ◌^◌}
use mir.Val.{SFits, of_z, to_z}
use mir.Syntax.{w64}
use Rattle.geo_core.specs.Images.{six_of}
use Rattle.geo_core.specs.Orientation.{orient_of}
use Rattle.geo_core.proofs.OrientationLaws.{six_of-orient_of}
use Rattle.cell_bodies.specs.Numbers.{is_index}
use Rattle.cell_library.specs.Edits.{transform_of, single_use}
use Rattle.cell_library.specs.Refusals.{are_displacements}
use Rattle.cell_library.proofs.UseLists.{has_there}

-- a displacement that a use may have is one that the tree takes
pub shift_of : (z : ℤ) → is_displacement z ≡ true → IsShift z
shift_of z is = record { low = grind (arith, ints); high = grind (arith, ints) }

-- a use of a lawful tree is lawful
pub use_lawful : (tree : Tree) (cell : ℕ) (id : List ℕ) (k : ℕ) (used : UseBody) → IsLawfulTree tree → cell < length tree.cells
    → HasUseAt (cell_at tree.cells cell) id k used → IsLawfulUse used
use_lawful tree cell id k used lawful below has =
    (lawful.cells.uses cell (cell_at tree.cells cell) (cell_is tree.cells cell below) k (id, used) has.is).0

-- and stands among the uses
pub use_within : (cell : CellState) (id : List ℕ) (k : ℕ) (used : UseBody) → HasUseAt cell id k used → k < length cell.uses
use_within cell id k used has = slice_get_within cell.uses k (id, used) has.is

-- where some use has the id, the list has it
pub has_at : (uses : List (List ℕ × UseBody)) (k : ℕ) (id : List ℕ) → HasIdAt uses k id → has_id uses id ≡ true
has_at uses k id has = has_there uses k id has.entry.1 (has.stands ∙ (λ i. Some (has.same i, has.entry.1)))

-- the transform of a transform's six numbers is that transform
transform_back : (t : Transform) → transform_of (six_of t) ≡ Some t
transform_back t = by t.orient
  where
    by : (orient : Orient) → transform_of (six_of (record { orient = orient; dx = t.dx; dy = t.dy })) ≡ Some (record { orient = orient; dx = t.dx; dy = t.dy })
    by R0 = refl
    by R90 = refl
    by R180 = refl
    by R270 = refl
    by Mx = refl
    by My = refl
    by Mx90 = refl
    by My90 = refl

-- six numbers of a transform are those of it
pub transform_found : (six : List ℤ) (t : Transform) → six_of t ≡ six → transform_of six ≡ Some t
transform_found six t is = ap transform_of (sym is) ∙ transform_back t

-- its displacements are the third and the last
pub displacements_same : (six : List ℤ) (t : Transform) → six_of t ≡ six → are_displacements six ≡ (is_displacement t.dx && is_displacement t.dy)
displacements_same six t is = ap are_displacements (sym is)

-- a new use at such displacements is lawful
pub single_lawful : (child : ℕ) (six : List ℤ) (t : Transform) → six_of t ≡ six → are_displacements six ≡ true → IsLawfulUse (single_use child t)
single_lawful child six t is near =
    let both = and_parts (is_displacement t.dx) (is_displacement t.dy) (sym (displacements_same six t is) ∙ near) in
    record { dx = shift_of t.dx both.0; dy = shift_of t.dy both.1; grid = λ grid none. absurd (cc) }

-- ---- six numbers of no transform

some_orient : (a b c d e f : ℤ) (t : Transform) (o : Option Orient) → orient_of a b d e ≡ o
    → option_map (λ orient. record { orient = orient; dx = c; dy = f }) o ≡ Some t → six_of t ≡ a ∷ b ∷ c ∷ d ∷ e ∷ f ∷ []
some_orient a b c d e f t None found is = absurd (cc)
some_orient a b c d e f t (Some orient) found is =
    let same : record { orient = orient; dx = c; dy = f } ≡ t = cc in
    ap six_of (sym same) ∙ six_of-orient_of a b c d e f orient found

-- a transform is one of its six numbers
transform_sound : (six : List ℤ) (t : Transform) → transform_of six ≡ Some t → six_of t ≡ six
transform_sound [] t is = absurd (cc)
transform_sound (a ∷ []) t is = absurd (cc)
transform_sound (a ∷ b ∷ []) t is = absurd (cc)
transform_sound (a ∷ b ∷ c ∷ []) t is = absurd (cc)
transform_sound (a ∷ b ∷ c ∷ d ∷ []) t is = absurd (cc)
transform_sound (a ∷ b ∷ c ∷ d ∷ e ∷ []) t is = absurd (cc)
transform_sound (a ∷ b ∷ c ∷ d ∷ e ∷ f ∷ []) t is = some_orient a b c d e f t (orient_of a b d e) refl is
transform_sound (a ∷ b ∷ c ∷ d ∷ e ∷ f ∷ g ∷ more) t is = absurd (cc)

none_found_by : (six : List ℤ) (o : Option Transform) → transform_of six ≡ o → ((t : Transform) → six_of t ≢ six) → None ≡ transform_of six
none_found_by six None is none = sym is
none_found_by six (Some t) is none = absurd (none t (transform_sound six t is))

-- what a search for a transform answers
pub transform_answer : (six : List ℤ) (o : Option Transform) → IfSome o (λ t. six_of t ≡ six) → IfNone o ((t : Transform) → six_of t ≢ six)
    → o ≡ transform_of six
transform_answer six None some none = none_found_by six (transform_of six) refl none
transform_answer six (Some t) is none = sym (transform_found six t is)

-- ---- moves

-- a coordinate that is moved fits
pub moved_coordinate : (x d : ℤ) → IsShift x → is_index d ≡ true → to_z w64 (of_z w64 (to_z w64 (of_z w64 x) +ℤ to_z w64 (of_z w64 d))) ≡ x +ℤ d
moved_coordinate x d shift index =
    let low : neg_ℤ (pos (2 ^ 31)) ≤ℤ d = grind (arith, ints) in
    let high : d <ℤ pos (2 ^ 31) = grind (arith, ints) in
    let x_fits : SFits w64 x = record { sfits = grind (arith, ints) } in
    let d_fits : SFits w64 d = record { sfits = grind (arith, ints) } in
    let sum_fits : SFits w64 (x +ℤ d) = record { sfits = grind (arith, ints) } in
    (λ i. to_z w64 (of_z w64 (to_z-of_z w64 x x_fits i +ℤ to_z-of_z w64 d d_fits i))) ∙ to_z-of_z w64 (x +ℤ d) sum_fits
