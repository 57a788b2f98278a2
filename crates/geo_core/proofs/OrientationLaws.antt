-- A transform has the factors of an orientation, and each orientation is one of a transform.
use Rattle.geo_core.proofs.Common.{◌≡◌, ℤ, pos, List, length, refl, sym, ap, ◌∙◌, arith, Orient, R0, R90, R180, R270, Mx, My, Mx90, My90, Transform}
use Rattle.std.proofs.Common.{◌≢◌, true, [], ◌∷◌, Option, slice_index_or, true≢false}
use Rattle.std.specs.Prelude.{◌&&◌, Some, None}
use Rattle.std.specs.Option.{is_some}
use Rattle.std.specs.Ordering.{int_eq}
use Rattle.std.proofs.lemmas.Bool.{and_parts}
use Rattle.std.proofs.lemmas.Option.{none-some}
use Rattle.std.proofs.lemmas.Bool.Decides.{Decides-int_eq}
use Rattle.finite_sets.proofs.Searches.{find-passes}
use Rattle.geo_core.specs.Images.{six_of}
use Rattle.geo_core.specs.Orientation.{matrix, all_orients, has_factors, orient_of, is_orientation}

-- the factors of an orientation are its own
pub orient_of-matrix : (o : Orient) → orient_of (matrix o).a (matrix o).b (matrix o).d (matrix o).e ≡ Some o
orient_of-matrix R0 = refl
orient_of-matrix R90 = refl
orient_of-matrix R180 = refl
orient_of-matrix R270 = refl
orient_of-matrix Mx = refl
orient_of-matrix My = refl
orient_of-matrix Mx90 = refl
orient_of-matrix My90 = refl

-- numbers that a transform has are those of its orientation
pub orient_of-six_of : (t : Transform) (a b c d e f : ℤ) → six_of t ≡ a ∷ b ∷ c ∷ d ∷ e ∷ f ∷ [] → orient_of a b d e ≡ Some t.orient
orient_of-six_of t a b c d e f is =
    let o = t.orient in
    let ea : a ≡ (matrix o).a = cc in
    let eb : b ≡ (matrix o).b = cc in
    let ed : d ≡ (matrix o).d = cc in
    let ee : e ≡ (matrix o).e = cc in
    ap (λ (z : ℤ). orient_of z b d e) ea ∙ ap (λ (z : ℤ). orient_of (matrix o).a z d e) eb
    ∙ ap (λ (z : ℤ). orient_of (matrix o).a (matrix o).b z e) ed ∙ ap (λ (z : ℤ). orient_of (matrix o).a (matrix o).b (matrix o).d z) ee
    ∙ orient_of-matrix o

-- an orientation that has these factors gives them, with any displacements, to a transform
pub six_of-orient_of : (a b c d e f : ℤ) (o : Orient) → orient_of a b d e ≡ Some o
    → six_of (record { orient = o; dx = c; dy = f }) ≡ a ∷ b ∷ c ∷ d ∷ e ∷ f ∷ []
six_of-orient_of a b c d e f o found =
    let m = matrix o in
    let three = and_parts (int_eq a m.a && int_eq b m.b && int_eq d m.d) (int_eq e m.e) (find-passes (has_factors a b d e) all_orients o found) in
    let two = and_parts (int_eq a m.a && int_eq b m.b) (int_eq d m.d) three.0 in
    let both = and_parts (int_eq a m.a) (int_eq b m.b) two.0 in
    let ea : a ≡ m.a = (Decides-int_eq a m.a).0 both.0 in
    let eb : b ≡ m.b = (Decides-int_eq b m.b).0 both.1 in
    let ed : d ≡ m.d = (Decides-int_eq d m.d).0 two.1 in
    let ee : e ≡ m.e = (Decides-int_eq e m.e).0 three.1 in
    cc

-- numbers that a transform has are those of an orientation
pub is_orientation-six_of : (t : Transform) (a b c d e f : ℤ) → six_of t ≡ a ∷ b ∷ c ∷ d ∷ e ∷ f ∷ [] → is_orientation a b d e ≡ true
unfolding is_orientation
is_orientation-six_of t a b c d e f is = rw (orient_of-six_of t a b c d e f is) refl

some_orient : (a b d e : ℤ) (found : Option Orient) → orient_of a b d e ≡ found → is_orientation a b d e ≡ true → (o : Orient) × (orient_of a b d e ≡ Some o)
unfolding is_orientation
some_orient a b d e None is some = absurd (true≢false (sym some ∙ ap is_some is))
some_orient a b d e (Some o) is some = (o, is)

-- numbers of an orientation are those of a transform
pub six_of-is_orientation : (a b d e : ℤ) → is_orientation a b d e ≡ true → (t : Transform) × (six_of t ≡ a ∷ b ∷ pos 0 ∷ d ∷ e ∷ pos 0 ∷ [])
six_of-is_orientation a b d e is =
    let one = some_orient a b d e (orient_of a b d e) refl is in
    (record { orient = one.0; dx = pos 0; dy = pos 0 }, six_of-orient_of a b (pos 0) d e (pos 0) one.0 one.1)

-- six numbers with the factors of an orientation are those of its transform
pub six_of-found : (six : List ℤ) (o : Orient) → length six ≡ 6
    → orient_of (slice_index_or six 0 (pos 0)) (slice_index_or six 1 (pos 0)) (slice_index_or six 3 (pos 0)) (slice_index_or six 4 (pos 0)) ≡ Some o
    → six_of (record { orient = o; dx = slice_index_or six 2 (pos 0); dy = slice_index_or six 5 (pos 0) }) ≡ six
six_of-found (a ∷ b ∷ c ∷ d ∷ e ∷ f ∷ []) o count found = six_of-orient_of a b c d e f o found
six_of-found (a ∷ b ∷ c ∷ d ∷ e ∷ f ∷ g ∷ more) o count found = absurd (let no : ⊥ = omega (arith, count) in no)
six_of-found (a ∷ b ∷ c ∷ d ∷ e ∷ []) o count found = absurd (let no : ⊥ = omega (arith, count) in no)
six_of-found (a ∷ b ∷ c ∷ d ∷ []) o count found = absurd (let no : ⊥ = omega (arith, count) in no)
six_of-found (a ∷ b ∷ c ∷ []) o count found = absurd (let no : ⊥ = omega (arith, count) in no)
six_of-found (a ∷ b ∷ []) o count found = absurd (let no : ⊥ = omega (arith, count) in no)
six_of-found (a ∷ []) o count found = absurd (let no : ⊥ = omega (arith, count) in no)
six_of-found [] o count found = absurd (let no : ⊥ = omega (arith, count) in no)

-- six numbers without are those of none
pub six_of-none : (six : List ℤ)
    → orient_of (slice_index_or six 0 (pos 0)) (slice_index_or six 1 (pos 0)) (slice_index_or six 3 (pos 0)) (slice_index_or six 4 (pos 0)) ≡ None
    → (t : Transform) → six_of t ≢ six
six_of-none six none t is =
    let m = matrix t.orient in
    let same : orient_of m.a m.b m.d m.e ≡ None =
    ap (λ (v : List ℤ). orient_of (slice_index_or v 0 (pos 0)) (slice_index_or v 1 (pos 0)) (slice_index_or v 3 (pos 0)) (slice_index_or v 4 (pos 0))) is
    ∙ none in
    none-some t.orient (sym same ∙ orient_of-matrix t.orient)
