-- What a size rests on, and how it grows use by use.
use Rattle.cell_tree.proofs.Common.{◌≡◌, ℕ, zero, suc, ◌+◌, ◌*◌, ◌-◌, ◌<◌, ◌≤◌, max, List, [], ◌∷◌, ◌++◌, take, drop, length, Option, Some, None}
use Rattle.cell_tree.proofs.Common.{refl, sym, ap, subst, ◌∙◌, arith, insert, option_map, option_to_list, mul-le-mul_right, same_Some, Rect}
use Rattle.cell_tree.proofs.Common.{Dimension, Depth, Elements, Hull, Size, UseBody, displacements, with_use_at, element_hulls, round_both}
use Rattle.cell_tree.proofs.Common.{round_all, CellState, grown, AreAlike, IsWithin, IsHullInRange}
use Rattle.std.specs.Prelude.{slice_get}
use Rattle.std.proofs.lemmas.List.{take_all, length-drop, take-append-drop}
use Rattle.cell_tree.specs.declared.limits.TheConstants.{MOST_DEPTH, MOST_ELEMENTS_BELOW}
use Rattle.cell_tree.specs.Sizes.{size_of, added, with_use, own_size, hulls_below, elements_below, depth_below}
use Rattle.cell_tree.proofs.HullLaws.{round_both_assoc, round_both_none, round_both_swap, round_all-append}

-- sizes of equal parts are equal
pub size_is : (a b : Size) → a.hull ≡ b.hull → a.elements ≡ b.elements → a.depth ≡ b.depth → a ≡ b
size_is a b hulls elements depths =
    let whole : record { hull = a.hull; elements = a.elements; depth = a.depth } ≡ b = rw (hulls, elements, depths) refl in whole

-- sizes that are alike in all dimensions are equal
pub alike_all : (a b : Size) → ((dimension : Dimension) → AreAlike dimension a b) → a ≡ b
alike_all a b each = size_is a b (each Hull) (each Elements) (each Depth)

pub alike_refl : (dimension : Dimension) (a b : Size) → a ≡ b → AreAlike dimension a b
alike_refl Depth a b same = ap (λ size. size.depth) same
alike_refl Elements a b same = ap (λ size. size.elements) same
alike_refl Hull a b same = ap (λ size. size.hull) same

pub alike_sym : (dimension : Dimension) (a b : Size) → AreAlike dimension a b → AreAlike dimension b a
alike_sym Depth a b same = sym same
alike_sym Elements a b same = sym same
alike_sym Hull a b same = sym same

pub alike_trans : (dimension : Dimension) (a b c : Size) → AreAlike dimension a b → AreAlike dimension b c → AreAlike dimension a c
alike_trans Depth a b c first second = first ∙ second
alike_trans Elements a b c first second = first ∙ second
alike_trans Hull a b c first second = first ∙ second

-- whether a size keeps within a limit shows in that dimension alone
pub alike_within : (dimension : Dimension) (a b : Size) → AreAlike dimension a b → IsWithin dimension a → IsWithin dimension b
alike_within Depth a b same within = subst (λ n. n ≤ MOST_DEPTH) same within
alike_within Elements a b same within = subst (λ n. n ≤ MOST_ELEMENTS_BELOW) same within
alike_within Hull a b same within = subst IsHullInRange same within

depth_below-alike : (f g : ℕ → Size) (uses : List (List ℕ × UseBody))
    → ((k : ℕ) (entry : List ℕ × UseBody) → slice_get uses k ≡ Some entry → (f entry.1.child.0).depth ≡ (g entry.1.child.0).depth)
    → depth_below f uses ≡ depth_below g uses
depth_below-alike f g [] same = refl
depth_below-alike f g (entry ∷ rest) same =
    ap (λ n. max n (depth_below f rest)) (same 0 entry refl)
    ∙ ap (max (g entry.1.child.0).depth) (depth_below-alike f g rest (λ k other is. same (suc k) other is))

-- uses whose cells have as many elements have as many
pub elements_below-alike : (f g : ℕ → Size) (uses : List (List ℕ × UseBody))
    → ((k : ℕ) (entry : List ℕ × UseBody) → slice_get uses k ≡ Some entry → (f entry.1.child.0).elements ≡ (g entry.1.child.0).elements)
    → elements_below f uses ≡ elements_below g uses
elements_below-alike f g [] same = refl
elements_below-alike f g (entry ∷ rest) same =
    ap (λ n. length (displacements entry.1.grid) * n + elements_below f rest) (same 0 entry refl)
    ∙ ap (λ n. length (displacements entry.1.grid) * (g entry.1.child.0).elements + n) (elements_below-alike f g rest (λ k other is. same (suc k) other is))

hulls_below-alike : (f g : ℕ → Size) (uses : List (List ℕ × UseBody))
    → ((k : ℕ) (entry : List ℕ × UseBody) → slice_get uses k ≡ Some entry → (f entry.1.child.0).hull ≡ (g entry.1.child.0).hull)
    → hulls_below f uses ≡ hulls_below g uses
hulls_below-alike f g [] same = refl
hulls_below-alike f g (entry ∷ rest) same =
    ap (λ hull. element_hulls entry.1 hull ++ hulls_below f rest) (same 0 entry refl)
    ∙ ap (λ hulls. element_hulls entry.1 (g entry.1.child.0).hull ++ hulls) (hulls_below-alike f g rest (λ k other is. same (suc k) other is))

-- a size rests on those of the children alone, and on their values in the same dimension
pub size_of-alike : (dimension : Dimension) (f g : ℕ → Size) (cell : CellState)
    → ((k : ℕ) (entry : List ℕ × UseBody) → slice_get cell.uses k ≡ Some entry → AreAlike dimension (f entry.1.child.0) (g entry.1.child.0))
    → AreAlike dimension (size_of f cell) (size_of g cell)
unfolding size_of
size_of-alike Depth f g cell same = ap suc (depth_below-alike f g cell.uses same)
size_of-alike Elements f g cell same = ap suc (elements_below-alike f g cell.uses same)
size_of-alike Hull f g cell same = ap (λ hulls. round_all (option_to_list cell.own ++ hulls)) (hulls_below-alike f g cell.uses same)

-- so it is the same for equal sizes of the children
pub size_of-same : (f g : ℕ → Size) (cell : CellState)
    → ((k : ℕ) (entry : List ℕ × UseBody) → slice_get cell.uses k ≡ Some entry → f entry.1.child.0 ≡ g entry.1.child.0) → size_of f cell ≡ size_of g cell
size_of-same f g cell same =
    alike_all _ _ (λ dimension. size_of-alike dimension f g cell (λ k entry is. alike_refl dimension _ _ (same k entry is)))

child_below : (f : ℕ → Size) (uses : List (List ℕ × UseBody)) (k : ℕ) (entry : List ℕ × UseBody) → slice_get uses k ≡ Some entry
    → (f entry.1.child.0).depth ≤ depth_below f uses
child_below f [] k entry is = absurd (cc)
child_below f (first ∷ rest) zero entry is =
    let same : first ≡ entry = same_Some first entry is in
    subst (λ (e : List ℕ × UseBody). (f e.1.child.0).depth ≤ max (f first.1.child.0).depth (depth_below f rest)) same (omega arith)
child_below f (first ∷ rest) (suc k) entry is =
    let low : (f entry.1.child.0).depth ≤ depth_below f rest = child_below f rest k entry is in omega arith

-- a child is less deep
pub child_is_lower : (f : ℕ → Size) (cell : CellState) (k : ℕ) (entry : List ℕ × UseBody) → slice_get cell.uses k ≡ Some entry
    → (f entry.1.child.0).depth < (size_of f cell).depth
unfolding size_of
child_is_lower f cell k entry is = omega (arith, child_below f cell.uses k entry is)

grown-append : (dimension : Dimension) (f : ℕ → Size) (size : Size) (xs ys : List (List ℕ × UseBody))
    → grown dimension f size (xs ++ ys) ≡ grown dimension f (grown dimension f size xs) ys
grown-append dimension f size [] ys = refl
grown-append dimension f size (x ∷ xs) ys = grown-append dimension f (added dimension size x.1 (f x.1.child.0)) xs ys

grown-depth : (f : ℕ → Size) (size : Size) (uses : List (List ℕ × UseBody)) → 1 ≤ size.depth
    → (grown Depth f size uses).depth ≡ max size.depth (suc (depth_below f uses))
unfolding added
grown-depth f size [] some = omega arith
grown-depth f size (entry ∷ rest) some =
    grown-depth f (record size { depth = max size.depth (suc (f entry.1.child.0).depth) }) rest (omega arith) ∙ omega arith

grown-elements : (f : ℕ → Size) (size : Size) (uses : List (List ℕ × UseBody)) → (grown Elements f size uses).elements ≡ size.elements + elements_below f uses
unfolding added
grown-elements f size [] = omega arith
grown-elements f size (entry ∷ rest) =
    grown-elements f (record size { elements = size.elements + length (displacements entry.1.grid) * (f entry.1.child.0).elements }) rest ∙ omega arith

grown-hull : (f : ℕ → Size) (size : Size) (uses : List (List ℕ × UseBody))
    → (grown Hull f size uses).hull ≡ round_both size.hull (round_all (hulls_below f uses))
unfolding added
grown-hull f size [] = sym (round_both_none size.hull)
grown-hull f size (entry ∷ rest) =
    grown-hull f (record size { hull = round_both size.hull (round_all (element_hulls entry.1 (f entry.1.child.0).hull)) }) rest
    ∙ round_both_assoc size.hull (round_all (element_hulls entry.1 (f entry.1.child.0).hull)) (round_all (hulls_below f rest))
    ∙ ap (round_both size.hull) (sym (round_all-append (element_hulls entry.1 (f entry.1.child.0).hull) (hulls_below f rest)))

round_own : (own : Option Rect) → round_all (option_to_list own) ≡ own
round_own None = refl
round_own (Some box) = refl

-- A size that grew use by use from the cell's own is that of the cell.
pub grown-alike : (dimension : Dimension) (f : ℕ → Size) (cell : CellState)
    → AreAlike dimension (grown dimension f (own_size cell.own) cell.uses) (size_of f cell)
unfolding size_of
grown-alike Depth f cell = grown-depth f (own_size cell.own) cell.uses (omega arith) ∙ omega arith
grown-alike Elements f cell = grown-elements f (own_size cell.own) cell.uses ∙ omega arith
grown-alike Hull f cell =
    grown-hull f (own_size cell.own) cell.uses ∙ ap (λ hull. round_both hull (round_all (hulls_below f cell.uses))) (sym (round_own cell.own))
    ∙ sym (round_all-append (option_to_list cell.own) (hulls_below f cell.uses))

-- the values of a size with one more use, in the dimension that was worked out
pub added-alike : (dimension : Dimension) (a b : Size) (used : UseBody) (child : Size) → AreAlike dimension a b
    → AreAlike dimension (added dimension a used child) (added dimension b used child)
unfolding added
added-alike Depth a b used child same = ap (λ n. max n (suc child.depth)) same
added-alike Elements a b used child same = ap (λ n. n + length (displacements used.grid) * child.elements) same
added-alike Hull a b used child same = ap (λ hull. round_both hull (round_all (element_hulls used child.hull))) same

-- which of two uses comes first makes no difference
added-swap : (dimension : Dimension) (size : Size) (first : UseBody) (child : Size) (second : UseBody) (other : Size)
    → added dimension (added dimension size first child) second other ≡ added dimension (added dimension size second other) first child
unfolding added
added-swap Depth size first child second other = size_is _ _ refl refl (omega arith)
added-swap Elements size first child second other = size_is _ _ refl (omega arith) refl
added-swap Hull size first child second other =
    size_is _ _ (round_both_swap size.hull (round_all (element_hulls first child.hull)) (round_all (element_hulls second other.hull))) refl refl

grown-later : (dimension : Dimension) (f : ℕ → Size) (size : Size) (entry : List ℕ × UseBody) (uses : List (List ℕ × UseBody))
    → grown dimension f (added dimension size entry.1 (f entry.1.child.0)) uses ≡ added dimension (grown dimension f size uses) entry.1 (f entry.1.child.0)
grown-later dimension f size entry [] = refl
grown-later dimension f size entry (next ∷ rest) =
    ap (λ s. grown dimension f s rest) (added-swap dimension size entry.1 (f entry.1.child.0) next.1 (f next.1.child.0))
    ∙ grown-later dimension f (added dimension size next.1 (f next.1.child.0)) entry rest

grown-insert : (dimension : Dimension) (f : ℕ → Size) (size : Size) (uses : List (List ℕ × UseBody)) (at : ℕ) (entry : List ℕ × UseBody)
    → grown dimension f size (insert uses at entry) ≡ added dimension (grown dimension f size uses) entry.1 (f entry.1.child.0)
grown-insert dimension f size uses at entry =
    grown-append dimension f size (take at uses) (entry ∷ drop at uses)
    ∙ grown-later dimension f (grown dimension f size (take at uses)) entry (drop at uses)
    ∙ ap (λ s. added dimension s entry.1 (f entry.1.child.0))
    (sym (grown-append dimension f size (take at uses) (drop at uses)) ∙ ap (grown dimension f size) (take-append-drop at uses))

-- one more use
inserted-alike : (dimension : Dimension) (f : ℕ → Size) (cell : CellState) (at : ℕ) (id : List ℕ) (used : UseBody)
    → AreAlike dimension (size_of f (record { own = cell.own; uses = insert cell.uses at (id, used) })) (added dimension (size_of f cell) used (f used.child.0))
inserted-alike dimension f cell at id used =
    alike_trans dimension _ (grown dimension f (own_size cell.own) (insert cell.uses at (id, used))) _
    (alike_sym dimension _ _ (grown-alike dimension f (record { own = cell.own; uses = insert cell.uses at (id, used) })))
    (alike_trans dimension _ (added dimension (grown dimension f (own_size cell.own) cell.uses) used (f used.child.0)) _
    (alike_refl dimension _ _ (grown-insert dimension f (own_size cell.own) cell.uses at (id, used)))
    (added-alike dimension _ _ used (f used.child.0) (grown-alike dimension f cell)))

with_use-alike : (dimension : Dimension) (size : Size) (used : UseBody) (child : Size)
    → AreAlike dimension (added dimension size used child) (with_use size used child)
unfolding added
with_use-alike Depth size used child = refl
with_use-alike Elements size used child = refl
with_use-alike Hull size used child = refl

-- The size of a cell with one more use, wherever it comes among the others.
pub size_of-inserted : (f : ℕ → Size) (cell : CellState) (at : ℕ) (id : List ℕ) (used : UseBody)
    → size_of f (record { own = cell.own; uses = insert cell.uses at (id, used) }) ≡ with_use (size_of f cell) used (f used.child.0)
size_of-inserted f cell at id used =
    alike_all _ _ (λ dimension. alike_trans dimension _ _ _ (inserted-alike dimension f cell at id used)
    (with_use-alike dimension (size_of f cell) used (f used.child.0)))

-- what a size is with one more use, part by part
pub added-depth : (size : Size) (used : UseBody) (child : Size) (d : ℕ) → d ≡ max size.depth (child.depth + 1)
    → record { hull = size.hull; elements = size.elements; depth = d } ≡ added Depth size used child
unfolding added
added-depth size used child d is = size_is _ _ refl refl (omega (arith, is))

pub added-elements : (size : Size) (used : UseBody) (child : Size) (n : ℕ) → n ≡ length (displacements used.grid)
    → record { hull = size.hull; elements = size.elements + n * child.elements; depth = size.depth } ≡ added Elements size used child
unfolding added
added-elements size used child n is = size_is _ _ refl (ap (λ m. size.elements + m * child.elements) is) refl

pub added-hull : (size : Size) (used : UseBody) (child : Size) (h : Option Rect) → h ≡ round_both size.hull (round_all (element_hulls used child.hull))
    → record { hull = h; elements = size.elements; depth = size.depth } ≡ added Hull size used child
unfolding added
added-hull size used child h is = size_is _ _ is refl refl

-- a lawful grid of a lawful child has not too many elements
pub product_few : (n e : ℕ) → n ≤ 1000000 → e ≤ 1000000 → n * e ≤ 1000000000000
product_few n e few less = omega (arith, mul-le-mul_right e few, less)

-- the body of a use, with its id
pub body_at : (uses : List (List ℕ × UseBody)) (k : ℕ) (used : UseBody) → option_map (λ (entry : List ℕ × UseBody). entry.1) (slice_get uses k) ≡ Some used
    → (id : List ℕ) × (slice_get uses k ≡ Some (id, used))
body_at [] k used is = absurd (cc)
body_at (entry ∷ rest) zero used is = (entry.0, ap (λ (u : UseBody). Some (entry.0, u)) (same_Some entry.1 used is))
body_at (entry ∷ rest) (suc k) used is = body_at rest k used is

take-get : (xs : List (List ℕ × UseBody)) (n : ℕ) (x : List ℕ × UseBody) → slice_get xs n ≡ Some x → take (suc n) xs ≡ take n xs ++ x ∷ []
take-get [] n x is = absurd (cc)
take-get (y ∷ ys) zero x is = ap (λ (z : List ℕ × UseBody). z ∷ []) (same_Some y x is)
take-get (y ∷ ys) (suc n) x is = ap (λ zs. y ∷ zs) (take-get ys n x is)

slice_get-drop : (xs : List (List ℕ × UseBody)) (n k : ℕ) → slice_get (drop n xs) k ≡ slice_get xs (n + k)
slice_get-drop xs zero k = ap (slice_get xs) (let e : k ≡ 0 + k = omega arith in e)
slice_get-drop [] (suc n) k = refl
slice_get-drop (x ∷ xs) (suc n) k = slice_get-drop xs n k ∙ ap (slice_get (x ∷ xs)) (let e : suc (n + k) ≡ suc n + k = omega arith in e)

-- a size that grew by the uses from a place on, and by one more
pub grown-next : (dimension : Dimension) (f : ℕ → Size) (size : Size) (uses : List (List ℕ × UseBody)) (from k : ℕ) (entry : List ℕ × UseBody) → from ≤ k
    → slice_get uses k ≡ Some entry
    → grown dimension f size (take (k + 1 - from) (drop from uses)) ≡ added dimension (grown dimension f size (take (k - from) (drop from uses))) entry.1
    (f entry.1.child.0)
grown-next dimension f size uses from k entry low is =
    let place : from + (k - from) ≡ k = omega arith in
    let at : slice_get (drop from uses) (k - from) ≡ Some entry = slice_get-drop uses from (k - from) ∙ ap (slice_get uses) place ∙ is in
    ap (λ n. grown dimension f size (take n (drop from uses))) (let e : k + 1 - from ≡ suc (k - from) = omega arith in e)
    ∙ ap (grown dimension f size) (take-get (drop from uses) (k - from) entry at)
    ∙ grown-append dimension f size (take (k - from) (drop from uses)) (entry ∷ [])

-- and by all of them
pub grown-all : (dimension : Dimension) (f : ℕ → Size) (size : Size) (uses : List (List ℕ × UseBody)) (n : ℕ) → n ≡ length uses
    → grown dimension f size (take (n - 0) uses) ≡ grown dimension f size uses
grown-all dimension f size uses n is = ap (grown dimension f size) (take_all (n - 0) uses (omega (arith, is)))

grown-set : (dimension : Dimension) (f : ℕ → Size) (size : Size) (uses : List (List ℕ × UseBody)) (k : ℕ) (used : UseBody) → k < length uses
    → grown dimension f size (with_use_at uses k used) ≡ grown dimension f (added dimension (grown dimension f size (take k uses)) used (f used.child.0))
    (drop (suc k) uses)
grown-set dimension f size [] k used within = absurd (omega (arith, within))
grown-set dimension f size (entry ∷ rest) zero used within = refl
grown-set dimension f size (entry ∷ rest) (suc k) used within =
    grown-set dimension f (added dimension size entry.1 (f entry.1.child.0)) rest k used (omega (arith, within))

-- a size that grew by uses of which one is another, or is left out
pub refolded_with : (dimension : Dimension) (f : ℕ → Size) (size before there whole : Size) (uses : List (List ℕ × UseBody)) (k n : ℕ) (used : UseBody)
    → k < length uses → n ≡ length uses
    → before ≡ grown dimension f size (take (k - 0) uses) → there ≡ added dimension before used (f used.child.0)
    → whole ≡ grown dimension f there (take (n - (k + 1)) (drop (k + 1) uses)) → whole ≡ grown dimension f size (with_use_at uses k used)
refolded_with dimension f size before there whole uses k n used within count a b c =
    c ∙ ap (λ s. grown dimension f s (take (n - (k + 1)) (drop (k + 1) uses)))
    (b ∙ ap (λ s. added dimension s used (f used.child.0)) (a ∙ ap (λ m. grown dimension f size (take m uses)) (let e : k - 0 ≡ k = omega arith in e)))
    ∙ rest_of dimension f _ uses k n count ∙ sym (grown-set dimension f size uses k used within)
  where
    rest_of : (dimension : Dimension) (f : ℕ → Size) (s : Size) (uses : List (List ℕ × UseBody)) (k n : ℕ) → n ≡ length uses
        → grown dimension f s (take (n - (k + 1)) (drop (k + 1) uses)) ≡ grown dimension f s (drop (suc k) uses)
    rest_of dimension f s uses k n count =
        ap (grown dimension f s) (take_all (n - (k + 1)) (drop (k + 1) uses) (omega (arith, length-drop (k + 1) uses, count))
        ∙ ap (λ m. drop m uses) (let e : k + 1 ≡ suc k = omega arith in e))

pub refolded_without : (dimension : Dimension) (f : ℕ → Size) (size before whole : Size) (uses : List (List ℕ × UseBody)) (k n : ℕ) → n ≡ length uses
    → before ≡ grown dimension f size (take (k - 0) uses)
    → whole ≡ grown dimension f before (take (n - (k + 1)) (drop (k + 1) uses)) → whole ≡ grown dimension f size (take k uses ++ drop (suc k) uses)
refolded_without dimension f size before whole uses k n count a c =
    c ∙ ap (λ s. grown dimension f s (take (n - (k + 1)) (drop (k + 1) uses)))
    (a ∙ ap (λ m. grown dimension f size (take m uses)) (let e : k - 0 ≡ k = omega arith in e))
    ∙ ap (grown dimension f (grown dimension f size (take k uses))) (take_all (n - (k + 1)) (drop (k + 1) uses) (omega (arith, length-drop (k + 1) uses, count))
    ∙ ap (λ m. drop m uses) (let e : k + 1 ≡ suc k = omega arith in e))
    ∙ sym (grown-append dimension f size (take k uses) (drop (suc k) uses))

-- the size of a cell from what it is in each dimension
pub size_from : (f : ℕ → Size) (cell : CellState) (deep many wide : Size) → deep ≡ grown Depth f (own_size cell.own) cell.uses
    → many ≡ grown Elements f (own_size cell.own) cell.uses
    → wide ≡ grown Hull f (own_size cell.own) cell.uses → record { hull = wide.hull; elements = many.elements; depth = deep.depth } ≡ size_of f cell
size_from f cell deep many wide a b c =
    size_is _ _ (ap (λ (s : Size). s.hull) c ∙ grown-alike Hull f cell) (ap (λ (s : Size). s.elements) b ∙ grown-alike Elements f cell)
    (ap (λ (s : Size). s.depth) a ∙ grown-alike Depth f cell)
