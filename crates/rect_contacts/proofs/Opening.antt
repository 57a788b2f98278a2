-- The open edges of one of several disjoint rectangles.
use Rattle.rect_contacts.proofs.Common.{◌≡◌, suc, ℤ, pos, ◌+ℤ◌, ◌-ℤ◌, ◌*ℤ◌, Bool, true, false, List, [], ◌∷◌, inl, inr, refl, sym, ◌∙◌, ap, subst}
use Rattle.rect_contacts.proofs.Common.{arith, AllPairs, ints, Square, Rect, is_covered, IsProper, In, sum_on, one_if, In-index, AreDisjoint}
use Rattle.rect_contacts.proofs.Common.{shared_length, squares_of, edges_between}
use Rattle.std.proofs.Common.{not, ◌||◌}
use Rattle.geo_core.specs.Neighbours.{edge_neighbours}
use Rattle.geo_core.proofs.CoveringLaws.{Covers-is_covered}
use Rattle.geo_core.proofs.FiniteSets.Sums.{sum_on-same, sum_on-sub, sum_on-swap, sum_on-scale}
use Rattle.rect_contacts.specs.Squares.{area_of, perimeter_of, is_covered_by_any, open_edges}
use Rattle.rect_contacts.specs.EdgeLaws.{PerimeterIsOpenOrShared}
use Rattle.rect_contacts.proofs.Shared.{shared_length-same}
use Rattle.rect_contacts.proofs.Leading.{edges_between-disjoint, edges_between-same, sum_on-squares_of}

-- each rectangle is disjoint from each that comes later in the list
AllDisjoint : List Rect → Type 0
AllDisjoint [] = Unit {0}
AllDisjoint (a ∷ rest) = ((b : Rect) → In b rest → AreDisjoint a b) × AllDisjoint rest

all_disjoint : (rects : List Rect) → AllPairs AreDisjoint rects → AllDisjoint rects
unfolding AllDisjoint
all_disjoint [] h = tt
all_disjoint (a ∷ rest) h = (
  (λ b i. let r = In-index b rest i in subst (λ (x : Rect). AreDisjoint a x) (r.1.1 a) (h 0 (suc r.0) a (omega arith) (omega (arith, r.1.0)))),
  all_disjoint rest (λ i j d less below. h (suc i) (suc j) d (omega arith) (omega arith)),
)

by_test : {P : Type 0} (b : Bool) → (b ≡ true → P) → (b ≡ false → P) → P
by_test true t f = t refl
by_test false t f = f refl

-- none of the rectangles covers a square of another that is disjoint from each of them
none_covers : (a : Rect) (rects : List Rect) (square : Square) → ((b : Rect) → In b rects → AreDisjoint a b) → is_covered a square ≡ true
    → sum_on (λ b. one_if (is_covered b square)) rects ≡ pos 0
none_covers a [] square h c = refl
none_covers a (b ∷ rest) square h c =
    let out : is_covered b square ≡ false = by_test (is_covered b square)
    (λ t. absurd (h b (inl refl) square (Covers-is_covered a square c) (Covers-is_covered b square t))) (λ f. f) in
    (λ k. one_if (out k) +ℤ none_covers a rest square (λ x i. h x (inr i)) c k)

-- at most one of disjoint rectangles covers a square
covering_count : (rects : List Rect) (square : Square) → AllDisjoint rects
    → one_if (not (is_covered_by_any rects square)) ≡ pos 1 -ℤ sum_on (λ b. one_if (is_covered b square)) rects
unfolding AllDisjoint
covering_count [] square h = refl
covering_count (a ∷ rest) square h =
    let any = is_covered_by_any rest square in
    let n = sum_on (λ b. one_if (is_covered b square)) rest in
    by_test (is_covered a square)
    (λ t. let none = none_covers a rest square h.0 t in
    (λ k. one_if (not (t k || any))) ∙ sym (λ k. pos 1 -ℤ (one_if (t k) +ℤ none k)))
    (λ f. let same : pos 1 -ℤ n ≡ pos 1 -ℤ (pos 0 +ℤ n) = omega (arith, ints) in
    (λ k. one_if (not (f k || any))) ∙ covering_count rest square h.1 ∙ same ∙ sym (λ k. pos 1 -ℤ (one_if (f k) +ℤ n)))

module _ (rects : List Rect) (disjoint : AllPairs AreDisjoint rects) where
  -- the open edges of one square
  open_of_square : (square : Square) → sum_on (λ other. one_if (not (is_covered_by_any rects other))) (edge_neighbours square)
      ≡ pos 4 -ℤ sum_on (λ b. sum_on (λ other. one_if (is_covered b other)) (edge_neighbours square)) rects
  open_of_square square =
      let around = edge_neighbours square in
      sum_on-same (λ other. one_if (not (is_covered_by_any rects other))) (λ other. pos 1 -ℤ sum_on (λ b. one_if (is_covered b other)) rects) around
      (λ other i. covering_count rects other (all_disjoint rects disjoint))
      ∙ sum_on-sub (λ other. pos 1) (λ other. sum_on (λ b. one_if (is_covered b other)) rects) around
      ∙ ap (λ (z : ℤ). pos 4 -ℤ z) (sum_on-swap (λ other b. one_if (is_covered b other)) around rects)

  -- all edges of its squares, but for those that lead to squares of the rectangles
  open_edges_are : (a : Rect) → IsProper a → open_edges rects a ≡ (pos 4 *ℤ area_of a) -ℤ sum_on (edges_between a) rects
  open_edges_are a p =
      let all = squares_of a in
      let led : Square → Rect → ℤ = λ square b. sum_on (λ other. one_if (is_covered b other)) (edge_neighbours square) in
      let four = sum_on-scale (pos 4) (λ (square : Square). pos 1) all ∙ ap (λ (z : ℤ). pos 4 *ℤ z) (sum_on-squares_of a p) in
      let swapped = sum_on-swap led all rects in
      sum_on-same (λ square. sum_on (λ other. one_if (not (is_covered_by_any rects other))) (edge_neighbours square))
      (λ square. pos 4 -ℤ sum_on (led square) rects) all
      (λ square i. open_of_square square)
      ∙ sum_on-sub (λ square. pos 4) (λ square. sum_on (led square) rects) all
      ∙ (λ k. four k -ℤ swapped k)

AreDisjoint-sym : (a b : Rect) → AreDisjoint a b → AreDisjoint b a
AreDisjoint-sym a b h = λ square p q. h square q p

-- edges that lead from a rectangle of a list to all of them
edges_to_all : (a : Rect) (rects : List Rect) → IsProper a → ((b : Rect) → In b rects → IsProper b) → AllDisjoint rects → In a rects
    → sum_on (edges_between a) rects ≡ edges_between a a +ℤ sum_on (shared_length a) rects
unfolding AllDisjoint
edges_to_all a [] p proper disjoint i = absurd i
edges_to_all a (b ∷ rest) p proper disjoint (inl e) =
    let others : sum_on (edges_between a) rest ≡ sum_on (shared_length a) rest =
    sum_on-same (edges_between a) (shared_length a) rest
    (λ x i. edges_between-disjoint a x p (proper x (inr i)) (subst (λ (y : Rect). AreDisjoint y x) e (disjoint.0 x i))) in
    itself_first (edges_between a b) (edges_between a a) (shared_length a b) (sum_on (edges_between a) rest) (sum_on (shared_length a) rest)
    (ap (edges_between a) e) (ap (shared_length a) e ∙ shared_length-same a p) others
  where
    itself_first : (e e' s t u : ℤ) → e ≡ e' → s ≡ pos 0 → t ≡ u → e +ℤ t ≡ e' +ℤ (s +ℤ u)
    itself_first e e' s t u x y z = omega (arith, ints)
edges_to_all a (b ∷ rest) p proper disjoint (inr i) =
    another_first (edges_between a b) (edges_between a a) (shared_length a b) (sum_on (edges_between a) rest) (sum_on (shared_length a) rest)
    (edges_between-disjoint a b p (proper b (inl refl)) (AreDisjoint-sym b a (disjoint.0 a i)))
    (edges_to_all a rest p (λ x j. proper x (inr j)) disjoint.1 i)
  where
    another_first : (e e' s t u : ℤ) → e ≡ s → t ≡ e' +ℤ u → e +ℤ t ≡ e' +ℤ (s +ℤ u)
    another_first e e' s t u x y = omega (arith, ints)

-- the perimeter of one of several disjoint rectangles is open, but for what it shares with the others
pub open_edges-disjoint : PerimeterIsOpenOrShared
open_edges-disjoint rects a proper disjoint i =
    let each : (b : Rect) → In b rects → IsProper b = λ b j. let r = In-index b rects j in subst IsProper (r.1.1 a) (proper r.0 a r.1.0) in
    let p = each a i in
    let led = edges_to_all a rects p each (all_disjoint rects disjoint) i in
    open_edges_are rects disjoint a p
    ∙ (λ k. (pos 4 *ℤ area_of a) -ℤ (led ∙ ap (λ (z : ℤ). z +ℤ sum_on (shared_length a) rects) (edges_between-same a p)) k)
    ∙ what_is_left (pos 4 *ℤ area_of a) (perimeter_of a) (sum_on (shared_length a) rects)
  where
    what_is_left : (n p s : ℤ) → n -ℤ ((n -ℤ p) +ℤ s) ≡ p -ℤ s
    what_is_left n p s = omega (arith, ints)
