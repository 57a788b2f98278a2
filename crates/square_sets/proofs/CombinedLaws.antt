-- The pieces that two lists make where they lie over each other tell what both cover and what the first covers alone.
use Rattle.square_sets.proofs.Common.{◌≡◌, inl, inr, List, map, sym, ◌∙◌, subst, refl, arith, filter, In-map, In-map_source, In-filter}
use Rattle.square_sets.proofs.Common.{In-filter_source, In-filter_passes, Square, Rect, Covers, IsInUnion, IsInBoth, IsInFirstAlone, AreSameSquares}
use Rattle.std.proofs.Common.{◌⊎◌, ℕ, ◌+◌, ◌<◌, ◌≤◌, Bool, true, ◌++◌, length, Some}
use Rattle.std.specs.Prelude.{nat_le, nat_lt, slice_get}
use Rattle.std.proofs.lemmas.Bool.{and_parts}
use Rattle.std.proofs.lemmas.Option.{slice_get_within}
use Rattle.geo_core.specs.FiniteSets.Lists.{In}
use Rattle.geo_core.proofs.FiniteSets.Places.{In-slice_get, slice_get-In, slice_get-append_cases, slice_get-append_left, slice_get-append_right}
use Rattle.geo_core.proofs.FiniteSets.Searches.{list_all-from_In, list_all-In, list_any-passes, list_any-source}
use Rattle.rect_overlays.specs.declared.stacks.Stack.{Stack}
use Rattle.rect_overlays.specs.Stacks.{AreStacks}
use Rattle.rect_overlays.proofs.Lists.{some-In}
use Rattle.square_sets.specs.steps.Combined.{area_of, has_first, has_second, is_lone, is_shared}

-- ---- tests of numbers

passes_less : (m n : ℕ) → nat_lt m n ≡ true → m < n
passes_less m n passes = grind arith

less_passes : (m n : ℕ) → m < n → nat_lt m n ≡ true
less_passes m n less = grind arith

at_most_passes : (m n : ℕ) → m ≤ n → nat_le m n ≡ true
at_most_passes m n at_most = grind arith

not_less : (m n : ℕ) → m ≤ n → nat_lt n m ≡ true → ⊥
not_less m n at_most passes = grind arith

not_at_most : (m n : ℕ) → n < m → nat_le m n ≡ true → ⊥
not_at_most m n less passes = grind arith

-- ---- pieces of two lists

-- the areas of the stacks that pass a test
abbrev pub areas_where : (Stack → Bool) → List Stack → List Rect
areas_where test stacks = map area_of (filter test stacks)

module _ (first second : List Rect) (stacks : List Stack) (are : AreStacks (first ++ second) stacks) where
  -- a square of the areas lies in a stack that passes
  stack_of_area : (test : Stack → Bool) (square : Square) → IsInUnion (areas_where test stacks) square
      → (stack : Stack) × (In stack stacks × (test stack ≡ true) × Covers stack.area square)
  stack_of_area test square u =
      let source = In-map_source area_of u.0 (filter test stacks) u.1.0 in (
        source.0,
        (
          In-filter_source test source.0 stacks source.1.0,
          In-filter_passes test source.0 stacks source.1.0,
          subst (λ (area : Rect). Covers area square) (sym source.1.1) u.1.1,
        ),
      )

  -- and a square of a stack that passes is one of the areas
  area_of_stack : (test : Stack → Bool) (square : Square) (stack : Stack) → In stack stacks → test stack ≡ true → Covers stack.area square
      → IsInUnion (areas_where test stacks) square
  area_of_stack test square stack i passes c =
      (stack.area, (In-map area_of stack (filter test stacks) (In-filter test stack stacks i passes), c))

  -- a member is one of the first rectangles or one of the second, and covers the square
  member_is : (stack : Stack) → In stack stacks → (m : ℕ) → In m stack.members.items → (square : Square) → Covers stack.area square
      → ((m < length first) × IsInUnion first square) ⊎ ((length first ≤ m) × IsInUnion second square)
  member_is stack i m j square c =
      let at = (are.each stack i).members m j square c in elim (slice_get-append_cases first second m at.area at.there) [
        | inl there ↦ inl (slice_get_within first m at.area there, (at.area, (In-slice_get first m at.area there, at.covers)))
        | inr (k, is, there) ↦ inr (omega (arith, is), (at.area, (In-slice_get second k at.area there, at.covers)))
      ]

  -- one of the first rectangles that covers a square of a stack is a member of it
  first_member : (stack : Stack) → In stack stacks → (square : Square) → Covers stack.area square → IsInUnion first square
      → (m : ℕ) × (In m stack.members.items × (m < length first))
  first_member stack i square c u =
      let at = slice_get-In u.0 first u.1.0 in
      let there = slice_get-append_left first second at.0 u.0 at.1 in (
        at.0,
        ((are.each stack i).others at.0 square c (record { area = u.0; there = there; covers = u.1.1 }), slice_get_within first at.0 u.0 at.1),
      )

  -- and so is one of the second
  second_member : (stack : Stack) → In stack stacks → (square : Square) → Covers stack.area square → IsInUnion second square
      → (m : ℕ) × (In m stack.members.items × (length first ≤ m))
  second_member stack i square c u =
      let at = slice_get-In u.0 second u.1.0 in
      let there : slice_get (first ++ second) (length first + at.0) ≡ Some u.0 =
      slice_get-append_right first second at.0 (length first + at.0) refl ∙ at.1 in (
        length first + at.0,
        ((are.each stack i).others (length first + at.0) square c (record { area = u.0; there = there; covers = u.1.1 }), omega arith),
      )

  -- each square that the first cover lies in a stack
  stack_of_first : (square : Square) → IsInUnion first square → (stack : Stack) × (In stack stacks × Covers stack.area square)
  stack_of_first square u =
      let at = slice_get-In u.0 first u.1.0 in
      are.every at.0 square (record { area = u.0; there = slice_get-append_left first second at.0 u.0 at.1; covers = u.1.1 })

  -- the stacks all of whose members are of the first rectangles have what these cover alone
  pub lone_same : AreSameSquares (IsInUnion (areas_where (is_lone (length first)) stacks)) (IsInFirstAlone first second)
  lone_same = record {
    to = λ square u. (let found = stack_of_area (is_lone (length first)) square u in
        let stack = found.0 in
        let below : (m : ℕ) → In m stack.members.items → m < length first =
        λ m j. passes_less m (length first) (list_all-In (λ member. nat_lt member (length first)) stack.members.items m found.1.1 j) in
        let some = some-In stack.members.items (are.each stack found.1.0).some in (
          elim (member_is stack found.1.0 some.0 some.1 square found.1.2) [
            | inl of_first ↦ of_first.1
            | inr of_second ↦ (let less = below some.0 some.1 in absurd (omega (arith, less, of_second.0)))
          ],
          λ v. (let other = second_member stack found.1.0 square found.1.2 v in let less = below other.0 other.1.0 in omega (arith, less, other.1.1)),
        ));
    back = λ square both. (let found = stack_of_first square both.0 in
        let stack = found.0 in
        area_of_stack (is_lone (length first)) square stack found.1.0
        (list_all-from_In (λ member. nat_lt member (length first)) stack.members.items (λ m j.
        elim (member_is stack found.1.0 m j square found.1.1) [
          | inl of_first ↦ less_passes m (length first) of_first.0
          | inr of_second ↦ absurd (both.1 of_second.1)
        ])) found.1.1);
  }

  -- the stacks that have members of both lists have what both cover
  pub shared_same : AreSameSquares (IsInUnion (areas_where (is_shared (length first)) stacks)) (IsInBoth first second)
  shared_same = record {
    to = λ square u. (let found = stack_of_area (is_shared (length first)) square u in
        let stack = found.0 in
        let parts = and_parts (has_first (length first) stack) (has_second (length first) stack) found.1.1 in
        let one = list_any-source (λ member. nat_lt member (length first)) stack.members.items parts.0 in
        let other = list_any-source (λ member. nat_le (length first) member) stack.members.items parts.1 in (
          elim (member_is stack found.1.0 one.0 one.1.0 square found.1.2) [
            | inl of_first ↦ of_first.1
            | inr of_second ↦ absurd (not_less (length first) one.0 of_second.0 one.1.1)
          ],
          elim (member_is stack found.1.0 other.0 other.1.0 square found.1.2) [
            | inl of_first ↦ absurd (not_at_most (length first) other.0 of_first.0 other.1.1)
            | inr of_second ↦ of_second.1
          ],
        ));
    back = λ square both. (let found = stack_of_first square both.0 in
        let stack = found.0 in
        let one = first_member stack found.1.0 square found.1.1 both.0 in
        let other = second_member stack found.1.0 square found.1.1 both.1 in
        let some_first = list_any-passes (λ member. nat_lt member (length first)) stack.members.items one.0 one.1.0
        (less_passes one.0 (length first) one.1.1) in
        let some_second = list_any-passes (λ member. nat_le (length first) member) stack.members.items other.0 other.1.0
        (at_most_passes (length first) other.0 other.1.1) in
        area_of_stack (is_shared (length first)) square stack found.1.0 (rw (some_first, some_second) refl) found.1.1);
  }
