-- Where the elements of uses begin, use by use.
use Rattle.element_paths.proofs.Common.{◌≡◌, ℕ, zero, suc, ◌+◌, ◌*◌, ◌<◌, ◌≤◌, List, [], ◌∷◌, ◌++◌, length, get_or, take, Some, None, inl, inr, sym}
use Rattle.element_paths.proofs.Common.{ap, ◌∙◌, arith, slice_get, length-append, get_or_from_slice_get, same_Some, slice_get_within, CellTree}
use Rattle.element_paths.proofs.Common.{standings, UseBody, displacements, MOST_ELEMENTS_BELOW, tree_at, LibraryParts, IsLawfulLibrary, seen}
use Rattle.element_paths.proofs.Common.{element_count, view_at, few_elements, UseStart, standing_below}
use Rattle.std.proofs.Common.{◌⊎◌}
use Rattle.std.specs.List.Sorted.{IsNonDecreasingBy}
use Rattle.std.proofs.lemmas.Option.{slice_get_cases}
use Rattle.finite_sets.proofs.Places.{slice_get-append_front, slice_get-push_new}
use Rattle.library_trees.proofs.CellLibrary.StandingCounts.{standings_few}
use Rattle.element_paths.specs.UseStarts.{start_behind, start_of, AreStarts}
use Rattle.element_paths.proofs.UseLaws.{UsesWithIds, standing_all}

-- where nothing is, the list has ended
pub none_past : {X : Type 0} (xs : List X) (k : ℕ) → slice_get xs k ≡ None → length xs ≤ k
none_past xs k none = elim (slice_get_cases xs k).1 [ inl there ↦ absurd (let is : Some there.0 ≡ None = sym there.2 ∙ none in cc) | inr past ↦ past.0 ]

-- how many elements the first uses have, with one use more
count_next : (uses : UsesWithIds) (k : ℕ) (entry : List ℕ × UseBody) → slice_get uses k ≡ Some entry
    → element_count (take (suc k) uses) ≡ element_count (take k uses) + length (displacements entry.1.grid)
count_next [] k entry is = absurd (cc)
count_next (first ∷ uses) zero entry is =
    ap (λ (e : List ℕ × UseBody). length (displacements e.1.grid) + 0) (same_Some first entry is) ∙ omega arith
count_next (first ∷ uses) (suc k) entry is = let later = count_next uses k entry is in omega (arith, later)

-- they are among all
pub count_within : (uses : UsesWithIds) (k : ℕ) (entry : List ℕ × UseBody) → slice_get uses k ≡ Some entry
    → element_count (take k uses) + length (displacements entry.1.grid) ≤ element_count uses
count_within [] k entry is = absurd (cc)
count_within (first ∷ uses) zero entry is =
    let long = ap (λ (e : List ℕ × UseBody). length (displacements e.1.grid)) (same_Some first entry is) in omega (arith, long)
count_within (first ∷ uses) (suc k) entry is = let later = count_within uses k entry is in omega (arith, later)

module _ (trees : ℕ → CellTree) where
  -- how many cells stand at and below the elements of a use
  abbrev pub standing_of : UseBody → ℕ
  standing_of used = length (displacements used.grid) * length (standings (trees used.child.0))

  -- how many stand at and below the elements of the first uses, with one use more
  pub below_next : (uses : UsesWithIds) (k : ℕ) (entry : List ℕ × UseBody) → slice_get uses k ≡ Some entry
      → standing_below trees (take (suc k) uses) ≡ standing_below trees (take k uses) + standing_of entry.1
  below_next [] k entry is = absurd (cc)
  below_next (first ∷ uses) zero entry is = ap (λ (e : List ℕ × UseBody). standing_of e.1 + 0) (same_Some first entry is) ∙ omega arith
  below_next (first ∷ uses) (suc k) entry is = let later = below_next uses k entry is in omega (arith, later)

  -- they are among all
  pub below_within : (uses : UsesWithIds) (k : ℕ) (entry : List ℕ × UseBody) → slice_get uses k ≡ Some entry
      → standing_below trees (take k uses) + standing_of entry.1 ≤ standing_below trees uses
  below_within [] k entry is = absurd (cc)
  below_within (first ∷ uses) zero entry is =
      let long = ap (λ (e : List ℕ × UseBody). standing_of e.1) (same_Some first entry is) in omega (arith, long)
  below_within (first ∷ uses) (suc k) entry is = let later = below_within uses k entry is in omega (arith, later)

  -- with more uses there are no fewer
  below_rises : (uses : UsesWithIds) (i j : ℕ) → i ≤ j → standing_below trees (take i uses) ≤ standing_below trees (take j uses)
  below_rises [] i j order = none_fewer i j where
    none_fewer : (i j : ℕ) → standing_below trees (take i []) ≤ standing_below trees (take j [])
    none_fewer zero zero = omega arith
    none_fewer zero (suc j) = omega arith
    none_fewer (suc i) zero = omega arith
    none_fewer (suc i) (suc j) = omega arith
  below_rises (first ∷ uses) zero j order = omega arith
  below_rises (first ∷ uses) (suc i) zero order = absurd (omega (arith, order))
  below_rises (first ∷ uses) (suc i) (suc j) order = let later = below_rises uses i j (omega (arith, order)) in omega (arith, later)

  -- ---- starts

  -- where the elements of the next use begin
  start_next : (uses : UsesWithIds) (k : ℕ) (entry : List ℕ × UseBody) → slice_get uses k ≡ Some entry
      → start_behind trees (start_of trees uses k) entry.1 ≡ start_of trees uses (suc k)
  start_next uses k entry is =
      let element : suc (standing_below trees (take k uses)) + standing_of entry.1 ≡ suc (standing_below trees (take (suc k) uses)) =
      let next = below_next uses k entry is in omega (arith, next) in
      λ i. record { element = element i; position = sym (count_next uses k entry is) i }

  -- later uses begin no earlier
  pub starts_rise : (uses : UsesWithIds) (starts : List UseStart) → AreStarts trees uses starts
      → IsNonDecreasingBy (λ (start : UseStart). start.element) starts
  starts_rise uses starts are i j d order within =
      let many = are.count in
      let first = get_or_from_slice_get starts i (start_of trees uses i) d (are.each i (omega (arith, order, within, many))) in
      let second = get_or_from_slice_get starts j (start_of trees uses j) d (are.each j (omega (arith, within, many))) in
      let a : (get_or starts i d).element ≡ suc (standing_below trees (take i uses)) = ap (λ (start : UseStart). start.element) first in
      let b : (get_or starts j d).element ≡ suc (standing_below trees (take j uses)) = ap (λ (start : UseStart). start.element) second in
      let rise = below_rises uses i j order in
      omega (arith, a, b, rise)

  -- The list has where the elements of the first uses begin, and those of the next use begin here.
  pub record AreFirstStarts (uses : UsesWithIds) (starts : List UseStart) (start : UseStart) : Type 0 where
    pub few : length starts ≤ length uses
    pub each : (k : ℕ) → k < length starts → slice_get starts k ≡ Some (start_of trees uses k)
    pub next : start ≡ start_of trees uses (length starts)

  -- one use more
  pub first_more : (uses : UsesWithIds) (starts : List UseStart) (start behind : UseStart) (entry : List ℕ × UseBody)
      → AreFirstStarts uses starts start → slice_get uses (length starts) ≡ Some entry → behind ≡ start_behind trees start entry.1
      → AreFirstStarts uses (starts ++ start ∷ []) behind
  first_more uses starts start behind entry first is behind_is =
      let long : length (starts ++ start ∷ []) ≡ suc (length starts) = length-append starts (start ∷ []) ∙ omega arith in
      let within = slice_get_within uses (length starts) entry is in
      record {
        few = omega (arith, long, within);
        each = λ k less. elim (last_or_before k (length starts) (omega (arith, less, long))) [
          | inl before ↦ slice_get-append_front starts (start ∷ []) k before ∙ first.each k before
          | inr last ↦
              ap (slice_get (starts ++ start ∷ [])) last
              ∙ slice_get-push_new starts start
              ∙ ap (λ (s : UseStart). Some s) first.next
              ∙ ap (λ (n : ℕ). Some (start_of trees uses n)) (sym last)
        ];
        next = behind_is ∙ ap (λ (s : UseStart). start_behind trees s entry.1) first.next ∙ start_next uses (length starts) entry is
            ∙ ap (start_of trees uses) (sym long);
      }
    where
      last_or_before : (k n : ℕ) → k < suc n → (k < n) ⊎ (k ≡ n)
      last_or_before k n less = grind arith

  -- past the last use they are all
  pub all_starts : (uses : UsesWithIds) (starts : List UseStart) (start : UseStart) → AreFirstStarts uses starts start
      → slice_get uses (length starts) ≡ None → AreStarts trees uses starts
  all_starts uses starts start first none =
      let few = first.few in
      let past = none_past uses (length starts) none in
      record { count = omega (arith, few, past); each = λ k less. first.each k (omega (arith, less, past)) }

-- ---- limits

-- The elements of a use end within the limits.
pub record EndsWithin (trees : ℕ → CellTree) (uses : UsesWithIds) (k : ℕ) (used : UseBody) : Type 0 where
  pub elements : (start_of trees uses k).element + standing_of trees used ≤ MOST_ELEMENTS_BELOW
  pub positions : (start_of trees uses k).position + length (displacements used.grid) ≤ MOST_ELEMENTS_BELOW

-- those of each use of a cell do
pub ends_within : (library : LibraryParts) → IsLawfulLibrary library → (cell : ℕ) → cell < length library.contents
    → (k : ℕ) (entry : List ℕ × UseBody) → slice_get (view_at (seen library) cell).uses k ≡ Some entry
    → EndsWithin (tree_at (seen library)) (view_at (seen library) cell).uses k entry.1
ends_within library lawful cell below k entry is =
    let trees = tree_at (seen library) in
    let uses = (view_at (seen library) cell).uses in
    let all = standing_all library lawful cell below in
    let few = standings_few library lawful cell below in
    let own = below_within trees uses k entry is in
    let counted = count_within uses k entry is in
    let most = few_elements library lawful cell below in
    record { elements = omega (arith, all, few, own); positions = omega (arith, counted, most) }
