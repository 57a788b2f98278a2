-- Strips of sets on several planes: of one plane more, of no square, and of sets with the same squares.
use Rattle.hier_merge.proofs.Common.{◌≡◌, ◌≤◌, ◌<◌, ◌+◌, ℕ, zero, suc, List, [], ◌∷◌, ◌++◌, map, inl, inr, refl, sym, ap, subst, ◌∙◌, arith, ◌↔◌}
use Rattle.hier_merge.proofs.Common.{cases_eq, ints, append-nil, append_assoc, Square, Rect, IsStrips, IsInUnion, strip_is_proper, strips_same}
use Rattle.hier_merge.proofs.Common.{AreStripsFrom}

-- strips of one plane more
pub plane_more : (Set : ℕ → Square → Type 0) (plane count last : ℕ) (found : List (ℕ × Rect)) (strips : List Rect) → last ≡ plane + count
    → AreStripsFrom Set plane count found → IsStrips (Set last) strips
    → AreStripsFrom Set plane (suc count) (found ++ map (λ area. (last, area)) strips)
plane_more Set plane zero last found strips at none are =
    let same : last ≡ plane = omega arith in (
      strips,
      [],
      ap (λ (f : List (ℕ × Rect)). f ++ map (λ area. (last, area)) strips) none
          ∙ ap (λ (n : ℕ). map (λ (area : Rect). (n, area)) strips) same
          ∙ sym (append-nil (map (λ (area : Rect). (plane, area)) strips)),
      subst (λ (n : ℕ). IsStrips (Set n) strips) same are,
      refl,
    )
plane_more Set plane (suc count) last found strips at (first, rest, is, first_are, later) are = (
  first,
  rest ++ map (λ area. (last, area)) strips,
  ap (λ (f : List (ℕ × Rect)). f ++ map (λ area. (last, area)) strips) is
      ∙ append_assoc (map (λ (area : Rect). (plane, area)) first) rest (map (λ area. (last, area)) strips),
  first_are,
  plane_more Set (suc plane) count last rest strips (omega arith) later are,
)

-- where two lists together are empty, each is
both_empty : (plane : ℕ) (strips : List Rect) (rest : List (ℕ × Rect)) → map (λ area. (plane, area)) strips ++ rest ≡ []
    → (strips ≡ []) × (rest ≡ [])
both_empty plane [] rest none = (refl, none)
both_empty plane (strip ∷ strips) rest none = absurd (cc)

-- where there is no strip, no square is of one of the sets
pub no_strips : (Set : ℕ → Square → Type 0) (plane count : ℕ) (found : List (ℕ × Rect)) → AreStripsFrom Set plane count found → found ≡ []
    → (other : ℕ) → plane ≤ other → other < plane + count → (square : Square) → Set other square → ⊥
no_strips Set plane zero found are none other low high square of = omega arith
no_strips Set plane (suc count) found (first, rest, is, first_are, later) none other low high square of =
    let empty = both_empty plane first rest (sym is ∙ none) in
    elim (cases_eq plane other) [
      | inl same ↦
          let in_one = first_are.whole square (subst (λ (n : ℕ). Set n square) (sym same) of) in
          (subst (λ (strips : List Rect). IsInUnion strips square) empty.0 in_one).1.0
      | inr differ ↦ no_strips Set (suc plane) count rest later empty.1 other (omega arith) (omega arith) square of
    ]

-- a set without squares has no strip
none_of_nothing : (S : Square → Type 0) (strips : List Rect) → IsStrips S strips → ((square : Square) → S square → ⊥) → strips ≡ []
none_of_nothing S [] are nothing = refl
none_of_nothing S (strip ∷ strips) are nothing =
    let is = are.each strip (inl refl) in
    let proper = strip_is_proper S strip is in
    let run = is.runs strip.ylo (omega (arith, ints)) proper.high in
    absurd (nothing (record { x = strip.xlo; y = strip.ylo }) (run.within strip.xlo (omega (arith, ints)) proper.wide))

-- where no square is of one of the sets, there is no strip
pub nothing_there : (Set : ℕ → Square → Type 0) (plane count : ℕ) (found : List (ℕ × Rect)) → AreStripsFrom Set plane count found
    → ((other : ℕ) (square : Square) → Set other square → ⊥) → found ≡ []
nothing_there Set plane zero found are nothing = are
nothing_there Set plane (suc count) found (first, rest, is, first_are, later) nothing =
    is
    ∙ ap (λ (strips : List Rect). map (λ area. (plane, area)) strips ++ rest) (none_of_nothing (Set plane) first first_are (nothing plane))
    ∙ nothing_there Set (suc plane) count rest later nothing

-- strips of sets are those of sets with the same squares
pub strips_of_same : (Set Other : ℕ → Square → Type 0) → ((plane : ℕ) (square : Square) → Set plane square ↔ Other plane square) → (plane count : ℕ)
    (found : List (ℕ × Rect)) → AreStripsFrom Set plane count found → AreStripsFrom Other plane count found
strips_of_same Set Other same plane zero found are = are
strips_of_same Set Other same plane (suc count) found (first, rest, is, first_are, later) = (
  first,
  rest,
  is,
  strips_same (Set plane) (Other plane) (λ s. (same plane s).0) (λ s. (same plane s).1) first first_are,
  strips_of_same Set Other same (suc plane) count rest later,
)
