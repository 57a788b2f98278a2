-- The stacks and the regions stay apart and have all that is covered, as a region is made a stack or cut in two.
use Rattle.rect_overlays.proofs.Common.{◌≡◌, ◌≢◌, ◌⊎◌, inl, inr, ℕ, ◌<◌, List, [], ◌∷◌, ◌++◌, refl, sym, subst, arith, AllPairs, In, In-append_left}
use Rattle.rect_overlays.proofs.Common.{In-push, In-push_cases, AllPairs-push, Square, Rect, AreDisjoint, Covers, IsProper, rect_at, Cut, Stack}
use Rattle.rect_overlays.proofs.Common.{low_half, high_half, IsInside, Region, AddsPart, IsRegion, IsMade, AddsHalves, IsSplit, CoversAt}
use Rattle.rect_overlays.specs.steps.Regions.{IsPart, IsWhole}
use Rattle.rect_overlays.specs.Stacks.{IsStack, AreStacks}
use Rattle.rect_overlays.proofs.Halves.{round_covers, low_covers, high_covers, in_one_half, halves_are_apart}
use Rattle.rect_overlays.proofs.Lists.{AllPairs-front}
use Rattle.rect_overlays.proofs.Parts.{covered_at, rect_at_covers, part_is_region, knows_inside, part_covers}
use Rattle.rect_overlays.proofs.Parts.{adds_cases, adds_keeps, adds_covers, adds_apart}

-- what is made of a region is a stack
pub made_is_stack : (rects : List Rect) (region : Region) (stack : Stack) → IsRegion rects region
    → IsMade rects region stack → IsStack rects stack
made_is_stack rects region stack is made = record {
  proper = subst IsProper (sym made.area) is.proper;
  some = subst (λ (v : List ℕ). v ≢ []) (sym made.members) is.some;
  members = λ index i square c.
      let member = subst (In index) made.members i in
      covered_at rects index square (is.knows.each index member)
      (round_covers region.area (rect_at rects index) square (made.around index member) (subst (λ (r : Rect). Covers r square) made.area c));
  ordered = subst (AllPairs ◌<◌) (sym made.members) is.knows.ordered;
  others = λ index square c at.
      subst (In index) (sym made.members) (is.knows.every index square at (subst (λ (r : Rect). Covers r square) made.area c));
}

module _ (rects : List Rect) (rest : List Region) (region : Region) (stacks : List Stack)
    (split : IsSplit rects (rest ++ region ∷ []) stacks) where
  -- the last region is one
  pub last_is_region : IsRegion rects region
  last_is_region = split.each_region region (In-push rest region)

  earlier : (other : Region) → In other rest → In other (rest ++ region ∷ [])
  earlier other i = In-append_left other rest (region ∷ []) i

  -- it is made a stack
  pub finish_keeps : (stack : Stack) → IsMade rects region stack → IsSplit rects rest (stacks ++ stack ∷ [])
  finish_keeps stack made =
      let front = AllPairs-front (λ (a b : Region). AreDisjoint a.area b.area) rest region split.regions_apart in record {
        each_region = λ other i. split.each_region other (earlier other i);
        each_stack = λ other i. elim (In-push_cases other stacks stack i) [
          | inl j ↦ split.each_stack other j
          | inr e ↦ subst (IsStack rects) e (made_is_stack rects region stack last_is_region made)
        ];
        regions_apart = front.0;
        stacks_apart = AllPairs-push (λ (a b : Stack). AreDisjoint a.area b.area) stacks stack split.stacks_apart
            (λ other i. subst (AreDisjoint other.area) (sym made.area) (split.between other region i (In-push rest region)));
        between = λ other next i j. elim (In-push_cases other stacks stack i) [
          | inl k ↦ split.between other next k (earlier next j)
          | inr e ↦ (λ square c d. front.1 next j square d
              (subst (λ (r : Rect). Covers r square) made.area (subst (λ (s : Stack). Covers s.area square) (sym e) c)))
        ];
        every = λ index square at. elim (split.every index square at) [
          | inl (other, (i, c)) ↦ inl (other, (In-append_left other stacks (stack ∷ []) i, c))
          | inr (other, (i, c)) ↦ elim (In-push_cases other rest region i) [
            | inl j ↦ inr (other, (j, c))
            | inr e ↦ inl (
              stack,
              (
                In-push stacks stack,
                subst (λ (r : Rect). Covers r square) (sym made.area) (subst (λ (r : Region). Covers r.area square) (sym e) c),
              ),
            )
          ]
        ];
      }

  -- of what is added for the two halves each region was there or is a part of a half
  module _ (cut : Cut) (inside : IsInside region.area cut) (between after : List Region)
      (low : AddsPart rects region.members (low_half region.area cut) rest between)
      (high : AddsPart rects region.members (high_half region.area cut) between after) where
    abbrev Low : Region → Type 0
    Low part = IsPart rects region.members (low_half region.area cut) part

    abbrev High : Region → Type 0
    High part = IsPart rects region.members (high_half region.area cut) part

    low_inside : (part : Region) → Low part → (square : Square) → Covers part.area square → Covers region.area square
    low_inside part is square c =
        low_covers region.area cut inside square (part_covers rects region.members (low_half region.area cut) part is square c)

    high_inside : (part : Region) → High part → (square : Square) → Covers part.area square → Covers region.area square
    high_inside part is square c =
        high_covers region.area cut inside square (part_covers rects region.members (high_half region.area cut) part is square c)

    cases : (other : Region) → In other after → In other rest ⊎ (Low other ⊎ High other)
    cases other i = elim (adds_cases rects region.members (high_half region.area cut) between after high other i) [
      | inr h ↦ inr (inr h)
      | inl j ↦ elim (adds_cases rects region.members (low_half region.area cut) rest between low other j) [
        | inl k ↦ inl k
        | inr l ↦ inr (inl l)
      ]
    ]

    kept : (other : Region) → In other rest → In other after
    kept other i = adds_keeps rects region.members (high_half region.area cut) between after high other
        (adds_keeps rects region.members (low_half region.area cut) rest between low other i)

    low_region : (part : Region) → Low part → IsRegion rects part
    low_region part is = part_is_region rects region.members (low_half region.area cut) part
        (knows_inside rects region.members region.area (low_half region.area cut) (low_covers region.area cut inside) last_is_region.knows) is

    high_region : (part : Region) → High part → IsRegion rects part
    high_region part is = part_is_region rects region.members (high_half region.area cut) part
        (knows_inside rects region.members region.area (high_half region.area cut) (high_covers region.area cut inside) last_is_region.knows) is

    rest_apart : (other : Region) → In other rest → AreDisjoint other.area region.area
    rest_apart = (AllPairs-front (λ (a b : Region). AreDisjoint a.area b.area) rest region split.regions_apart).1

    between_apart : AllPairs (λ (a b : Region). AreDisjoint a.area b.area) between
    between_apart = adds_apart rects region.members (low_half region.area cut) rest between low
        (AllPairs-front (λ (a b : Region). AreDisjoint a.area b.area) rest region split.regions_apart).0
        (λ other part i is square c d. rest_apart other i square c (low_inside part is square d))

    after_apart : AllPairs (λ (a b : Region). AreDisjoint a.area b.area) after
    after_apart = adds_apart rects region.members (high_half region.area cut) between after high between_apart
        (λ other part i is square c d. elim (adds_cases rects region.members (low_half region.area cut) rest between low other i) [
          | inl j ↦ rest_apart other j square c (high_inside part is square d)
          | inr l ↦ halves_are_apart region.area cut square (part_covers rects region.members (low_half region.area cut) other l square c)
              (part_covers rects region.members (high_half region.area cut) part is square d)
        ])

    in_region : (index : ℕ) (square : Square) → CoversAt rects index square → Covers region.area square
        → (other : Region) × (In other after × Covers other.area square)
    in_region index square at c =
        let known = last_is_region.knows.every index square at c in
        let covers = rect_at_covers rects index square at in
        elim (in_one_half region.area cut square c) [
          | inl l ↦ (let found = adds_covers rects region.members (low_half region.area cut) rest between low index known square covers l in
              (found.0, (adds_keeps rects region.members (high_half region.area cut) between after high found.0 found.1.0, found.1.1)))
          | inr h ↦ adds_covers rects region.members (high_half region.area cut) between after high index known square covers h
        ]

    halves_keep : IsSplit rects after stacks
    halves_keep = record {
      each_region = λ other i. elim (cases other i) [
        | inl j ↦ split.each_region other (earlier other j)
        | inr part ↦ elim part [ inl l ↦ low_region other l | inr h ↦ high_region other h ]
      ];
      each_stack = split.each_stack;
      regions_apart = after_apart;
      stacks_apart = split.stacks_apart;
      between = λ stack other i j. elim (cases other j) [
        | inl k ↦ split.between stack other i (earlier other k)
        | inr part ↦ (λ square c d. split.between stack region i (In-push rest region) square c
            (elim part [ inl l ↦ low_inside other l square d | inr h ↦ high_inside other h square d ]))
      ];
      every = λ index square at. elim (split.every index square at) [
        | inl found ↦ inl found
        | inr (other, (i, c)) ↦ elim (In-push_cases other rest region i) [
          | inl j ↦ inr (other, (kept other j, c))
          | inr e ↦ inr (in_region index square at (subst (λ (r : Region). Covers r.area square) (sym e) c))
        ]
      ];
    }

  -- or cut in two
  pub cut_keeps : (cut : Cut) (after : List Region) → IsInside region.area cut → AddsHalves rects region cut rest after
      → IsSplit rects after stacks
  cut_keeps cut after inside halves = halves_keep cut inside halves.0 after halves.1.0 halves.1.1

-- at first there are no stacks
pub split_begins : (rects : List Rect) (regions : List Region) → IsWhole rects regions → IsSplit rects regions []
split_begins rects regions (inl (region, is)) =
    let listed : In region (region ∷ []) = inl refl in
    let only : (other : Region) → In other (region ∷ []) → region ≡ other = λ other i. elim i [ inl e ↦ e | inr none ↦ absurd none ] in
    subst (λ (v : List Region). IsSplit rects v []) (sym is.1) (record {
      each_region = λ other i. subst (IsRegion rects) (only other i) is.0;
      each_stack = λ stack i. absurd i;
      regions_apart = λ i j d less below. absurd (omega arith);
      stacks_apart = λ i j d less below. absurd (omega arith);
      between = λ stack other i j. absurd i;
      every = λ index square at. inr (region, (listed, is.2 index square at));
    })
split_begins rects regions (inr (none, nothing)) = subst (λ (v : List Region). IsSplit rects v []) (sym none) (record {
  each_region = λ other i. absurd i;
  each_stack = λ stack i. absurd i;
  regions_apart = λ i j d less below. absurd (omega arith);
  stacks_apart = λ i j d less below. absurd (omega arith);
  between = λ stack other i j. absurd i;
  every = λ index square at. absurd (nothing index square at);
})

-- and in the end no regions
pub split_ends : (rects : List Rect) (stacks : List Stack) → IsSplit rects [] stacks → AreStacks rects stacks
split_ends rects stacks split = record {
  each = split.each_stack;
  apart = split.stacks_apart;
  every = λ index square at. elim (split.every index square at) [ inl found ↦ found | inr none ↦ absurd none.1.0 ];
}
