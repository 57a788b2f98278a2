-- What is known of a region that is taken off.
use Rattle.rect_overlays.proofs.Common.{◌≡◌, ℕ, ◌-◌, ◌<◌, List, [], ◌∷◌, ◌++◌, length, take, drop, refl, sym, ◌∙◌, ap, subst, All, Rect, Cut}
use Rattle.rect_overlays.proofs.Common.{Regions, Span, Stack, IsInside, Region, Holds, IsRegion, AreApart, AddsSingles, CutsInTwo, IsMade, IsSplit}
use Rattle.rect_overlays.proofs.Common.{IsSplitWith}
use Rattle.std.proofs.Common.{Vec, Global}
use Rattle.geo_core.proofs.FiniteSets.Searches.{All-from_In}
use Rattle.rect_overlays.proofs.Apart.{singles_keep}
use Rattle.rect_overlays.proofs.Held.{last_is_taken}
use Rattle.rect_overlays.proofs.Splitting.{last_is_region, finish_keeps, cut_keeps}
use Rattle.rect_overlays.proofs.Weights.{weights, less_without, less_in_halves}

-- What is known once the last region is taken off: it is a region, and whether it is made a stack, or a stack for each member, or cut in two,
-- the stacks and the regions that are left are a split, and there is less left to do.
pub record IsTakenOff (rects : List Rect) (before after : Regions) (region : Region) (stacks : List Stack) : Type 0 where
  pub is : IsRegion rects region
  pub within : All (λ member. member < length rects) region.members
  pub finish_splits : (stack : Stack) → IsMade rects region stack → IsSplitWith rects after (stacks ++ stack ∷ [])
  pub singles_split : (stacks' : List Stack) → AreApart rects region.members → AddsSingles rects region.area region.members stacks stacks'
      → IsSplitWith rects after stacks'
  pub finish_leaves_less : weights after.spans.items < weights before.spans.items
  pub cut_splits : (cut : Cut) (after' : Regions) → IsInside region.area cut → CutsInTwo rects region cut after after'
      → IsSplitWith rects after' stacks
  pub cut_leaves_less : (cut : Cut) (after' : Regions) → IsInside region.area cut → CutsInTwo rects region cut after after'
      → weights after'.spans.items < weights before.spans.items

-- so it is where the last span and the last so many members are moved off
pub taken_off : (rects : List Rect) (before : Regions) (spans : Vec Span Global) (members : Vec ℕ Global) (span : Span)
    (taken : List ℕ) (stacks : List Stack) → IsSplitWith rects before stacks → before.spans.items ≡ spans.items ++ span ∷ []
    → taken ≡ drop (length before.members.items - span.count) before.members.items
    → members.items ≡ take (length before.members.items - span.count) before.members.items
    → IsTakenOff rects before (record { spans = spans; members = members }) (record { area = span.area; members = taken }) stacks
taken_off rects before spans members span taken stacks split ends last front =
    let after : Regions = record { spans = spans; members = members } in
    let region : Region = record { area = span.area; members = taken } in
    let found = last_is_taken before split.0 spans.items span taken members.items split.1.0 ends last front in
    let rest = found.0 in
    let area : found.1.area ≡ span.area = ap (λ (s : Span). s.area) found.2.0.span_is in
    let same : record { area = found.1.area; members = found.1.members } ≡ region =
    ap (λ (a : Rect). record { area = a; members = found.1.members }) area
    ∙ ap (λ (v : List ℕ). record { area = span.area; members = v }) (sym found.2.0.taken_is) in
    let holds : Holds after rest = record { spans = found.2.1; members = found.2.0.members_are } in
    let all : IsSplit rects (rest ++ region ∷ []) stacks =
    subst (λ (r : Region). IsSplit rects (rest ++ r ∷ []) stacks) same
    (subst (λ (v : List Region). IsSplit rects v stacks) found.2.0.is split.1.1) in
    let is = last_is_region rects rest region stacks all in
    record {
      is = is;
      within = All-from_In (λ member. member < length rects) taken is.knows.each;
      finish_splits = λ stack made. (rest, (holds, finish_keeps rects rest region stacks all stack made));
      singles_split = λ stacks' apart adds. (
        rest,
        (
          holds,
          subst (IsSplit rects rest) (sym adds.1.1)
              (singles_keep rects rest region stacks all apart adds.0 adds.1.0),
        ),
      );
      finish_leaves_less = subst (λ (v : List Span). weights spans.items < weights v) (sym ends) (less_without spans.items span is.proper);
      cut_splits = λ cut after' inside cuts.
          let made = cuts rest holds in (made.0, (made.1.0, cut_keeps rects rest region stacks all cut made.0 inside made.1.1));
      cut_leaves_less = λ cut after' inside cuts. subst (λ (v : List Span). weights after'.spans.items < weights v) (sym ends)
          (less_in_halves rects rest region cut after after' span is.proper inside holds refl cuts);
    }
