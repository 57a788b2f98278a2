-- Regions that are kept as spans and members.
use Rattle.rect_overlays.proofs.Common.{◌≡◌, inl, inr, ℕ, ◌-◌, List, [], ◌∷◌, ◌++◌, length, map, take, drop, refl, sym, ◌∙◌, ap, map-append, Rect}
use Rattle.rect_overlays.proofs.Common.{Cut, Part, Regions, Span, low_half, high_half, Region, IsGathered, AddsPart, Holds, CutsInTwo}
use Rattle.std.specs.List.{flat_map}
use Rattle.std.proofs.lemmas.Grind.{flat_map-append}
use Rattle.std.proofs.lemmas.List.{append-nil}
use Rattle.rect_overlays.specs.steps.Regions.{span_of, members_of, AddsGathered}
use Rattle.rect_overlays.proofs.Lists.{map_ends, last_are, front_is}
use Rattle.rect_overlays.proofs.Parts.{gathered_is_part, none_is_there}

members_more : (held : List Region) (region : Region) → flat_map members_of held ++ region.members ≡ flat_map members_of (held ++ region ∷ [])
members_more held region =
    sym (flat_map-append members_of held (region ∷ []) ∙ ap (λ (v : List ℕ). flat_map members_of held ++ v) (append-nil region.members))

-- one more region behind them
pub holds_more : (before after : Regions) (held : List Region) (region : Region) → Holds before held
    → after.spans.items ≡ before.spans.items ++ span_of region ∷ [] → after.members.items ≡ before.members.items ++ region.members
    → Holds after (held ++ region ∷ [])
holds_more before after held region h spans members = record {
  spans = spans ∙ ap (λ (v : List Span). v ++ span_of region ∷ []) h.spans ∙ sym (map-append span_of held (region ∷ []));
  members = members ∙ ap (λ (v : List ℕ). v ++ region.members) h.members ∙ members_more held region;
}

-- what is gathered of an area is added
pub push_adds : (rects : List Rect) (indices : List ℕ) (area : Rect) (part : Part) (before after : Regions) (held : List Region) → Holds before held
    → IsGathered rects indices area part → AddsGathered part before after
    → (held' : List Region) × (Holds after held' × AddsPart rects indices area held held')
push_adds rects indices area part before after held h gathered (inl (some, spans, members)) =
    let region : Region = record { area = part.hull; members = part.members.items } in (
      held ++ region ∷ [],
      (holds_more before after held region h spans members, inl (region, (gathered_is_part rects indices area part gathered some, refl))),
    )
push_adds rects indices area part before after held h gathered (inr (none, spans, members)) = (
  held,
  (
    record { spans = spans ∙ h.spans; members = members ∙ h.members },
    inr (none_is_there rects indices area (sym gathered.kept ∙ none), refl),
  ),
)

-- so are both halves of a region
pub halves_are_added : (rects : List Rect) (region : Region) (cut : Cut) (low high : Part) (before between after : Regions)
    → IsGathered rects region.members (low_half region.area cut) low → IsGathered rects region.members (high_half region.area cut) high
    → AddsGathered low before between → AddsGathered high between after → CutsInTwo rects region cut before after
halves_are_added rects region cut low high before between after low_is high_is first second held h =
    let one = push_adds rects region.members (low_half region.area cut) low before between held h low_is first in
    let two = push_adds rects region.members (high_half region.area cut) high between after one.0 one.1.0 high_is second in
    (two.0, (two.1.0, (one.0, (one.1.1, two.1.1))))

-- where there is no span there is no region
pub nothing_held : (held : List Region) → map span_of held ≡ [] → held ≡ []
nothing_held [] none = refl
nothing_held (region ∷ held) none = absurd (cc)

-- The last region is taken off: its span, and its members.
pub record IsLast (held rest : List Region) (region : Region) (span : Span) (taken members : List ℕ) : Type 0 where
  pub is : held ≡ rest ++ region ∷ []
  pub span_is : span_of region ≡ span
  pub taken_is : taken ≡ region.members
  pub members_are : members ≡ flat_map members_of rest

-- the last span and the last so many members are those of the last region
pub last_is_taken : (regions : Regions) (held : List Region) (spans : List Span) (span : Span) (taken members : List ℕ) → Holds regions held
    → regions.spans.items ≡ spans ++ span ∷ [] → taken ≡ drop (length regions.members.items - span.count) regions.members.items
    → members ≡ take (length regions.members.items - span.count) regions.members.items
    → (rest : List Region) × (region : Region) × (IsLast held rest region span taken members × (spans ≡ map span_of rest))
last_is_taken regions held spans span taken members h ends last front =
    let found = map_ends span_of held spans span (sym h.spans ∙ ends) in
    let rest = found.0 in
    let region = found.1 in
    let all : regions.members.items ≡ flat_map members_of rest ++ region.members =
    h.members ∙ ap (flat_map members_of) found.2.0 ∙ sym (members_more rest region) in
    let count : span.count ≡ length region.members = ap (λ (s : Span). s.count) (sym found.2.2) in (
      rest,
      region,
      (
        record {
          is = found.2.0;
          span_is = found.2.2;
          taken_is = last ∙ ap (λ (n : ℕ). drop (length regions.members.items - n) regions.members.items) count
              ∙ ap (λ (v : List ℕ). drop (length v - length region.members) v) all ∙ last_are (flat_map members_of rest) region.members;
          members_are = front ∙ ap (λ (n : ℕ). take (length regions.members.items - n) regions.members.items) count
              ∙ ap (λ (v : List ℕ). take (length v - length region.members) v) all ∙ front_is (flat_map members_of rest) region.members;
        },
        sym found.2.1,
      ),
    )
