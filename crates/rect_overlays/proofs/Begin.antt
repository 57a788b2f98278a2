-- The region of all rectangles of a list.
use Rattle.rect_overlays.proofs.Common.{◌≡◌, ◌≢◌, inl, inr, Bool, true, false, ℕ, ◌<◌, List, [], ◌∷◌, ◌++◌, length, cond, refl, sym, ◌∙◌, ap, subst}
use Rattle.rect_overlays.proofs.Common.{AllPairs, filter, range_with_len, AllPairs-filter, In, In-push_cases, In-filter, In-filter_source}
use Rattle.rect_overlays.proofs.Common.{In-filter_passes, Square, Rect, joined_rect, Covers, corner_covers, IsProper-has_square, has_square-IsProper}
use Rattle.rect_overlays.proofs.Common.{covers_joined_left, covers_joined_right, covers_is_proper, rect_at, Part, Regions, Region, IsWholeOf}
use Rattle.rect_overlays.proofs.Common.{IsRegion, Holds, CoversAt}
use Rattle.geo_core.specs.Areas.{corner_of}
use Rattle.rect_contacts.proofs.BothWays.{Lists-below}
use Rattle.rect_overlays.specs.steps.Regions.{has_square_at, IsBeginning, AddsGathered}
use Rattle.rect_overlays.proofs.Lists.{kept_more, some-In, range_rises}
use Rattle.rect_overlays.proofs.Parts.{square_meets, rect_at_covers, at_is_below}
use Rattle.rect_overlays.proofs.Held.{holds_more}

module _ (rects : List Rect) where
  -- one more rectangle is gathered
  pub whole_more : (indices : List ℕ) (index : ℕ) (part part' : Part) (test : Bool) → test ≡ has_square_at rects index → IsWholeOf rects indices part
      → part'.members.items ≡ part.members.items ++ cond test (index ∷ []) []
      → part'.hull ≡ cond test (joined_rect part.hull (rect_at rects index)) part.hull → IsWholeOf rects (indices ++ index ∷ []) part'
  whole_more indices index part part' true met so_far members hull = record {
    holds = λ other i square c. subst (λ (r : Rect). Covers r square) (sym hull) (elim (In-push_cases other indices index i) [
      | inl j ↦ covers_joined_left part.hull (rect_at rects index) square (so_far.holds other j square c)
      | inr e ↦ covers_joined_right part.hull (rect_at rects index) square (subst (λ (k : ℕ). Covers (rect_at rects k) square) (sym e) c)
    ]);
    kept = members ∙ ap (λ (v : List ℕ). v ++ index ∷ []) so_far.kept
        ∙ ap (λ (b : Bool). filter (has_square_at rects) indices ++ cond b (index ∷ []) []) met
        ∙ sym (kept_more (has_square_at rects) indices index);
  }
  whole_more indices index part part' false met so_far members hull = record {
    holds = λ other i square c. subst (λ (r : Rect). Covers r square) (sym hull) (elim (In-push_cases other indices index i) [
      | inl j ↦ so_far.holds other j square c
      | inr e ↦ (let here : Covers (rect_at rects index) square = subst (λ (k : ℕ). Covers (rect_at rects k) square) (sym e) c in
          let some : has_square_at rects index ≡ true = has_square-IsProper (rect_at rects index) (covers_is_proper (rect_at rects index) square here) in
          absurd (cc))
    ]);
    kept = members ∙ ap (λ (v : List ℕ). v ++ []) so_far.kept
        ∙ ap (λ (b : Bool). filter (has_square_at rects) indices ++ cond b (index ∷ []) []) met
        ∙ sym (kept_more (has_square_at rects) indices index);
  }

  -- at first there is nothing
  pub whole_of_none : (part : Part) → part.members.items ≡ [] → IsWholeOf rects [] part
  whole_of_none part none = record { holds = λ index i. absurd i; kept = none }

  module _ (part : Part) (whole : IsWholeOf rects (range_with_len 0 (length rects)) part) where
    is_there : (index : ℕ) (square : Square) → CoversAt rects index square → In index part.members.items
    is_there index square at =
        let covers = rect_at_covers rects index square at in
        let listed = (Lists-below (length rects)).1 index (at_is_below rects index square at) in
        subst (In index) (sym whole.kept) (In-filter (has_square_at rects) index (range_with_len 0 (length rects)) listed
        (has_square-IsProper (rect_at rects index) (covers_is_proper (rect_at rects index) square covers)))

    is_covered : (index : ℕ) (square : Square) → CoversAt rects index square → Covers part.hull square
    is_covered index square at = whole.holds index ((Lists-below (length rects)).1 index (at_is_below rects index square at)) square
        (rect_at_covers rects index square at)

    corner_is_covered : (index : ℕ) → In index part.members.items
        → Covers (rect_at rects index) (corner_of (rect_at rects index)) × Covers part.hull (corner_of (rect_at rects index))
    corner_is_covered index i =
        let kept = subst (In index) whole.kept i in
        let all = range_with_len 0 (length rects) in
        let rect = rect_at rects index in
        let proper = IsProper-has_square rect (In-filter_passes (has_square_at rects) index all kept) in
        let corner = corner_covers rect (corner_of rect) proper refl refl in
        (corner, whole.holds index (In-filter_source (has_square_at rects) index all kept) (corner_of rect) corner)

    whole_is_region : part.members.items ≢ [] → IsRegion rects (record { area = part.hull; members = part.members.items })
    whole_is_region some =
        let one = some-In part.members.items some in
        let all = range_with_len 0 (length rects) in record {
          proper = covers_is_proper part.hull (corner_of (rect_at rects one.0)) (corner_is_covered one.0 one.1).1;
          some = some;
          meet = λ index i. let corner = corner_is_covered index i in
              square_meets part.hull (rect_at rects index) (corner_of (rect_at rects index)) corner.0 corner.1;
          knows = record {
            each = λ index i. (Lists-below (length rects)).2 index
                (In-filter_source (has_square_at rects) index all (subst (In index) whole.kept i));
            every = λ index square at c. is_there index square at;
            ordered = subst (AllPairs ◌<◌) (sym whole.kept) (AllPairs-filter ◌<◌ (has_square_at rects) all (range_rises (length rects)));
          };
        }

    -- at the end it makes the first region
    pub whole_begins : (before after : Regions) → before.spans.items ≡ [] → before.members.items ≡ [] → AddsGathered part before after
        → IsBeginning rects after
    whole_begins before after no_spans no_members (inl (some, spans, members)) =
        let region : Region = record { area = part.hull; members = part.members.items } in
        let none : Holds before [] = record { spans = no_spans; members = no_members } in
        (region ∷ [], (holds_more before after [] region none spans members, inl (region, (whole_is_region some, refl, is_covered))))
    whole_begins before after no_spans no_members (inr (none, spans, members)) = (
      [],
      (
        record { spans = spans ∙ no_spans; members = members ∙ no_members },
        inr (refl, λ index square at. subst (In index) none (is_there index square at)),
      ),
    )
