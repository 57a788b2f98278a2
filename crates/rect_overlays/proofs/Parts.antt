-- What rectangles have of an area, and the regions that it makes.
use Rattle.rect_overlays.proofs.Common.{◌≡◌, ◌≢◌, ◌⊎◌, inl, inr, Bool, true, false, ℕ, ◌<◌, ◌<ℤ◌, List, [], ◌∷◌, ◌++◌, length, refl, sym, ◌∙◌, ap}
use Rattle.rect_overlays.proofs.Common.{subst, cond, arith, AllPairs, filter, ints, AllPairs-filter, In, In-append_left, In-push, In-push_cases}
use Rattle.rect_overlays.proofs.Common.{In-filter, In-filter_source, In-filter_passes, AllPairs-push, Square, Rect, common_rect, joined_rect}
use Rattle.rect_overlays.proofs.Common.{AreDisjoint, LiesWithin, Covers, IsProper, corner_covers, IsProper-has_square, has_square-IsProper}
use Rattle.rect_overlays.proofs.Common.{covers_first, covers_second, covers_both, covers_is_proper, covers_joined_left, covers_joined_right, rect_at}
use Rattle.rect_overlays.proofs.Common.{Part, Region, meets, meets_at, IsGathered, AddsPart, IsRegion, CoversAt}
use Rattle.std.proofs.lemmas.Option.{slice_get-get_or, slice_get_within, get_or_from_slice_get}
use Rattle.geo_core.proofs.CoveringLaws.{within_covers}
use Rattle.geo_core.proofs.CoveringLaws.{joined_within, common_within}
use Rattle.rect_contacts.specs.Rects.{no_rect}
use Rattle.rect_overlays.specs.steps.Regions.{turned_over, IsHull, IsPart, Knows}
use Rattle.rect_overlays.proofs.Lists.{kept_more, some-In}

-- the area turned over goes nowhere past it
turned_within : (area : Rect) → IsProper area → LiesWithin (turned_over area) area
turned_within area proper =
    let wide : area.xlo <ℤ area.xhi = proper.wide in
    let high : area.ylo <ℤ area.yhi = proper.high in
    record { right_of_xlo = omega (arith, ints); above_ylo = omega (arith, ints); left_of_xhi = omega (arith, ints); below_yhi = omega (arith, ints) }

-- a rectangle with a square of the area meets it
pub square_meets : (area rect : Rect) (square : Square) → Covers rect square → Covers area square → meets area rect ≡ true
square_meets area rect square c d =
    let common = common_rect rect area in
    has_square-IsProper common (covers_is_proper common square (covers_both rect area square c d))

-- the corner of the common part of a rectangle and an area
abbrev pub corner_within : Rect → Rect → Square
corner_within area rect = record { x = (common_rect rect area).xlo; y = (common_rect rect area).ylo }

-- where they meet, both have it
pub corner_is_common : (area rect : Rect) → meets area rect ≡ true → Covers (common_rect rect area) (corner_within area rect)
corner_is_common area rect meet =
    corner_covers (common_rect rect area) (corner_within area rect) (IsProper-has_square (common_rect rect area) meet) refl refl

module _ (rects : List Rect) where
  -- a rectangle of the list covers what is covered at its index
  pub rect_at_covers : (index : ℕ) (square : Square) → CoversAt rects index square → Covers (rect_at rects index) square
  rect_at_covers index square at =
      subst (λ (r : Rect). Covers r square) (sym (get_or_from_slice_get rects index at.area no_rect at.there)) at.covers

  -- and what it covers is covered there
  pub covered_at : (index : ℕ) (square : Square) → index < length rects → Covers (rect_at rects index) square → CoversAt rects index square
  covered_at index square below c = record { area = rect_at rects index; there = slice_get-get_or rects index no_rect below; covers = c }

  pub at_is_below : (index : ℕ) (square : Square) → CoversAt rects index square → index < length rects
  at_is_below index square at = slice_get_within rects index at.area at.there

  -- a rectangle that doesn't meet the area adds nothing to the hull
  pub hull_skips : (indices : List ℕ) (area hull : Rect) (index : ℕ) → IsHull rects indices area hull → meets_at rects area index ≡ false
      → IsHull rects (indices ++ index ∷ []) area hull
  hull_skips indices area hull index h fails = record {
    within = h.within;
    holds = λ other i square c d. elim (In-push_cases other indices index i) [
      | inl j ↦ h.holds other j square c d
      | inr e ↦ (let meet : meets_at rects area index ≡ true =
          subst (λ (k : ℕ). meets_at rects area k ≡ true) (sym e) (square_meets area (rect_at rects other) square c d) in absurd (cc))
    ];
  }

  -- and the common part of another is joined to it
  pub hull_joins : (indices : List ℕ) (area hull : Rect) (index : ℕ) → IsHull rects indices area hull
      → IsHull rects (indices ++ index ∷ []) area (joined_rect hull (common_rect (rect_at rects index) area))
  hull_joins indices area hull index h =
      let common = common_rect (rect_at rects index) area in record {
        within = joined_within hull common area h.within (common_within (rect_at rects index) area);
        holds = λ other i square c d. elim (In-push_cases other indices index i) [
          | inl j ↦ covers_joined_left hull common square (h.holds other j square c d)
          | inr e ↦ covers_joined_right hull common square
              (covers_both (rect_at rects index) area square (subst (λ (k : ℕ). Covers (rect_at rects k) square) (sym e) c) d)
        ];
      }

  -- one more rectangle is gathered
  pub gathers_more : (indices : List ℕ) (index : ℕ) (area : Rect) (part part' : Part) (test : Bool) → test ≡ meets_at rects area index
      → IsGathered rects indices area part → part'.members.items ≡ part.members.items ++ cond test (index ∷ []) []
      → part'.hull ≡ cond test (joined_rect part.hull (common_rect (rect_at rects index) area)) part.hull
      → IsGathered rects (indices ++ index ∷ []) area part'
  gathers_more indices index area part part' true met so_far members hull = record {
    hull = subst (IsHull rects (indices ++ index ∷ []) area) (sym hull) (hull_joins indices area part.hull index so_far.hull);
    kept = members ∙ ap (λ (v : List ℕ). v ++ index ∷ []) so_far.kept
        ∙ ap (λ (b : Bool). filter (meets_at rects area) indices ++ cond b (index ∷ []) []) met
        ∙ sym (kept_more (meets_at rects area) indices index);
  }
  gathers_more indices index area part part' false met so_far members hull = record {
    hull = subst (IsHull rects (indices ++ index ∷ []) area) (sym hull) (hull_skips indices area part.hull index so_far.hull (sym met));
    kept = members ∙ ap (λ (v : List ℕ). v ++ []) so_far.kept
        ∙ ap (λ (b : Bool). filter (meets_at rects area) indices ++ cond b (index ∷ []) []) met
        ∙ sym (kept_more (meets_at rects area) indices index);
  }

  -- at first none is
  pub gathers_none : (area : Rect) (part : Part) → IsProper area → part.hull ≡ turned_over area → part.members.items ≡ []
      → IsGathered rects [] area part
  gathers_none area part proper turned none = record {
    hull = record {
      within = subst (λ (hull : Rect). LiesWithin hull area) (sym turned) (turned_within area proper);
      holds = λ index i. absurd i;
    };
    kept = none;
  }

  -- the hull of rectangles of which some meets the area has a square
  pub hull_is_proper : (indices : List ℕ) (area hull : Rect) (index : ℕ) → IsHull rects indices area hull → In index indices
      → meets_at rects area index ≡ true → IsProper hull
  hull_is_proper indices area hull index h i meet =
      let rect = rect_at rects index in
      let both = corner_is_common area rect meet in
      let square = corner_within area rect in
      covers_is_proper hull square (h.holds index i square (covers_first rect area square both) (covers_second rect area square both))

  -- what is gathered and is something makes a part
  pub gathered_is_part : (indices : List ℕ) (area : Rect) (part : Part) → IsGathered rects indices area part → part.members.items ≢ []
      → IsPart rects indices area (record { area = part.hull; members = part.members.items })
  gathered_is_part indices area part gathered some =
      let one = some-In part.members.items some in
      let kept = subst (In one.0) gathered.kept one.1 in record {
        proper = hull_is_proper indices area part.hull one.0 gathered.hull (In-filter_source (meets_at rects area) one.0 indices kept)
            (In-filter_passes (meets_at rects area) one.0 indices kept);
        some = some;
        hull = gathered.hull;
        kept = gathered.kept;
      }

  -- where it is nothing, no rectangle has a square in the area
  pub none_is_there : (indices : List ℕ) (area : Rect) → filter (meets_at rects area) indices ≡ [] → (index : ℕ) → In index indices
      → AreDisjoint (rect_at rects index) area
  none_is_there indices area none index i square c d =
      subst (In index) none (In-filter (meets_at rects area) index indices i (square_meets area (rect_at rects index) square c d))

  -- what is kept of known members is known
  knows_kept : (members : List ℕ) (area inner : Rect) (kept : List ℕ) → Knows rects area members → LiesWithin inner area
      → kept ≡ filter (meets_at rects area) members → Knows rects inner kept
  knows_kept members area inner kept knows within e = record {
    each = λ member i. knows.each member (In-filter_source (meets_at rects area) member members (subst (In member) e i));
    every = λ index square at c.
        let d = within_covers inner area square within c in
        subst (In index) (sym e) (In-filter (meets_at rects area) index members (knows.every index square at d)
        (square_meets area (rect_at rects index) square (rect_at_covers index square at) d));
    ordered = subst (AllPairs ◌<◌) (sym e) (AllPairs-filter ◌<◌ (meets_at rects area) members knows.ordered);
  }

  -- a part of an area whose members are known is a region
  pub part_is_region : (members : List ℕ) (area : Rect) (part : Region) → Knows rects area members → IsPart rects members area part
      → IsRegion rects part
  part_is_region members area part knows is = record {
    proper = is.proper;
    some = is.some;
    meet = λ member i.
        let kept = subst (In member) is.kept i in
        let rect = rect_at rects member in
        let both = corner_is_common area rect (In-filter_passes (meets_at rects area) member members kept) in
        let square = corner_within area rect in
        let covers = covers_first rect area square both in
        square_meets part.area rect square covers
        (is.hull.holds member (In-filter_source (meets_at rects area) member members kept) square covers (covers_second rect area square both));
    knows = knows_kept members area part.area part.members knows is.hull.within is.kept;
  }

  -- what is known of an area is known of what lies in it
  pub knows_inside : (members : List ℕ) (area inner : Rect) → ((square : Square) → Covers inner square → Covers area square)
      → Knows rects area members → Knows rects inner members
  knows_inside members area inner within knows = record {
    each = knows.each;
    every = λ index square at c. knows.every index square at (within square c);
    ordered = knows.ordered;
  }

  -- a region of the longer list was there, or is the part
  pub adds_cases : (members : List ℕ) (area : Rect) (before after : List Region) → AddsPart rects members area before after → (region : Region)
      → In region after → In region before ⊎ IsPart rects members area region
  adds_cases members area before after (inl (part, (is, e))) region i = elim (In-push_cases region before part (subst (In region) e i)) [
    | inl j ↦ inl j
    | inr same ↦ inr (subst (IsPart rects members area) same is)
  ]
  adds_cases members area before after (inr (none, e)) region i = inl (subst (In region) e i)

  -- those that were there still are
  pub adds_keeps : (members : List ℕ) (area : Rect) (before after : List Region) → AddsPart rects members area before after → (region : Region)
      → In region before → In region after
  adds_keeps members area before after (inl (part, (is, e))) region i = subst (In region) (sym e) (In-append_left region before (part ∷ []) i)
  adds_keeps members area before after (inr (none, e)) region i = subst (In region) (sym e) i

  -- what a rectangle covers of the area lies in a region of the longer list
  pub adds_covers : (members : List ℕ) (area : Rect) (before after : List Region) → AddsPart rects members area before after → (member : ℕ)
      → In member members → (square : Square) → Covers (rect_at rects member) square → Covers area square
      → (region : Region) × (In region after × Covers region.area square)
  adds_covers members area before after (inl (part, (is, e))) member i square c d =
      (part, (subst (In part) (sym e) (In-push before part), is.hull.holds member i square c d))
  adds_covers members area before after (inr (none, e)) member i square c d = absurd (none member i square c d)

  -- the regions lie apart as before, where the part lies apart from each
  pub adds_apart : (members : List ℕ) (area : Rect) (before after : List Region) → AddsPart rects members area before after
      → AllPairs (λ (a b : Region). AreDisjoint a.area b.area) before
      → ((region part : Region) → In region before → IsPart rects members area part → AreDisjoint region.area part.area)
      → AllPairs (λ (a b : Region). AreDisjoint a.area b.area) after
  adds_apart members area before after (inl (part, (is, e))) apart others =
      subst (AllPairs (λ (a b : Region). AreDisjoint a.area b.area)) (sym e)
      (AllPairs-push (λ (a b : Region). AreDisjoint a.area b.area) before part apart (λ region i. others region part i is))
  adds_apart members area before after (inr (none, e)) apart others = subst (AllPairs (λ (a b : Region). AreDisjoint a.area b.area)) (sym e) apart

  -- a part lies in its area
  pub part_covers : (members : List ℕ) (area : Rect) (part : Region) → IsPart rects members area part → (square : Square) → Covers part.area square
      → Covers area square
  part_covers members area part is square c = within_covers part.area area square is.hull.within c
