-- The events of rectangles are those of their beginnings and tops, in order.
use Rattle.geo_strips.proofs.Common.{◌≡◌, inl, inr, ℤ, ◌≤ℤ◌, ◌<ℤ◌, Bool, true, false, List, ◌++◌, map, get_or, refl, sym, ◌∙◌, ap, subst, arith}
use Rattle.geo_strips.proofs.Common.{AllPairs, IsSorted, IsPermutation, IsTotalOrder, int_cmp, ordering_then, false≢true, int_cmp_total, on_total}
use Rattle.geo_strips.proofs.Common.{then_total, ints, In, In-append_left, In-map, int_then-not_less, IsSorted-pairs, Rect, Bar, Event, bar_cmp}
use Rattle.geo_strips.proofs.Common.{joined, end_of, AreEvents}
use Rattle.std.specs.Prelude.{filter}
use Rattle.std.specs.declared.cmp.Ordering.TheVariants.{Less, Equal}
use Rattle.std.specs.Ordering.{int_eq, eq_by_cmp, bool_cmp, ordering_reverse}
use Rattle.std.specs.List.{dedup}
use Rattle.std.specs.List.Sorted.{IsStrictlySortedBy}
use Rattle.std.proofs.lemmas.Cmp.{int_eq_equiv, int_ranked}
use Rattle.std.proofs.lemmas.List.Kept.{Contains-dedup, IsStrictlySortedBy-dedup}
use Rattle.std.proofs.lemmas.List.Sorted.{IsPermutation-sym}
use Rattle.std.proofs.lemmas.Map.Keys.{Less-from_sorted}
use Rattle.geo_core.proofs.FiniteSets.Members.{In-append_cases, In-append_right, In-map_source, In-filter, In-filter_source}
use Rattle.geo_core.proofs.FiniteSets.Members.{In-filter_passes, In-from_Contains, Contains-from_In, In-permutation}
use Rattle.geo_core.specs.Areas.{has_square}
use Rattle.geo_core.proofs.CoveringLaws.{IsProper-has_square, has_square-IsProper}
use Rattle.geo_strips.specs.steps.RowEvents.{begin_of, top_of, event_cmp, IsAtNoLaterRow, IsBegin}
use Rattle.geo_strips.proofs.JoinLaws.{IsLong, AreLong, joined-are}
use Rattle.geo_strips.proofs.BarOrderLaws.{bars_in_order}

bool_cmp_antisymm : (x y : Bool) → bool_cmp x y ≡ ordering_reverse (bool_cmp y x)
bool_cmp_antisymm false false = refl
bool_cmp_antisymm false true = refl
bool_cmp_antisymm true false = refl
bool_cmp_antisymm true true = refl

bool_cmp_trans : (x y z : Bool) → bool_cmp x y ≡ Less → bool_cmp y z ≡ Less → bool_cmp x z ≡ Less
bool_cmp_trans false false z p q = cc
bool_cmp_trans false true true p q = refl
bool_cmp_trans false true false p q = cc
bool_cmp_trans true false z p q = cc
bool_cmp_trans true true z p q = cc

bool_cmp_congr : (x y z : Bool) → bool_cmp x y ≡ Equal → bool_cmp x z ≡ bool_cmp y z
bool_cmp_congr false false z p = refl
bool_cmp_congr false true z p = cc
bool_cmp_congr true false z p = cc
bool_cmp_congr true true z p = refl

bool_cmp_total : IsTotalOrder bool_cmp
bool_cmp_total = record { antisymm = bool_cmp_antisymm; trans = bool_cmp_trans; congr = bool_cmp_congr }

event_cmp_total : IsTotalOrder event_cmp
event_cmp_total = then_total (on_total (λ e. e.row) int_cmp_total) (then_total (on_total (λ e. e.ends) bool_cmp_total)
    (then_total (on_total (λ e. e.from) int_cmp_total) (then_total (on_total (λ e. e.to) int_cmp_total) (on_total (λ e. e.top) int_cmp_total))))

-- an event comes no later than one that is not before it
events_in_order : (events : List Event) → IsSorted event_cmp events → AllPairs IsAtNoLaterRow events
events_in_order events sorted = λ i j d less below.
    let a = get_or events i d in
    let b = get_or events j d in
    let rest = ordering_then (bool_cmp b.ends a.ends) (ordering_then (int_cmp b.from a.from) (ordering_then (int_cmp b.to a.to) (int_cmp b.top a.top))) in
    int_then-not_less a.row b.row rest (IsSorted-pairs event_cmp event_cmp_total events sorted i j d less below)

-- what stands in the list of the tests' passes
begins_are : (areas : List Rect) (event : Event) → In event (map begin_of (filter has_square areas)) → IsBegin areas event
begins_are areas event i =
    let s = In-map_source begin_of event (filter has_square areas) i in
    record {
      area = s.0;
      in_list = In-filter_source has_square s.0 areas s.1.0;
      proper = IsProper-has_square s.0
          (In-filter_passes has_square s.0 areas s.1.0);
      is = s.1.1;
    }

tops_are_long : (areas : List Rect) → AreLong (map top_of (filter has_square areas))
tops_are_long areas bar i =
    let s = In-map_source top_of bar (filter has_square areas) i in
    subst IsLong s.1.1 (IsProper-has_square s.0 (In-filter_passes has_square s.0 areas s.1.0)).wide

-- the sorted list has the events of the rectangles
pub events_are : (areas : List Rect) (begins all events : List Event) (tops upper ends : List Bar)
    → begins ≡ map begin_of (filter has_square areas) → tops ≡ map top_of (filter has_square areas) → IsPermutation tops upper → IsSorted bar_cmp
    upper → ends ≡ joined upper
    → all ≡ begins ++ map end_of ends → IsPermutation all events → IsSorted event_cmp events → AreEvents areas events
events_are areas begins all events tops upper ends e-begins e-tops tops_moved tops_sorted e-ends e-all moved sorted =
    let there : (event : Event) → In event all → In event events = λ event i. In-permutation event all events moved i in
    let back : (event : Event) → In event events → In event all = λ event i. In-permutation event events all (IsPermutation-sym all events moved) i in
    let long : AreLong upper = λ bar i. tops_are_long areas bar (subst (In bar) e-tops
    (In-permutation bar upper tops (IsPermutation-sym tops upper tops_moved) i)) in
    let join = joined-are upper (bars_in_order upper tops_sorted) long in
    record {
      begins = λ event i no_end. elim (In-append_cases event begins (map end_of ends) (subst (In event) e-all (back event i))) [
        | inl k ↦ begins_are areas event (subst (In event) e-begins k)
        | inr k ↦ absurd (let s = In-map_source end_of event ends k in false≢true (sym no_end ∙ sym (ap (λ e. e.ends) s.1.1)))
      ];
      begun = λ area i proper. there (begin_of area) (subst (In (begin_of area)) (sym e-all) (In-append_left (begin_of area) begins (map end_of ends)
          (subst (In (begin_of area)) (sym e-begins) (In-map begin_of area (filter has_square areas)
          (In-filter has_square area areas i (has_square-IsProper area proper))))));
      ended = λ area x i proper after before.
          let top : In (top_of area) upper = In-permutation (top_of area) tops upper tops_moved (subst (In (top_of area)) (sym e-tops)
          (In-map top_of area (filter has_square areas) (In-filter has_square area areas i (has_square-IsProper area proper)))) in
          let p = join.keeps area.yhi area.yhi x (record {
            bar = top_of area;
            in_list = top;
            has = record { low_is = refl; high_is = refl; from_no_later = after; to_later = before };
          }) in
          record {
            event = end_of p.bar;
            in_list = there (end_of p.bar) (subst (In (end_of p.bar)) (sym e-all) (In-append_right (end_of p.bar) begins (map end_of ends)
                (In-map end_of p.bar ends (subst (In p.bar) (sym e-ends) p.in_list))));
            ends = refl;
            at_row = p.has.low_is;
            after = p.has.from_no_later;
            before = p.has.to_later;
          };
      ordered = events_in_order events sorted;
    }

-- sorted columns, each once
less_no_later : (a b : ℤ) → int_cmp a b ≡ Less → a ≤ℤ b
less_no_later a b e = let less : a <ℤ b = int_ranked a b Less (sym e) in omega (arith, ints)

-- what is sorted and has each once rises
pub sides_in_order : (sorted found : List ℤ) → IsSorted int_cmp sorted → found ≡ dedup int_eq sorted → AllPairs ◌≤ℤ◌ found
sides_in_order sorted found up is = λ i j d less below.
    let strict = subst (IsStrictlySortedBy int_cmp) (sym is) (IsStrictlySortedBy-dedup int_cmp_total {E = int_eq} int_eq_ties sorted up) in
    less_no_later (get_or found i d) (get_or found j d) (Less-from_sorted int_cmp found i j d strict less below)
  where
    int_eq_ties : (x y : ℤ) → int_eq x y ≡ eq_by_cmp int_cmp x y
    int_eq_ties x y = refl

-- and has what was there
pub sides_kept : (sides sorted found : List ℤ) (x : ℤ) → IsPermutation sides sorted → found ≡ dedup int_eq sorted → In x sides → In x found
sides_kept sides sorted found x moved is i =
    subst (In x) (sym is) (In-from_Contains x (dedup int_eq sorted) (Contains-dedup int_eq_equiv same sorted x
    (Contains-from_In x sorted (In-permutation x sides sorted moved i))))
  where
    same : (x y : ℤ) → int_eq x y ≡ true → x ≡ y
    same x y h = grind (arith, ints)
