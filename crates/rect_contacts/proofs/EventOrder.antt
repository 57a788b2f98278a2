-- The events of the rectangles of two lists: which there are, that each is there once, and their order.
use Rattle.rect_contacts.proofs.Common.{drop, append_assoc, ◌≡◌, ◌≢◌, inl, inr, ℕ, zero, suc, ◌+◌, ◌<◌, Bool, true, false, List, [], ◌∷◌, ◌++◌}
use Rattle.rect_contacts.proofs.Common.{length, get_or, refl, sym, ◌∙◌, ap, subst, arith, IsPermutation, IsSorted, Ordering, is_lt, int_cmp, nat_cmp}
use Rattle.rect_contacts.proofs.Common.{ordering_then, false≢true, int_cmp_total, nat_cmp_total, on_total, then_total, get_or_default}
use Rattle.rect_contacts.proofs.Common.{IsPermutation-sym, Rect, In, Distinct, In-append_left, In-permutation, AllPairs-permutation, Event, no_rect}
use Rattle.rect_contacts.proofs.Common.{rect_at, events_from, AreEvents}
use Rattle.std.specs.Cmp.{IsTotalOrder, bool_cmp_total}
use Rattle.std.specs.Ordering.{bool_cmp}
use Rattle.geo_core.proofs.FiniteSets.Distincts.{Distinct-append, Distinct-places, Distinct-from_places}
use Rattle.geo_core.proofs.FiniteSets.Members.{In-append_right, In-append_cases}
use Rattle.geo_core.proofs.FiniteSets.Orders.{ordering_then-not_less, Lexicographic-map, IsSorted-pairs}
use Rattle.geo_core.proofs.FiniteSets.Searches.{drop_split}
use Rattle.rect_contacts.specs.steps.Events.{event_of, event_at, ComesNoLater, list_of, IsEvent}

-- the rectangle at each place has its beginning and its end among them
event_in : (begins s : Bool) (n : ℕ) (rects : List Rect) (k : ℕ) → k < length rects → In (event_of begins s (n + k) (rect_at rects k)) (events_from s n rects)
event_in begins s n [] k h = absurd (omega arith)
event_in true s n (r ∷ rs) zero h = inl (ap (λ (m : ℕ). event_of true s m r) (let e : n ≡ n + 0 = omega arith in e))
event_in false s n (r ∷ rs) zero h = inr (inl (ap (λ (m : ℕ). event_of false s m r) (let e : n ≡ n + 0 = omega arith in e)))
event_in begins s n (r ∷ rs) (suc k) h =
    let e : (n + 1) + k ≡ n + suc k = omega arith in
    inr (inr (subst (λ (m : ℕ). In (event_of begins s m (rect_at rs k)) (events_from s (n + 1) rs)) e (event_in begins s (n + 1) rs k (omega arith))))

-- the events of one rectangle more
pub adds_more : (s : Bool) (rects : List Rect) (n : ℕ) (before mid after all : List Event) → n < length rects
    → mid ≡ before ++ event_of true s n (rect_at rects n) ∷ [] → after ≡ mid ++ event_of false s n (rect_at rects n) ∷ []
    → before ++ events_from s n (drop n rects) ≡ all → after ++ events_from s (n + 1) (drop (n + 1) rects) ≡ all
adds_more s rects n before mid after all below e f h =
    let begin : List Event = event_of true s n (rect_at rects n) ∷ [] in
    let end : List Event = event_of false s n (rect_at rects n) ∷ [] in
    let rest = events_from s (n + 1) (drop (n + 1) rects) in
    ap (λ (v : List Event). v ++ rest) (f ∙ ap (λ (v : List Event). v ++ end) e)
    ∙ append_assoc (before ++ begin) end rest ∙ append_assoc before begin (end ++ rest)
    ∙ ap (λ (v : List Rect). before ++ events_from s n v) (sym (drop_split rects n (rect_at rects n) below (get_or_default rects n no_rect (rect_at rects n)
    below)))
    ∙ h

-- which rectangle an event is of
record IsOf (s : Bool) (n : ℕ) (rects : List Rect) (event : Event) : Type 0 where
  place : ℕ
  below : place < length rects
  is : event ≡ event_of event.begins s (n + place) (rect_at rects place)

-- each is the event of one of the rectangles
is_of : (s : Bool) (n : ℕ) (rects : List Rect) (event : Event) → In event (events_from s n rects) → IsOf s n rects event
is_of s n [] event i = absurd i
is_of s n (r ∷ rs) event (inl h) =
    subst (IsOf s n (r ∷ rs)) h (record { place = 0; below = omega arith; is = ap (λ (m : ℕ). event_of true s m r) (let e : n ≡ n + 0 = omega arith in e) })
is_of s n (r ∷ rs) event (inr (inl h)) =
    subst (IsOf s n (r ∷ rs)) h (record { place = 0; below = omega arith; is = ap (λ (m : ℕ). event_of false s m r) (let e : n ≡ n + 0 = omega arith in e) })
is_of s n (r ∷ rs) event (inr (inr i)) =
    let o = is_of s (n + 1) rs event i in
    let e : (n + 1) + o.place ≡ n + suc o.place = omega arith in
    let below = o.below in
    record { place = suc o.place; below = omega (arith, below); is = o.is ∙ ap (λ (m : ℕ). event_of event.begins s m (rect_at rs o.place)) e }

-- no event is there twice
each_once : (s : Bool) (n : ℕ) (rects : List Rect) → Distinct (events_from s n rects)
each_once s n [] = tt
each_once s n (r ∷ rs) = (
  (λ i. elim i [
    | inl h ↦ false≢true (ap (λ (v : Event). v.begins) h)
    | inr j ↦ later true j
  ]),
  (later false, each_once s (n + 1) rs),
)
  where
    later : (begins : Bool) → In (event_of begins s n r) (events_from s (n + 1) rs) → ⊥
    later begins j =
        let o = is_of s (n + 1) rs (event_of begins s n r) j in
        let e : n ≡ (n + 1) + o.place = ap (λ (v : Event). v.owner) o.is in
        omega (arith, e)

-- the events of two lists
abbrev pub both : List Rect → List Rect → List Event
both first second = events_from false 0 first ++ events_from true 0 second

of_list : (first second : List Rect) (s : Bool) (event : Event) → IsOf s 0 (list_of first second s) event → IsEvent first second event
of_list first second s event o =
    let side : event.of_second ≡ s = ap (λ (v : Event). v.of_second) o.is in
    let owner : event.owner ≡ 0 + o.place = ap (λ (v : Event). v.owner) o.is in
    let below = o.below in
    let place : o.place ≡ event.owner = omega (arith, owner) in
    let zero_place : 0 + o.place ≡ event.owner = omega (arith, owner) in
    record {
      in_list = subst (λ (v : Bool). event.owner < length (list_of first second v)) (sym side)
          (subst (λ (k : ℕ). k < length (list_of first second s)) place below);
      is = o.is ∙ ap (λ (k : ℕ). event_of event.begins s k (rect_at (list_of first second s) o.place)) zero_place
          ∙ ap (λ (k : ℕ). event_of event.begins s event.owner (rect_at (list_of first second s) k)) place
          ∙ ap (λ (v : Bool). event_at first second event.begins v event.owner) (sym side);
    }

both_each : (first second : List Rect) (event : Event) → In event (both first second) → IsEvent first second event
both_each first second event i = elim (In-append_cases event (events_from false 0 first) (events_from true 0 second) i) [
  | inl j ↦ of_list first second false event (is_of false 0 first event j)
  | inr j ↦ of_list first second true event (is_of true 0 second event j)
]

both_all : (first second : List Rect) (begins s : Bool) (place : ℕ) → place < length (list_of first second s)
    → In (event_at first second begins s place) (both first second)
both_all first second begins false place h =
    In-append_left (event_at first second begins false place) (events_from false 0 first) (events_from true 0 second)
    (subst (λ (k : ℕ). In (event_of begins false k (rect_at first place)) (events_from false 0 first)) (let e : 0 + place ≡ place = omega arith in e)
    (event_in begins false 0 first place h))
both_all first second begins true place h =
    In-append_right (event_at first second begins true place) (events_from false 0 first) (events_from true 0 second)
    (subst (λ (k : ℕ). In (event_of begins true k (rect_at second place)) (events_from true 0 second)) (let e : 0 + place ≡ place = omega arith in e)
    (event_in begins true 0 second place h))

both_once : (first second : List Rect) → Distinct (both first second)
both_once first second = Distinct-append (events_from false 0 first) (events_from true 0 second) (each_once false 0 first) (each_once true 0 second)
    (λ event i j.
    let a : event.of_second ≡ false = ap (λ (v : Event). v.of_second) (is_of false 0 first event i).is in
    let b : event.of_second ≡ true = ap (λ (v : Event). v.of_second) (is_of true 0 second event j).is in
    false≢true (sym a ∙ b))

-- the order of events
abbrev pub event_cmp : Event → Event → Ordering
event_cmp a b =
    ordering_then (int_cmp a.line b.line) (ordering_then (bool_cmp a.begins b.begins) (ordering_then (bool_cmp a.of_second b.of_second)
    (ordering_then (nat_cmp a.owner b.owner) (ordering_then (int_cmp a.from b.from) (int_cmp a.to b.to)))))

event_cmp_total : IsTotalOrder event_cmp
event_cmp_total = then_total (on_total (λ e. e.line) int_cmp_total) (then_total (on_total (λ e. e.begins) bool_cmp_total)
    (then_total (on_total (λ e. e.of_second) bool_cmp_total) (then_total (on_total (λ e. e.owner) nat_cmp_total)
    (then_total (on_total (λ e. e.from) int_cmp_total) (on_total (λ e. e.to) int_cmp_total)))))

begins_last : (x y : Bool) (rest : Ordering) → is_lt (ordering_then (bool_cmp y x) rest) ≡ false → x ≡ true → y ≡ true
begins_last x true rest h e = refl
begins_last true false rest h e = absurd (false≢true (sym h))
begins_last false false rest h e = e

in_order : (a b : Event) → is_lt (event_cmp b a) ≡ false → ComesNoLater a b
in_order a b h =
    let rest = ordering_then (bool_cmp b.of_second a.of_second) (ordering_then (nat_cmp b.owner a.owner) (ordering_then (int_cmp b.from a.from) (int_cmp b.to
    a.to))) in
    Lexicographic-map a.line b.line (begins_last a.begins b.begins rest) (ordering_then-not_less a.line b.line (ordering_then (bool_cmp b.begins a.begins)
    rest) h)

-- and once they are sorted they are the events in order
pub sorted_events : (first second : List Rect) (events : List Event) → IsPermutation (both first second) events → IsSorted event_cmp events
    → AreEvents first second events
sorted_events first second events moved sorted = record {
  each = λ event i. both_each first second event (In-permutation event events (both first second) (IsPermutation-sym (both first second) events moved) i);
  all = λ begins s place h. In-permutation (event_at first second begins s place) (both first second) events moved (both_all first second begins s place h);
  once = Distinct-from_places events (λ i j d less below. AllPairs-permutation (λ (a b : Event). a ≢ b) (λ a b apart e. apart (sym e)) (both first second)
      events moved
      (λ k l e up last. Distinct-places (both first second) k l e (both_once first second) up last) i j d less below);
  ordered = λ i j d less below. in_order (get_or events i d) (get_or events j d) (IsSorted-pairs event_cmp event_cmp_total events sorted i j d less below);
}
