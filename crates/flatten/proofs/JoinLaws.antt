-- One side after the other, in the order of nodes, those of one node joined.
use Rattle.flatten.proofs.Common.{◌≡◌, ◌≢◌, ℕ, zero, suc, ◌+◌, ◌-◌, ◌<◌, ◌≤◌, ℤ, pos, negsuc, ◌+ℤ◌, ◌-ℤ◌, ◌≤ℤ◌, Bool, true, false, cond, eqb, List}
use Rattle.flatten.proofs.Common.{[], ◌∷◌, ◌++◌, length, map, take, get_or, inl, inr, refl, sym, ◌∙◌, ap, subst, arith, eq-eqb, Some, slice_get}
use Rattle.flatten.proofs.Common.{sum_by, w128, FitsSigned, unsigned_abs, set, cases_Bool, eqb-true, ints, length-take-le, get_or-take, sum_by-cons}
use Rattle.flatten.proofs.Common.{same_Some, get_or_from_slice_get, In, sum_on, In-map, In-map_source, In-push_cases, sum_on-push, In-slice_get}
use Rattle.flatten.proofs.Common.{Side, length_at, AreByNode, AreAscending, AreJoined}
use Rattle.std.specs.Prelude.{IsPermutation}
use Rattle.std.proofs.lemmas.Bool.{false≢true}
use Rattle.std.proofs.lemmas.List.{map-append}
use Rattle.std.proofs.lemmas.List.Sorted.{IsPermutation-sym, IsPermutation-map}
use Rattle.finite_sets.proofs.Members.{In-append_left, In-push, In-permutation}
use Rattle.finite_sets.proofs.Sums.{sum_on-nothing, sum_on-permutation}
use Rattle.ext_model.specs.declared.limits.TheConstants.{LENGTHS_EDGE}
use Rattle.flatten.proofs.PlaceLaws.{place_of}
use Rattle.flatten.specs.steps.Sides.{FitsLast, with_side}

-- the side with the length of another
abbrev pub lengthened : Side → Side → Side
lengthened last side = record { node = last.node; length = last.length +ℤ side.length }

differ_test : (a b : ℕ) → a ≢ b → eqb a b ≡ false
differ_test a b apart = elim (cases_Bool (eqb a b)) [ inl same ↦ absurd (apart (eqb-true a b same)) | inr differ ↦ differ ]

-- where the last is of the same node
pub with_side_same : (joined : List Side) (i : ℕ) (last side : Side) → i + 1 ≡ length joined → slice_get joined i ≡ Some last → last.node ≡ side.node
    → with_side joined side ≡ set joined i (lengthened last side)
with_side_same [] i last side ends at same = absurd (omega (arith, ends))
with_side_same (one ∷ []) zero last side ends at same =
    let is : one ≡ last = same_Some one last at in
    ap (λ (t : Bool). cond t (lengthened one side ∷ []) (one ∷ side ∷ []))
    (eq-eqb one.node side.node (ap (λ (s : Side). s.node) is ∙ same))
    ∙ ap (λ (s : Side). lengthened s side ∷ []) is
with_side_same (one ∷ []) (suc i) last side ends at same = absurd (omega (arith, ends))
with_side_same (first ∷ next ∷ rest) zero last side ends at same = absurd (omega (arith, ends))
with_side_same (first ∷ next ∷ rest) (suc i) last side ends at same =
    ap (λ (l : List Side). first ∷ l) (with_side_same (next ∷ rest) i last side (omega (arith, ends)) at same)

-- where it is of another, or there is none
pub with_side_new : (joined : List Side) (i : ℕ) (last side : Side) → i + 1 ≡ length joined → slice_get joined i ≡ Some last → last.node ≢ side.node
    → with_side joined side ≡ joined ++ side ∷ []
with_side_new [] i last side ends at apart = absurd (omega (arith, ends))
with_side_new (one ∷ []) zero last side ends at apart =
    let is : one ≡ last = same_Some one last at in
    ap (λ (t : Bool). cond t (lengthened one side ∷ []) (one ∷ side ∷ []))
    (differ_test one.node side.node (λ e. apart (ap (λ (s : Side). s.node) (sym is) ∙ e)))
with_side_new (one ∷ []) (suc i) last side ends at apart = absurd (omega (arith, ends))
with_side_new (first ∷ next ∷ rest) zero last side ends at apart = absurd (omega (arith, ends))
with_side_new (first ∷ next ∷ rest) (suc i) last side ends at apart =
    ap (λ (l : List Side). first ∷ l) (with_side_new (next ∷ rest) i last side (omega (arith, ends)) at apart)

-- What one more side makes of the joined ones: its own where it is new, or it lengthens one.
data IsWithSide (joined : List Side) (side one : Side) : Type 0 where
  kept : In one joined → one.node ≢ side.node → IsWithSide joined side one
  longer : (last : Side) → In last joined → last.node ≡ side.node → one ≡ lengthened last side → IsWithSide joined side one
  new : one ≡ side → ((other : Side) → In other joined → other.node ≢ side.node) → IsWithSide joined side one

later : (first : Side) (joined : List Side) (side one : Side) → first.node ≢ side.node → IsWithSide joined side one → IsWithSide (first ∷ joined) side one
later first joined side one apart (kept here differ) = kept (inr here) differ
later first joined side one apart (longer last here same is) = longer last (inr here) same is
later first joined side one apart (new is none) =
    new is (λ other h. elim h [
      | inl e ↦ (λ same. apart (ap (λ (s : Side). s.node) e ∙ same))
      | inr k ↦ none other k
    ])

last_cases : (last side one : Side) (t : Bool) → (t ≡ true → last.node ≡ side.node) → (t ≡ false → last.node ≢ side.node)
    → In one (cond t (lengthened last side ∷ []) (last ∷ side ∷ [])) → IsWithSide (last ∷ []) side one
last_cases last side one true same apart (inl e) = longer last (inl refl) (same refl) (sym e)
last_cases last side one true same apart (inr h) = absurd h
last_cases last side one false same apart (inl e) = kept (inl e) (λ is. apart refl (ap (λ (s : Side). s.node) e ∙ is))
last_cases last side one false same apart (inr (inl e)) =
    new (sym e) (λ other h. elim h [ inl d ↦ (λ is. apart refl (ap (λ (s : Side). s.node) d ∙ is)) | inr n ↦ absurd n ])
last_cases last side one false same apart (inr (inr h)) = absurd h

test_differs : (a b : ℕ) → eqb a b ≡ false → a ≢ b
test_differs a b differ same = absurd (false≢true (sym differ ∙ eq-eqb a b same))

with_side_cases : (joined : List Side) (side : Side) → AreAscending joined → ((other : Side) → In other joined → other.node ≤ side.node) → (one : Side)
    → In one (with_side joined side) → IsWithSide joined side one
with_side_cases [] side up late one (inl e) = new (sym e) (λ other h. absurd h)
with_side_cases [] side up late one (inr h) = absurd h
with_side_cases (last ∷ []) side up late one h =
    last_cases last side one (eqb last.node side.node) (λ e. eqb-true last.node side.node e) (λ e. test_differs last.node side.node e) h
with_side_cases (first ∷ next ∷ rest) side up late one (inl e) =
    kept (inl e)
    (λ same. let below = up.0 in let bound = late next (inr (inl refl)) in
    let is = ap (λ (s : Side). s.node) e in absurd (omega (arith, below, bound, is, same)))
with_side_cases (first ∷ next ∷ rest) side up late one (inr h) =
    later first (next ∷ rest) side one
    (λ same. let below = up.0 in let bound = late next (inr (inl refl)) in absurd (omega (arith, below, bound, same)))
    (with_side_cases (next ∷ rest) side up.1 (λ other k. late other (inr k)) one h)

-- the first of the joined sides stays the first
first_stays : (next : Side) (rest : List Side) (side : Side) → (one : Side) ×
    ((more : List Side) × ((with_side (next ∷ rest) side ≡ one ∷ more) × (one.node ≡ next.node)))
first_stays next [] side = step (eqb next.node side.node)
  where
    step : (t : Bool) → (one : Side) × ((more : List Side) × ((cond t (lengthened next side ∷ []) (next ∷ side ∷ []) ≡ one ∷ more) × (one.node ≡ next.node)))
    step true = (lengthened next side, ([], (refl, refl)))
    step false = (next, (side ∷ [], (refl, refl)))
first_stays next (another ∷ rest) side = (next, (with_side (another ∷ rest) side, (refl, refl)))

-- joined sides stay in the order of nodes
with_side_ascending : (joined : List Side) (side : Side) → AreAscending joined → ((other : Side) → In other joined → other.node ≤ side.node)
    → AreAscending (with_side joined side)
with_side_ascending [] side up late = tt
with_side_ascending (last ∷ []) side up late =
    step (eqb last.node side.node) (λ e. (let apart = test_differs last.node side.node e in let bound = late last (inl refl) in omega (arith, apart, bound)))
  where
    step : (t : Bool) → (t ≡ false → last.node < side.node) → AreAscending (cond t (lengthened last side ∷ []) (last ∷ side ∷ []))
    step true less = tt
    step false less = (less refl, tt)
with_side_ascending (first ∷ next ∷ rest) side up late =
    let more = with_side_ascending (next ∷ rest) side up.1 (λ other h. late other (inr h)) in
    let r = first_stays next rest side in
    let P : List Side → Type 0 = λ l. AreAscending (first ∷ l) in
    let Q : List Side → Type 0 = AreAscending in
    let below = up.0 in
    subst P (sym r.1.1.0) (let same = r.1.1.1 in (omega (arith, below, same), subst Q r.1.1.0 more))

-- each node of before stays
node_stays : (joined : List Side) (side : Side) (node : ℕ) → In node (map (λ s. s.node) joined) → In node (map (λ s. s.node) (with_side joined side))
node_stays [] side node h = absurd h
node_stays (last ∷ []) side node h = step (eqb last.node side.node) h
  where
    step : (t : Bool) → In node (map (λ s. s.node) (last ∷ [])) → In node (map (λ s. s.node) (cond t (lengthened last side ∷ []) (last ∷ side ∷ [])))
    step true (inl e) = inl e
    step true (inr n) = absurd n
    step false (inl e) = inl e
    step false (inr n) = absurd n
node_stays (first ∷ next ∷ rest) side node (inl e) = inl e
node_stays (first ∷ next ∷ rest) side node (inr h) = inr (node_stays (next ∷ rest) side node h)

-- and the side's node is there
node_comes : (joined : List Side) (side : Side) → In side.node (map (λ s. s.node) (with_side joined side))
node_comes [] side = inl refl
node_comes (last ∷ []) side = step (eqb last.node side.node) (λ e. eqb-true last.node side.node e)
  where
    step : (t : Bool) → (t ≡ true → last.node ≡ side.node) → In side.node (map (λ s. s.node) (cond t (lengthened last side ∷ []) (last ∷ side ∷ [])))
    step true same = inl (same refl)
    step false same = inr (inl refl)
node_comes (first ∷ next ∷ rest) side = inr (node_comes (next ∷ rest) side)

plus_none : (z : ℤ) → z ≡ z +ℤ pos 0
plus_none z = omega (arith, ints)

-- what a side adds at its own node, and at another
added_here : (node : ℕ) (sides : List Side) (side : Side) → side.node ≡ node
    → sum_on (length_at node) (sides ++ side ∷ []) ≡ sum_on (length_at node) sides +ℤ side.length
added_here node sides side same =
    sum_on-push (length_at node) sides side
    ∙ ap (λ (t : Bool). sum_on (length_at node) sides +ℤ cond t side.length (pos 0)) (eq-eqb side.node node same)

added_elsewhere : (node : ℕ) (sides : List Side) (side : Side) → side.node ≢ node
    → sum_on (length_at node) (sides ++ side ∷ []) ≡ sum_on (length_at node) sides
added_elsewhere node sides side apart =
    sum_on-push (length_at node) sides side
    ∙ ap (λ (t : Bool). sum_on (length_at node) sides +ℤ cond t side.length (pos 0)) (differ_test side.node node apart)
    ∙ sym (plus_none (sum_on (length_at node) sides))

-- the nodes of joined sides are no later than all that was joined
late_joined : (done joined : List Side) (side : Side) → AreJoined done joined → ((part : Side) → In part done → part.node ≤ side.node)
    → (other : Side) → In other joined → other.node ≤ side.node
late_joined done joined side are late other here =
    let r = In-map_source (λ (s : Side). s.node) other.node done ((are.nodes other.node).0 (In-map (λ (s : Side). s.node) other joined here)) in
    let bound = late r.0 r.1.0 in
    let same = r.1.1 in
    omega (arith, bound, same)

-- one more side
pub join_more : (done joined : List Side) (side : Side) → AreJoined done joined → ((part : Side) → In part done → part.node ≤ side.node)
    → AreJoined (done ++ side ∷ []) (with_side joined side)
join_more done joined side are late =
    let bound = late_joined done joined side are late in
    let more = map-append (λ (s : Side). s.node) done (side ∷ []) in
    let P : ℕ → List ℕ → Type 0 = λ node l. In node l in
    record {
      ascending = with_side_ascending joined side are.ascending bound;
      nodes = λ node. (
        (λ h. (let r = In-map_source (λ (s : Side). s.node) node (with_side joined side) h in
            subst (P node) (sym more) (from_cases node r.0 r.1.1 (with_side_cases joined side are.ascending bound r.0 r.1.0)))),
        (λ h. elim (In-push_cases node (map (λ (s : Side). s.node) done) side.node (subst (P node) more h)) [
          | inl old ↦ node_stays joined side node ((are.nodes node).1 old)
          | inr e ↦ (let Q : ℕ → Type 0 = λ k. In k (map (λ s. s.node) (with_side joined side)) in subst Q e (node_comes joined side))
        ]),
      );
      lengths = λ one h. length_from one (with_side_cases joined side are.ascending bound one h);
    }
  where
    old_node : (other : Side) → In other joined → In other.node (map (λ (s : Side). s.node) done)
    old_node other here = (are.nodes other.node).0 (In-map (λ (s : Side). s.node) other joined here)

    from_cases : (node : ℕ) (one : Side) → one.node ≡ node → IsWithSide joined side one → In node (map (λ (s : Side). s.node) done ++ side.node ∷ [])
    from_cases node one is (kept here apart) =
        (let Q : ℕ → Type 0 = λ k. In k (map (λ (s : Side). s.node) done ++ side.node ∷ []) in
        subst Q is (In-append_left one.node (map (λ (s : Side). s.node) done) (side.node ∷ []) (old_node one here)))
    from_cases node one is (longer last here same e) =
        (let Q : ℕ → Type 0 = λ k. In k (map (λ (s : Side). s.node) done ++ side.node ∷ []) in
        subst Q (ap (λ (s : Side). s.node) (sym e) ∙ is) (In-append_left last.node (map (λ (s : Side). s.node) done) (side.node ∷ []) (old_node last here)))
    from_cases node one is (new e none) =
        (let Q : ℕ → Type 0 = λ k. In k (map (λ (s : Side). s.node) done ++ side.node ∷ []) in
        subst Q (ap (λ (s : Side). s.node) (sym e) ∙ is) (In-push (map (λ (s : Side). s.node) done) side.node))

    length_from : (one : Side) → IsWithSide joined side one → one.length ≡ sum_on (length_at one.node) (done ++ side ∷ [])
    length_from one (kept here apart) = are.lengths one here ∙ sym (added_elsewhere one.node done side (λ e. apart (sym e)))
    length_from one (longer last here same e) =
        ap (λ (s : Side). s.length) e ∙ ap (λ (z : ℤ). z +ℤ side.length) (are.lengths last here) ∙ sym (added_here last.node done side (sym same))
        ∙ ap (λ (k : ℕ). sum_on (length_at k) (done ++ side ∷ [])) (ap (λ (s : Side). s.node) (sym e))
    length_from one (new e none) =
        ap (λ (s : Side). s.length) e ∙ none_before side.length
        ∙ ap (λ (z : ℤ). z +ℤ side.length) (sym (sum_on-nothing (length_at side.node) done
        (λ part h. ap (λ (t : Bool). cond t part.length (pos 0)) (differ_test part.node side.node (λ same. absent part h same)))))
        ∙ sym (added_here side.node done side refl) ∙ ap (λ (k : ℕ). sum_on (length_at k) (done ++ side ∷ [])) (ap (λ (s : Side). s.node) (sym e))
      where
        none_before : (z : ℤ) → z ≡ pos 0 +ℤ z
        none_before z = omega (arith, ints)

        absent : (part : Side) → In part done → part.node ≡ side.node → ⊥
        absent part h same =
            let r = In-map_source (λ (s : Side). s.node) part.node joined ((are.nodes part.node).1 (In-map (λ (s : Side). s.node) part done h)) in
            none r.0 r.1.0 (r.1.1 ∙ same)

-- at most so much without its sign
IsUpTo : ℕ → ℤ → Type 0
IsUpTo n z = ((pos 0 -ℤ pos n) ≤ℤ z) × (z ≤ℤ pos n)

up_to_itself : (z : ℤ) → IsUpTo (unsigned_abs z) z
unfolding IsUpTo
up_to_itself (pos n) = (omega (arith, ints), omega (arith, ints))
up_to_itself (negsuc n) = (omega (arith, ints), omega (arith, ints))

-- a sum of lengths is at most the lengths without their signs
sum_up_to : (node : ℕ) (sides : List Side) → IsUpTo (sum_by (λ side. unsigned_abs side.length) sides) (sum_on (length_at node) sides)
unfolding IsUpTo
sum_up_to node [] = (omega (arith, ints), omega (arith, ints))
sum_up_to node (side ∷ sides) =
    let P : ℕ → Type 0 = λ n. IsUpTo n (length_at node side +ℤ sum_on (length_at node) sides) in
    subst P (sym (sum_by-cons (λ (one : Side). unsigned_abs one.length) side sides))
    (step (eqb side.node node) (up_to_itself side.length) (sum_up_to node sides))
  where
    step : (t : Bool) → IsUpTo (unsigned_abs side.length) side.length
        → IsUpTo (sum_by (λ (one : Side). unsigned_abs one.length) sides) (sum_on (length_at node) sides)
        → IsUpTo (unsigned_abs side.length + sum_by (λ (one : Side). unsigned_abs one.length) sides)
        (cond t side.length (pos 0) +ℤ sum_on (length_at node) sides)
    step true h k = let a = h.0 in let b = h.1 in let c = k.0 in let d = k.1 in (omega (arith, ints, a, c), omega (arith, ints, b, d))
    step false h k = let c = k.0 in let d = k.1 in (omega (arith, ints, c), omega (arith, ints, d))

-- so the length of one more side can be added to the last one's
pub fits_last : (done joined : List Side) (side : Side) → AreJoined done joined
    → sum_by (λ one. unsigned_abs one.length) done + unsigned_abs side.length < LENGTHS_EDGE → FitsLast joined side
unfolding IsUpTo
fits_last done joined side are short last at =
    let is = are.lengths last (In-slice_get joined (length joined - 1) last at) in
    let P : ℤ → Type 0 = λ z. FitsSigned w128 (z +ℤ side.length) in
    let s = sum_on (length_at last.node) done in
    let k = sum_up_to last.node done in
    let h = up_to_itself side.length in
    let a = h.0 in let b = h.1 in let c = k.0 in let d = k.1 in
    let fits : FitsSigned w128 (s +ℤ side.length) = omega (arith, ints, a, b, c, d, short) in
    subst P (sym is) fits

-- where there is no side yet
pub with_side_first : (joined : List Side) (side : Side) → length joined ≡ 0 → with_side joined side ≡ joined ++ side ∷ []
with_side_first [] side none = refl
with_side_first (one ∷ joined) side none = absurd (omega (arith, none))

-- joined sides are those of the sides in any order
pub joined_any_order : (sides ordered joined : List Side) → IsPermutation sides ordered → AreJoined ordered joined → AreJoined sides joined
joined_any_order sides ordered joined moved are =
    let there = IsPermutation-map (λ (s : Side). s.node) sides ordered moved in
    let back = IsPermutation-sym (map (λ (s : Side). s.node) sides) (map (λ (s : Side). s.node) ordered) there in
    record {
      ascending = are.ascending;
      nodes = λ node. (
        (λ h. In-permutation node (map (λ (s : Side). s.node) ordered) (map (λ (s : Side). s.node) sides) back ((are.nodes node).0 h)),
        (λ h. (are.nodes node).1 (In-permutation node (map (λ (s : Side). s.node) sides) (map (λ (s : Side). s.node) ordered) there h)),
      );
      lengths = λ side h. are.lengths side h ∙ sum_on-permutation (length_at side.node) sides ordered moved;
    }

-- what comes before a side in order is of no later node
pub late_by_node : (sides : List Side) → AreByNode sides → (i : ℕ) → i < length sides → (d : Side) → (part : Side) → In part (take i sides)
    → part.node ≤ (get_or sides i d).node
late_by_node sides sorted i inside d part here =
    let r = place_of part (take i sides) here in
    let taken = length-take-le i sides (omega (arith, inside)) in
    let before : r.0 < i = omega (arith, r.1.0, taken) in
    let is : get_or sides r.0 d ≡ part = sym (get_or-take i sides r.0 d before) ∙ get_or_from_slice_get (take i sides) r.0 part d r.1.1 in
    let P : Side → Type 0 = λ s. s.node ≤ (get_or sides i d).node in
    subst P is (sorted r.0 i d before inside)
