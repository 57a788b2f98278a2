-- The first place of a mark, and the links that are set from the last member to the first.
use Rattle.piece_groups.proofs.Common.{◌≡◌, ◌≢◌, ◌<◌, ◌≤◌, ◌+◌, ◌-◌, ℕ, cond, List, Option, Some, None, length, get_or, inl, inr, sym, ◌∙◌, ap}
use Rattle.piece_groups.proofs.Common.{subst, arith, ◌==◌, All, cases_eq, cond-true, cond-false, eq-eqb, eqb-true, length-map, get_or_default}
use Rattle.piece_groups.proofs.Common.{All-get_or, drop_split, Member, marks_of, place_with, AreLinkedFrom}
use Rattle.std.proofs.Common.{set}
use Rattle.std.specs.List.{position_from}
use Rattle.std.proofs.lemmas.Bool.{false_from_ne_true}
use Rattle.std.proofs.lemmas.List.{length-set, get_or-set_same, get_or-set_other, get_or-map, drop_all}

-- a place has its mark, or the first place with that mark stands behind it
pub place_with_here : (marks : List ℕ) (from mark : ℕ) → from < length marks
    → place_with marks from mark ≡ cond (get_or marks from 0 == mark) (Some from) (place_with marks (from + 1) mark)
place_with_here marks from mark within =
    ap (position_from (λ (other : ℕ). other == mark) from)
    (drop_split marks from (get_or marks from 0) within (get_or_default marks from 0 (get_or marks from 0) within))

pub place_with_same : (marks : List ℕ) (from mark : ℕ) → from < length marks → get_or marks from 0 ≡ mark → place_with marks from mark ≡ Some from
place_with_same marks from mark within same =
    place_with_here marks from mark within
    ∙ cond-true (get_or marks from 0 == mark) (Some from) (place_with marks (from + 1) mark) (eq-eqb (get_or marks from 0) mark same)

pub place_with_other : (marks : List ℕ) (from mark : ℕ) → from < length marks → get_or marks from 0 ≢ mark
    → place_with marks from mark ≡ place_with marks (from + 1) mark
place_with_other marks from mark within other =
    place_with_here marks from mark within
    ∙ cond-false (get_or marks from 0 == mark) (Some from) (place_with marks (from + 1) mark)
    (false_from_ne_true (get_or marks from 0 == mark) (λ yes. other (eqb-true (get_or marks from 0) mark yes)))

pub place_with_past : (marks : List ℕ) (from mark : ℕ) → length marks ≤ from → place_with marks from mark ≡ None
place_with_past marks from mark past = ap (position_from (λ (other : ℕ). other == mark) from) (drop_all from marks past)

-- the links with one more member before those that are linked
pub linked_more : (marks : List ℕ) (bound place mark : ℕ) (firsts nexts : List (Option ℕ)) (next : Option ℕ) → place < length marks → mark < bound
    → mark ≡ get_or marks place 0 → next ≡ get_or firsts mark None → AreLinkedFrom marks bound (place + 1) firsts nexts
    → AreLinkedFrom marks bound place (set firsts mark (Some place)) (set nexts place next)
linked_more marks bound place mark firsts nexts next within marked is_mark is_next linked = record {
  as_many = length-set firsts mark (Some place) ∙ linked.as_many;
  first = λ other below. elim (cases_eq other mark) [
    | inl same ↦ subst (λ (m : ℕ). get_or (set firsts mark (Some place)) m None ≡ place_with marks place m) (sym same)
        (get_or-set_same firsts mark (Some place) None (omega (arith, linked.as_many)) ∙ sym (place_with_same marks place mark within (sym is_mark)))
    | inr differ ↦ get_or-set_other firsts mark other (Some place) None differ ∙ linked.first other below
        ∙ sym (place_with_other marks place other within (λ same. differ (sym (is_mark ∙ same))))
  ];
  long = length-set nexts place next ∙ linked.long;
  next = λ at from_here below. elim (cases_eq at place) [
    | inl same ↦ subst (λ (p : ℕ). get_or (set nexts place next) p None ≡ place_with marks (p + 1) (get_or marks p 0)) (sym same)
        (get_or-set_same nexts place next None (omega (arith, linked.long)) ∙ is_next ∙ linked.first mark marked ∙ ap (place_with marks (place + 1)) is_mark)
    | inr differ ↦ get_or-set_other nexts place at next None differ ∙ linked.next at (omega arith) below
  ];
}

-- the same of the members that a loop reads, which it counts down to
pub linked_before : (members : List Member) (bound place : ℕ) (member : Member) (firsts nexts : List (Option ℕ)) (next : Option ℕ) → 0 < place
    → place ≤ length members → All (λ member. member.mark < bound) members → member ≡ get_or members (place - 1) member
    → next ≡ get_or firsts member.mark next → AreLinkedFrom (marks_of members) bound place firsts nexts
    → AreLinkedFrom (marks_of members) bound (place - 1) (set firsts member.mark (Some (place - 1))) (set nexts (place - 1) next)
linked_before members bound place member firsts nexts next some within all is_member is_next linked =
    let step : place ≡ (place - 1) + 1 = omega arith in
    let here : place - 1 < length members = omega arith in
    let long = length-map members (λ (m : Member). m.mark) in
    let marked : member.mark < bound =
    subst (λ (m : Member). m.mark < bound) (sym is_member) (All-get_or (λ (m : Member). m.mark < bound) members (place - 1) member here all) in
    linked_more (marks_of members) bound (place - 1) member.mark firsts nexts next (omega (arith, here, long)) marked
    (ap (λ (m : Member). m.mark) is_member ∙ sym (get_or-map (λ (m : Member). m.mark) members (place - 1) member 0 here))
    (is_next ∙ get_or_default firsts member.mark next None (omega (arith, marked, linked.as_many)))
    (subst (λ (p : ℕ). AreLinkedFrom (marks_of members) bound p firsts nexts) step linked)
