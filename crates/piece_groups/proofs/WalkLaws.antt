-- The members of one mark, from one to the next.
use Rattle.piece_groups.proofs.Common.{◌≡◌, ◌≢◌, ◌⊎◌, ◌<◌, ◌≤◌, ◌+◌, ℕ, zero, suc, Bool, true, false, cond, List, [], ◌∷◌, ◌++◌, Option, Some, None}
use Rattle.piece_groups.proofs.Common.{map, filter, length, get_or, inl, inr, refl, sym, ◌∙◌, ap, subst, arith, ◌==◌, All, option_map, cases_eq}
use Rattle.piece_groups.proofs.Common.{cond-true, cond-false, eq-eqb, eqb-true, length-map, get_or_default, get_or_from_slice_get, slice_get-map}
use Rattle.piece_groups.proofs.Common.{same_Some, All-get_or, drop_split, slice_get-below, MergeRec, MergeRow, AddsToRows, add_none, add_same}
use Rattle.piece_groups.proofs.Common.{add_then, Member, name_at, mark_at, names_with, names_behind, place_with, names_of, marks_of}
use Rattle.std.proofs.Common.{drop}
use Rattle.std.specs.Prelude.{slice_get}
use Rattle.std.proofs.lemmas.Bool.{cases_lt, false_from_ne_true}
use Rattle.std.proofs.lemmas.List.{drop_all, append_assoc, append-nil}
use Rattle.std.proofs.lemmas.Option.{none-some}
use Rattle.piece_groups.specs.declared.links.LinkedMembers.{LinkedMembers}
use Rattle.piece_groups.specs.steps.Links.{AreLinked}
use Rattle.piece_groups.proofs.LinkLaws.{place_with_same, place_with_other, place_with_past}

-- The member stands at the place, with those behind it.
pub record StandsAt (members : List Member) (place : ℕ) : Type 0 where
  pub member : Member
  pub there : slice_get members place ≡ Some member
  pub named : name_at members place ≡ member.name.now
  pub marked : mark_at members place ≡ member.mark
  pub rest : drop place members ≡ member ∷ drop (place + 1) members

pub stands_at : (members : List Member) (place : ℕ) → place < length members → StandsAt members place
stands_at members place within =
    let found = slice_get-below members place within in
    let name = λ (member : Member). member.name.now in
    let mark = λ (member : Member). member.mark in record {
      member = found.0;
      there = found.1;
      named = get_or_from_slice_get (names_of members) place found.0.name.now [] (slice_get-map name members place ∙ ap (option_map name) found.1);
      marked = get_or_from_slice_get (marks_of members) place found.0.mark 0 (slice_get-map mark members place ∙ ap (option_map mark) found.1);
      rest = drop_split members place found.0 within (sym (get_or_from_slice_get members place found.0 found.0 found.1));
    }

-- a place has its mark, or the names with that mark stand behind it
with_here : (members : List Member) (place mark : ℕ) → place < length members
    → names_with members place mark
    ≡ cond (mark_at members place == mark) (name_at members place ∷ names_with members (place + 1) mark) (names_with members (place + 1) mark)
with_here members place mark within =
    let at = stands_at members place within in
    let test = λ (member : Member). member.mark == mark in
    ap (λ (rest : List Member). names_of (filter test rest)) at.rest
    ∙ split (test at.member) at.member (filter test (drop (place + 1) members))
    ∙ (λ i. cond (sym at.marked i == mark) (sym at.named i ∷ names_with members (place + 1) mark) (names_with members (place + 1) mark)) where
      split : (kept : Bool) (member : Member) (rest : List Member)
          → names_of (cond kept (member ∷ rest) rest) ≡ cond kept (member.name.now ∷ names_of rest) (names_of rest)
      split true member rest = refl
      split false member rest = refl

with_same : (members : List Member) (place mark : ℕ) → place < length members → mark_at members place ≡ mark
    → names_with members place mark ≡ name_at members place ∷ names_with members (place + 1) mark
with_same members place mark within same =
    with_here members place mark within
    ∙ cond-true (mark_at members place == mark) (name_at members place ∷ names_with members (place + 1) mark) (names_with members (place + 1) mark)
    (eq-eqb (mark_at members place) mark same)

with_other : (members : List Member) (place mark : ℕ) → place < length members → mark_at members place ≢ mark
    → names_with members place mark ≡ names_with members (place + 1) mark
with_other members place mark within other =
    with_here members place mark within
    ∙ cond-false (mark_at members place == mark) (name_at members place ∷ names_with members (place + 1) mark) (names_with members (place + 1) mark)
    (false_from_ne_true (mark_at members place == mark) (λ yes. other (eqb-true (mark_at members place) mark yes)))

with_past : (members : List Member) (place mark : ℕ) → length members ≤ place → names_with members place mark ≡ []
with_past members place mark past = ap (λ (rest : List Member). names_of (filter (λ member. member.mark == mark) rest)) (drop_all place members past)

-- The first member with the mark, from one place on, stands there.
pub record StandsFirst (members : List Member) (from mark place : ℕ) : Type 0 where
  pub found : place_with (marks_of members) from mark ≡ Some place
  pub no_earlier : from ≤ place
  pub within : place < length members
  pub marked : mark_at members place ≡ mark
  pub names : names_with members from mark ≡ name_at members place ∷ names_with members (place + 1) mark

-- No member from the place on has the mark.
pub record HasNone (members : List Member) (from mark : ℕ) : Type 0 where
  pub none : place_with (marks_of members) from mark ≡ None
  pub names : names_with members from mark ≡ []

-- one of the two is so
search_from : (members : List Member) (mark left from : ℕ) → length members ≤ from + left
    → ((place : ℕ) × StandsFirst members from mark place) ⊎ HasNone members from mark
search_from members mark zero from past = inr (record {
  none = place_with_past (marks_of members) from mark (omega (arith, length-map members (λ (m : Member). m.mark)));
  names = with_past members from mark (omega arith);
})
search_from members mark (suc left) from past =
    let long = length-map members (λ (m : Member). m.mark) in
    elim (cases_lt from (length members)) [
      | inr behind ↦ inr (record {
        none = place_with_past (marks_of members) from mark (omega (arith, long));
        names = with_past members from mark behind;
      })
      | inl within ↦ (let counted : from < length (marks_of members) = omega (arith, long) in
          elim (cases_eq (mark_at members from) mark) [
            | inl same ↦ inl (
              from,
              record {
                found = place_with_same (marks_of members) from mark counted same;
                no_earlier = omega arith;
                within = within;
                marked = same;
                names = with_same members from mark within same;
              },
            )
            | inr other ↦ (elim (search_from members mark left (from + 1) (omega arith)) [
              | inl later ↦ inl (
                later.0,
                record {
                  found = place_with_other (marks_of members) from mark counted other ∙ later.1.found;
                  no_earlier = omega (arith, later.1.no_earlier);
                  within = later.1.within;
                  marked = later.1.marked;
                  names = with_other members from mark within other ∙ later.1.names;
                },
              )
              | inr none ↦ inr (record {
                none = place_with_other (marks_of members) from mark counted other ∙ none.none;
                names = with_other members from mark within other ∙ none.names;
              })
            ])
          ])
    ]

pub first_or_none : (members : List Member) (from mark : ℕ) → ((place : ℕ) × StandsFirst members from mark place) ⊎ HasNone members from mark
first_or_none members from mark = search_from members mark (length members) from (omega arith)

-- a place that is found is that of the first member with the mark
pub found_first : (members : List Member) (from mark place : ℕ) → place_with (marks_of members) from mark ≡ Some place → StandsFirst members from mark place
found_first members from mark place found =
    elim (first_or_none members from mark) [
      | inl first ↦ subst (λ (p : ℕ). StandsFirst members from mark p) (same_Some first.0 place (sym first.1.found ∙ found)) first.1
      | inr none ↦ absurd (none-some place (sym none.none ∙ found))
    ]

-- where none is found, no names are left
pub found_none : (members : List Member) (from mark : ℕ) → place_with (marks_of members) from mark ≡ None → names_with members from mark ≡ []
found_none members from mark missing =
    elim (first_or_none members from mark) [
      | inl first ↦ absurd (none-some first.0 (sym missing ∙ first.1.found))
      | inr none ↦ none.names
    ]

-- The next member with the mark of this one stands at the other place.
pub record IsNext (members : List Member) (place other : ℕ) : Type 0 where
  pub behind : place < other
  pub within : other < length members
  pub names : names_behind members place ≡ name_at members other ∷ names_behind members other

-- what a link says
pub next_is : (linked : LinkedMembers) → AreLinked linked → (place other : ℕ) (d : Option ℕ) → place < length linked.members.items
    → get_or linked.nexts.items place d ≡ Some other → IsNext linked.members.items place other
next_is linked are place other d within next =
    let members = linked.members.items in
    let long = length-map members (λ (m : Member). m.mark) in
    let link : get_or linked.nexts.items place None ≡ place_with (marks_of members) (place + 1) (mark_at members place) =
    are.next place (omega arith) (omega (arith, long)) in
    let first = found_first members (place + 1) (mark_at members place) other
    (sym link ∙ get_or_default linked.nexts.items place None d (omega (arith, are.long, long)) ∙ next) in record {
      behind = omega (arith, first.no_earlier);
      within = first.within;
      names = first.names ∙ ap (λ (mark : ℕ). name_at members other ∷ names_with members (other + 1) mark) (sym first.marked);
    }

-- and what it says that there is none
pub next_none : (linked : LinkedMembers) → AreLinked linked → (place : ℕ) (d : Option ℕ) → place < length linked.members.items
    → get_or linked.nexts.items place d ≡ None → names_behind linked.members.items place ≡ []
next_none linked are place d within next =
    let members = linked.members.items in
    let long = length-map members (λ (m : Member). m.mark) in
    let link : get_or linked.nexts.items place None ≡ place_with (marks_of members) (place + 1) (mark_at members place) =
    are.next place (omega arith) (omega (arith, long)) in
    found_none members (place + 1) (mark_at members place) (sym link ∙ get_or_default linked.nexts.items place None d (omega (arith, are.long, long)) ∙ next)

-- The walk from one member to the next has come to the place: the merges that are added and those with the members behind it are all.
pub record IsUpTo (members : List Member) (merge_with : List ℕ → MergeRec) (second place : ℕ) (old rows : List MergeRow) : Type 0 where
  pub within : place < length members
  pub added : List MergeRec
  pub adds : AddsToRows added old rows
  pub are : added ++ map merge_with (names_behind members place) ≡ map merge_with (names_behind members second)

pub up_to_none : (members : List Member) (merge_with : List ℕ → MergeRec) (second : ℕ) (old : List MergeRow) → second < length members
    → IsUpTo members merge_with second second old old
up_to_none members merge_with second old within = record { within = within; added = []; adds = add_none old; are = refl }

pub up_to_more : (linked : LinkedMembers) (merge_with : List ℕ → MergeRec) (second place other : ℕ) (d : Option ℕ)
    (old rows later : List MergeRow) (merge : MergeRec)
    → AreLinked linked → get_or linked.nexts.items place d ≡ Some other → merge ≡ merge_with (name_at linked.members.items other)
    → AddsToRows (merge ∷ []) rows later → IsUpTo linked.members.items merge_with second place old rows
    → IsUpTo linked.members.items merge_with second other old later
up_to_more linked merge_with second place other d old rows later merge are next is_merge one so_far =
    let members = linked.members.items in
    let added = so_far.added in
    let step = next_is linked are place other d so_far.within next in record {
      within = step.within;
      added = added ++ merge ∷ [];
      adds = add_then added (merge ∷ []) old rows later so_far.adds one;
      are = append_assoc added (merge ∷ []) (map merge_with (names_behind members other))
          ∙ (λ i. added ++ (is_merge i ∷ map merge_with (names_behind members other)))
          ∙ ap (λ (names : List (List ℕ)). added ++ map merge_with names) (sym step.names) ∙ so_far.are;
    }

pub up_to_all : (linked : LinkedMembers) (merge_with : List ℕ → MergeRec) (second place : ℕ) (d : Option ℕ) (old rows : List MergeRow)
    → AreLinked linked → get_or linked.nexts.items place d ≡ None → IsUpTo linked.members.items merge_with second place old rows
    → AddsToRows (map merge_with (names_behind linked.members.items second)) old rows
up_to_all linked merge_with second place d old rows are next so_far =
    let none = next_none linked are place d so_far.within next in
    let all = map merge_with (names_behind linked.members.items second) in
    add_same so_far.added all old rows
    (sym (append-nil so_far.added) ∙ ap (λ (names : List (List ℕ)). so_far.added ++ map merge_with names) (sym none) ∙ so_far.are) so_far.adds

-- a member that is read has the name at its place
pub name_read : (members : List Member) (place : ℕ) (member : Member) → place < length members → member ≡ get_or members place member
    → member.name.now ≡ name_at members place
name_read members place member within is =
    let at = stands_at members place within in
    ap (λ (m : Member). m.name.now) (is ∙ get_or_from_slice_get members place at.member member at.there) ∙ sym at.named

-- and the mark
pub mark_read : (members : List Member) (place : ℕ) (member : Member) → place < length members → member ≡ get_or members place member
    → member.mark ≡ mark_at members place
mark_read members place member within is =
    let at = stands_at members place within in
    ap (λ (m : Member). m.mark) (is ∙ get_or_from_slice_get members place at.member member at.there) ∙ sym at.marked

-- where the marks of all members lie below a bound, that of a member does
pub mark_within : (members : List Member) (bound place : ℕ) → All (λ member. member.mark < bound) members → place < length members
    → mark_at members place < bound
mark_within members bound place all within =
    let at = stands_at members place within in
    let below = All-get_or (λ (m : Member). m.mark < bound) members place at.member within all in
    subst (λ (mark : ℕ). mark < bound) (ap (λ (m : Member). m.mark) (get_or_from_slice_get members place at.member at.member at.there) ∙ sym at.marked) below
