-- Rectangles of one list that a line crosses, and those that one of the other list meets.
use Rattle.rect_contacts.proofs.Common.{append_assoc, ◌≡◌, ◌⊎◌, inl, inr, ℕ, ℤ, ◌≤ℤ◌, ◌<ℤ◌, List, [], ◌∷◌, ◌++◌, map, Some, sym, ◌∙◌, ap, arith}
use Rattle.rect_contacts.proofs.Common.{ints, by_lt_z, Lists, Lists-append, Lists-iff, Active, Event, pair_of}
use Rattle.std.proofs.lemmas.List.{map-append}
use Rattle.geo_core.proofs.FiniteSets.Listings.{Lists-one}
use Rattle.rect_contacts.specs.steps.Actives.{Row, AreActives, IsFirstPast, IsMet, AddsMet}

-- two columns are one or not
pub int_same : (a b : ℤ) → (a ≡ b) ⊎ (a ≡ b → ⊥)
int_same a b = by_lt_z a b
    (λ less. inr (λ e. omega (arith, ints, less, e)))
    (λ not_less. by_lt_z b a (λ more. inr (λ e. omega (arith, ints, more, e))) (λ not_more. inl (omega (arith, ints, not_less, not_more))))

-- at one column one rectangle ends
pub one_ends : (row : Row) (a b : ℤ) (r s : Active) → row a ≡ Some r → row b ≡ Some s → a ≡ b → r ≡ s
one_ends row a b r s e f same = cc (ap row same)

-- those that the event's rectangle meets, of the ones that end no farther than x
pub record IsMetUpTo (event : Event) (row : Row) (x : ℤ) (owner : ℕ) : Type 0 where
  pub met : IsMet event row owner
  pub up_to : met.to ≤ℤ x

-- they were found so far
pub record FindsMet (event : Event) (row : Row) (x : ℤ) (before after : List (ℕ × ℕ)) : Type 0 where
  pub owners : List ℕ
  pub met : Lists (IsMetUpTo event row x) owners
  pub added : after ≡ before ++ map (pair_of event) owners
  pub begun : event.from ≤ℤ x

module _ (event : Event) (row : Row) (x to : ℤ) (active : Active) (is : IsFirstPast row x to active) where
  split_met : (owner : ℕ) → active.from <ℤ event.to → IsMetUpTo event row to owner → IsMetUpTo event row x owner ⊎ (active.owner ≡ owner)
  split_met owner meets m = by_lt_z x m.met.to
      (λ past. inr (
      let first = is.first m.met.to m.met.active m.met.there past in
      let up_to = m.up_to in
      let same : m.met.to ≡ to = omega (arith, ints, first, up_to) in
      ap (λ (v : Active). v.owner) (one_ends row to m.met.to active m.met.active is.there m.met.there (sym same)) ∙ m.met.is))
      (λ not_past. inl (record { met = m.met; up_to = not_past }))

  join_met : (owner : ℕ) → event.from ≤ℤ x → active.from <ℤ event.to → IsMetUpTo event row x owner ⊎ (active.owner ≡ owner) → IsMetUpTo event row to owner
  join_met owner begun meets (inl m) = record { met = m.met; up_to = (let up_to = m.up_to in let past = is.past in omega (arith, ints, up_to, past)) }
  join_met owner begun meets (inr e) = record {
    met = record { to = to; active = active; there = is.there; is = e; ends = (let past = is.past in omega (arith, ints, past, begun)); begins = meets };
    up_to = omega (arith, ints);
  }

  -- the next of them is met
  pub finds_next : (before after next : List (ℕ × ℕ)) → AreActives row → active.from <ℤ event.to → FindsMet event row x before after
      → next ≡ after ++ pair_of event active.owner ∷ [] → FindsMet event row to before next
  finds_next before after next actives meets found e = record {
    owners = found.owners ++ active.owner ∷ [];
    met = Lists-iff (λ owner. IsMetUpTo event row x owner ⊎ (active.owner ≡ owner)) (IsMetUpTo event row to) (found.owners ++ active.owner ∷ [])
        (λ owner. join_met owner found.begun meets) (λ owner. split_met owner meets)
        (Lists-append (IsMetUpTo event row x) (λ owner. active.owner ≡ owner) found.owners (active.owner ∷ [])
        (λ owner m same.
        let one = actives.once m.met.to to m.met.active active m.met.there is.there (m.met.is ∙ sym same) in
        let up_to = m.up_to in let past = is.past in
        omega (arith, ints, one, up_to, past))
        found.met (Lists-one active.owner));
    added = e ∙ ap (λ v. v ++ pair_of event active.owner ∷ []) found.added ∙ append_assoc before (map (pair_of event) found.owners) (pair_of event
        active.owner ∷ [])
        ∙ ap (λ v. before ++ v) (sym (map-append (pair_of event) found.owners (active.owner ∷ [])));
    begun = (let past = is.past in let begun = found.begun in omega (arith, ints, past, begun));
  }

  -- the next of them begins too far, and so does each after it
  pub finds_last : (before after : List (ℕ × ℕ)) → AreActives row → event.to ≤ℤ active.from → FindsMet event row x before after → AddsMet event row before after
  finds_last before after actives far found = record {
    owners = found.owners;
    met = Lists-iff (IsMetUpTo event row x) (IsMet event row) found.owners (λ owner m. m.met)
        (λ owner m. record {
          met = m;
          up_to = by_lt_z x m.to
              (λ past. absurd (too_far owner m past))
              (λ not_past. not_past);
        })
        found.met;
    added = found.added;
  }
    where
      too_far : (owner : ℕ) (m : IsMet event row owner) → x <ℤ m.to → ⊥
      too_far owner m past = by_lt_z to m.to
          (λ after_it.
          let apart = actives.apart to m.to active m.active is.there m.there after_it in
          let long = actives.long to active is.there in
          let begins = m.begins in
          omega (arith, ints, apart, long, begins, far))
          (λ not_after.
          let first = is.first m.to m.active m.there past in
          let same : m.to ≡ to = omega (arith, ints, first, not_after) in
          let one : active.from ≡ m.active.from = ap (λ (v : Active). v.from) (one_ends row to m.to active m.active is.there m.there (sym same)) in
          let begins = m.begins in
          omega (arith, ints, one, begins, far))

-- none is left
pub finds_all : (event : Event) (row : Row) (x : ℤ) (before after : List (ℕ × ℕ)) → ((a : ℤ) (active : Active) → row a ≡ Some active → a ≤ℤ x)
    → FindsMet event row x before after → AddsMet event row before after
finds_all event row x before after none found = record {
  owners = found.owners;
  met = Lists-iff (IsMetUpTo event row x) (IsMet event row) found.owners (λ owner m. m.met)
      (λ owner m. record { met = m; up_to = none m.to m.active m.there })
      found.met;
  added = found.added;
}
