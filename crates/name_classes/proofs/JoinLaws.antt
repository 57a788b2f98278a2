-- Numbers of full names that links join, one after another.
use Rattle.name_classes.proofs.Common.{◌≡◌, ◌<◌, ℕ, inl, inr, List, [], ◌∷◌, ◌++◌, length, refl, ◌∙◌, subst, arith, append_assoc, slice_get_within}
use Rattle.name_classes.proofs.Common.{In, In-append_left, In-append_right, In-append_cases, FullNames, Spot, AreNames, HasSpot, GivesName, Link}
use Rattle.name_classes.proofs.Common.{AddsJoins}
use Rattle.partition.specs.Divides.{Divides, IsPair, AddsPair}
use Rattle.name_classes.specs.steps.Joins.{JoinsEnds, IsJoin, HasJoin}
use Rattle.name_classes.proofs.PathLaws.{append_none}

-- the number of a name is below the count
pub gives_within : (names : FullNames) → AreNames names → (number : ℕ) (spot : Spot) → HasSpot names number spot → (a : ℕ) → GivesName names number spot a
    → a < names.count
gives_within names are number spot has a gives =
    let stands = gives are.list are.is_list has.element has.flat has.name has.are has.is_spot in
    let within = slice_get_within are.list a _ stands in
    omega (arith, are.count, within)

-- the number of an element below is below the edge
pub spot_within : (names : FullNames) (number : ℕ) (spot : Spot) → HasSpot names number spot → number < length names.tree.now.elements
spot_within names number spot has = slice_get_within names.tree.now.elements number has.flat has.are.are.has

module _ (names : FullNames) (number : ℕ) where
  pub adds_none : (marks : List ℕ) → AddsJoins names number [] marks marks
  adds_none marks = record {
    long = refl;
    added = [];
    divides = λ pairs d. subst (λ (all : List (ℕ × ℕ)). Divides marks (IsPair all)) (append_none pairs) d;
    sound = λ a b none. absurd none;
    whole = λ link none. absurd none;
  }

  pub adds_one : (link : Link) (a b : ℕ) (old new : List ℕ) → length new ≡ length old → AddsPair old new a b → JoinsEnds names number link a b
      → AddsJoins names number (link ∷ []) old new
  adds_one link a b old new long divides joins = record {
    long = long;
    added = (a, b) ∷ [];
    divides = divides;
    sound = λ x y here. elim here [
      | inl same ↦ record {
        link = link;
        within = inl refl;
        joins = (let P : ℕ × ℕ → Type 0 = λ p. JoinsEnds names number link p.0 p.1 in subst P same joins);
      }
      | inr none ↦ absurd none
    ];
    whole = λ other here. elim here [
      | inl same ↦ record { a = a; b = b; within = inl refl; joins = subst (λ (l : Link). JoinsEnds names number l a b) same joins }
      | inr none ↦ absurd none
    ];
  }

  more_joins : (links others : List Link) (a b : ℕ) → ((link : Link) → In link links → In link others) → IsJoin names number links a b
      → IsJoin names number others a b
  more_joins links others a b keep is = record { link = is.link; within = keep is.link is.within; joins = is.joins }

  pub more_pairs : (pairs others : List (ℕ × ℕ)) (link : Link) → ((a b : ℕ) → IsPair pairs a b → IsPair others a b) → HasJoin names number pairs link
      → HasJoin names number others link
  more_pairs pairs others link keep has = record { a = has.a; b = has.b; within = keep has.a has.b has.within; joins = has.joins }

  pub adds_append : (front back : List Link) (old mid new : List ℕ) → AddsJoins names number front old mid → AddsJoins names number back mid new
      → AddsJoins names number (front ++ back) old new
  adds_append front back old mid new first second = record {
    long = second.long ∙ first.long;
    added = first.added ++ second.added;
    divides = λ pairs d.
        subst (λ (all : List (ℕ × ℕ)). Divides new (IsPair all)) (append_assoc pairs first.added second.added)
        (second.divides (pairs ++ first.added) (first.divides pairs d));
    sound = λ a b here. elim (In-append_cases {X = ℕ × ℕ} (a, b) first.added second.added here) [
      | inl before ↦ more_joins front (front ++ back) a b (λ link within. In-append_left link front back within) (first.sound a b before)
      | inr after ↦ more_joins back (front ++ back) a b (λ link within. In-append_right link front back within) (second.sound a b after)
    ];
    whole = λ link here. elim (In-append_cases link front back here) [
      | inl before ↦ more_pairs first.added (first.added ++ second.added) link
          (λ a b within. In-append_left {X = ℕ × ℕ} (a, b) first.added second.added within) (first.whole link before)
      | inr after ↦ more_pairs second.added (first.added ++ second.added) link
          (λ a b within. In-append_right {X = ℕ × ℕ} (a, b) first.added second.added within) (second.whole link after)
    ];
  }
