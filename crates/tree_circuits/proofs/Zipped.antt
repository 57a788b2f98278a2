-- Lists that go along with each other, place by place.
use Rattle.tree_circuits.proofs.Common.{◌≡◌, ℕ, zero, suc, List, [], ◌∷◌, ◌++◌, length, refl, sym, ap, subst, arith, AreOneForOne, FetRec, NodeRec}
use Rattle.tree_circuits.proofs.Common.{Element, AreFlatFets}
use Rattle.std.proofs.Common.{◌<◌, get_or}
use Rattle.std.proofs.lemmas.Option.{get_or_from_slice_get, slice_get_within}
use Rattle.finite_sets.proofs.OneForOne.{AreOneForOne-from_places}

-- what holds at each place
pub zip_from_places : {X Y : Type 0} (R : X → Y → Type 0) (xs : List X) (ys : List Y) → length ys ≡ length xs
    → ((k : ℕ) (d : X) (e : Y) → k < length xs → R (get_or xs k d) (get_or ys k e)) → AreOneForOne R xs ys
zip_from_places {X} R xs ys long each = AreOneForOne-from_places R xs ys (sym long) (λ k x y at also.
    subst (R x) (get_or_from_slice_get ys k y y also) (subst (λ (a : X). R a (get_or ys k y)) (get_or_from_slice_get xs k x x at)
    (each k x y (slice_get_within xs k x at))))

-- and back
pub zip_at : {X Y : Type 0} (R : X → Y → Type 0) (xs : List X) (ys : List Y) → AreOneForOne R xs ys → (k : ℕ) (d : X) (e : Y)
    → k < length xs
    → R (get_or xs k d) (get_or ys k e)
zip_at R [] ys are k d e below = absurd (omega (arith, below))
zip_at R (x ∷ xs) [] are k d e below = absurd are
zip_at R (x ∷ xs) (y ∷ ys) are zero d e below = are.0
zip_at R (x ∷ xs) (y ∷ ys) are (suc k) d e below = zip_at R xs ys are.1 k d e (omega (arith, below))

-- Flat transistors of two lists of records, one behind the other, are those of the first and then those of the second.
pub record AreSplit (nodes : List NodeRec) (fets more : List (Element × FetRec)) (flats : List FetRec) : Type 0 where
  pub first : List FetRec
  pub second : List FetRec
  pub whole : first ++ second ≡ flats
  pub are_first : AreFlatFets nodes fets first
  pub are_second : AreFlatFets nodes more second

pub split_flats : (nodes : List NodeRec) (fets more : List (Element × FetRec)) (flats : List FetRec)
    → AreFlatFets nodes (fets ++ more) flats
    → AreSplit nodes fets more flats
split_flats nodes [] more flats are = record { first = []; second = flats; whole = refl; are_first = tt; are_second = are }
split_flats nodes (fet ∷ fets) more [] are = absurd are
split_flats nodes (fet ∷ fets) more (flat ∷ flats) are =
    let rest = split_flats nodes fets more flats are.1 in
    record {
      first = flat ∷ rest.first;
      second = rest.second;
      whole = ap (λ (list : List FetRec). flat ∷ list) rest.whole;
      are_first = (are.0, rest.are_first);
      are_second = rest.are_second;
    }
