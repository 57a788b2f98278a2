-- The transistors of the flat circuit are those of the flat layout, by their owners.
use Rattle.tree_circuits.proofs.Common.{◌≡◌, ◌≤◌, ℕ, zero, suc, List, [], ◌∷◌, ◌++◌, inl, inr, refl, sym, subst, arith, IsTrue, Some, slice_get, In}
use Rattle.tree_circuits.proofs.Common.{In-append_cases, In-append_left, In-append_right, Pairwise, AreOneForOne, RawTech, is_channel, IsWellFormed}
use Rattle.tree_circuits.proofs.Common.{FetRec, NodeRec, Place, AreOneChannel, place_back, Element, AreFlatFets, fets_in, fets_of, flat_layout}
use Rattle.tree_circuits.proofs.Common.{NamedTree, NamedStanding, named_standings, place_forth, above_from_back, AreFlatFetRecords, IsFetBefore}
use Rattle.tree_circuits.proofs.Common.{IsFlatFetRecord, IsOwnedFet, OwnedFet, OwnsItsChannels}
use Rattle.std.proofs.Common.{◌+◌}
use Rattle.finite_sets.proofs.Pairs.{AllPairs-from_Pairwise, Pairwise-append}
use Rattle.finite_sets.proofs.OneForOne.{AreOneForOne-append, AreOneForOne-length}
use Rattle.tree_circuits.proofs.FetElements.{GiveFlatNames, HasFetsOf}
use Rattle.tree_circuits.proofs.OwnedFets.{AreOwned, owned_fets}
use Rattle.tree_circuits.proofs.Zipped.{split_flats, zip_at}

-- the owner stands before another
owner_before : (a b : OwnedFet) (position : ℕ) → a.owner ≡ position → suc position ≤ b.owner → IsFetBefore a b
owner_before a b position same later = inl (omega (arith, same, later))

module _ (raw : RawTech) (tree : NamedTree) (formed : IsWellFormed raw) (owns : OwnsItsChannels raw tree) (nodes : List NodeRec)
    (gives : GiveFlatNames raw tree nodes) where
  -- The transistor has the place of the cell as it stands.
  record HasPlace (found : List OwnedFet) (standing : NamedStanding) (place : Place) : Type 0 where
    owned : OwnedFet
    listed : In owned found
    within : AreOneChannel (flat_layout raw tree) owned.fet.least (place_forth standing.placed place)

  -- The transistors of the flat layout that these cells own, the first of which has this position, with their records.
  record AreFound (from : ℕ) (standings : List NamedStanding) (flats : List FetRec) : Type 0 where
    found : List OwnedFet
    sound : (owned : OwnedFet) → In owned found → IsOwnedFet raw tree owned
    owner : (owned : OwnedFet) → In owned found → from ≤ owned.owner
    whole : (k : ℕ) (standing : NamedStanding) → slice_get standings k ≡ Some standing → (place : Place)
        → IsTrue (is_channel raw (standing.own.layout place)) → HasPlace found standing place
    in_order : Pairwise IsFetBefore found
    each : AreOneForOne (IsFlatFetRecord raw tree) found flats

  -- the cells stand in the tree from this position on
  abbrev StandFrom : ℕ → List NamedStanding → Type 0
  StandFrom from standings =
      (k : ℕ) (standing : NamedStanding) → slice_get standings k ≡ Some standing → (j : ℕ) → j ≡ from + k
      → slice_get (named_standings tree) j ≡ Some standing

  -- those of the first cell and of the others
  found_before : (from : ℕ) (standing : NamedStanding) (standings : List NamedStanding)
      (there : slice_get (named_standings tree) from ≡ Some standing) (element : Element) (has : HasFetsOf raw standing element)
      (flats others : List FetRec) → AreOwned raw tree formed owns nodes gives from standing there element has flats
      → AreFound (suc from) standings others → AreFound from (standing ∷ standings) (flats ++ others)
  found_before from standing standings there element has flats others first rest = record {
    found = first.found ++ rest.found;
    sound = λ owned here. elim (In-append_cases owned first.found rest.found here) [
      | inl old ↦ first.sound owned old
      | inr new ↦ rest.sound owned new
    ];
    owner = λ owned here. elim (In-append_cases owned first.found rest.found here) [
      | inl old ↦ (let same = first.owner owned old in omega (arith, same))
      | inr new ↦ (let later = rest.owner owned new in omega (arith, later))
    ];
    whole = elim [
      | zero ↦ λ other is place channel.
          let same : standing ≡ other = cc in
          let P : NamedStanding → Type 0 = λ s. HasPlace (first.found ++ rest.found) s place in
          let listed = subst (λ (s : NamedStanding). IsTrue (is_channel raw (s.own.layout place))) (sym same) channel in
          let at = first.whole place listed in
          subst P same (record { owned = at.0; listed = In-append_left at.0 first.found rest.found at.1; within = at.2 })
      | suc k ↦ λ other is place channel.
          let at = rest.whole k other is place channel in
          record { owned = at.owned; listed = In-append_right at.owned first.found rest.found at.listed; within = at.within }
    ];
    in_order = Pairwise-append IsFetBefore first.found rest.found first.in_order rest.in_order
        (λ a b old new. owner_before a b from (first.owner a old) (rest.owner b new));
    each = AreOneForOne-append (IsFlatFetRecord raw tree) first.found rest.found flats others first.each rest.each;
  }

  -- those of all cells
  all_found : (from : ℕ) (standings : List NamedStanding) (elements : List Element) (flats : List FetRec) → StandFrom from standings
      → AreOneForOne (HasFetsOf raw) standings elements → AreFlatFets nodes (fets_of elements) flats → AreFound from standings flats
  all_found from [] [] [] stand zip are = record {
    found = [];
    sound = λ owned none. absurd none;
    owner = λ owned none. absurd none;
    whole = λ k standing is. absurd (cc);
    in_order = tt;
    each = tt;
  }
  all_found from [] [] (flat ∷ flats) stand zip are = absurd are
  all_found from [] (element ∷ elements) flats stand zip are = absurd zip
  all_found from (standing ∷ standings) [] flats stand zip are = absurd zip
  all_found from (standing ∷ standings) (element ∷ elements) flats stand zip are =
      let there : slice_get (named_standings tree) from ≡ Some standing = stand 0 standing refl from (omega arith) in
      let split = split_flats nodes (fets_in element) (fets_of elements) flats are in
      let first = owned_fets raw tree formed owns nodes gives from standing there element zip.0 split.first split.are_first in
      let rest = all_found (suc from) standings elements split.second
      (λ k other is j same. stand (suc k) other is j (omega (arith, same))) zip.1
      split.are_second in
      subst (λ (list : List FetRec). AreFound from (standing ∷ standings) list) split.whole
      (found_before from standing standings there element zip.0 split.first split.second first rest)

  -- the flat transistors are the records of the flat layout's
  pub flat_fet_records : (elements : List Element) (flats : List FetRec) → AreOneForOne (HasFetsOf raw) (named_standings tree) elements
      → AreFlatFets nodes (fets_of elements) flats → AreFlatFetRecords raw tree flats
  flat_fet_records elements flats zip are =
      let all = all_found 0 (named_standings tree) elements flats
      (λ k standing is j same. subst (λ (n : ℕ). slice_get (named_standings tree) n ≡ Some standing) (omega (arith, same)) is) zip are in
      record {
        found = all.found;
        sound = all.sound;
        whole = λ place channel.
            let owner = owns.owned place channel in
            let placed = owner.standing.placed in
            let back = place_back placed place in
            let listed = subst (λ (kind : ℕ). IsTrue (is_channel raw kind)) (sym owner.owns) channel in
            let at = all.whole owner.position owner.standing owner.there back listed in
            record {
              owned = at.owned;
              listed = at.listed;
              within = subst (λ (p : Place). AreOneChannel (flat_layout raw tree) at.owned.fet.least p)
                  (above_from_back placed place) at.within;
            };
        in_order = AllPairs-from_Pairwise IsFetBefore all.found all.in_order;
        one_each = sym (AreOneForOne-length (IsFlatFetRecord raw tree) all.found flats all.each);
        each = zip_at (IsFlatFetRecord raw tree) all.found flats all.each;
      }
