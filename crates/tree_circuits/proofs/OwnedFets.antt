-- The transistors of one cell as it stands, in the flat layout.
use Rattle.tree_circuits.proofs.Common.{◌≡◌, ℕ, List, [], ◌∷◌, map, inl, inr, refl, sym, ◌∙◌, subst, IsTrue, Some, slice_get, In, Pairwise}
use Rattle.tree_circuits.proofs.Common.{AreOneForOne, RawTech, is_channel, IsWellFormed, FetRec, NodeRec, Place, AreOneChannel, IsTransistor}
use Rattle.tree_circuits.proofs.Common.{Element, AreFlatFets, fets_in, IsFetRecord, IsOfNode, flat_layout, NamedTree, NamedStanding, named_standings}
use Rattle.tree_circuits.proofs.Common.{place_forth, IsFetBefore, IsFlatFetRecord, IsOwnedFet, OwnedFet, OwnsItsChannels}
use Rattle.tree_names.specs.LayoutModel.Places.{IsBefore}
use Rattle.tree_names.specs.LayoutModel.Transistors.{AreFetsInOrder}
use Rattle.tree_names.proofs.LayoutModel.PlaceLaws.{IsBefore-trans}
use Rattle.tree_circuits.proofs.FetElements.{GiveFlatNames, HasFetsOf}
use Rattle.tree_circuits.proofs.FlatRecords.{IsMade, is_made}
use Rattle.tree_circuits.proofs.RenamedTerminals.{Fet}
use Rattle.tree_circuits.proofs.Zipped.{zip_from_places}

-- one stands before the other by its least place
abbrev pub IsFirst : Fet → Fet → Type 0
IsFirst a b = IsBefore a.least b.least

-- what stands before the first of transistors in order stands before all
first_before : (place : Place) (fet : Fet) (fets : List Fet) → AreFetsInOrder (fet ∷ fets) → IsBefore place fet.least
    → (other : Fet) → In other (fet ∷ fets) → IsBefore place other.least
first_before place fet fets ordered before other (inl same) = subst (λ (f : Fet). IsBefore place f.least) same before
first_before place fet [] ordered before other (inr none) = absurd none
first_before place fet (next ∷ fets) ordered before other (inr later) =
    first_before place next fets ordered.1 (IsBefore-trans place fet.least next.least before ordered.0) other later

-- transistors in order stand each before all that follow
pairwise_fets : (fets : List Fet) → AreFetsInOrder fets → Pairwise IsFirst fets
pairwise_fets [] ordered = tt
pairwise_fets (fet ∷ []) ordered = ((λ other none. absurd none), tt)
pairwise_fets (fet ∷ next ∷ fets) ordered =
    (first_before fet.least next fets ordered.1 ordered.0, pairwise_fets (next ∷ fets) ordered.1)

-- a transistor's record, as an element has it
abbrev pub with_element : Element → List FetRec → List (Element × FetRec)
with_element element fets = map (λ fet. (element, fet)) fets

module _ (raw : RawTech) (tree : NamedTree) (formed : IsWellFormed raw) (owns : OwnsItsChannels raw tree) (nodes : List NodeRec)
    (gives : GiveFlatNames raw tree nodes) (position : ℕ) (standing : NamedStanding)
    (there : slice_get (named_standings tree) position ≡ Some standing)
    (element : Element) (has : HasFetsOf raw standing element) where
  -- one made of the transistor
  abbrev Made : Fet → FetRec → Type 0
  Made = IsMade raw tree formed owns nodes gives position standing there element has

  -- The transistor is one of the cell's own layout.
  abbrev IsOwn : Fet → Type 0
  IsOwn = IsTransistor raw standing.own.layout (IsOfNode raw standing.own.layout standing.own.labels)

  -- A transistor among these is of the list of own ones, and has its least place.
  record HasSource (fets : List Fet) (owned : OwnedFet) : Type 0 where
    fet : Fet
    listed : In fet fets
    owner : owned.owner ≡ position
    least : owned.least ≡ fet.least

  -- A transistor among these has the places of the own one.
  record HasCopy (fets : List OwnedFet) (fet : Fet) : Type 0 where
    owned : OwnedFet
    listed : In owned fets
    places : (place : Place) → AreOneChannel standing.own.layout fet.least place
        → AreOneChannel (flat_layout raw tree) owned.fet.least (place_forth standing.placed place)

  -- Transistors of the flat layout are made of those of the cell's own layout, one for one.
  record AreMade (fets : List Fet) (flats : List FetRec) : Type 0 where
    found : List OwnedFet
    sound : (owned : OwnedFet) → In owned found → IsOwnedFet raw tree owned
    source : (owned : OwnedFet) → In owned found → HasSource fets owned
    copy : (fet : Fet) → In fet fets → HasCopy found fet
    in_order : Pairwise IsFirst fets → Pairwise IsFetBefore found
    each : AreOneForOne (IsFlatFetRecord raw tree) found flats

  -- one transistor before others
  made_before : (fet : Fet) (fets : List Fet) (flat : FetRec) (flats : List FetRec) → Made fet flat → AreMade fets flats
      → AreMade (fet ∷ fets) (flat ∷ flats)
  made_before fet fets flat flats made rest = record {
    found = made.owned ∷ rest.found;
    sound = λ owned here. elim here [ inl same ↦ subst (IsOwnedFet raw tree) same made.is | inr later ↦ rest.sound owned later ];
    source = λ owned here. elim here [
      | inl same ↦ subst (HasSource (fet ∷ fets)) same (record { fet = fet; listed = inl refl; owner = made.owner; least = made.least })
      | inr later ↦
          let from = rest.source owned later in record { fet = from.fet; listed = inr from.listed; owner = from.owner; least = from.least }
    ];
    copy = λ own here. elim here [
      | inl same ↦ subst (HasCopy (made.owned ∷ rest.found)) same (record { owned = made.owned; listed = inl refl; places = made.places })
      | inr later ↦ let copied = rest.copy own later in record { owned = copied.owned; listed = inr copied.listed; places = copied.places }
    ];
    in_order = λ pairs. (
      (λ owned here.
          let from = rest.source owned here in
          let first = subst (λ (p : Place). IsBefore p from.fet.least) (sym made.least) (pairs.0 from.fet from.listed) in
          inr (made.owner ∙ sym from.owner, subst (IsBefore made.owned.least) (sym from.least) first)),
      rest.in_order pairs.1,
    );
    each = (made.of, rest.each);
  }

  -- all transistors of the cell
  all_made : (fets : List Fet) (mades flats : List FetRec) → ((fet : Fet) → In fet fets → IsOwn fet)
      → AreOneForOne (IsFetRecord raw) fets mades
      → AreFlatFets nodes (with_element element mades) flats → AreMade fets flats
  all_made [] [] [] own zip are = record {
    found = [];
    sound = λ owned none. absurd none;
    source = λ owned none. absurd none;
    copy = λ fet none. absurd none;
    in_order = λ pairs. tt;
    each = tt;
  }
  all_made [] [] (flat ∷ flats) own zip are = absurd are
  all_made [] (made ∷ mades) flats own zip are = absurd zip
  all_made (fet ∷ fets) [] flats own zip are = absurd zip
  all_made (fet ∷ fets) (made ∷ mades) [] own zip are = absurd are
  all_made (fet ∷ fets) (made ∷ mades) (flat ∷ flats) own zip are =
      made_before fet fets flat flats
      (is_made raw tree formed owns nodes gives position standing there element has fet (own fet (inl refl)) made flat zip.0 are.0)
      (all_made fets mades flats (λ other later. own other (inr later)) zip.1 are.1)

  -- The transistors of the flat layout that this cell owns, with their records.
  pub record AreOwned (flats : List FetRec) : Type 0 where
    pub found : List OwnedFet
    pub sound : (owned : OwnedFet) → In owned found → IsOwnedFet raw tree owned
    pub owner : (owned : OwnedFet) → In owned found → owned.owner ≡ position
    pub whole : (place : Place) → IsTrue (is_channel raw (standing.own.layout place))
        → (owned : OwnedFet) × In owned found × AreOneChannel (flat_layout raw tree) owned.fet.least (place_forth standing.placed place)
    pub in_order : Pairwise IsFetBefore found
    pub each : AreOneForOne (IsFlatFetRecord raw tree) found flats

  -- these are what the element's records have become
  pub owned_fets : (flats : List FetRec) → AreFlatFets nodes (fets_in element) flats → AreOwned flats
  owned_fets flats are =
      let fets = has.fets in
      let all = all_made fets.found element.ext.fets flats fets.transistors.sound
      (zip_from_places (IsFetRecord raw) fets.found element.ext.fets fets.one_each fets.each) are in
      record {
        found = all.found;
        sound = all.sound;
        owner = λ owned here. (all.source owned here).owner;
        whole = λ place channel.
            let at = fets.transistors.whole place channel in
            let copied = all.copy at.0 at.1 in
            (copied.owned, copied.listed, copied.places place at.2);
        in_order = all.in_order (pairwise_fets fets.found fets.transistors.in_order);
        each = all.each;
      }
