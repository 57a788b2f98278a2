-- The sets of one channel of the flat layout are those of the cells as they stand.
use Rattle.tree_circuits.proofs.Common.{◌≡◌, ◌↔◌, ℕ, ℤ, pos, refl, sym, ◌∙◌, ap, subst, IsTrue, Some, slice_get, stay, Total, Chain-append}
use Rattle.tree_circuits.proofs.Common.{IsLeast-iff, Total-iff, RawTech, is_channel, Transform, IsEdgeCount, Layout, Place, IsNoLater, AreOneChannel}
use Rattle.tree_circuits.proofs.Common.{place_back, flat_layout, NamedTree, NamedStanding, named_standings, place_forth, above_from_back}
use Rattle.tree_circuits.proofs.Common.{back_from_above, ChannelSet, IsChannelPerimeter, IsChannelSet, KeepsChannels, OwnsItsChannels}
use Rattle.finite_sets.proofs.Chains.{Chain-back}
use Rattle.tree_names.proofs.LayoutModel.PlaceLaws.{AreNeighbours-sym}
use Rattle.tree_circuits.specs.Channels.{GoesTo, HasSetAbove, HasSetBelow}
use Rattle.tree_circuits.proofs.LeastPlaces.{least_place}
use Rattle.tree_circuits.proofs.MovedSets.{edges_moved, AreMoved}
use Rattle.tree_circuits.proofs.SameChannels.{one_type, same_set, set_back}

-- what stays where it is
abbrev stays : Place → Place
stays place = place

staying : AreMoved stays stays
staying = record { come_back = λ p. refl; go_again = λ p. refl; near_there = λ a b near. near; near_back = λ a b near. near }

-- edges between the same sets, told otherwise, are as many
pub edges_iff : (From To There Beyond : Place → Type 0) (n : ℤ) → ((p : Place) → From p ↔ There p) → ((p : Place) → To p ↔ Beyond p)
    → IsEdgeCount From To n → IsEdgeCount There Beyond n
edges_iff From To There Beyond n first second =
    edges_moved stays stays staying From To There Beyond n (λ p. (first p).0) (λ p. (first p).1) (λ a b from near. (second b).0)
    (λ a b from near. (second b).1)

-- a channel joins both ways
pub channel_sym : (layout : Layout) {a b : Place} → AreOneChannel layout a b → AreOneChannel layout b a
channel_sym layout chain = Chain-back (λ a b alike. record { near = AreNeighbours-sym a b alike.near; same = sym alike.same }) chain

-- the set of one channel is the same from each of its places
pub same_from : (layout : Layout) (a b : Place) → AreOneChannel layout a b → (place : Place)
    → AreOneChannel layout a place ↔ AreOneChannel layout b place
same_from layout a b joined place = ((λ chain. Chain-append (channel_sym layout joined) chain), (λ chain. Chain-append joined chain))

-- The set of one channel that has the place, of the given size.
pub record HasSetAt (raw : RawTech) (layout : Layout) (from : Place) (squares edges : ℤ) : Type 0 where
  pub set : ChannelSet
  pub is : IsChannelSet raw layout set
  pub joined : AreOneChannel layout from set.least
  pub kind : set.kind ≡ layout from
  pub area : set.area ≡ squares
  pub perimeter : set.perimeter ≡ edges

-- a channel whose size is known has a least place, and so is a set of one channel
pub set_at : (raw : RawTech) (layout : Layout) (from : Place) (area perimeter : ℤ) → IsTrue (is_channel raw (layout from))
    → Total (AreOneChannel layout from) (λ place. pos 1) area → IsChannelPerimeter layout from perimeter
    → HasSetAt raw layout from area perimeter
set_at raw layout from area perimeter channel places edges =
    let From = AreOneChannel layout from in
    let found = least_place From (λ place. pos 1) area places from stay in
    let least = found.0 in
    let same = same_from layout from least found.1.0 in
    let There = AreOneChannel layout least in
    record {
      set = record { kind = layout from; least = least; area = area; perimeter = perimeter };
      is = record {
        listed = channel;
        kind = sym (one_type layout from least found.1.0);
        least = IsLeast-iff IsNoLater From There (λ p. (same p).0) (λ p. (same p).1) least found.1;
        area = Total-iff From There (λ place. pos 1) area (λ p. (same p).0) (λ p. (same p).1) places;
        perimeter = edges_iff From (λ p. From p → ⊥) There (λ p. There p → ⊥) perimeter same
            (λ p. ((λ out here. out ((same p).1 here)), (λ out here. out ((same p).0 here)))) edges;
      };
      joined = found.1.0;
      kind = refl;
      area = refl;
      perimeter = refl;
    }

module _ (raw : RawTech) (own : Layout) (placed : Transform) (flat : Layout) (kept : KeepsChannels raw own placed flat) where
  -- a set of the own layout and one of the flat layout that have a place in common are one
  pub goes_from : (from : Place) → IsTrue (is_channel raw (own from)) → (below above : ChannelSet) → AreOneChannel own from below.least
      → AreOneChannel flat (place_forth placed from) above.least → (place : Place)
      → AreOneChannel own below.least place ↔ AreOneChannel flat above.least (place_forth placed place)
  goes_from from channel below above joined reached place =
      let own_same = same_from own from below.least joined place in
      let flat_same = same_from flat (place_forth placed from) above.least reached (place_forth placed place) in
      let same = (same_set raw own placed flat kept from channel).places place in
      ((λ chain. flat_same.0 (same.0 (own_same.1 chain))), (λ chain. own_same.0 (same.1 (flat_same.1 chain))))

  -- the type at the least place is a channel's
  pub set_channel : (layout : Layout) (set : ChannelSet) → IsChannelSet raw layout set → IsTrue (is_channel raw (layout set.least))
  set_channel layout set is = subst (λ (kind : ℕ). IsTrue (is_channel raw kind)) (sym is.kind) is.listed

  -- the flat set that a set of the own layout becomes
  pub flat_set : (below : ChannelSet) → IsChannelSet raw own below
      → HasSetAt raw flat (place_forth placed below.least) below.area below.perimeter
  flat_set below is =
      let channel = set_channel own below is in
      let same = same_set raw own placed flat kept below.least channel in
      set_at raw flat (place_forth placed below.least) below.area below.perimeter
      (subst (λ (kind : ℕ). IsTrue (is_channel raw kind)) (sym (kept.same below.least channel)) channel)
      ((same.area below.area).0 is.area) ((same.perimeter below.perimeter).0 is.perimeter)

  -- the set of the own layout that becomes a flat set one of whose places it has
  own_set : (above : ChannelSet) → IsChannelSet raw flat above → (from : Place) → place_forth placed from ≡ above.least
      → IsTrue (is_channel raw (own from)) → HasSetAt raw own from above.area above.perimeter
  own_set above is from there channel =
      let same = same_set raw own placed flat kept from channel in
      set_at raw own from above.area above.perimeter channel
      ((same.area above.area).1 (subst (λ (p : Place). Total (AreOneChannel flat p) (λ place. pos 1) above.area) (sym there) is.area))
      ((same.perimeter above.perimeter).1 (subst (λ (p : Place). IsChannelPerimeter flat p above.perimeter) (sym there) is.perimeter))

module _ (raw : RawTech) (tree : NamedTree) (owns : OwnsItsChannels raw tree) where
  abbrev flat : Layout
  flat = flat_layout raw tree

  -- each set of one channel of a cell as it stands becomes one of the flat layout
  pub set_above : (position : ℕ) (standing : NamedStanding) → slice_get (named_standings tree) position ≡ Some standing
      → (below : ChannelSet) → IsChannelSet raw standing.own.layout below → HasSetAbove raw tree standing below
  set_above position standing there below is =
      let own = standing.own.layout in
      let kept = owns.kept position standing there in
      let channel = set_channel raw own standing.placed flat kept own below is in
      let found = flat_set raw own standing.placed flat kept below is in
      record {
        above = found.set;
        is = found.is;
        goes = record {
          places = goes_from raw own standing.placed flat kept below.least channel below found.set stay found.joined;
          kind = found.kind ∙ kept.same below.least channel ∙ is.kind;
          area = found.area;
          perimeter = found.perimeter;
        };
      }

  -- the owner of a place owns all of its channel, and no other cell has a set that becomes it
  no_other : (above : ChannelSet) → IsChannelSet raw flat above → (position : ℕ) (standing : NamedStanding)
      → slice_get (named_standings tree) position ≡ Some standing
      → IsTrue (is_channel raw (standing.own.layout (place_back standing.placed above.least)))
      → (other : ℕ) (next : NamedStanding) (set : ChannelSet) → slice_get (named_standings tree) other ≡ Some next
      → IsChannelSet raw next.own.layout set → GoesTo next.own.layout next.placed flat set above → other ≡ position
  no_other above is position standing there channel other next set next_there set_is goes =
      let own = standing.own.layout in
      let placed = standing.placed in
      let from = place_back placed above.least in
      let kept = owns.kept position standing there in
      let place = place_forth next.placed set.least in
      let within : AreOneChannel flat above.least place = (goes.places set.least).0 stay in
      let same : AreOneChannel flat (place_forth placed from) place =
      subst (λ (p : Place). AreOneChannel flat p place) (sym (above_from_back placed above.least)) within in
      let mine : own (place_back placed place) ≡ flat place =
      sym (one_type own from (place_back placed place) (set_back raw own placed flat kept from channel place same))
      ∙ sym (kept.same from channel) ∙ one_type flat (place_forth placed from) place same in
      let next_type : next.own.layout (place_back next.placed place) ≡ flat place =
      ap next.own.layout (back_from_above next.placed set.least) ∙ set_is.kind ∙ sym goes.kind ∙ sym is.kind
      ∙ one_type flat above.least place within in
      let listed : IsTrue (is_channel raw (flat place)) =
      subst (λ (kind : ℕ). IsTrue (is_channel raw kind)) (sym is.kind ∙ one_type flat above.least place within) is.listed in
      let owner = owns.owned place listed in
      owner.alone other next next_there next_type ∙ sym (owner.alone position standing there mine)

  -- each set of one channel of the flat layout is what one of one cell as it stands becomes
  pub set_below : (above : ChannelSet) → IsChannelSet raw flat above → HasSetBelow raw tree above
  set_below above is =
      let flat_channel : IsTrue (is_channel raw (flat above.least)) = subst (λ (kind : ℕ). IsTrue (is_channel raw kind))
      (sym is.kind) is.listed in
      let owner = owns.owned above.least flat_channel in
      let standing = owner.standing in
      let own = standing.own.layout in
      let placed = standing.placed in
      let from = place_back placed above.least in
      let kept = owns.kept owner.position standing owner.there in
      let channel : IsTrue (is_channel raw (own from)) = subst (λ (kind : ℕ). IsTrue (is_channel raw kind)) (sym owner.owns) flat_channel in
      let there = above_from_back placed above.least in
      let found = own_set raw own placed flat kept above is from there channel in
      record {
        position = owner.position;
        standing = standing;
        there = owner.there;
        below = found.set;
        is = found.is;
        goes = record {
          places = goes_from raw own placed flat kept from channel found.set above found.joined
              (subst (λ (p : Place). AreOneChannel flat p above.least) (sym there) stay);
          kind = sym is.kind ∙ sym owner.owns ∙ sym found.kind;
          area = sym found.area;
          perimeter = sym found.perimeter;
        };
        alone = no_other above is owner.position standing owner.there channel;
      }
