-- The order of full names that are not global, by numbers.
use Rattle.std.specs.Prelude.{◌≡◌, ◌≢◌, ◌<◌, ◌+◌, ◌^◌, ℕ, Bool, true, false, List, AllPairs, length, IsSorted}
use Rattle.std.specs.declared.cmp.Ordering.{Ordering}
use Rattle.std.specs.Ordering.{nat_cmp, bool_cmp, ordering_then}
use Rattle.ext_model.specs.FiniteSets.Lists.{In}
use Rattle.ext_model.specs.declared.names.NameKind.{NameKind}
use Rattle.ext_model.specs.declared.names.NameKind.TheVariants.{Global, Label, Generated}
use Rattle.ext_model.specs.NodeNames.{name_kind}
use Rattle.element_tree.specs.declared.tree.TreeElement.{TreeElement}
use Rattle.full_names.specs.declared.own_names.RecordNames.{RecordNames}
use Rattle.full_names.specs.declared.keys.NameKey.{NameKey}
use Rattle.full_names.specs.declared.places.Place.{Place}
use Rattle.full_names.specs.Reached.{flat_at}
use Rattle.full_names.specs.Places.{IsPlace, count_at, text_at, place_at}

-- the kind of names that come last
abbrev pub is_generated : NameKind → Bool
is_generated Global = false
is_generated Label = false
is_generated Generated = true

-- the key of an element's name with this text
abbrev pub key_of : TreeElement → List ℕ → ℕ → NameKey
key_of flat text slot = record {
  generated = is_generated (name_kind text);
  depth = flat.depth;
  length = flat.bytes + length text;
  rank = flat.rank;
  slot = slot;
}

-- the key of the name at a place
abbrev pub key_at : List TreeElement → List RecordNames → Place → ℕ → NameKey
key_at flats records place slot = key_of (flat_at flats place.element) (text_at flats records place) slot

-- keys by their numbers, the first that differs deciding
abbrev pub key_cmp : NameKey → NameKey → Ordering
key_cmp a b =
    ordering_then (bool_cmp a.generated b.generated)
    (ordering_then (nat_cmp a.depth b.depth)
    (ordering_then (nat_cmp a.length b.length) (ordering_then (nat_cmp a.rank b.rank) (nat_cmp a.slot b.slot))))

-- The place is that of a name whose full name has a length below 2 ^ 64.
pub record IsFitPlace (flats : List TreeElement) (records : List RecordNames) (place : Place) : Type 0 where
  pub is : IsPlace (count_at flats records) (length flats) place
  pub short : (flat_at flats place.element).bytes + length (text_at flats records place) < 2 ^ 64

-- The key is that of the name at its place.
pub record IsKey (flats : List TreeElement) (records : List RecordNames) (places : List Place) (key : NameKey) : Type 0 where
  pub within : key.slot < length places
  pub is : key ≡ key_at flats records (place_at places key.slot) key.slot

-- The keys are those of the names, each once, in their order.
pub record AreKeys (flats : List TreeElement) (records : List RecordNames) (places : List Place) (keys : List NameKey) : Type 0 where
  pub long : length keys ≡ length places
  pub each : (key : NameKey) → In key keys → IsKey flats records places key
  pub all : (slot : ℕ) → slot < length places → In (key_at flats records (place_at places slot) slot) keys
  pub apart : AllPairs (λ a b. a.slot ≢ b.slot) keys
  pub in_order : IsSorted key_cmp keys
