-- The names of all elements that are not global, by numbers.
use Rattle.std.specs.Prelude.{◌≡◌, ◌<◌, ◌+◌, ℕ, List, [], map, length, slice_index, slice_index_or}
use Rattle.std.specs.List.{range_with_len}
use Rattle.element_tree.specs.declared.tree.TreeElement.{TreeElement}
use Rattle.full_names.specs.declared.own_names.RecordNames.{RecordNames}
use Rattle.full_names.specs.declared.places.Place.{Place}
use Rattle.full_names.specs.OwnNames.{texts_of, locals_of}
use Rattle.full_names.specs.Reached.{flat_at}

-- what stands past the end of a list of places
abbrev pub no_place : Place
no_place = record { element = 0; own = 0 }

abbrev pub place_at : List Place → ℕ → Place
place_at places slot = slice_index_or places slot no_place

-- the texts of an element's names that are not global
abbrev pub texts_at : List TreeElement → List RecordNames → ℕ → List (List ℕ)
texts_at flats records number = texts_of (locals_of records (flat_at flats number).cell)

-- how many names of an element are not global
abbrev pub count_at : List TreeElement → List RecordNames → ℕ → ℕ
count_at flats records number = length (texts_at flats records number)

-- the text of the name at a place
abbrev pub text_at : List TreeElement → List RecordNames → Place → List ℕ
text_at flats records place = slice_index_or (texts_at flats records place.element) place.own []

-- the places of the names of an element that has so many
abbrev pub places_of : ℕ → ℕ → List Place
places_of number count = map (λ own. record { element = number; own = own }) (range_with_len 0 count)

-- The place is that of one of so many names of one of so many elements.
pub record IsPlace (count : ℕ → ℕ) (end : ℕ) (place : Place) : Type 0 where
  pub element : place.element < end
  pub own : place.own < count place.element

-- The name of the element stands in the list, as far behind where the element's names begin as it stands among them.
pub record StandsAt (bases : List ℕ) (places : List Place) (number own : ℕ) : Type 0 where
  pub within : slice_index bases number + own < length places
  pub is : place_at places (slice_index bases number + own) ≡ record { element = number; own = own }

-- The names of so many elements, that have so many each, stand one element's behind those of the one before.
pub record ArePlacesBelow (count : ℕ → ℕ) (end : ℕ) (bases : List ℕ) (places : List Place) : Type 0 where
  pub long : length bases ≡ end
  pub each : (slot : ℕ) → slot < length places → IsPlace count end (place_at places slot)
  pub at : (slot : ℕ) → slot < length places → slot ≡ slice_index bases (place_at places slot).element + (place_at places slot).own
  pub all : (number own : ℕ) → number < end → own < count number → StandsAt bases places number own

-- The places are those of all names that are not global.
abbrev pub ArePlaces : List TreeElement → List RecordNames → List ℕ → List Place → Type 0
ArePlaces flats records bases places = ArePlacesBelow (count_at flats records) (length flats) bases places
