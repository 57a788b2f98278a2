-- The full names of a tree of records, by numbers.
use Rattle.std.specs.Prelude.{◌≡◌, ◌<◌, ℕ, Bool, true, false, Some, None, List, [], ◌++◌, length, map, find, slice_get}
use Rattle.ext_model.specs.FiniteSets.Lists.{In}
use Rattle.ext_model.specs.declared.records.NodeRec.{NodeRec}
use Rattle.ext_model.specs.declared.records.CellExt.{CellExt}
use Rattle.ext_model.specs.NodeNames.{is_global}
use Rattle.ext_model.specs.Paths.{path_text}
use Rattle.ext_model.specs.RecordNames.{node_names}
use Rattle.circuit_model.specs.Elements.{Element, AreRecords, ids_of, elements_of}
use Rattle.circuit_model.specs.FullNames.{name_in, full_names}
use Rattle.circuit_model.specs.FlatNodes.{is_among, gives_name}
use Rattle.element_tree.specs.declared.tree.TreeElement.{TreeElement}
use Rattle.element_tree.specs.Trees.{IsTreeOf, AreAt}
use Rattle.full_names.specs.declared.names.FullNames.{FullNames}
use Rattle.full_names.specs.declared.names.Spot.{Spot}
use Rattle.full_names.specs.declared.names.Origin.{Origin}
use Rattle.full_names.specs.declared.names.Spot.TheVariants.{Local, Global}
use Rattle.full_names.specs.declared.own_names.OwnName.{OwnName}
use Rattle.full_names.specs.declared.own_names.RecordNames.{RecordNames}
use Rattle.full_names.specs.declared.places.Place.{Place}
use Rattle.full_names.specs.NameLists.{IsFullNameList}
use Rattle.full_names.specs.OwnNames.{texts_of, locals_of, HasOwnNames}
use Rattle.full_names.specs.Reached.{flat_at}
use Rattle.full_names.specs.Globals.{global_texts}
use Rattle.full_names.specs.GlobalOrigins.{AreGlobalsOf}
use Rattle.full_names.specs.Places.{place_at, text_at, ArePlaces}
use Rattle.full_names.specs.Orders.{AreStandings}

-- the elements of the tree whose names they are
abbrev pub elements_in : FullNames → List Element
elements_in names = elim (slice_get names.exts.now names.root) [ None ↦ [] | Some top ↦ elements_of names.exts.now top ]

-- what leads to the element with this number
abbrev pub ids_at : List Element → ℕ → List (List ℕ)
ids_at elements number = elim (slice_get elements number) [ None ↦ [] | Some element ↦ ids_of element ]

-- the full name of a name that is not global
abbrev pub place_name : List Element → List TreeElement → List RecordNames → Place → List ℕ
place_name elements flats records place = path_text (ids_at elements place.element) (text_at flats records place)

-- the full names that are not global, in order
abbrev pub local_names : FullNames → List (List ℕ)
local_names names =
    map (λ slot. place_name (elements_in names) names.tree.now.elements names.records.items (place_at names.places.items slot)) names.slots.items

-- They are the full names of the tree, numbered in name order.
pub record AreNames (names : FullNames) : Type 0 where
  pub records : AreRecords names.exts.now
  pub root : names.root < length names.exts.now
  pub tree : IsTreeOf names.exts.now names.root names.tree.now
  pub list : List (List ℕ)
  pub is_list : IsFullNameList (elements_in names) list
  pub count : names.count ≡ length list
  pub known : (number : ℕ) (element : Element) → slice_get (elements_in names) number ≡ Some element
      → HasOwnNames names.records.items (flat_at names.tree.now.elements number).cell element.ext
  pub globals : AreGlobalsOf (elements_in names) names.globals.items
  pub places : ArePlaces names.tree.now.elements names.records.items names.bases.items names.places.items
  pub slots_within : (slot : ℕ) → In slot names.slots.items → slot < length names.places.items
  pub slots_all : (slot : ℕ) → slot < length names.places.items → In slot names.slots.items
  pub slots_long : length names.slots.items ≡ length names.places.items
  pub standings : AreStandings names.slots.items names.standings.items
  pub list_is : list ≡ global_texts names.globals.items ++ local_names names

-- The name with this number among those that are not global is one of the element's, and the record has this of it.
pub record IsLocalNumber (names : FullNames) (number element : ℕ) (own : OwnName) : Type 0 where
  pub slot : ℕ
  pub slot_stands : slice_get names.slots.items number ≡ Some slot
  pub is_element : (place_at names.places.items slot).element ≡ element
  pub has : slice_get (locals_of names.records.items (flat_at names.tree.now.elements element).cell) (place_at names.places.items slot).own ≡ Some own

-- an element has this record
abbrev pub IsReached : FullNames → ℕ → Type 0
IsReached names cell = (element : Element) × (In element (elements_in names) × (slice_get names.exts.now cell ≡ Some element.ext))

-- the spot is that of a global name
abbrev pub is_global_spot : Spot → Bool
is_global_spot (Local own) = false
is_global_spot (Global place) = true

-- the name stands where the spot says
abbrev pub StandsAtSpot : FullNames → ℕ → List ℕ → Spot → Type 0
StandsAtSpot names cell name (Local own) = slice_get (texts_of (locals_of names.records.items cell)) own ≡ Some name
StandsAtSpot names cell name (Global place) = slice_get (global_texts names.globals.items) place ≡ Some name

-- The record has the name, and this is which of its names it is. It tells global names from others.
pub record IsSpotOf (names : FullNames) (cell : ℕ) (name : List ℕ) (spot : Spot) : Type 0 where
  pub record_ : CellExt
  pub found : slice_get names.exts.now cell ≡ Some record_
  pub named : In name (node_names record_)
  pub kind : is_global_spot spot ≡ is_global name
  pub stands : StandsAtSpot names cell name spot

-- no node of the record has the name
abbrev pub LacksName : FullNames → ℕ → List ℕ → Type 0
LacksName names cell name = (ext : CellExt) → slice_get names.exts.now cell ≡ Some ext → In name (node_names ext) → ⊥

-- What the tree has stands at the number of an element.
pub record IsElement (names : FullNames) (number : ℕ) (element : Element) (flat : TreeElement) : Type 0 where
  pub are : AreAt (elements_in names) names.tree.now.elements number element flat

-- The element's record has a name with this spot.
pub record HasSpot (names : FullNames) (number : ℕ) (spot : Spot) : Type 0 where
  pub element : Element
  pub flat : TreeElement
  pub name : List ℕ
  pub are : IsElement names number element flat
  pub is_spot : IsSpotOf names flat.cell name spot

-- The number is that of the full name that the spot's name has in the element.
abbrev pub GivesName : FullNames → ℕ → Spot → ℕ → Type 0
GivesName names number spot result =
    (list : List (List ℕ)) → IsFullNameList (elements_in names) list
    → (element : Element) (flat : TreeElement) (name : List ℕ) → IsElement names number element flat → IsSpotOf names flat.cell name spot
    → slice_get list result ≡ Some (name_in element name)

-- The new text is the old one and the full name of this number.
abbrev pub GivesText : FullNames → ℕ → List ℕ → List ℕ → Type 0
GivesText names number old new =
    (list : List (List ℕ)) → IsFullNameList (elements_in names) list → (name : List ℕ) → slice_get list number ≡ Some name → new ≡ old ++ name

-- The first element that has the full name, and the first node of its record that gives it the name.
pub record ComesFrom (names : FullNames) (name : List ℕ) (origin : Origin) : Type 0 where
  pub element : Element
  pub node : NodeRec
  pub stands : slice_get (elements_in names) origin.element ≡ Some element
  pub first : find (λ element. is_among (full_names element) name) (elements_in names) ≡ Some element
  pub node_stands : slice_get element.ext.nodes origin.node ≡ Some node
  pub first_node : find (gives_name element name) element.ext.nodes ≡ Some node

-- The full name of this number comes from there.
abbrev pub IsOriginOf : FullNames → ℕ → Origin → Type 0
IsOriginOf names number origin =
    (list : List (List ℕ)) → IsFullNameList (elements_in names) list → (name : List ℕ) → slice_get list number ≡ Some name
    → ComesFrom names name origin
