-- The global names of a tree of records.
use Rattle.std.specs.Prelude.{◌≡◌, ◌<◌, ◌≤◌, ℕ, List, [], ◌∷◌, ◌++◌, map, length}
use Rattle.std.specs.declared.cmp.Ordering.{Ordering}
use Rattle.std.specs.declared.cmp.Ordering.TheVariants.{Less}
use Rattle.std.specs.Ordering.{nat_cmp, ordering_then}
use Rattle.std.specs.Cmp.Lexicographic.{slice_cmp}
use Rattle.ext_model.specs.FiniteSets.Lists.{In}
use Rattle.element_tree.specs.declared.tree.TreeElement.{TreeElement}
use Rattle.full_names.specs.declared.own_names.OwnName.{OwnName}
use Rattle.full_names.specs.declared.own_names.RecordNames.{RecordNames}
use Rattle.full_names.specs.declared.globals.GlobalName.{GlobalName}
use Rattle.full_names.specs.OwnNames.{globals_of}
use Rattle.full_names.specs.Reached.{flat_at}

abbrev pub global_texts : List GlobalName → List (List ℕ)
global_texts names = map (λ name. name.text.now) names

-- texts by their length, and those as long by their bytes
abbrev pub text_cmp : List ℕ → List ℕ → Ordering
text_cmp a b = ordering_then (nat_cmp (length a) (length b)) (slice_cmp nat_cmp a b)

-- global names by their lengths and bytes, and those of one text by where they come from
abbrev pub global_cmp : GlobalName → GlobalName → Ordering
global_cmp a b =
    ordering_then (nat_cmp a.length b.length)
    (ordering_then (slice_cmp nat_cmp a.text.now b.text.now) (ordering_then (nat_cmp a.element b.element) (nat_cmp a.node b.node)))

-- The name is a global one of the record of the element that it tells.
pub record IsFromElement (flats : List TreeElement) (records : List RecordNames) (name : GlobalName) : Type 0 where
  pub within : name.element < length flats
  pub own : OwnName
  pub has : In own (globals_of records (flat_at flats name.element).cell)
  pub text : own.text.now ≡ name.text.now
  pub node : own.node ≡ name.node
  pub long : name.length ≡ length name.text.now

-- Among the names is one with this text from an element no later than this one.
pub record IsFound (names : List GlobalName) (text : List ℕ) (element : ℕ) : Type 0 where
  pub name : GlobalName
  pub listed : In name names
  pub same : name.text.now ≡ text
  pub no_later : name.element ≤ element

-- The name is that one of the element's own names.
pub record IsOwnGlobal (names : List OwnName) (element : ℕ) (name : GlobalName) : Type 0 where
  pub own : OwnName
  pub has : In own names
  pub text : own.text.now ≡ name.text.now
  pub node : own.node ≡ name.node
  pub element_is : name.element ≡ element
  pub long : name.length ≡ length name.text.now

-- The last of the names has this text.
pub record EndsWith (names : List GlobalName) (text : List ℕ) : Type 0 where
  pub front : List GlobalName
  pub last : GlobalName
  pub is : names ≡ front ++ last ∷ []
  pub same : last.text.now ≡ text

-- The names are global ones of elements, and all of those with these numbers are found.
pub record AreFound (flats : List TreeElement) (records : List RecordNames) (firsts : List ℕ) (names : List GlobalName) : Type 0 where
  pub from : (name : GlobalName) → In name names → IsFromElement flats records name
  pub all : (first : ℕ) → In first firsts → (own : OwnName) → In own (globals_of records (flat_at flats first).cell)
      → IsFound names own.text.now first

-- each text stands before the next
abbrev pub AreInTextOrder : List (List ℕ) → Type 0
AreInTextOrder [] = Unit {0}
AreInTextOrder (text ∷ []) = Unit {0}
AreInTextOrder (text ∷ next ∷ texts) = (text_cmp text next ≡ Less) × AreInTextOrder (next ∷ texts)

-- The names are those of the list, one of each text, and from the first of its elements.
pub record AreOnce (found names : List GlobalName) : Type 0 where
  pub within : (name : GlobalName) → In name names → In name found
  pub all : (name : GlobalName) → In name found → IsFound names name.text.now name.element
  pub in_order : AreInTextOrder (global_texts names)

-- The names are all global ones, once each.
pub record AreGlobalNames (flats : List TreeElement) (records : List RecordNames) (firsts : List ℕ) (names : List GlobalName) : Type 0 where
  pub are : AreFound flats records firsts names
  pub in_order : AreInTextOrder (global_texts names)
