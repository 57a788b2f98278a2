-- What the name order and full names are held to.
use Rattle.std.specs.Prelude.{◌≡◌, ◌≢◌, ◌⊎◌, ◌↔◌, ℕ, IsTrue, List, [], ◌++◌}
use Rattle.std.specs.declared.cmp.Ordering.TheVariants.{Equal}
use Rattle.ext_model.specs.declared.names.NameKind.TheVariants.{Global}
use Rattle.ext_model.specs.NodeNames.{is_node_name, is_global, name_kind, slashes_in}
use Rattle.ext_model.specs.NameOrder.{name_rank, name_cmp, StandsNoLater}
use Rattle.ext_model.specs.Paths.{path_text, full_name}

-- of any two names one stands no later than the other
abbrev pub NameOrderIsTotal : Type 0
NameOrderIsTotal = (a b : List ℕ) → StandsNoLater a b ⊎ StandsNoLater b a

-- two names that each stand no later than the other are one name
abbrev pub NameOrderIsAntisymmetric : Type 0
NameOrderIsAntisymmetric = (a b : List ℕ) → StandsNoLater a b → StandsNoLater b a → a ≡ b

-- what the order takes for equal is equal
abbrev pub NameOrderIsExact : Type 0
NameOrderIsExact = (a b : List ℕ) → name_cmp a b ≡ Equal → a ≡ b

-- names with the same rank are one name
abbrev pub RanksTellNamesApart : Type 0
RanksTellNamesApart = (a b : List ℕ) → name_rank a ≡ name_rank b → a ≡ b

-- Names stand in the same order with the same elements' names before them.
abbrev pub PathsKeepTheOrder : Type 0
PathsKeepTheOrder = (ids : List (List ℕ)) (a b : List ℕ) → a ≢ [] → b ≢ [] → name_cmp (path_text ids a) (path_text ids b) ≡ name_cmp a b

-- A name of a node is global exactly where its kind is.
abbrev pub KindsTellGlobalNames : Type 0
KindsTellGlobalNames = (name : List ℕ) → IsTrue (is_node_name name) → IsTrue (is_global name) ↔ (name_kind name ≡ Global)

-- A path names, from an element, what its last name names in the element that its other names lead to.
abbrev pub PathsNameBelow : Type 0
PathsNameBelow = (ids more : List (List ℕ)) (name : List ℕ) → slashes_in name ≡ 0 → full_name ids (path_text more name) ≡ full_name (ids ++ more) name
