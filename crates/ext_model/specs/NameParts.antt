-- The name order by the parts of paths: the names of the elements that lead to a node, and its name there.
use Rattle.std.specs.Prelude.{◌≡◌, ◌≢◌, ℕ, suc, ◌+◌, List, [], ◌∷◌, ◌++◌, length}
use Rattle.std.specs.declared.cmp.Ordering.{Ordering}
use Rattle.std.specs.Ordering.{nat_cmp, ordering_then}
use Rattle.std.specs.Cmp.Lexicographic.{slice_cmp}
use Rattle.ext_model.specs.declared.names.TheConstants.{SLASH}
use Rattle.ext_model.specs.NodeNames.{name_kind, slashes_in}
use Rattle.ext_model.specs.NameOrder.{kind_rank, name_cmp}
use Rattle.ext_model.specs.Paths.{path_text}

-- the order of the names of elements within paths: each stands there with a slash behind it
abbrev pub element_cmp : List ℕ → List ℕ → Ordering
element_cmp id other = slice_cmp nat_cmp (id ++ SLASH ∷ []) (other ++ SLASH ∷ [])

-- how many bytes the names of the elements take in a path, with the slash behind each
abbrev pub path_length : List (List ℕ) → ℕ
path_length [] = 0
path_length (id ∷ ids) = suc (length id) + path_length ids

-- none of the names has a slash
abbrev pub AreWhole : List (List ℕ) → Type 0
AreWhole [] = Unit {0}
AreWhole (id ∷ ids) = (slashes_in id ≡ 0) × AreWhole ids

-- A name that may stand last in a path.
pub record IsLastName (name : List ℕ) : Type 0 where
  pub some : name ≢ []
  pub whole : slashes_in name ≡ 0

-- The order by parts: by the kind of the name, the number of elements, the length of all, the elements from the first on, and the name.
abbrev pub parts_cmp : List (List ℕ) → List ℕ → List (List ℕ) → List ℕ → Ordering
parts_cmp ids name others other =
    ordering_then (nat_cmp (kind_rank (name_kind name)) (kind_rank (name_kind other)))
    (ordering_then (nat_cmp (length ids) (length others))
    (ordering_then (nat_cmp (path_length ids + length name) (path_length others + length other))
    (ordering_then (slice_cmp element_cmp ids others) (slice_cmp nat_cmp name other))))

-- Paths are in name order as their parts are, so none has to be written out to be compared.
abbrev pub PathsCompareByParts : Type 0
PathsCompareByParts =
    (ids : List (List ℕ)) (name : List ℕ) (others : List (List ℕ)) (other : List ℕ)
    → AreWhole ids → IsLastName name → AreWhole others → IsLastName other
    → name_cmp (path_text ids name) (path_text others other) ≡ parts_cmp ids name others other
