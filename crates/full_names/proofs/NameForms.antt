-- The names of lawful records: their form, and their full names in an element.
use Rattle.full_names.proofs.Common.{◌≡◌, ◌≢◌, ℕ, ◌+◌, ◌<◌, Bool, true, false, cond, IsTrue, List, [], ◌∷◌, ◌++◌, length, inl, inr, refl, sym, ◌∙◌}
use Rattle.full_names.proofs.Common.{ap, subst, arith, Ordering, Less, Equal, Greater, nat_cmp-IsAntisymmetric, slice_cmp-IsAntisymmetric, nat_cmp}
use Rattle.full_names.proofs.Common.{ordering_then, slice_cmp, cases_Bool, nat_tests, tied_itself, In, SLASH, GENERATED_MARK, CellExt, ends_in}
use Rattle.full_names.proofs.Common.{name_kind, kind_rank, name_cmp, element_cmp, path_length, AreWhole, IsLastName, path_text, node_names, IsLawful}
use Rattle.full_names.proofs.Common.{name_cmp_total, is_marked}
use Rattle.std.proofs.Common.{◌&&◌}
use Rattle.std.specs.FinMap.{IsAntisymmetric}
use Rattle.std.proofs.lemmas.List.{same_from_push}
use Rattle.ext_model.specs.declared.names.NameKind.TheVariants.{Global, Label, Generated}
use Rattle.ext_model.specs.NodeNames.{is_node_name, is_naming_text, is_global}
use Rattle.ext_model.specs.Paths.{full_name}
use Rattle.ext_model.proofs.NameKinds.{kinds_tell_global_names}
use Rattle.ext_model.proofs.PartOrders.{paths_compare_by_parts, name_kind-path_text}
use Rattle.ext_model.proofs.PathNames.{last_name-whole}
use Rattle.ext_model.proofs.RecordNameLaws.{is_node_name-lawful, slashes_in-node_name}

-- what has the form of a name of a node may stand last in a path
pub last_from_form : (name : List ℕ) → IsTrue (is_node_name name) → IsLastName name
last_from_form [] formed = cc
last_from_form (byte ∷ bytes) formed = record { some = λ none. cc; whole = slashes_in-node_name (byte ∷ bytes) formed }

and_false : (a : Bool) → (a && false) ≡ false
and_false true = refl
and_false false = refl

-- a name of a node is global exactly where its last byte says so
pub is_global-mark : (name : List ℕ) → IsTrue (is_node_name name) → is_global name ≡ is_marked name
is_global-mark name formed =
    elim (cases_Bool (is_marked name)) [
      | inl marked ↦ (kinds_tell_global_names name formed).1 (ap (λ (m : Bool). cond m Global (cond (ends_in GENERATED_MARK name) Generated Label)) marked)
          ∙ sym marked
      | inr local ↦ ap (λ (m : Bool). is_naming_text name && m) local ∙ and_false (is_naming_text name) ∙ sym local
    ]

module _ (ext : CellExt) (lawful : IsLawful ext) (name : List ℕ) (here : In name (node_names ext)) where
  formed : IsTrue (is_node_name name)
  formed = is_node_name-lawful ext lawful name here

  pub last_name_of : IsLastName name
  last_name_of = last_from_form name formed

  pub global_name_of : is_global name ≡ is_marked name
  global_name_of = is_global-mark name formed

  full_name_is : (ids : List (List ℕ)) → full_name ids name ≡ cond (is_marked name) name (path_text ids name)
  full_name_is ids =
      ap (λ (last : List ℕ). cond (is_global last) last (path_text ids name)) (last_name-whole name last_name_of.whole)
      ∙ ap (λ (global : Bool). cond global name (path_text ids name)) global_name_of

  -- a global name is the same in each element
  pub full_name-marked : (ids : List (List ℕ)) → is_marked name ≡ true → full_name ids name ≡ name
  full_name-marked ids marked = full_name_is ids ∙ ap (λ (m : Bool). cond m name (path_text ids name)) marked

  -- and another has the path of the element before it
  pub full_name-local : (ids : List (List ℕ)) → is_marked name ≡ false → full_name ids name ≡ path_text ids name
  full_name-local ids marked = full_name_is ids ∙ ap (λ (m : Bool). cond m name (path_text ids name)) marked

-- the kind of a name by its mark
pub kind_of_marked : (name : List ℕ) → is_marked name ≡ true → kind_rank (name_kind name) ≡ 0
kind_of_marked name marked = ap (λ (m : Bool). kind_rank (cond m Global (cond (ends_in GENERATED_MARK name) Generated Label))) marked

some_rank : (marked generated : Bool) → marked ≡ false → 0 < kind_rank (cond marked Global (cond generated Generated Label))
some_rank true generated e = cc
some_rank false true e = omega arith
some_rank false false e = omega arith

pub kind_of_local : (name : List ℕ) → is_marked name ≡ false → 0 < kind_rank (name_kind name)
kind_of_local name marked = some_rank (is_marked name) (ends_in GENERATED_MARK name) marked

pub then_first : (a b : Ordering) → ordering_then a b ≡ Equal → a ≡ Equal
then_first Less b e = e
then_first Equal b e = refl
then_first Greater b e = e

pub then_rest : (a b : Ordering) → ordering_then a b ≡ Equal → b ≡ Equal
then_rest Less b e = cc
then_rest Equal b e = e
then_rest Greater b e = cc

-- elements' names that tie are one
pub element_cmp-exact : IsAntisymmetric element_cmp
element_cmp-exact id other tied =
    let same : id ++ SLASH ∷ [] ≡ other ++ SLASH ∷ [] = slice_cmp-IsAntisymmetric nat_cmp-IsAntisymmetric (id ++ SLASH ∷ []) (other ++ SLASH ∷ []) tied in
    (same_from_push id other SLASH SLASH same).0

-- What two paths that are one text have in common.
pub record AreOnePath (ids : List (List ℕ)) (name : List ℕ) (others : List (List ℕ)) (other : List ℕ) : Type 0 where
  pub same_ids : ids ≡ others
  pub same_name : name ≡ other

pub one_path : (ids : List (List ℕ)) (name : List ℕ) (others : List (List ℕ)) (other : List ℕ) → AreWhole ids → IsLastName name → AreWhole others
    → IsLastName other → path_text ids name ≡ path_text others other → AreOnePath ids name others other
one_path ids name others other whole last whole' last' same =
    let tied = sym (paths_compare_by_parts ids name others other whole last whole' last')
    ∙ ap (λ (t : List ℕ). name_cmp t (path_text others other)) same ∙ tied_itself name_cmp_total (path_text others other) in
    let first = slice_cmp element_cmp ids others in
    let last_cmp = slice_cmp nat_cmp name other in
    let lengths = nat_cmp (path_length ids + length name) (path_length others + length other) in
    let depths = nat_cmp (length ids) (length others) in
    let kinds = nat_cmp (kind_rank (name_kind name)) (kind_rank (name_kind other)) in
    let by_length = ordering_then lengths (ordering_then first last_cmp) in
    let behind = then_rest lengths (ordering_then first last_cmp) (then_rest depths by_length (then_rest kinds (ordering_then depths by_length) tied)) in
    record {
      same_ids = slice_cmp-IsAntisymmetric element_cmp-exact ids others (then_first first last_cmp behind);
      same_name = slice_cmp-IsAntisymmetric nat_cmp-IsAntisymmetric name other (then_rest first last_cmp behind);
    }

-- a path to a name that is not global is no global name
pub path_not_global : (ids : List (List ℕ)) (name : List ℕ) (global : List ℕ) → IsLastName name → is_marked name ≡ false → is_marked global ≡ true
    → path_text ids name ≢ global
path_not_global ids name global last local marked same =
    let none : kind_rank (name_kind name) ≡ 0 = ap kind_rank (sym (name_kind-path_text ids name last.some) ∙ ap name_kind same)
    ∙ kind_of_marked global marked in
    let some = kind_of_local name local in
    omega arith

less_rank : (m n : ℕ) (rest : Ordering) → m ≡ 0 → 0 < n → ordering_then (nat_cmp m n) rest ≡ Less
less_rank m n rest e h = grind (arith, nat_tests)

-- a global name stands before each path to one that is not
pub global_before_path : (global : List ℕ) (ids : List (List ℕ)) (name : List ℕ) → IsLastName name → is_marked global ≡ true → is_marked name ≡ false
    → name_cmp global (path_text ids name) ≡ Less
global_before_path global ids name last marked local =
    let kind = ap kind_rank (name_kind-path_text ids name last.some) in
    less_rank (kind_rank (name_kind global)) (kind_rank (name_kind (path_text ids name))) _ (kind_of_marked global marked)
    (subst (λ n. 0 < n) (sym kind) (kind_of_local name local))
