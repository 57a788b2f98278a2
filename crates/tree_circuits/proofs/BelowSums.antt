-- What the groups of elements' cells have, as members of the cell above.
use Rattle.tree_circuits.proofs.Common.{◌≡◌, ℕ, ℤ, pos, ◌+ℤ◌, Bool, cond, List, [], ◌∷◌, ◌++◌, map, inl, inr, refl, sym, ◌∙◌, ap, subst, map-append}
use Rattle.tree_circuits.proofs.Common.{In, Distinct, Distinct-append, In-append_cases, In-append_left, In-append_right, In-map, In-map_source}
use Rattle.tree_circuits.proofs.Common.{sum_on-append, sum_on-map, Total-unique, RawTech, slashes_in, path_text, CellExt, Transform, Place}
use Rattle.tree_circuits.proofs.Common.{place_back, flat_layout, IsGroupName, IsMemberBelow, NamedTree, NamedElements, place_forth, no_more}
use Rattle.tree_circuits.proofs.Common.{element_then, back_from_above, PlaceWeight, IsGroupTotal, ids_in, member_begins, RecordedQuantity}
use Rattle.tree_circuits.proofs.Common.{IsOfGroups, AreOfGroups, AreGroupTotals, sum_passing}
use Rattle.tree_names.specs.TreeRecords.PlaceWeights.{IsTotalBelow}
use Rattle.tree_names.specs.CleanTrees.{HaveElementNames}
use Rattle.tree_names.proofs.Paths.{begins_once, one_split}
use Rattle.tree_circuits.specs.TreeSums.{tree_sum, tree_sum_below}
use Rattle.tree_circuits.proofs.NamedSums.{names_in}

-- The groups of a cell with what they have, which is what the records at and below it have.
pub record Closed (raw : RawTech) (quantity : RecordedQuantity) (exts : List CellExt) (tree : NamedTree) : Type 0 where
  pub groups : List (List ℕ × ℤ)
  pub are : AreGroupTotals raw quantity.weight tree groups
  pub closes : (passes : List ℕ → Bool) → IsOfGroups raw tree passes → tree_sum quantity exts tree passes ≡ sum_passing passes groups

-- The same of the members of a cell that are groups of its elements' cells.
pub record ClosedBelow (raw : RawTech) (quantity : RecordedQuantity) (exts : List CellExt) (elements : NamedElements) : Type 0 where
  pub members : List (List ℕ × ℤ)
  pub differ : Distinct (names_in members)
  pub placed : (member : List ℕ) → In member (names_in members) → (place : Place) × IsMemberBelow raw elements place member
  pub known : (place : Place) (member : List ℕ) → IsMemberBelow raw elements place member → In member (names_in members)
  pub totals : (one : List ℕ × ℤ) → In one members → (total : ℤ) → IsTotalBelow raw quantity.weight elements one.0 total → total ≡ one.1
  pub closes : (passes : List ℕ → Bool) → AreOfGroups raw elements passes → tree_sum_below quantity exts elements passes ≡ sum_passing passes members

-- a group seen from the cell above
abbrev total_above : List ℕ → List ℕ × ℤ → List ℕ × ℤ
total_above id group = (path_text (id ∷ []) group.0, group.1)

-- the place of a group, seen from the cell above
name_above : (raw : RawTech) (placed : Transform) (tree : NamedTree) (place : Place) (name : List ℕ) → IsGroupName raw tree place name
    → IsGroupName raw tree (place_back placed (place_forth placed place)) name
name_above raw placed tree place name is = subst (λ (p : Place). IsGroupName raw tree p name) (sym (back_from_above placed place)) is

-- what is counted below is a member below
pub total_has_place : (raw : RawTech) (weight : PlaceWeight) (elements : NamedElements) (member : List ℕ) (total : ℤ)
    → IsTotalBelow raw weight elements member total → (place : Place) × IsMemberBelow raw elements place member
total_has_place raw weight no_more member total none = absurd none
total_has_place raw weight (element_then id placed tree rest) member total (inl here) =
    (place_forth placed here.1, inl (here.0, name_above raw placed tree here.1 here.0 here.2, here.3))
total_has_place raw weight (element_then id placed tree rest) member total (inr later) =
    let found = total_has_place raw weight rest member total later in
    (found.0, inr found.1)

-- groups seen from above have the names that they are seen by
seen_source : (id member : List ℕ) (groups : List (List ℕ × ℤ)) → In member (names_in (map (total_above id) groups))
    → (group : List ℕ × ℤ) × (In group groups × (path_text (id ∷ []) group.0 ≡ member))
seen_source id member groups here =
    let Pair : Type 0 = List ℕ × ℤ in
    let first : Pair → List ℕ = λ one. one.0 in
    let found = In-map_source first member (map (total_above id) groups) here in
    let group = In-map_source (total_above id) found.0 groups found.1.0 in
    (group.0, (group.1.0, ap first group.1.1 ∙ found.1.1))

-- different groups are seen as different ones
seen_differ : (id : List ℕ) → slashes_in id ≡ 0 → (groups : List (List ℕ × ℤ)) → Distinct (names_in groups) → Distinct (names_in (map (total_above id) groups))
seen_differ id whole [] differ = tt
seen_differ id whole (group ∷ groups) differ = (
  (λ here.
      let found = seen_source id (path_text (id ∷ []) group.0) groups here in
      let same = (one_split id id found.0.0 group.0 whole whole found.1.1).1 in
      let P : List ℕ → Type 0 = λ name. In name (names_in groups) in
      let first : List ℕ × ℤ → List ℕ = λ one. one.0 in
      differ.0 (subst P same (In-map first found.0 groups found.1.0))),
  seen_differ id whole groups differ.1,
)

module _ (raw : RawTech) (quantity : RecordedQuantity) (exts : List CellExt) where
  -- no elements have nothing
  pub none_below : ClosedBelow raw quantity exts no_more
  none_below = record {
    members = [];
    differ = tt;
    placed = λ member none. absurd none;
    known = λ place member none. absurd none;
    totals = λ one none. absurd none;
    closes = λ passes of. refl;
  }

  module _ (id : List ℕ) (placed : Transform) (tree : NamedTree) (rest : NamedElements) (whole : slashes_in id ≡ 0) (new : In id (ids_in rest) → ⊥)
      (plain : HaveElementNames rest) (first : Closed raw quantity exts tree) (later : ClosedBelow raw quantity exts rest) where
    abbrev seen : List (List ℕ × ℤ)
    seen = map (total_above id) first.groups

    -- a group of the element is none of another
    other_element : (group : List ℕ × ℤ) (member : List ℕ) → path_text (id ∷ []) group.0 ≡ member → (place : Place) → IsMemberBelow raw rest place member → ⊥
    other_element group member is place below =
        begins_once id member group.0 rest whole plain new (sym is) (member_begins raw rest place member below)

    members_differ : Distinct (names_in (seen ++ later.members))
    members_differ =
        let name : List ℕ × ℤ → List ℕ = λ one. one.0 in
        subst Distinct (sym (map-append name seen later.members))
        (Distinct-append (names_in seen) (names_in later.members) (seen_differ id whole first.groups first.are.named.0) later.differ
        (λ member here there.
        let group = seen_source id member first.groups here in
        let below = later.placed member there in
        other_element group.0 member group.1.1 below.0 below.1))

    member_placed : (member : List ℕ) → In member (names_in (seen ++ later.members))
        → (place : Place) × IsMemberBelow raw (element_then id placed tree rest) place member
    member_placed member here =
        let name : List ℕ × ℤ → List ℕ = λ one. one.0 in
        elim (In-append_cases member (names_in seen) (names_in later.members) (subst (In member) (map-append name seen later.members) here)) [
          | inl mine ↦
              let group = seen_source id member first.groups mine in
              let named = first.are.named.2 group.0.0 (In-map name group.0 first.groups group.1.0) in
              (place_forth placed named.0, inl (group.0.0, name_above raw placed tree named.0 group.0.0 named.1, sym group.1.1))
          | inr others ↦ let below = later.placed member others in (below.0, inr below.1)
        ]

    member_known : (place : Place) (member : List ℕ) → IsMemberBelow raw (element_then id placed tree rest) place member
        → In member (names_in (seen ++ later.members))
    member_known place member (inl here) =
        let name : List ℕ × ℤ → List ℕ = λ one. one.0 in
        let group = In-map_source name here.0 first.groups (first.are.named.1 here.0 (_, here.1)) in
        let listed = In-append_left (total_above id group.0) seen later.members (In-map (total_above id) group.0 first.groups group.1.0) in
        let P : List ℕ → Type 0 = λ n. In n (names_in (seen ++ later.members)) in
        subst P (ap (path_text (id ∷ [])) group.1.1 ∙ sym here.2) (In-map name (total_above id group.0) (seen ++ later.members) listed)
    member_known place member (inr below) =
        let name : List ℕ × ℤ → List ℕ = λ one. one.0 in
        subst (In member) (sym (map-append name seen later.members))
        (In-append_right member (names_in seen) (names_in later.members) (later.known place member below))

    member_total : (one : List ℕ × ℤ) → In one (seen ++ later.members) → (total : ℤ)
        → IsTotalBelow raw quantity.weight (element_then id placed tree rest) one.0 total → total ≡ one.1
    member_total one here total is =
        let name : List ℕ × ℤ → List ℕ = λ pair. pair.0 in
        elim (In-append_cases one seen later.members here) [
          | inl mine ↦
              let group = In-map_source (total_above id) one first.groups mine in
              let named : path_text (id ∷ []) group.0.0 ≡ one.0 = ap name group.1.1 in
              let number : group.0.1 ≡ one.1 = ap (λ (pair : List ℕ × ℤ). pair.1) group.1.1 in
              elim is [
                | inl below ↦
                    let same = (one_split id id below.0 group.0.0 whole whole (sym below.3 ∙ sym named)).1 in
                    let P : List ℕ → Type 0 = λ n. IsGroupTotal raw quantity.weight tree n total in
                    Total-unique (λ place. IsGroupName raw tree place group.0.0) (quantity.weight (flat_layout raw tree)) total group.0.1
                    (subst P same below.4) (first.are.totals group.0 group.1.0) ∙ number
                | inr below ↦
                    let other = total_has_place raw quantity.weight rest one.0 total below in
                    absurd (other_element group.0 one.0 named other.0 other.1)
              ]
          | inr others ↦ elim is [
            | inl below ↦
                let other = later.placed one.0 (In-map name one later.members others) in
                absurd (begins_once id one.0 below.0 rest whole plain new below.3 (member_begins raw rest other.0 one.0 other.1))
            | inr below ↦ later.totals one others total below
          ]
        ]

    -- one element more
    pub element_below : ClosedBelow raw quantity exts (element_then id placed tree rest)
    element_below = record {
      members = seen ++ later.members;
      differ = members_differ;
      placed = member_placed;
      known = member_known;
      totals = member_total;
      closes = λ passes of.
          let w : List ℕ × ℤ → ℤ = λ one. cond (passes one.0) one.1 (pos 0) in
          ap (λ z. z +ℤ tree_sum_below quantity exts rest passes)
          (first.closes (λ path. passes (path_text (id ∷ []) path)) of.0 ∙ sym (sum_on-map (total_above id) w first.groups))
          ∙ ap (λ z. sum_passing passes seen +ℤ z) (later.closes passes of.1)
          ∙ sym (sum_on-append w seen later.members);
    }
