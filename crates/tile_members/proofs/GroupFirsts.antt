-- The first members of the merges of groups.
use Rattle.tile_members.proofs.Common.{◌≡◌, ◌⊎◌, ℕ, Bool, false, List, [], ◌∷◌, inl, inr, refl, sym, ap, ◌∙◌, bytes_eq, cases_Bool, bytes_eq-Decides}
use Rattle.tile_members.proofs.Common.{In, In-map_source, MergeRec, first_member}
use Rattle.std.proofs.Common.{true, if◌then◌else◌}
use Rattle.std.proofs.lemmas.Bool.{true≢false}
use Rattle.finite_sets.proofs.Members.{In-map}
use Rattle.layout_model.specs.Technologies.{Class}
use Rattle.group_meetings.specs.TreeRecords.Merges.{Adjustment, MemberGroup, group_name, merge_of, group_merges, zero_adjustment}

-- the group with these members
abbrev pub group_with : Adjustment → List (List ℕ) → MemberGroup
group_with adjustment members = record { members = members; adjustment = adjustment }

-- the only merge of a list that may be empty begins with this name
only_begins : (empty : Bool) (one merge : MergeRec) → In merge (if empty then [] else (one ∷ [])) → merge.first ≡ one.first
only_begins true one merge none = absurd none
only_begins false one merge (inl same) = ap (λ (m : MergeRec). m.first) (sym same)
only_begins false one merge (inr none) = absurd none

-- each merge of a group begins with the group's name
pub begins_with_name : (classes : List Class) (adjustment : Adjustment) (members : List (List ℕ)) (merge : MergeRec)
    → In merge (group_merges classes (group_with adjustment members)) → merge.first ≡ group_name (group_with adjustment members)
begins_with_name classes adjustment [] merge none = absurd none
begins_with_name classes adjustment (name ∷ []) merge here = only_begins _ (merge_of name name adjustment) merge here
begins_with_name classes adjustment (name ∷ next ∷ more) merge (inl same) = ap (λ (m : MergeRec). m.first) (sym same)
begins_with_name classes adjustment (name ∷ next ∷ more) merge (inr later) =
    let source = In-map_source (λ (other : List ℕ). merge_of name other (zero_adjustment classes)) merge more later in
    ap (λ (m : MergeRec). m.first) (sym source.1.1)

-- Some merge of these has the member as its second.
pub record IsSecondOf (merges : List MergeRec) (member : List ℕ) : Type 0 where
  pub merge : MergeRec
  pub listed : In merge merges
  pub second : merge.second ≡ member

-- each member of a group but the first is the second of a merge
pub is_second : (classes : List Class) (adjustment : Adjustment) (name : List ℕ) (others : List (List ℕ)) (member : List ℕ) → In member others
    → IsSecondOf (group_merges classes (group_with adjustment (name ∷ others))) member
is_second classes adjustment name [] member none = absurd none
is_second classes adjustment name (next ∷ more) member (inl same) =
    record { merge = merge_of name next adjustment; listed = inl refl; second = same }
is_second classes adjustment name (next ∷ more) member (inr later) =
    let f = λ (other : List ℕ). merge_of name other (zero_adjustment classes) in
    record { merge = f member; listed = inr (In-map f member more later); second = refl }

-- where all merges with the member as their second begin with one name, and the member has that name or is the second of some, that name is
-- its first member
pub first_is : (merges : List MergeRec) (member name : List ℕ) → ((merge : MergeRec) → In merge merges → merge.second ≡ member → merge.first ≡ name)
    → (member ≡ name) ⊎ IsSecondOf merges member → first_member merges member ≡ name
first_is [] member name all (inl same) = same
first_is [] member name all (inr some) = absurd some.listed
first_is (merge ∷ merges) member name all is = elim (cases_Bool (bytes_eq member merge.second)) [
  | inl passes ↦ rw passes (all merge (inl refl) (sym ((bytes_eq-Decides member merge.second).0 passes)))
  | inr fails ↦ rw fails (first_is merges member name (λ m listed second. all m (inr listed) second) (behind fails is))
]
  where
    behind : bytes_eq member merge.second ≡ false → (member ≡ name) ⊎ IsSecondOf (merge ∷ merges) member → (member ≡ name) ⊎ IsSecondOf merges member
    behind fails (inl same) = inl same
    behind fails (inr some) = inr (further some.merge some.listed some.second)
      where
        further : (other : MergeRec) → In other (merge ∷ merges) → other.second ≡ member → IsSecondOf merges member
        further other (inl same) second =
            absurd (true≢false (sym ((bytes_eq-Decides member merge.second).1 (sym second ∙ ap (λ (m : MergeRec). m.second) (sym same))) ∙ fails))
        further other (inr later) second = record { merge = other; listed = later; second = second }
