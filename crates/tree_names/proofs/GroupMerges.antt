-- What the merges of a record tell: each joins two members of a group, and each member of a group is joined with the group's name.
use Rattle.tree_names.proofs.Common.{◌≡◌, ℕ, Bool, true, false, if◌then◌else◌, List, [], ◌∷◌, inl, inr, refl, sym, ◌∙◌, ap, subst, Chain, In}
use Rattle.tree_names.proofs.Common.{Chain-one, In-map, In-map_source, In-flat_map, RawTech, IsWellFormed, CellExt, IsMaterial, Place, flat_layout}
use Rattle.tree_names.proofs.Common.{IsGroupName, IsMemberAt, NamedTree, named_tree, HasTreeRecord, IsCleanTree, ArePathsJoined}
use Rattle.name_classes.proofs.FiniteSets.Chains.{Chain-same}
use Rattle.name_classes.specs.ExtModel.declared.records.MergeRec.{MergeRec}
use Rattle.own_record_laws.specs.LayoutModel.Technologies.{Class, rules_of}
use Rattle.own_record_laws.specs.TreeRecords.Merges.{Adjustment, MemberGroup, group_name, merge_of, group_merges, zero_adjustment}
use Rattle.tree_names.proofs.GroupNames.{one_group, one_group_name}

-- the group with these members
abbrev group_of : Adjustment → List (List ℕ) → MemberGroup
group_of adjustment members = record { members = members; adjustment = adjustment }

-- the only merge of a list that may be empty
only_one : (empty : Bool) (one merge : MergeRec) → In merge (if empty then [] else (one ∷ [])) → one ≡ merge
only_one true one merge none = absurd none
only_one false one merge (inl same) = same
only_one false one merge (inr none) = absurd none

-- A merge joins two of these members.
pub record JoinsMembers (members : List (List ℕ)) (merge : MergeRec) : Type 0 where
  pub first : In merge.first members
  pub second : In merge.second members

-- each merge of a group joins two of its members
pub merge_members : (classes : List Class) (adjustment : Adjustment) (members : List (List ℕ)) (merge : MergeRec)
    → In merge (group_merges classes (group_of adjustment members)) → JoinsMembers members merge
merge_members classes adjustment [] merge none = absurd none
merge_members classes adjustment (name ∷ []) merge here =
    let same = only_one _ (merge_of name name adjustment) merge here in
    record { first = inl (ap (λ (m : MergeRec). m.first) same); second = inl (ap (λ (m : MergeRec). m.second) same) }
merge_members classes adjustment (name ∷ next ∷ more) merge (inl same) =
    record { first = inl (ap (λ (m : MergeRec). m.first) same); second = inr (inl (ap (λ (m : MergeRec). m.second) same)) }
merge_members classes adjustment (name ∷ next ∷ more) merge (inr later) =
    let source = In-map_source (λ (other : List ℕ). merge_of name other (zero_adjustment classes)) merge more later in
    let first = ap (λ (m : MergeRec). m.first) source.1.1 in
    let second = ap (λ (m : MergeRec). m.second) source.1.1 in
    record { first = inl first; second = inr (inr (subst (λ (other : List ℕ). In other more) second source.1.0)) }

-- A merge of a group joins its name with the member.
record IsMergedWith (classes : List Class) (group : MemberGroup) (name member : List ℕ) : Type 0 where
  merge : MergeRec
  listed : In merge (group_merges classes group)
  first : name ≡ merge.first
  second : member ≡ merge.second

-- each member but the first is merged with it
merged_with : (classes : List Class) (adjustment : Adjustment) (name : List ℕ) (others : List (List ℕ)) (member : List ℕ) → In member others
    → IsMergedWith classes (group_of adjustment (name ∷ others)) name member
merged_with classes adjustment name [] member none = absurd none
merged_with classes adjustment name (next ∷ more) member (inl same) =
    record { merge = merge_of name next adjustment; listed = inl refl; first = refl; second = sym same }
merged_with classes adjustment name (next ∷ more) member (inr later) =
    let f = λ (other : List ℕ). merge_of name other (zero_adjustment classes) in
    record { merge = f member; listed = inr (In-map f member more later); first = refl; second = refl }

module _ (raw : RawTech) (formed : IsWellFormed raw) (exts : List CellExt) where
  -- a place with material is of a group with a name
  pub has_group : (tree : NamedTree) → HasTreeRecord raw exts tree → (place : Place) → IsMaterial (flat_layout raw tree) place
      → (name : List ℕ) × IsGroupName raw tree place name
  has_group tree has place material = let found = has.is.merges.whole place material in (group_name found.group, found.named)

  -- each member that has a place is joined with the name of the place's group
  pub to_member : (tree : NamedTree) → IsCleanTree raw tree → HasTreeRecord raw exts tree → (place : Place) (member name : List ℕ)
      → IsMaterial (flat_layout raw tree) place → IsMemberAt raw tree place member → IsGroupName raw tree place name
      → Chain (ArePathsJoined exts tree) name member
  to_member (named_tree own elements) is has place member name material member_at named =
      let tree = named_tree own elements in
      let classes = (rules_of raw).classes in
      let merges = has.is.merges in
      let found = merges.whole place material in
      let group = found.group in
      let of = found.is in
      let first : group_name group ≡ of.name = ap (λ (members : List (List ℕ)). group_name
      (group_of group.adjustment members)) of.members_are in
      let same : name ≡ group_name group = one_group_name raw tree place name (group_name group) named found.named in
      let at_place : IsGroupName raw tree place of.name = subst (λ (n : List ℕ). IsGroupName raw tree place n) first found.named in
      let together = one_group raw formed tree is of.place place of.name of.named at_place in
      let listed : In member group.members = (of.members member).1 (place, together, member_at) in
      let step : In member of.others → In group merges.groups → ArePathsJoined exts tree name member = λ other among.
      (let made = merged_with classes group.adjustment of.name of.others member other in
      let P : List (List ℕ) → Type 0 = λ members. In made.merge (group_merges classes (group_of group.adjustment members)) in
      let in_group : In made.merge (group_merges classes group) = subst P (sym of.members_are) made.listed in
      let in_record = In-flat_map (group_merges classes) group made.merge merges.groups among in_group in
      inl (record {
        ext = has.ext;
        found = has.found;
        joined = inr (record {
          merge = made.merge;
          listed = subst (In made.merge) (sym merges.are) in_record;
          one = same ∙ first ∙ made.first;
          other = made.second;
        });
      })) in
      elim (subst (In member) of.members_are listed) [
        | inl is_first ↦ Chain-same (ArePathsJoined exts tree) name member (same ∙ first ∙ is_first)
        | inr other ↦ elim found.listed [
          | inl among ↦ Chain-one (step other among)
          | inr alone ↦ elim (subst (In member) alone.0 listed) [
            | inl only ↦ Chain-same (ArePathsJoined exts tree) name member (same ∙ only)
            | inr none ↦ absurd none
          ]
        ]
      ]
