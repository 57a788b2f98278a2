-- A group of a cell, with what each member has of a weight, what the group adds, and what it has.
use Rattle.tree_circuits.proofs.Common.{◌≡◌, ℕ, ℤ, pos, ◌+ℤ◌, ◌-ℤ◌, Bool, true, false, cond, List, [], ◌∷◌, map, inl, inr, refl, sym, ◌∙◌, ap, subst}
use Rattle.tree_circuits.proofs.Common.{arith, cases_Bool, ints, In, Distinct, sum_on, sum_on-map, sum_on-nothing, RawTech, MergeRec, Place}
use Rattle.tree_circuits.proofs.Common.{rules_of, IsGroupName, NamedTree, merge_of, PlaceWeight, IsGroupTotal, RecordedQuantity, group_name_is}
use Rattle.tree_circuits.proofs.Common.{Distinct-names, pairwise_names}
use Rattle.std.specs.Prelude.{◌↔◌}
use Rattle.tree_names.specs.TreeRecords.MemberGroups.{IsMemberOf}
use Rattle.tree_names.specs.TreeRecords.Merges.{Adjustment, MemberGroup, IsMemberGroup, is_zero_adjustment, group_name, group_merges, zero_adjustment}
use Rattle.tree_names.specs.TreeRecords.PlaceWeights.{AreMemberTotals, IsMemberTotal}
use Rattle.tree_circuits.proofs.RecordedQuantities.{IsRecordedQuantity, amount_of}
use Rattle.tree_circuits.proofs.Shares.{Shared, AddsTheRest, members_sum}
use Rattle.tree_circuits.proofs.NamedSums.{names_in}

-- This is a group of the cell, with what its members and the group itself have of the weight.
pub record IsShared (raw : RawTech) (weight : PlaceWeight) (tree : NamedTree) (shared : Shared) : Type 0 where
  pub place : Place
  pub named : IsGroupName raw tree place shared.name
  pub has_whole : IsGroupTotal raw weight tree shared.name shared.whole
  pub members : (member : List ℕ) → In member (names_in shared.members) ↔ IsMemberOf raw tree place member
  pub differ : Distinct (names_in shared.members)
  pub totals : (one : List ℕ × ℤ) → In one shared.members → IsMemberTotal raw weight tree one.0 one.1
  pub rest : AddsTheRest shared

-- members with what each has
record ArePaired (raw : RawTech) (weight : PlaceWeight) (tree : NamedTree) (members : List (List ℕ)) (parts : List ℤ) : Type 0 where
  pairs : List (List ℕ × ℤ)
  names : names_in pairs ≡ members
  sum : members_sum pairs ≡ sum_on (λ part. part) parts
  totals : (one : List ℕ × ℤ) → In one pairs → IsMemberTotal raw weight tree one.0 one.1

paired : (raw : RawTech) (weight : PlaceWeight) (tree : NamedTree) (members : List (List ℕ)) (parts : List ℤ)
    → AreMemberTotals raw weight tree members parts → ArePaired raw weight tree members parts
paired raw weight tree [] [] are = record { pairs = []; names = refl; sum = refl; totals = λ one none. absurd none }
paired raw weight tree [] (part ∷ parts) are = absurd are
paired raw weight tree (member ∷ members) [] are = absurd are
paired raw weight tree (member ∷ members) (part ∷ parts) are =
    let Pair : Type 0 = List ℕ × ℤ in
    let rest = paired raw weight tree members parts are.1 in
    record {
      pairs = (member, part) ∷ rest.pairs;
      names = ap (λ (names : List (List ℕ)). member ∷ names) rest.names;
      sum = ap (λ z. part +ℤ z) rest.sum;
      totals = λ one here. elim here [
        | inl same ↦ let P : Pair → Type 0 = λ pair. IsMemberTotal raw weight tree pair.0 pair.1 in subst P same are.0
        | inr later ↦ rest.totals one later
      ];
    }

-- The group with these.
pub record SharesOf (raw : RawTech) (quantity : RecordedQuantity) (tree : NamedTree) (group : MemberGroup) : Type 0 where
  pub shared : Shared
  pub is : IsShared raw quantity.weight tree shared
  pub name : shared.name ≡ group_name group
  pub names : names_in shared.members ≡ group.members
  pub adds : shared.adds ≡ amount_of quantity group.adjustment

-- each group has them
pub shares_of : (raw : RawTech) (quantity : RecordedQuantity) → IsRecordedQuantity raw quantity → (tree : NamedTree) (group : MemberGroup)
    → IsMemberGroup raw tree group
    → SharesOf raw quantity tree group
shares_of raw quantity quantities tree group is =
    let adjusts = quantities.adjusts tree group is in
    let pairs = paired raw quantity.weight tree group.members adjusts.parts adjusts.are_parts in
    let P : List (List ℕ) → Type 0 = λ names. (member : List ℕ) → In member names ↔ IsMemberOf raw tree is.place member in
    record {
      shared = record { name = is.name; members = pairs.pairs; adds = amount_of quantity group.adjustment; whole = adjusts.whole };
      is = record {
        place = is.place;
        named = is.named;
        has_whole = adjusts.is_whole;
        members = subst P (sym pairs.names) is.members;
        differ = subst Distinct (sym pairs.names) (Distinct-names group.members (pairwise_names group.members is.in_order));
        totals = pairs.totals;
        rest = adjusts.is ∙ ap (λ z. adjusts.whole -ℤ z) (sym pairs.sum);
      };
      name = sym (group_name_is raw tree group is);
      names = pairs.names;
      adds = refl;
    }

-- ---- merges

-- what merges have whose first paths pass
abbrev pub merges_passing : RecordedQuantity → (List ℕ → Bool) → List MergeRec → ℤ
merges_passing quantity passes merges = sum_on (λ merge. cond (passes merge.first) (quantity.of_merge merge) (pos 0)) merges

-- nothing, whether it passes or not
pub cond_nothing : (passes : Bool) (z : ℤ) → z ≡ pos 0 → cond passes z (pos 0) ≡ pos 0
cond_nothing true z none = none
cond_nothing false z none = refl

module _ (raw : RawTech) (quantity : RecordedQuantity) (quantities : IsRecordedQuantity raw quantity) (passes : List ℕ → Bool) where
  -- the merges that tell of a group with these members have what it adds
  told_sum : (first : List ℕ) (others : List (List ℕ)) (adds : Adjustment)
      → merges_passing quantity passes (group_merges (rules_of raw).classes (record { members = first ∷ others; adjustment = adds }))
      ≡ cond (passes first) (amount_of quantity adds) (pos 0)
  told_sum first [] adds = elim (cases_Bool (is_zero_adjustment adds)) [
    | inl none ↦
        ap (λ (b : Bool). merges_passing quantity passes (cond b [] (merge_of first first adds ∷ []))) none
        ∙ sym (cond_nothing (passes first) (amount_of quantity adds) (quantities.none adds none))
    | inr some ↦
        ap (λ (b : Bool). merges_passing quantity passes (cond b [] (merge_of first first adds ∷ []))) some
        ∙ ap (λ z. cond (passes first) z (pos 0) +ℤ pos 0) (quantities.merges first first adds)
        ∙ omega (arith, ints)
  ]
  told_sum first (second ∷ more) adds =
      let classes = (rules_of raw).classes in
      let rest : List ℕ → MergeRec = λ other. merge_of first other (zero_adjustment classes) in
      let w : MergeRec → ℤ = λ merge. cond (passes merge.first) (quantity.of_merge merge) (pos 0) in
      let none : sum_on w (map rest more) ≡ pos 0 =
      sum_on-map rest w more
      ∙ sum_on-nothing (λ other. w (rest other)) more
      (λ other here. cond_nothing (passes first) _ (quantities.merges first other (zero_adjustment classes) ∙ quantities.nothing)) in
      ap (λ z. w (merge_of first second adds) +ℤ z) none
      ∙ ap (λ z. cond (passes first) z (pos 0) +ℤ pos 0) (quantities.merges first second adds)
      ∙ omega (arith, ints)

  -- the merges that tell of a group have what it adds
  pub merges_of_group : (tree : NamedTree) (group : MemberGroup) → IsMemberGroup raw tree group
      → merges_passing quantity passes (group_merges (rules_of raw).classes group)
      ≡ cond (passes (group_name group)) (amount_of quantity group.adjustment) (pos 0)
  merges_of_group tree group is =
      let P : List (List ℕ) → Type 0 = λ members.
      merges_passing quantity passes (group_merges (rules_of raw).classes (record { members = members; adjustment = group.adjustment }))
      ≡ cond (passes (group_name (record { members = members; adjustment = group.adjustment }))) (amount_of quantity group.adjustment) (pos 0) in
      subst P (sym is.members_are) (told_sum is.name is.others group.adjustment)
