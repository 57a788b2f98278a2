-- The groups of a clean cell have one list of merges.
use Rattle.uniqueness.proofs.Common.{◌≡◌, ℕ, Bool, true, false, List, [], ◌∷◌, ◌++◌, inl, inr, refl, sym, ◌∙◌, ap, subst, flat_map, cases_Bool, In}
use Rattle.uniqueness.proofs.Common.{same_by_order, Pairwise-from_AllPairs, RawTech, KeepsRules, IsWellFormed, MergeRec, name_cmp_total, IsCleanTree}
use Rattle.uniqueness.proofs.Common.{Class, rules_of, NamedTree, not_before_itself}
use Rattle.std.proofs.Common.{cond, filter}
use Rattle.std.proofs.lemmas.Bool.{false≢true}
use Rattle.finite_sets.proofs.Members.{In-filter, In-filter_passes, In-filter_source}
use Rattle.finite_sets.proofs.Pairs.{Pairwise, Pairwise-filter}
use Rattle.tree_circuits.specs.TreeNames.TreeRecords.FetRecords.{IsNameBefore}
use Rattle.tree_circuits.specs.TreeRecords.Merges.{AreGroupMerges, MemberGroup, group_merges, group_name, is_zero_adjustment, merge_of}
use Rattle.tree_circuits.proofs.MaterialPlaces.{named_place}
use Rattle.tree_circuits.proofs.TreeNames.GroupNames.{group_name_is, one_group_name}
use Rattle.uniqueness.specs.RecordUniqueness.{GroupMergesAreUnique}
use Rattle.uniqueness.proofs.SameGroups.{same_group}

-- ---- lists that may be empty

-- the list has something
abbrev is_some : {X : Type 0} → List X → Bool
is_some [] = false
is_some (x ∷ xs) = true

-- a list that has nothing is empty
empty_where : {X : Type 0} (xs : List X) → is_some xs ≡ false → xs ≡ []
empty_where [] none = refl
empty_where (x ∷ xs) none = absurd (false≢true (sym none))

-- things whose lists are empty may be left out
without_empty : {X Y : Type 0} (f : X → List Y) (xs : List X) → flat_map f xs ≡ flat_map f (filter (λ x. is_some (f x)) xs)
without_empty f [] = refl
without_empty {X} f (x ∷ xs) =
    let rest = without_empty f xs in
    let kept : List X = filter (λ x. is_some (f x)) xs in
    elim (cases_Bool (is_some (f x))) [
      | inl some ↦ ap (λ ys. f x ++ ys) rest ∙ ap (λ (b : Bool). flat_map f (cond b (x ∷ kept) kept)) (sym some)
      | inr none ↦ ap (λ ys. ys ++ flat_map f xs) (empty_where (f x) none) ∙ rest ∙ ap (λ (b : Bool). flat_map f (cond b (x ∷ kept) kept)) (sym none)
    ]

-- ---- groups that have merges

-- a group has merges
abbrev has_merges : List Class → MemberGroup → Bool
has_merges classes group = is_some (group_merges classes group)

-- the first group's name stands before the second's
abbrev StandsBefore : MemberGroup → MemberGroup → Type 0
StandsBefore a b = IsNameBefore (group_name a) (group_name b)

-- a group of one member that adds nothing has none
alone_has_none : (classes : List Class) (group : MemberGroup) (name : List ℕ) → group.members ≡ name ∷ []
    → is_zero_adjustment group.adjustment ≡ true → has_merges classes group ≡ false
alone_has_none classes group name alone zero =
    ap (λ (members : List (List ℕ)). has_merges classes (record { members = members; adjustment = group.adjustment })) alone
    ∙ ap (λ (empty : Bool). is_some (cond empty [] (merge_of name name group.adjustment ∷ []))) zero

module _ (raw : RawTech) (well : IsWellFormed raw) (rules : KeepsRules raw) (tree : NamedTree) (clean : IsCleanTree raw tree) where
  -- the groups that have merges
  abbrev with_merges : List MemberGroup → List MemberGroup
  with_merges groups = filter (has_merges (rules_of raw).classes) groups

  -- a group of the one list that has merges is in the other
  group_over : (merges others : List MergeRec) (p : AreGroupMerges raw tree merges) (q : AreGroupMerges raw tree others) (group : MemberGroup)
      → In group (with_merges p.groups) → In group (with_merges q.groups)
  group_over merges others p q group here =
      let some = has_merges (rules_of raw).classes in
      let is = p.sound group (In-filter_source some group p.groups here) in
      let passes : some group ≡ true = In-filter_passes some group p.groups here in
      let found = q.whole is.place (named_place raw well rules tree clean is.place is.name is.named) in
      let name : is.name ≡ found.is.name =
      one_group_name raw tree is.place is.name (group_name found.group) is.named found.named ∙ group_name_is raw tree found.group found.is in
      let same : group ≡ found.group = same_group raw well tree clean group found.group is found.is name in
      let passes_too : some found.group ≡ true = ap some (sym same) ∙ passes in
      elim found.listed [
        | inl listed ↦ subst (λ (g : MemberGroup). In g (with_merges q.groups)) (sym same) (In-filter some found.group q.groups listed passes_too)
        | inr alone ↦
            absurd (false≢true (sym (alone_has_none (rules_of raw).classes found.group (group_name found.group) alone.0 alone.1) ∙ passes_too))
      ]

  -- they stand in the order of their names
  in_order : (groups : List MemberGroup) → Pairwise StandsBefore groups → Pairwise StandsBefore (with_merges groups)
  in_order groups = Pairwise-filter StandsBefore (has_merges (rules_of raw).classes) groups

  pub same_merges : (merges others : List MergeRec) → AreGroupMerges raw tree merges → AreGroupMerges raw tree others → merges ≡ others
  same_merges merges others p q =
      let f = group_merges (rules_of raw).classes in
      let groups : with_merges p.groups ≡ with_merges q.groups =
      same_by_order StandsBefore (λ group. not_before_itself (group_name group))
      (λ a b c. name_cmp_total.trans (group_name a) (group_name b) (group_name c)) (with_merges p.groups) (with_merges q.groups)
      (in_order p.groups (Pairwise-from_AllPairs StandsBefore p.groups p.in_order))
      (in_order q.groups (Pairwise-from_AllPairs StandsBefore q.groups q.in_order)) (group_over merges others p q) (group_over others merges q p) in
      p.are ∙ without_empty f p.groups ∙ ap (flat_map f) groups ∙ sym (without_empty f q.groups) ∙ sym q.are

pub group_merges_are_one : GroupMergesAreUnique
group_merges_are_one raw tree merges others well rules clean = same_merges raw well rules tree clean merges others
