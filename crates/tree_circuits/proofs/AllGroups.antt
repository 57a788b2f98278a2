-- All groups of a cell, those that its merges tell of and those of one member that add nothing.
use Rattle.tree_circuits.proofs.Common.{◌≡◌, ◌⊎◌, ℕ, ℤ, pos, ◌+ℤ◌, Bool, cond, List, [], ◌∷◌, ◌++◌, map, inl, inr, refl, sym, ◌∙◌, ap, subst, arith}
use Rattle.tree_circuits.proofs.Common.{flat_map, bytes_eq, cases_Bool, ints, map-append, bytes_eq-Decides, In, Distinct, sum_on, Distinct-append}
use Rattle.tree_circuits.proofs.Common.{In-append_cases, In-append_left, In-append_right, In-map_source, Pairwise, Pairwise-from_AllPairs}
use Rattle.tree_circuits.proofs.Common.{sum_on-append, sum_on-nothing, In-flat_map, In-flat_map_source, RawTech, MergeRec, IsMaterial, Place}
use Rattle.tree_circuits.proofs.Common.{rules_of, flat_layout, AreOneGroup, IsGroupName, IsMemberAt, NamedTree, RecordedQuantity, group_name_is}
use Rattle.tree_names.specs.TreeRecords.FetRecords.{IsNameBefore}
use Rattle.tree_names.specs.TreeRecords.Merges.{AreGroupMerges, MemberGroup, IsMemberGroup, HasGroupIn, group_name, group_merges}
use Rattle.tree_circuits.proofs.RecordedQuantities.{IsRecordedQuantity, amount_of}
use Rattle.tree_circuits.proofs.GroupShares.{IsShared, shares_of, merges_passing, merges_of_group, cond_nothing}
use Rattle.tree_names.proofs.FullNames.ListOrders.{not_before_itself}
use Rattle.tree_circuits.proofs.Shares.{Shared, adds_passing}
use Rattle.tree_circuits.proofs.NamedSums.{names_in}

-- a name stands among names, or not
among_or_not : (name : List ℕ) (names : List (List ℕ)) → In name names ⊎ (In name names → ⊥)
among_or_not name [] = inr (λ none. none)
among_or_not name (other ∷ names) = elim (cases_Bool (bytes_eq other name)) [
  | inl same ↦ inl (inl ((bytes_eq-Decides other name).0 same))
  | inr differ ↦ elim (among_or_not name names) [
    | inl here ↦ inl (inr here)
    | inr none ↦ inr (λ among. elim among [
      | inl same ↦ let yes = (bytes_eq-Decides other name).1 same in cc
      | inr later ↦ none later
    ])
  ]
]

-- groups in name order have different names
names_differ : (groups : List MemberGroup) → Pairwise (λ a b. IsNameBefore (group_name a) (group_name b)) groups → Distinct (map group_name groups)
names_differ [] ordered = tt
names_differ (group ∷ groups) ordered = (
  (λ here.
      let found = In-map_source group_name (group_name group) groups here in
      let before = ordered.0 found.0 found.1.0 in
      not_before_itself (group_name group) (subst (IsNameBefore (group_name group)) found.1.1 before)),
  names_differ groups ordered.1,
)

-- the names of groups
abbrev pub shared_names : List Shared → List (List ℕ)
shared_names groups = map (λ shared. shared.name) groups

module _ (raw : RawTech) (quantity : RecordedQuantity) (quantities : IsRecordedQuantity raw quantity) (tree : NamedTree) where
  -- Groups of the list have these shares.
  record ToldShares (groups : List MemberGroup) : Type 0 where
    list : List Shared
    sound : (shared : Shared) → In shared list → IsShared raw quantity.weight tree shared
    names : shared_names list ≡ map group_name groups
    whole : (group : MemberGroup) → In group groups → (shared : Shared) × (In shared list × (names_in shared.members ≡ group.members))
    adds : (passes : List ℕ → Bool) → merges_passing quantity passes (flat_map (group_merges (rules_of raw).classes) groups) ≡ adds_passing passes list

  told_shares : (groups : List MemberGroup) → ((group : MemberGroup) → In group groups → IsMemberGroup raw tree group) → ToldShares groups
  told_shares [] sound = record {
    list = [];
    sound = λ shared none. absurd none;
    names = refl;
    whole = λ group none. absurd none;
    adds = λ passes. refl;
  }
  told_shares (group ∷ groups) sound =
      let first = shares_of raw quantity quantities tree group (sound group (inl refl)) in
      let rest = told_shares groups (λ other here. sound other (inr here)) in
      record {
        list = first.shared ∷ rest.list;
        sound = λ shared here. elim here [
          | inl same ↦ subst (IsShared raw quantity.weight tree) same first.is
          | inr later ↦ rest.sound shared later
        ];
        names = λ k. first.name k ∷ rest.names k;
        whole = λ other here. elim here [
          | inl same ↦ (first.shared, (inl refl, first.names ∙ ap (λ (g : MemberGroup). g.members) same))
          | inr later ↦ let found = rest.whole other later in (found.0, (inr found.1.0, found.1.1))
        ];
        adds = λ passes.
            let classes = (rules_of raw).classes in
            let w : MergeRec → ℤ = λ merge. cond (passes merge.first) (quantity.of_merge merge) (pos 0) in
            sum_on-append w (group_merges classes group) (flat_map (group_merges classes) groups)
            ∙ ap (λ z. z +ℤ sum_on w (flat_map (group_merges classes) groups))
            (merges_of_group raw quantity quantities passes tree group (sound group (inl refl)))
            ∙ ap (λ z. cond (passes (group_name group)) (amount_of quantity group.adjustment) (pos 0) +ℤ z) (rest.adds passes)
            ∙ ap (λ (name : List ℕ). cond (passes name) (amount_of quantity group.adjustment) (pos 0) +ℤ adds_passing passes rest.list) (sym first.name)
            ∙ ap (λ z. cond (passes first.shared.name) z (pos 0) +ℤ adds_passing passes rest.list) (sym first.adds);
      }

  module _ (by_name : (a b : Place) (name : List ℕ) → IsGroupName raw tree a name → IsGroupName raw tree b name → AreOneGroup raw tree a b)
      (groups : List MemberGroup) (sound : (group : MemberGroup) → In group groups → IsMemberGroup raw tree group) where
    -- the members that merges tell of
    abbrev told_members : List (List ℕ)
    told_members = flat_map (λ (group : MemberGroup). group.members) groups

    -- a member of the group of a place is a member of the group that goes by its name
    named_member : (place : Place) (member : List ℕ) (group : MemberGroup) → IsMemberGroup raw tree group → IsGroupName raw tree place (group_name group)
        → IsMemberAt raw tree place member → In member group.members
    named_member place member group is named at =
        let name = subst (IsGroupName raw tree place) (group_name_is raw tree group is) named in
        (is.members member).1 (place, by_name is.place place is.name is.named name, at)

    -- Groups of one of the members each that add nothing, for those that merges do not tell of.
    record OtherShares (members : List (List ℕ)) : Type 0 where
      list : List Shared
      sound_others : (shared : Shared) → In shared list → IsShared raw quantity.weight tree shared
      names : (name : List ℕ) → In name (shared_names list) → In name members × (In name told_members → ⊥)
      differ : Distinct (shared_names list)
      whole : (member : List ℕ) → In member members → In member told_members ⊎ ((shared : Shared) × (In shared list × In member (names_in shared.members)))
      nothing : (shared : Shared) → In shared list → shared.adds ≡ pos 0

    -- a group that merges do not tell of
    untold : (place : Place) (member : List ℕ) → IsMemberAt raw tree place member → (In member told_members → ⊥) → (told : HasGroupIn raw tree groups place)
        → (group_name told.group ≡ member) × (amount_of quantity told.group.adjustment ≡ pos 0)
    untold place member at new told = elim told.listed [
      | inl listed ↦ absurd (new (In-flat_map (λ (group : MemberGroup). group.members) told.group member groups listed
          (named_member place member told.group told.is told.named at)))
      | inr alone ↦
          let P : List (List ℕ) → Type 0 = λ members. In member members in
          let here = subst P alone.0 (named_member place member told.group told.is told.named at) in
          (elim here [ inl same ↦ same | inr none ↦ absurd none ], quantities.none told.group.adjustment alone.1)
    ]

    other_shares : (members : List (List ℕ)) → Distinct members
        → ((member : List ℕ) → In member members → (place : Place) × (IsMemberAt raw tree place member × HasGroupIn raw tree groups place))
        → OtherShares members
    other_shares [] differ at = record {
      list = [];
      sound_others = λ shared none. absurd none;
      names = λ name none. absurd none;
      differ = tt;
      whole = λ member none. absurd none;
      nothing = λ shared none. absurd none;
    }
    other_shares (member ∷ members) differ at =
        let rest = other_shares members differ.1 (λ other here. at other (inr here)) in
        elim (among_or_not member told_members) [
          | inl old ↦ record {
            list = rest.list;
            sound_others = rest.sound_others;
            names = λ name here. let found = rest.names name here in (inr found.0, found.1);
            differ = rest.differ;
            whole = λ other here. elim here [
              | inl same ↦ let P : List ℕ → Type 0 = λ name. In name told_members in inl (subst P same old)
              | inr later ↦ rest.whole other later
            ];
            nothing = rest.nothing;
          }
          | inr new ↦
              let here = at member (inl refl) in
              let told = here.1.1 in
              let alone = untold here.0 member here.1.0 new told in
              let first = shares_of raw quantity quantities tree told.group told.is in
              let name : first.shared.name ≡ member = first.name ∙ alone.0 in
              record {
                list = first.shared ∷ rest.list;
                sound_others = λ shared among. elim among [
                  | inl same ↦ subst (IsShared raw quantity.weight tree) same first.is
                  | inr later ↦ rest.sound_others shared later
                ];
                names = λ other among. elim among [
                  | inl same ↦
                      let is : member ≡ other = sym name ∙ same in
                      let P : List ℕ → Type 0 = λ n. In n told_members → ⊥ in
                      (inl is, subst P is new)
                  | inr later ↦ let found = rest.names other later in (inr found.0, found.1)
                ];
                differ = (
                  (λ among. let P : List ℕ → Type 0 = λ n. In n members in differ.0 (subst P name (rest.names first.shared.name among).0)),
                  rest.differ,
                );
                whole = λ other among. elim among [
                  | inl same ↦
                      let P : List (List ℕ) → Type 0 = λ ms. In other ms in
                      let Q : List ℕ → Type 0 = λ n. In n told.group.members in
                      inr (
                        first.shared,
                        (
                          inl refl,
                          subst P (sym first.names)
                              (subst Q same (named_member here.0 member told.group told.is told.named here.1.0)),
                        ),
                      )
                  | inr later ↦ elim (rest.whole other later) [
                    | inl old ↦ inl old
                    | inr found ↦ inr (found.0, (inr found.1.0, found.1.1))
                  ]
                ];
                nothing = λ shared among. elim among [
                  | inl same ↦ subst (λ (s : Shared). s.adds ≡ pos 0) same (first.adds ∙ alone.1)
                  | inr later ↦ rest.nothing shared later
                ];
              }
        ]

  -- All groups of a cell with these members: each has a place in the list, and the merges have what they add.
  pub record AllShares (merges : List MergeRec) : Type 0 where
    pub list : List Shared
    pub sound : (shared : Shared) → In shared list → IsShared raw quantity.weight tree shared
    pub differ : Distinct (shared_names list)
    pub whole : (place : Place) (member : List ℕ) → IsMemberAt raw tree place member
        → (shared : Shared) × (In shared list × In member (names_in shared.members))
    pub adds : (passes : List ℕ → Bool) → merges_passing quantity passes merges ≡ adds_passing passes list

  -- the groups of a cell whose members are known
  pub all_shares : ((a b : Place) (name : List ℕ) → IsGroupName raw tree a name → IsGroupName raw tree b name → AreOneGroup raw tree a b)
      → (merges : List MergeRec) → AreGroupMerges raw tree merges → (members : List (List ℕ)) → Distinct members
      → ((member : List ℕ) → In member members → (place : Place) × (IsMemberAt raw tree place member × IsMaterial (flat_layout raw tree) place))
      → ((place : Place) (member : List ℕ) → IsMemberAt raw tree place member → In member members) → AllShares merges
  all_shares by_name merges are members differ placed known =
      let told = told_shares are.groups are.sound in
      let others = other_shares by_name are.groups are.sound members differ
      (λ member here. let place = placed member here in (place.0, (place.1.0, are.whole place.0 place.1.1))) in
      let name_of : Shared → List ℕ = λ shared. shared.name in
      let members_of : MemberGroup → List (List ℕ) = λ group. group.members in
      record {
        list = told.list ++ others.list;
        sound = λ shared here. elim (In-append_cases shared told.list others.list here) [
          | inl first ↦ told.sound shared first
          | inr second ↦ others.sound_others shared second
        ];
        differ = subst Distinct (sym (map-append name_of told.list others.list))
            (Distinct-append (shared_names told.list) (shared_names others.list)
            (subst Distinct (sym told.names) (names_differ are.groups
            (Pairwise-from_AllPairs (λ a b. IsNameBefore (group_name a) (group_name b)) are.groups are.in_order)))
            others.differ
            (λ name here there.
            let found = In-map_source group_name name are.groups (subst (In name) told.names here) in
            let is = are.sound found.0 found.1.0 in
            let P : List ℕ → Type 0 = λ n. In n found.0.members in
            let first = subst (In is.name) (sym is.members_are) (inl refl) in
            (others.names name there).1 (In-flat_map members_of found.0 name are.groups found.1.0
            (subst P (sym (group_name_is raw tree found.0 is) ∙ found.1.1) first))));
        whole = λ place member at. elim (others.whole member (known place member at)) [
          | inl old ↦
              let source = In-flat_map_source members_of member are.groups old in
              let found = told.whole source.0 source.1.0 in
              (found.0, (In-append_left found.0 told.list others.list found.1.0, subst (In member) (sym found.1.1) source.1.1))
          | inr found ↦ (found.0, (In-append_right found.0 told.list others.list found.1.0, found.1.1))
        ];
        adds = λ passes.
            let w : Shared → ℤ = λ shared. cond (passes shared.name) shared.adds (pos 0) in
            let none : adds_passing passes others.list ≡ pos 0 =
            sum_on-nothing w others.list (λ shared here. cond_nothing (passes shared.name) shared.adds (others.nothing shared here)) in
            ap (merges_passing quantity passes) are.are ∙ told.adds passes ∙ omega (arith, ints, none) ∙ sym (sum_on-append w told.list others.list);
      }
