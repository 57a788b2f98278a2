-- Members of one group meet in the squares at which parts do.
use Rattle.group_meetings.proofs.Common.{◌≢◌, ◌⊎◌, ℕ, zero, suc, List, inl, inr, sym, subst, ◌∙◌, cases_eq, Chain-one, Square, RawTech, KeepsRules}
use Rattle.group_meetings.proofs.Common.{connects, IsWellFormed, IsMaterial, AreLinked, Place, sets_in, IsTyped, AreOneNamedNode, SetLayout, IsClean}
use Rattle.group_meetings.proofs.Common.{PartStands, IsRestriction, NamedTree, NamedElements, OwnBody, layouts_of, named_tree, flat_layout}
use Rattle.group_meetings.proofs.Common.{AreOneGroupBelow, IsMemberAt, parts_layout, tree_parts, IsMemberOfPart, PartsHaveMembers}
use Rattle.finite_sets.specs.Chain.{Chain}
use Rattle.finite_sets.specs.Chain.Chain.{stay, go}
use Rattle.finite_sets.proofs.Chains.{Chain-same}
use Rattle.meeting_laws.specs.PartLayouts.{HoldsAllMeetings, IsPartLink}
use Rattle.meeting_laws.proofs.LinkLaws.{meet_near, link_of_part, material_stands, someone_stands}
use Rattle.meeting_laws.proofs.RestrictionLaws.{layout_inside}
use Rattle.meeting_laws.proofs.PartLinks.{link_restricted}
use Rattle.group_meetings.specs.Members.{MeetInRegion}
use Rattle.group_meetings.proofs.PartMembers.{flat_is_of_parts, parts_below, own_one_or_material, element_of_group, member_at_part}
use Rattle.group_meetings.proofs.MemberMaterial.{part_stands, part_is_later, AreOneOrOfPart, own_is_material, element_is_material}
use Rattle.group_meetings.proofs.MemberMaterial.{flat_of_part, member_is_material}
use Rattle.group_meetings.proofs.MemberSteps.{own_name_along, member_along_group, member_along_link, one_of_part}
use Rattle.group_meetings.proofs.RegionLaws.{link_of_parts}

-- a step of a group: a link of the flat layout, or a way within a node of the own layout or a group of an element
abbrev pub IsGroupStep : RawTech → OwnBody → NamedElements → Place → Place → Type 0
IsGroupStep raw own elements a b =
    AreLinked (connects raw) (flat_layout raw (named_tree own elements)) a b
    ⊎ (AreOneNamedNode raw own.layout own.labels a b
    ⊎ AreOneGroupBelow raw elements a b)

-- The step is one of a part: its members go along, and it has material on both sides unless these are one.
pub record IsStepOfPart (raw : RawTech) (tree : NamedTree) (position : ℕ) (a b : Place) : Type 0 where
  pub along : (member : List ℕ) → IsMemberOfPart raw tree position a member → IsMemberOfPart raw tree position b member
  pub material : AreOneOrOfPart raw (tree_parts raw tree) position a b

module _ (Within : Square → Type 0) (raw : RawTech) (formed : IsWellFormed raw) (rules : KeepsRules raw) (own : OwnBody) (elements : NamedElements)
    (typed : IsTyped raw (layouts_of (named_tree own elements))) (clean : IsClean raw (layouts_of (named_tree own elements)))
    (holds : HoldsAllMeetings Within (tree_parts raw (named_tree own elements))) where
  abbrev tree : NamedTree
  tree = named_tree own elements

  abbrev parts : List SetLayout
  parts = tree_parts raw tree

  -- two parts of which the members have one place meet there
  members_meet : (j k : ℕ) (place : Place) (first second : List ℕ) → j ≢ k → IsMemberOfPart raw tree j place first
      → IsMemberOfPart raw tree k place second → Within place.square
  members_meet j k place first second differ here there =
      holds.on_plane.here j k place differ
      (part_stands raw parts j place (member_is_material raw formed rules tree typed clean j place first here))
      (part_stands raw parts k place (member_is_material raw formed rules tree typed clean k place second there))

  -- a step along a part
  own_step : (a b : Place) → AreOneNamedNode raw own.layout own.labels a b → IsStepOfPart raw tree zero a b
  own_step a b node = record {
    along = λ member is. own_name_along raw formed own.layout own.labels a b member node is;
    material = elim (own_one_or_material raw formed own node) [
      | inl same ↦ inl same
      | inr both ↦ inr (
        own_is_material raw formed rules own elements typed a both.0,
        own_is_material raw formed rules own elements typed b both.1,
      )
    ];
  }

  element_step : (a b : Place) → AreOneGroupBelow raw elements a b → (position : ℕ) × IsStepOfPart raw tree position a b
  element_step a b below =
      let found = element_of_group raw elements a b below in
      let first = sets_in raw own.layout in (
        suc found.0,
        record {
          along = λ member is. member_along_group raw elements found.0 a b member found.1 is;
          material = elim (element_is_material raw formed rules elements typed.1 clean.0 found.0 a b found.1) [
            | inl same ↦ inl same
            | inr both ↦ inr (
              part_is_later raw first (parts_below raw elements) found.0 a both.0,
              part_is_later raw first (parts_below raw elements) found.0 b both.1,
            )
          ];
        },
      )

  link_step : (a b : Place) (link : IsPartLink raw parts a b) → IsStepOfPart raw tree link.position a b
  link_step a b link = record {
    along = λ member is. member_along_link raw formed rules tree typed link.position link.part link.there a b member link.linked is;
    material = inr (
      record { part = link.part; there = link.there; material = link.linked.here },
      record { part = link.part; there = link.there; material = link.linked.there },
    );
  }

  -- each step of a group is one of a part, or a link of the flat layout in squares at which parts meet
  pub part_step : (a b : Place) → IsGroupStep raw own elements a b
      → ((position : ℕ) × IsStepOfPart raw tree position a b)
      ⊎ ((Within a.square × Within b.square) × AreLinked (connects raw) (flat_layout raw tree) a b)
  part_step a b (inl link) = elim (link_of_part Within parts holds raw a b (link_of_parts raw tree a b link)) [
    | inl of_part ↦ inl (of_part.position, link_step a b of_part)
    | inr both ↦ inr (both, link)
  ]
  part_step a b (inr (inl node)) = inl (zero, own_step a b node)
  part_step a b (inr (inr below)) = inl (element_step a b below)

  -- on a way of a group from a member to another the first has a place at which parts meet
  pub meets_on_the_way : (a b : Place) → Chain (IsGroupStep raw own elements) a b → (j k : ℕ) (first second : List ℕ)
      → IsMemberOfPart raw tree j a first → IsMemberOfPart raw tree k b second → first ≢ second
      → (place : Place) × (Chain (IsGroupStep raw own elements) a place × IsMemberAt raw tree place first × Within place.square)
  meets_on_the_way a b (stay {a = c}) j k first second here there differ = elim (cases_eq j k) [
    | inl same ↦
        absurd (differ (one_of_part raw tree k c first second (subst (λ (n : ℕ). IsMemberOfPart raw tree n c first) same here) there))
    | inr apart ↦ (c, (stay, member_at_part raw tree j c first here, members_meet j k c first second apart here there))
  ]
  meets_on_the_way a b (go {a = x} {b = y} {c = z} step rest) j k first second here there differ =
      let onward : IsMemberOfPart raw tree j y first
      → (place : Place) × (Chain (IsGroupStep raw own elements) x place × IsMemberAt raw tree place first × Within place.square) =
      λ has. let found = meets_on_the_way y z rest j k first second has there differ in (found.0, (go step found.1.0, found.1.1, found.1.2)) in
      elim (part_step x y step) [
        | inr both ↦ (x, (stay, member_at_part raw tree j x first here, both.0.0))
        | inl of ↦ elim (cases_eq of.0 j) [
          | inl same ↦ onward (subst (λ (n : ℕ). IsMemberOfPart raw tree n y first) same
              (of.1.along first (subst (λ (n : ℕ). IsMemberOfPart raw tree n x first) (sym same) here)))
          | inr apart ↦ elim of.1.material [
            | inl one ↦ onward (subst (λ (p : Place). IsMemberOfPart raw tree j p first) one here)
            | inr both ↦ (
              x,
              (
                stay,
                member_at_part raw tree j x first here,
                holds.on_plane.here of.0 j x apart (part_stands raw parts of.0 x both.0)
                    (part_stands raw parts j x (member_is_material raw formed rules tree typed clean j x first here)),
              ),
            )
          ]
        ]
      ]

  module _ (others : List SetLayout) (restricted : IsRestriction Within parts others) where
    -- where a member has a place at which parts meet, the restricted flat layout has material
    material_in_region : (place : Place) (j : ℕ) (member : List ℕ) → IsMemberOfPart raw tree j place member → Within place.square
        → IsMaterial (parts_layout raw others) place
    material_in_region place j member is within space =
        flat_of_part raw tree clean j place (member_is_material raw formed rules tree typed clean j place member is)
        (flat_is_of_parts raw tree place ∙ sym (layout_inside Within parts others restricted raw place within) ∙ space)

    -- members that share a place at which parts meet
    share_region : (place : Place) (j k : ℕ) (first second : List ℕ) → IsMemberOfPart raw tree j place first → IsMemberOfPart raw tree k place second
        → Within place.square → MeetInRegion raw tree others first second
    share_region place j k first second here there within = record {
      here = place;
      there = place;
      first_has = member_at_part raw tree j place first here;
      second_has = member_at_part raw tree k place second there;
      material = material_in_region place j first here within;
      joined = stay;
    }

    -- members with places that a link in squares at which parts meet joins
    linked_in_region : (a b : Place) (j k : ℕ) (first second : List ℕ) → IsMemberOfPart raw tree j a first → IsMemberOfPart raw tree k b second
        → Within a.square × Within b.square → AreLinked (connects raw) (flat_layout raw tree) a b → MeetInRegion raw tree others first second
    linked_in_region a b j k first second here there both link = record {
      here = a;
      there = b;
      first_has = member_at_part raw tree j a first here;
      second_has = member_at_part raw tree k b second there;
      material = material_in_region a j first here both.0;
      joined = Chain-one (link_restricted Within parts others restricted raw a b both.0 both.1 (link_of_parts raw tree a b link));
    }

    -- two different members that share a place meet in a region
    pub sharing_meet : (place : Place) (j k : ℕ) (first second : List ℕ) → IsMemberOfPart raw tree j place first → IsMemberOfPart raw tree k place second
        → first ≢ second → MeetInRegion raw tree others first second
    sharing_meet place j k first second here there differ = elim (cases_eq j k) [
      | inl same ↦
          absurd (differ (one_of_part raw tree k place first second (subst (λ (n : ℕ). IsMemberOfPart raw tree n place first) same here) there))
      | inr apart ↦ share_region place j k first second here there (members_meet j k place first second apart here there)
    ]

    -- and so do two with places that the flat layout links
    pub linked_meet : (a b : Place) (j k : ℕ) (first second : List ℕ) → IsMemberOfPart raw tree j a first → IsMemberOfPart raw tree k b second
        → first ≢ second → AreLinked (connects raw) (flat_layout raw tree) a b → MeetInRegion raw tree others first second
    linked_meet a b j k first second here there differ link =
        let meet : Within a.square × Within b.square → MeetInRegion raw tree others first second =
        λ both. linked_in_region a b j k first second here there both link in
        let first_stands = part_stands raw parts j a (member_is_material raw formed rules tree typed clean j a first here) in
        let second_stands = part_stands raw parts k b (member_is_material raw formed rules tree typed clean k b second there) in
        elim (link_of_part Within parts holds raw a b (link_of_parts raw tree a b link)) [
          | inr both ↦ meet both
          | inl of ↦
              let of_a : PartStands parts of.position a = material_stands raw parts of.position of.part a of.there of.linked.here in
              let of_b : PartStands parts of.position b = material_stands raw parts of.position of.part b of.there of.linked.there in
              elim (cases_eq j of.position) [
                | inr apart ↦ meet (meet_near Within parts holds j of.position a b apart first_stands of_b link.near)
                | inl same ↦ elim (cases_eq of.position k) [
                  | inr apart ↦ meet (meet_near Within parts holds of.position k a b apart of_a second_stands link.near)
                  | inl also ↦
                      let along = (link_step a b of).along first (subst (λ (n : ℕ). IsMemberOfPart raw tree n a first) same here) in
                      absurd (differ (one_of_part raw tree k b first second (subst (λ (n : ℕ). IsMemberOfPart raw tree n b first) also along) there))
                ]
              ]
        ]

    -- the members on a way of a group meet one after another in regions
    pub joined_by_regions : PartsHaveMembers raw tree → (a b : Place) → Chain (IsGroupStep raw own elements) a b → (j k : ℕ) (first second : List ℕ)
        → IsMemberOfPart raw tree j a first → IsMemberOfPart raw tree k b second → Chain (MeetInRegion raw tree others) first second
    joined_by_regions have a b (stay {a = c}) j k first second here there = elim (cases_eq j k) [
      | inl same ↦
          Chain-same (MeetInRegion raw tree others) first second
          (one_of_part raw tree k c first second (subst (λ (n : ℕ). IsMemberOfPart raw tree n c first) same here) there)
      | inr apart ↦ Chain-one (share_region c j k first second here there (members_meet j k c first second apart here there))
    ]
    joined_by_regions have a b (go {a = x} {b = y} {c = z} step rest) j k first second here there =
        let onward : (n : ℕ) (member : List ℕ) → IsMemberOfPart raw tree n y member → Chain (MeetInRegion raw tree others) member second =
        λ n member has. joined_by_regions have y z rest n k member second has there in
        elim (part_step x y step) [
          | inr both ↦
              let someone = someone_stands raw parts y (λ space. both.1.there (flat_is_of_parts raw tree y ∙ space)) in
              let next = have someone.0 y someone.1 in
              go (linked_in_region x y j someone.0 first next.0 here next.1 both.0 both.1) (onward someone.0 next.0 next.1)
          | inl of ↦ elim (cases_eq of.0 j) [
            | inl same ↦ onward of.0 first (of.1.along first (subst (λ (n : ℕ). IsMemberOfPart raw tree n x first) (sym same) here))
            | inr apart ↦ elim of.1.material [
              | inl one ↦ onward j first (subst (λ (p : Place). IsMemberOfPart raw tree j p first) one here)
              | inr both ↦
                  let stands = part_stands raw parts of.0 x both.0 in
                  let next = have of.0 x stands in
                  let within : Within x.square =
                  holds.on_plane.here of.0 j x apart stands
                  (part_stands raw parts j x (member_is_material raw formed rules tree typed clean j x first here)) in
                  go (share_region x j of.0 first next.0 here next.1 within) (onward of.0 next.0 (of.1.along next.0 next.1))
            ]
          ]
        ]
