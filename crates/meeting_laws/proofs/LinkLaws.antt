-- Links of the flat layout: each is one of a part, or leads from one square at which parts meet to another.
use Rattle.meeting_laws.proofs.Common.{◌≡◌, ◌≢◌, ◌⊎◌, ℕ, List, slice_get, inl, inr, sym, ap, ◌∙◌, Some, Square, RawTech, connects, or_space}
use Rattle.meeting_laws.proofs.Common.{IsMaterial, Place, SetLayout, PartStands, NoneStands, who_stands, part_layout, parts_layout}
use Rattle.std.proofs.lemmas.Bool.{cases_eq}
use Rattle.hierarchy_model.specs.LayoutModel.Links.{AreLinked}
use Rattle.hierarchy_model.specs.LayoutModel.Places.{AreNeighbours, AreStacked}
use Rattle.hierarchy_model.proofs.LayoutModel.PlaceLaws.{AreNeighbours-sym, AreStacked-sym}
use Rattle.hierarchy_model.proofs.PartSearch.{TwoStand, flat_of_none, flat_of_one, type_of_empty}
use Rattle.meeting_laws.specs.PartLayouts.{HoldsAllMeetings, IsPartLink}

-- The places are edge neighbours, or one square on two planes.
abbrev pub AreNear : Place → Place → Type 0
AreNear a b = AreNeighbours a b ⊎ AreStacked a b

-- and the other way round
pub AreNear-sym : (a b : Place) → AreNear a b → AreNear b a
AreNear-sym a b (inl beside) = inl (AreNeighbours-sym a b beside)
AreNear-sym a b (inr stacked) = inr (AreStacked-sym a b stacked)

-- No part stands at the place but that at this position.
abbrev pub StandsAtMost : List SetLayout → ℕ → Place → Type 0
StandsAtMost parts position place = (other : ℕ) → PartStands parts other place → other ≡ position

-- the parts that stand at two places near each other are one part alone
pub record OneStandsAtBoth (parts : List SetLayout) (a b : Place) : Type 0 where
  pub position : ℕ
  pub here : PartStands parts position a
  pub alone_here : StandsAtMost parts position a
  pub alone_there : StandsAtMost parts position b

-- where a part is empty its layout has space
pub part_of_empty : (raw : RawTech) (part : SetLayout) (place : Place) → part place ≡ 0 → part_layout raw part place ≡ 0
part_of_empty raw part place empty = ap or_space (type_of_empty raw part place empty)

-- where no part stands the flat layout has space
pub layout_of_none : (raw : RawTech) (parts : List SetLayout) (place : Place) → NoneStands parts place → parts_layout raw parts place ≡ 0
layout_of_none raw parts place none = ap or_space (flat_of_none raw parts place none)

-- where one part stands alone the flat layout has its type
pub layout_of_one : (raw : RawTech) (parts : List SetLayout) (place : Place) (position : ℕ) (part : SetLayout)
    → slice_get parts position ≡ Some part → StandsAtMost parts position place → parts_layout raw parts place ≡ part_layout raw part place
layout_of_one raw parts place position part there alone = ap or_space (flat_of_one raw parts place position part there alone)

-- where a part has material it stands
pub material_stands : (raw : RawTech) (parts : List SetLayout) (position : ℕ) (part : SetLayout) (place : Place)
    → slice_get parts position ≡ Some part → IsMaterial (part_layout raw part) place → PartStands parts position place
material_stands raw parts position part place there material =
    record { part = part; there = there; material = λ empty. material (part_of_empty raw part place empty) }

-- where the flat layout has material some part stands
pub someone_stands : (raw : RawTech) (parts : List SetLayout) (place : Place) → IsMaterial (parts_layout raw parts) place
    → (position : ℕ) × PartStands parts position place
someone_stands raw parts place material = elim (who_stands parts place) [
  | inl none ↦ absurd (material (layout_of_none raw parts place none))
  | inr (inl one) ↦ (one.position, one.stands)
  | inr (inr two) ↦ (two.first, two.first_stands)
]

module _ (Within : Square → Type 0) (parts : List SetLayout) (holds : HoldsAllMeetings Within parts) where
  -- the square at which a part stands near another part
  meets_here : (j k : ℕ) (a b : Place) → j ≢ k → PartStands parts j a → PartStands parts k b → AreNear a b → Within a.square
  meets_here j k a b differ here there (inl beside) = holds.on_plane.beside j k a b differ here there beside
  meets_here j k a b differ here there (inr stacked) = holds.stacked j k a b differ here there stacked

  -- two parts that stand near each other do so in squares at which parts meet
  pub meet_near : (j k : ℕ) (a b : Place) → j ≢ k → PartStands parts j a → PartStands parts k b → AreNear a b → Within a.square × Within b.square
  meet_near j k a b differ here there near = (
    meets_here j k a b differ here there near,
    meets_here k j b a (λ same. differ (sym same)) there here (AreNear-sym a b near),
  )

  -- where two parts stand, whatever stands near meets one of them
  pub two_meet : (a b : Place) (k : ℕ) → TwoStand parts a → PartStands parts k b → AreNear a b → Within a.square × Within b.square
  two_meet a b k two there near = elim (cases_eq two.first k) [
    | inr differ ↦ meet_near two.first k a b differ two.first_stands there near
    | inl same ↦ meet_near two.second k a b (λ also. two.differ (same ∙ sym also)) two.second_stands there near
  ]

  -- of what stands at two places near each other, all is one part, or both squares are among those at which parts meet
  pub one_or_meet : (a b : Place) (j : ℕ) → PartStands parts j a → AreNear a b
      → OneStandsAtBoth parts a b ⊎ ((Within a.square × Within b.square) ⊎ (TwoStand parts a × NoneStands parts b))
  one_or_meet a b j here near = elim (who_stands parts a) [
    | inl none ↦ absurd (none j here)
    | inr (inl one) ↦ elim (who_stands parts b) [
      | inl none ↦ inl (record {
        position = one.position;
        here = one.stands;
        alone_here = one.alone;
        alone_there = λ other stands. absurd (none other stands);
      })
      | inr (inl other) ↦ elim (cases_eq one.position other.position) [
        | inl same ↦ inl (record {
          position = one.position;
          here = one.stands;
          alone_here = one.alone;
          alone_there = λ k stands. other.alone k stands ∙ sym same;
        })
        | inr differ ↦ inr (inl (meet_near one.position other.position a b differ one.stands other.stands near))
      ]
      | inr (inr two) ↦
          let meet = two_meet b a one.position two one.stands (AreNear-sym a b near) in
          inr (inl (meet.1, meet.0))
    ]
    | inr (inr two) ↦ elim (who_stands parts b) [
      | inl none ↦ inr (inr (two, none))
      | inr (inl other) ↦ inr (inl (two_meet a b other.position two other.stands near))
      | inr (inr others) ↦ inr (inl (two_meet a b others.first two others.first_stands near))
    ]
  ]

  -- a link of the flat layout is one of a part with the same two types, or both its squares are among those at which parts meet
  pub link_of_part : (raw : RawTech) (a b : Place) → AreLinked (connects raw) (parts_layout raw parts) a b
      → IsPartLink raw parts a b ⊎ (Within a.square × Within b.square)
  link_of_part raw a b link =
      let here = someone_stands raw parts a link.here in
      let there = someone_stands raw parts b link.there in
      elim (one_or_meet a b here.0 here.1 link.near) [
        | inl one ↦
            let part = one.here.part in
            let same_here : part_layout raw part a ≡ parts_layout raw parts a =
            sym (layout_of_one raw parts a one.position part one.here.there one.alone_here) in
            let same_there : part_layout raw part b ≡ parts_layout raw parts b =
            sym (layout_of_one raw parts b one.position part one.here.there one.alone_there) in
            inl (record {
              position = one.position;
              part = part;
              there = one.here.there;
              same_here = same_here;
              same_there = same_there;
              linked = record {
                here = λ space. link.here (sym same_here ∙ space);
                there = λ space. link.there (sym same_there ∙ space);
                near = link.near;
                connected = ap (λ (kind : ℕ). connects raw kind (part_layout raw part b)) same_here
                    ∙ ap (connects raw (parts_layout raw parts a)) same_there ∙ link.connected;
              };
            })
        | inr (inl both) ↦ inr both
        | inr (inr two) ↦ absurd (two.1 there.0 there.1)
      ]
