-- The squares at which parts meet are enough to find all places that offend.
use Rattle.hierarchy_model.proofs.Common.{◌≡◌, ◌≢◌, ℕ, zero, suc, List, [], ◌∷◌, bit_or, slice_get, if◌then◌else◌, ◌+◌, inl, inr, refl, sym, ap, ◌∙◌}
use Rattle.hierarchy_model.proofs.Common.{arith, Some, cases_eq, RawTech, joined, IsWellFormed, within_self, Place, SetLayout, joined_at, union_of}
use Rattle.hierarchy_model.proofs.Common.{flat_type, is_exactly, parts_with, HasKind, Offends}
use Rattle.std.proofs.Common.{◌<◌, length}
use Rattle.std.specs.Prelude.{◌↔◌}
use Rattle.std.proofs.lemmas.Option.{slice_get_within, slice_get-get_or}
use Rattle.tech_model.specs.GeoCore.declared.squares.Square.{Square}
use Rattle.offences.proofs.LayoutModel.PlaceLaws.{AreNeighbours-sym}
use Rattle.offences.specs.Roles.{role_of}
use Rattle.offences.specs.Offences.{ChangesRole, HaveTypes}
use Rattle.hierarchy_model.specs.Restrictions.{PartStands, IsRestriction, HoldsMeetings, MeetingsDecide}
use Rattle.offences.proofs.SpoiledLaws.{channel_is_material}
use Rattle.hierarchy_model.proofs.PartSearch.{NoneStands, OneStands, who_stands, empty_there, flat_of_none, flat_of_one, type_of_empty, kind_stands}
use Rattle.hierarchy_model.proofs.PartSearch.{count_of_one}

-- ---- what meets where a place offends

-- where the flat type is not that of a part, another part stands
pub other_stands : (raw : RawTech) (parts : List SetLayout) (place : Place) (position : ℕ) (part : SetLayout) → slice_get parts position ≡ Some part
    → flat_type raw parts place ≢ joined_at raw part place → (other : ℕ) × (other ≢ position) × PartStands parts other place
other_stands raw parts place position part there differs = elim (who_stands parts place) [
  | inl none ↦
      let empty = empty_there parts position place part there (none position) in
      absurd (differs (flat_of_none raw parts place none ∙ sym (type_of_empty raw part place empty)))
  | inr (inl one) ↦ elim (cases_eq one.position position) [
    | inl same ↦ absurd (differs (flat_of_one raw parts place position part there (λ other stands. one.alone other stands ∙ same)))
    | inr differ ↦ (one.position, differ, one.stands)
  ]
  | inr (inr two) ↦ elim (cases_eq two.first position) [
    | inl same ↦ (two.second, (λ also. two.differ (same ∙ sym also)), two.second_stands)
    | inr differ ↦ (two.first, differ, two.first_stands)
  ]
]

-- where no part stands, nothing offends
pub none_offends : (raw : RawTech) → IsWellFormed raw → (parts : List SetLayout) (place : Place) → NoneStands parts place
    → Offends raw parts place → ⊥
none_offends raw formed parts place none (inl undefined) = let flat = flat_of_none raw parts place none in cc
none_offends raw formed parts place none (inr (inl hides)) =
    none hides.position (kind_stands raw parts hides.position place hides.kind hides.has hides.material)
none_offends raw formed parts place none (inr (inr (inl shares))) =
    let flat : Some 0 ≡ Some shares.fet = sym (flat_of_none raw parts place none) ∙ shares.flat in
    let space : shares.fet ≡ 0 = cc in
    channel_is_material raw formed shares.fet shares.channel space
none_offends raw formed parts place none (inr (inr (inr (inl loses)))) =
    none loses.position (kind_stands raw parts loses.position place loses.fet loses.has (channel_is_material raw formed loses.fet loses.channel))
none_offends raw formed parts place none (inr (inr (inr (inr changes)))) =
    let material = channel_is_material raw formed changes.fet changes.channel in
    none changes.position (kind_stands raw parts changes.position place changes.fet changes.has material)

-- where one part stands alone, its type is the flat type
alone_is_flat : (raw : RawTech) (parts : List SetLayout) (place : Place) → OneStands parts place → (position kind : ℕ)
    → HasKind raw parts position place kind
    → kind ≢ 0 → flat_type raw parts place ≡ Some kind
alone_is_flat raw parts place one position kind has material =
    let at : position ≡ one.position = one.alone position (kind_stands raw parts position place kind has material) in
    flat_of_one raw parts place position has.part has.there (λ other stands. one.alone other stands ∙ sym at) ∙ has.is

-- where one part stands alone, a place offends at most by a role that changes
one_offends : (raw : RawTech) → IsWellFormed raw → (parts : List SetLayout) → HaveTypes raw parts → (place : Place) → OneStands parts place
    → Offends raw parts place → ChangesRole raw parts place
one_offends raw formed parts types place one (inl undefined) =
    absurd (types one.position one.stands.part one.stands.there place
    (sym (flat_of_one raw parts place one.position one.stands.part one.stands.there one.alone) ∙ undefined))
one_offends raw formed parts types place one (inr (inl hides)) =
    let flat = alone_is_flat raw parts place one hides.position hides.kind hides.has hides.material in
    absurd (hides.outside hides.kind flat (within_self raw hides.kind))
one_offends raw formed parts types place one (inr (inr (inl shares))) =
    let is = sym (flat_of_one raw parts place one.position one.stands.part one.stands.there one.alone) ∙ shares.flat in
    absurd (shares.count (count_of_one raw parts place one.position one.stands.part shares.fet
    (channel_is_material raw formed shares.fet shares.channel) one.stands.there is one.alone))
one_offends raw formed parts types place one (inr (inr (inr (inl loses)))) =
    let material = channel_is_material raw formed loses.fet loses.channel in
    absurd (loses.flat (alone_is_flat raw parts place one loses.position loses.fet loses.has material))
one_offends raw formed parts types place one (inr (inr (inr (inr changes)))) = changes

-- where a role changes, the place and the neighbour are among the squares that hold the meetings
pub changes_near : (raw : RawTech) → IsWellFormed raw → (Within : Square → Type 0) (parts : List SetLayout) → HoldsMeetings Within parts
    → (place : Place)
    → (change : ChangesRole raw parts place) → Within place.square × Within change.beside.square
changes_near raw formed Within parts holds place change =
    let other = other_stands raw parts change.beside change.position change.has.part change.has.there
    (λ same. change.differs (ap (role_of raw change.fet) same)) in
    let stands = kind_stands raw parts change.position place change.fet change.has (channel_is_material raw formed change.fet change.channel) in (
      holds.beside change.position other.0 place change.beside (λ same. other.1 (sym same)) stands other.2 change.neighbour,
      holds.beside other.0 change.position change.beside place other.1 other.2 stands (AreNeighbours-sym place change.beside change.neighbour),
    )

-- each place that offends is among the squares that hold the meetings
pub offences_near : (raw : RawTech) → IsWellFormed raw → (Within : Square → Type 0) (parts : List SetLayout) → HaveTypes raw parts
    → HoldsMeetings Within parts
    → (place : Place) → Offends raw parts place → Within place.square
offences_near raw formed Within parts types holds place offends = elim (who_stands parts place) [
  | inl none ↦ absurd (none_offends raw formed parts place none offends)
  | inr (inl one) ↦ (changes_near raw formed Within parts holds place (one_offends raw formed parts types place one offends)).0
  | inr (inr two) ↦ holds.here two.first two.second place two.differ two.first_stands two.second_stands
]

-- ---- parts that are alike at a place

-- So many are the others, and each has at the place what the part at its position has.
pub record AreAlikeAt (parts others : List SetLayout) (place : Place) : Type 0 where
  pub count : length others ≡ length parts
  pub same : (position : ℕ) (part other : SetLayout) → slice_get parts position ≡ Some part → slice_get others position ≡ Some other
      → other place ≡ part place

-- and the other way round
alike_back : (parts others : List SetLayout) (place : Place) → AreAlikeAt parts others place → AreAlikeAt others parts place
alike_back parts others place alike =
    record { count = sym alike.count; same = λ position other part also there. sym (alike.same position part other there also) }

alike_rest : (part other : SetLayout) (parts others : List SetLayout) (place : Place) → AreAlikeAt (part ∷ parts) (other ∷ others) place
    → AreAlikeAt parts others place
alike_rest part other parts others place alike = record {
  count = omega (arith, alike.count);
  same = λ position p o there also. alike.same (suc position) p o there also;
}

union_alike : (parts others : List SetLayout) (place : Place) → AreAlikeAt parts others place → union_of others place ≡ union_of parts place
union_alike [] [] place alike = refl
union_alike [] (other ∷ others) place alike = absurd (omega (arith, alike.count))
union_alike (part ∷ parts) [] place alike = absurd (omega (arith, alike.count))
union_alike (part ∷ parts) (other ∷ others) place alike =
    ap (λ (set : ℕ). bit_or set (union_of others place)) (alike.same zero part other refl refl)
    ∙ ap (bit_or (part place)) (union_alike parts others place (alike_rest part other parts others place alike))

flat_alike : (raw : RawTech) (parts others : List SetLayout) (place : Place) → AreAlikeAt parts others place
    → flat_type raw others place ≡ flat_type raw parts place
flat_alike raw parts others place alike = ap (joined raw place.plane) (union_alike parts others place alike)

count_alike : (raw : RawTech) (parts others : List SetLayout) (place : Place) (kind : ℕ) → AreAlikeAt parts others place
    → parts_with raw others place kind ≡ parts_with raw parts place kind
count_alike raw [] [] place kind alike = refl
count_alike raw [] (other ∷ others) place kind alike = absurd (omega (arith, alike.count))
count_alike raw (part ∷ parts) [] place kind alike = absurd (omega (arith, alike.count))
count_alike raw (part ∷ parts) (other ∷ others) place kind alike =
    ap (λ (set : ℕ). (if is_exactly kind (joined raw place.plane set) then 1 else 0) + parts_with raw others place kind)
    (alike.same zero part other refl refl)
    ∙ ap (λ (n : ℕ). (if is_exactly kind (joined_at raw part place) then 1 else 0) + n)
    (count_alike raw parts others place kind (alike_rest part other parts others place alike))

-- the other at a position
counterpart : (parts others : List SetLayout) → length others ≡ length parts → (position : ℕ) (part : SetLayout)
    → slice_get parts position ≡ Some part
    → (other : SetLayout) × (slice_get others position ≡ Some other)
counterpart parts others count position part there =
    let below : position < length parts = slice_get_within parts position part there in
    (_, slice_get-get_or others position part (omega arith))

kind_alike : (raw : RawTech) (parts others : List SetLayout) (place : Place) (position kind : ℕ) → AreAlikeAt parts others place
    → HasKind raw parts position place kind → HasKind raw others position place kind
kind_alike raw parts others place position kind alike has =
    let other = counterpart parts others alike.count position has.part has.there in
    record { part = other.0; there = other.1; is = ap (joined raw place.plane) (alike.same position has.part other.0 has.there other.1) ∙ has.is }

-- a role that changes does so in parts that are alike at the place and at the neighbour
change_alike : (raw : RawTech) (parts others : List SetLayout) (place : Place) → AreAlikeAt parts others place
    → (change : ChangesRole raw parts place)
    → AreAlikeAt parts others change.beside → ChangesRole raw others place
change_alike raw parts others place alike change beside =
    let other = counterpart parts others alike.count change.position change.has.part change.has.there in
    let flat = flat_alike raw parts others change.beside beside in
    let type : joined_at raw other.0 change.beside ≡ joined_at raw change.has.part change.beside =
    ap (joined raw change.beside.plane) (beside.same change.position change.has.part other.0 change.has.there other.1) in
    record {
      fet = change.fet;
      flat = flat_alike raw parts others place alike ∙ change.flat;
      channel = change.channel;
      position = change.position;
      has = record {
        part = other.0;
        there = other.1;
        is = ap (joined raw place.plane) (alike.same change.position change.has.part other.0 change.has.there other.1) ∙ change.has.is;
      };
      beside = change.beside;
      neighbour = change.neighbour;
      differs = λ same. change.differs (ap (role_of raw change.fet) (sym flat) ∙ same ∙ ap (role_of raw change.fet) type);
    }

-- a place offends in parts that are alike there, and alike at the neighbours where roles change
carried : (raw : RawTech) (parts others : List SetLayout) (place : Place) → AreAlikeAt parts others place
    → ((change : ChangesRole raw parts place) → AreAlikeAt parts others change.beside) → Offends raw parts place → Offends raw others place
carried raw parts others place alike beside (inl undefined) = inl (flat_alike raw parts others place alike ∙ undefined)
carried raw parts others place alike beside (inr (inl hides)) = inr (inl (record {
  position = hides.position;
  kind = hides.kind;
  has = kind_alike raw parts others place hides.position hides.kind alike hides.has;
  material = hides.material;
  outside = λ flat is. hides.outside flat (sym (flat_alike raw parts others place alike) ∙ is);
}))
carried raw parts others place alike beside (inr (inr (inl shares))) = inr (inr (inl (record {
  fet = shares.fet;
  flat = flat_alike raw parts others place alike ∙ shares.flat;
  channel = shares.channel;
  count = λ one. shares.count (sym (count_alike raw parts others place shares.fet alike) ∙ one);
})))
carried raw parts others place alike beside (inr (inr (inr (inl loses)))) = inr (inr (inr (inl (record {
  position = loses.position;
  fet = loses.fet;
  has = kind_alike raw parts others place loses.position loses.fet alike loses.has;
  channel = loses.channel;
  flat = λ is. loses.flat (sym (flat_alike raw parts others place alike) ∙ is);
}))))
carried raw parts others place alike beside (inr (inr (inr (inr change)))) =
    inr (inr (inr (inr (change_alike raw parts others place alike change (beside change)))))

-- parts that are alike on a plane offend at the same places of it
pub offences_on_plane : (raw : RawTech) (parts others : List SetLayout) (plane : ℕ)
    → ((place : Place) → place.plane ≡ plane → AreAlikeAt parts others place)
    → (place : Place) → place.plane ≡ plane → Offends raw parts place ↔ Offends raw others place
offences_on_plane raw parts others plane alike place on = (
  carried raw parts others place (alike place on) (λ change. alike change.beside (sym change.neighbour.0 ∙ on)),
  carried raw others parts place (alike_back parts others place (alike place on))
      (λ change. alike_back parts others change.beside (alike change.beside (sym change.neighbour.0 ∙ on))),
)

-- ---- restrictions

module _ (Within : Square → Type 0) (parts others : List SetLayout) (restricted : IsRestriction Within parts others) where
  -- where the squares are, the parts are alike
  alike_inside : (place : Place) → Within place.square → AreAlikeAt parts others place
  alike_inside place within = record {
    count = restricted.count;
    same = λ position part other there also. restricted.inside position part other there also place within;
  }

  -- elsewhere nothing stands
  none_outside : (place : Place) → (Within place.square → ⊥) → NoneStands others place
  none_outside place outside position stands = stands.material (restricted.outside position stands.part stands.there place outside)

  -- what offends lies where the squares are
  restricted_near : (raw : RawTech) → IsWellFormed raw → (place : Place) → Offends raw others place → Within place.square
  restricted_near raw formed place offends = elim (restricted.decided place.square) [
    | inl within ↦ within
    | inr outside ↦ absurd (none_offends raw formed others place (none_outside place outside) offends)
  ]

  -- and so does a neighbour where a role changes
  restricted_change : (raw : RawTech) (place : Place) → (change : ChangesRole raw others place) → Within change.beside.square
  restricted_change raw place change = elim (restricted.decided change.beside.square) [
    | inl within ↦ within
    | inr outside ↦
        let none = none_outside change.beside outside in
        let empty = empty_there others change.position change.beside change.has.part change.has.there (none change.position) in
        absurd (change.differs (ap (role_of raw change.fet)
        (flat_of_none raw others change.beside none ∙ sym (type_of_empty raw change.has.part change.beside empty))))
  ]

-- the squares at which parts meet are enough to find all places that offend
pub meetings_decide : (raw : RawTech) → MeetingsDecide raw
meetings_decide raw Within parts others formed types holds restricted place =
    let alike : (p : Place) → Within p.square → AreAlikeAt parts others p = alike_inside Within parts others restricted in
    let alike_other : (p : Place) → Within p.square → AreAlikeAt others parts p = λ p within. alike_back parts others p (alike p within) in (
      (λ offends.
          carried raw parts others place
          (alike place (offences_near raw formed Within parts types holds place offends))
          (λ change. alike change.beside (changes_near raw formed Within parts holds place change).1)
          offends),
      (λ offends.
          carried raw others parts place
          (alike_other place (restricted_near Within parts others restricted raw formed place offends))
          (λ change. alike_other change.beside (restricted_change Within parts others restricted raw place change))
          offends),
    )
