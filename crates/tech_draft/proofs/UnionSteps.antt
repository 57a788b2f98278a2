-- What a line of the section `compose` keeps and adds: the set of one type.
use Rattle.tech_draft.proofs.Common.{◌≡◌, ◌≢◌, ◌-◌, ℕ, [], ◌∷◌, ◌++◌, length, bit_or, refl, sym, ap, subst, ◌∙◌, arith, inl, inr, IsTrue, cases_eq}
use Rattle.tech_draft.proofs.Common.{append-nil, get_or-set_same, get_or-set_other, In, In-append_right, TypeId, TypeRec, RawTech, type_number}
use Rattle.tech_draft.proofs.Common.{is_type, type_at, plane_of, parts_of, images_of, no_type, IsUnion, IsSimple, parts_at, type_bounds, Drafted}
use Rattle.tech_draft.proofs.Common.{with_set, with_union, IsMadeOf, composed, IsPart, HasSoundSets}
use Rattle.tech_draft.proofs.Keeps.{Keeps, kept_type, with_set-places, places-keep, same_type}
use Rattle.tech_draft.proofs.Steps.{IsSame, IsStep, made_same}

-- Three types of one plane that are no contacts and differ, where the first is no part so far.
pub record IsUnionLine (draft : Drafted) (whole first second : TypeId) : Type 0 where
  pub is_whole : IsPart draft.raw whole.0
  pub is_first : IsPart draft.raw first.0
  pub is_second : IsPart draft.raw second.0
  pub first_plane : plane_of draft.raw first.0 ≡ plane_of draft.raw whole.0
  pub second_plane : plane_of draft.raw second.0 ≡ plane_of draft.raw whole.0
  pub first_other : first.0 ≢ whole.0
  pub second_other : second.0 ≢ whole.0
  pub differ : first.0 ≢ second.0
  pub unused : (t : TypeId) → In t draft.used → t.0 ≢ whole.0

-- the set of both parts
abbrev pub union_of : RawTech → TypeId → TypeId → ℕ
union_of raw first second = bit_or (parts_of raw first.0) (parts_of raw second.0)

-- what becomes of the types
abbrev pub united : RawTech → TypeId → TypeId → TypeId → RawTech
united raw whole first second = record raw { types = with_set raw whole (union_of raw first second) }

-- a union leaves the types that were there
pub union-keeps : (raw : RawTech) (whole first second : TypeId) → Keeps raw (united raw whole first second)
union-keeps raw whole first second = places-keep raw (united raw whole first second) (with_set-places raw whole (union_of raw first second))

union_same_other : (raw : RawTech) (whole first second : TypeId) (t : ℕ) → IsTrue (is_type raw whole.0) → IsTrue (is_type raw t)
    → t ≢ whole.0 → IsSame raw (united raw whole first second) t
union_same_other raw whole first second t base is other =
    let new = united raw whole first second in
    let bounds = type_bounds raw t is in
    let whole_bounds = type_bounds raw whole.0 base in
    let at : type_at new t ≡ type_at raw t = get_or-set_other raw.types (whole.0 - 1) (t - 1)
    (record (type_at raw whole.0) { parts = record { 0 = union_of raw first second } }) no_type
    (λ (same : t - 1 ≡ whole.0 - 1). other (omega (arith, same, bounds.0, whole_bounds.0))) in
    record {
      was = is;
      images = refl;
      set = parts_at new t (kept_type raw new (union-keeps raw whole first second) t is) ∙ ap (λ (kind : TypeRec). kind.parts.0) at
          ∙ sym (parts_at raw t is);
    }

-- a type is no contact after the line where it was none before
union_simple : (raw : RawTech) (whole first second : TypeId) (t : ℕ) → IsPart raw t → IsPart (united raw whole first second) t
union_simple raw whole first second t part =
    let keeps = union-keeps raw whole first second in
    record {
      is = kept_type raw (united raw whole first second) keeps t part.is;
      simple = ap (λ (l : ℕ). length (images_of raw l)) (keeps.layers t part.is) ∙ part.simple;
    }

union_whole : (draft : Drafted) (whole first second : TypeId) → IsUnionLine draft whole first second
    → IsUnion (united draft.raw whole first second) whole.0 first.0 second.0
union_whole draft whole first second line =
    let raw = draft.raw in
    let new = united raw whole first second in
    let keeps = union-keeps raw whole first second in
    let bounds = type_bounds raw whole.0 line.is_whole.is in
    let at = get_or-set_same raw.types (whole.0 - 1)
    (record (type_at raw whole.0) { parts = record { 0 = union_of raw first second } }) no_type (omega (arith, bounds.0, bounds.1)) in
    let of_first = union_simple raw whole first second first.0 line.is_first in
    let of_second = union_simple raw whole first second second.0 line.is_second in
    let same_first = union_same_other raw whole first second first.0 line.is_whole.is line.is_first.is line.first_other in
    let same_second = union_same_other raw whole first second second.0 line.is_whole.is line.is_second.is line.second_other in
    record {
      first_type = of_first.is;
      second_type = of_second.is;
      differ = line.differ;
      first_simple = of_first.simple;
      second_simple = of_second.simple;
      first_plane = keeps.planes first.0 line.is_first.is ∙ line.first_plane ∙ sym (keeps.planes whole.0 line.is_whole.is);
      second_plane = keeps.planes second.0 line.is_second.is ∙ line.second_plane ∙ sym (keeps.planes whole.0 line.is_whole.is);
      set = parts_at new whole.0 (kept_type raw new keeps whole.0 line.is_whole.is) ∙ ap (λ (kind : TypeRec). kind.parts.0) at
          ∙ ap (λ (x : ℕ). bit_or x (parts_of raw second.0)) (sym same_first.set)
          ∙ ap (bit_or (parts_of new first.0)) (sym same_second.set);
    }

union_made : (draft : Drafted) (whole first second : TypeId) → HasSoundSets draft → IsUnionLine draft whole first second
    → IsMadeOf (united draft.raw whole first second) (draft.used ++ first ∷ second ∷ []) whole.0
union_made draft whole first second sets line =
    let raw = draft.raw in
    let new = united raw whole first second in
    let parts = first ∷ second ∷ [] in
    let keeps = union-keeps raw whole first second in
    let used_same : (t : ℕ) → In (type_number t) draft.used → IsSame raw new t =
    λ t inside. union_same_other raw whole first second t line.is_whole.is (sets.used t inside).is (line.unused (type_number t) inside) in
    let same_first = union_same_other raw whole first second first.0 line.is_whole.is line.is_first.is line.first_other in
    let same_second = union_same_other raw whole first second second.0 line.is_whole.is line.is_second.is line.second_other in
    composed whole.0 first.0 second.0 (union_whole draft whole first second line)
    (In-append_right first draft.used parts (inl refl)) (In-append_right second draft.used parts (inr (inl refl)))
    (made_same raw new draft.used parts first.0 keeps used_same same_first (sets.simple first.0 line.is_first.is line.is_first.simple))
    (made_same raw new draft.used parts second.0 keeps used_same same_second (sets.simple second.0 line.is_second.is line.is_second.simple))

-- a line of three types that may be composed
pub union_step : (draft : Drafted) (whole first second : TypeId) → HasSoundSets draft → IsUnionLine draft whole first second
    → IsStep draft (with_union draft whole first second)
union_step draft whole first second sets line =
    let raw = draft.raw in
    let new = united raw whole first second in
    let base = line.is_whole.is in
    record {
      more_used = first ∷ second ∷ [];
      more_residues = [];
      keeps = union-keeps raw whole first second;
      used = refl;
      residues = sym (append-nil draft.residues);
      types = λ t is.
          let was = same_type raw new (with_set-places raw whole (union_of raw first second)) t is in
          elim (cases_eq t whole.0) [
            | inl same ↦ inr (inl (subst (λ (n : ℕ). IsSimple new n × IsMadeOf new (draft.used ++ first ∷ second ∷ []) n) (sym same)
                ((union_simple raw whole first second whole.0 line.is_whole).simple, union_made draft whole first second sets line)))
            | inr other ↦ inl (union_same_other raw whole first second t base was other)
          ];
      same_used = λ t inside. union_same_other raw whole first second t base (sets.used t inside).is (line.unused (type_number t) inside);
      contacts = λ layer many. many;
      simple_residues = λ pair inside. (union_simple raw whole first second pair.1.0 (sets.residues pair inside).1).simple;
      new_used = λ t inside. elim inside [
        | inl same ↦ subst (λ (s : TypeId). IsPart new s.0) same (union_simple raw whole first second first.0 line.is_first)
        | inr rest ↦ elim rest [
          | inl same ↦ subst (λ (s : TypeId). IsPart new s.0) same (union_simple raw whole first second second.0 line.is_second)
          | inr none ↦ absurd none
        ]
      ];
      new_residues = λ pair absent. absurd absent;
    }
