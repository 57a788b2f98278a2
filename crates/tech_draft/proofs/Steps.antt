-- What a line keeps and adds, of the types and their sets.
use Rattle.tech_draft.proofs.Common.{◌≡◌, ◌⊎◌, ℕ, List, [], ◌++◌, length, bit_or, refl, sym, ap, subst, ◌∙◌, arith, inl, inr, IsTrue, append-nil, In}
use Rattle.tech_draft.proofs.Common.{In-append_cases, In-append_left, LayerId, TypeId, ClassRec, FetRule, RawTech, is_type, layer_of, parts_of}
use Rattle.tech_draft.proofs.Common.{images_of, type_number, layer_number, IsSimple, IsUnion, Drafted, IsMadeOf, atom, composed, HasImages, IsPart}
use Rattle.tech_draft.proofs.Common.{IsImage, HasSoundSets}
use Rattle.tech_draft.proofs.Keeps.{Keeps, kept_type, places-keep, same_places}

-- The type was there before, and as it is: its layer has as many images, and its set is the same.
pub record IsSame (old new : RawTech) (t : ℕ) : Type 0 where
  pub was : IsTrue (is_type old t)
  pub images : length (images_of new (layer_of old t)) ≡ length (images_of old (layer_of old t))
  pub set : parts_of new t ≡ parts_of old t

-- the type's set is as it should be
abbrev pub IsSoundType : Drafted → ℕ → Type 0
IsSoundType draft t =
    (IsSimple draft.raw t × IsMadeOf draft.raw draft.used t) ⊎ (HasImages draft.raw (layer_of draft.raw t) × IsImage draft t)

-- A line keeps the types, and adds parts and residues. Each type is as it was, or its set is as it should be.
pub record IsStep (old new : Drafted) : Type 0 where
  pub more_used : List TypeId
  pub more_residues : List (LayerId × TypeId)
  pub keeps : Keeps old.raw new.raw
  pub used : new.used ≡ old.used ++ more_used
  pub residues : new.residues ≡ old.residues ++ more_residues
  pub types : (t : ℕ) → IsTrue (is_type new.raw t) → IsSame old.raw new.raw t ⊎ IsSoundType new t
  -- parts keep their sets, contacts stay contacts, and residues stay none
  pub same_used : (t : ℕ) → In (type_number t) old.used → IsSame old.raw new.raw t
  pub contacts : (layer : ℕ) → HasImages old.raw layer → HasImages new.raw layer
  pub simple_residues : (pair : LayerId × TypeId) → In pair old.residues → IsSimple new.raw pair.1.0
  pub new_used : (t : ℕ) → In (type_number t) more_used → IsPart new.raw t
  pub new_residues : (pair : LayerId × TypeId) → In pair more_residues → HasImages new.raw pair.0.0 × IsPart new.raw pair.1.0

-- a type that is as it was has as many images beside it
pub same_images : (old new : RawTech) (t : ℕ) → Keeps old new → IsSame old new t
    → length (images_of new (layer_of new t)) ≡ length (images_of old (layer_of old t))
same_images old new t keeps same = ap (λ (l : ℕ). length (images_of new l)) (keeps.layers t same.was) ∙ same.images

-- a type that is as it was is no contact if it was none
pub same_part : (old new : RawTech) (t : ℕ) → Keeps old new → IsSame old new t → IsSimple old t → IsPart new t
same_part old new t keeps same simple = record {
  is = kept_type old new keeps t same.was;
  simple = same_images old new t keeps same
      ∙ simple;
}

-- a union stays the union of its parts
pub union_same : (old new : RawTech) (t first second : ℕ) → Keeps old new → IsSame old new t → IsSame old new first → IsSame old new second
    → IsUnion old t first second → IsUnion new t first second
union_same old new t first second keeps same of_first of_second union = record {
  first_type = kept_type old new keeps first of_first.was;
  second_type = kept_type old new keeps second of_second.was;
  differ = union.differ;
  first_simple = same_images old new first keeps of_first ∙ union.first_simple;
  second_simple = same_images old new second keeps of_second ∙ union.second_simple;
  first_plane = keeps.planes first of_first.was ∙ union.first_plane ∙ sym (keeps.planes t same.was);
  second_plane = keeps.planes second of_second.was ∙ union.second_plane ∙ sym (keeps.planes t same.was);
  set = same.set ∙ union.set ∙ ap (λ (x : ℕ). bit_or x (parts_of old second)) (sym of_first.set)
      ∙ ap (bit_or (parts_of new first)) (sym of_second.set);
}

-- what a set is made of stays
pub made_same : (old new : RawTech) (used more : List TypeId) (t : ℕ) → Keeps old new
    → ((s : ℕ) → In (type_number s) used → IsSame old new s)
    → IsSame old new t → IsMadeOf old used t → IsMadeOf new (used ++ more) t
made_same old new used more t keeps all same (atom _ set) = atom t (same.set ∙ set)
made_same old new used more t keeps all same (composed _ first second union first_used second_used of_first of_second) =
    composed t first second (union_same old new t first second keeps same (all first first_used) (all second second_used) union)
    (In-append_left (type_number first) used more first_used) (In-append_left (type_number second) used more second_used)
    (made_same old new used more first keeps all (all first first_used) of_first)
    (made_same old new used more second keeps all (all second second_used) of_second)

image_kept : (old new : Drafted) (t : ℕ) → IsStep old new → HasSoundSets old → IsSame old.raw new.raw t → IsImage old t → IsImage new t
image_kept old new t step sets same image =
    let layer = step.keeps.layers t same.was in
    let noted : In (layer_number (layer_of old.raw t), image.residue) new.residues =
    rw step.residues (In-append_left (layer_number (layer_of old.raw t), image.residue) old.residues step.more_residues image.noted) in
    record {
      residue = image.residue;
      noted = subst (λ (l : ℕ). In (layer_number l, image.residue) new.residues) (sym layer) noted;
      plane = step.keeps.planes image.residue.0 (sets.residues (layer_number (layer_of old.raw t), image.residue) image.noted).1.is
          ∙ image.plane ∙ sym (step.keeps.planes t same.was);
    }

-- Sets stay sound.
pub sets_after : (old new : Drafted) → IsStep old new → HasSoundSets old → HasSoundSets new
sets_after old new step sets = record {
  simple = λ t is simple. elim (step.types t is) [
    | inl same ↦
        subst (λ (used : List TypeId). IsMadeOf new.raw used t) (sym step.used)
        (made_same old.raw new.raw old.used step.more_used t step.keeps step.same_used same
        (sets.simple t same.was (sym (same_images old.raw new.raw t step.keeps same) ∙ simple)))
    | inr sound ↦ elim sound [ inl made ↦ made.1 | inr image ↦ (let many = image.0 in absurd (omega (arith, many, simple))) ]
  ];
  images = λ t is many. elim (step.types t is) [
    | inl same ↦ image_kept old new t step sets same
        (sets.images t same.was (omega (arith, many, same_images old.raw new.raw t step.keeps same)))
    | inr sound ↦ elim sound [ inl made ↦ (let one = made.0 in absurd (omega (arith, many, one))) | inr image ↦ image.1 ]
  ];
  used = λ t inside. elim (In-append_cases (type_number t) old.used step.more_used (rw step.used at inside)) [
    | inl before ↦ same_part old.raw new.raw t step.keeps (step.same_used t before) (sets.used t before).simple
    | inr added ↦ step.new_used t added
  ];
  residues = λ pair inside. elim (In-append_cases pair old.residues step.more_residues (rw step.residues at inside)) [
    | inl before ↦
        let was = sets.residues pair before in
        (step.contacts pair.0.0 was.0, record { is = kept_type old.raw new.raw step.keeps pair.1.0 was.1.is; simple = step.simple_residues pair before })
    | inr added ↦ step.new_residues pair added
  ];
}

-- the draft with other names, rules and capped classes
abbrev pub with_rules : Drafted → List ℕ → List (List ℕ) → List (TypeId × TypeId) → List ClassRec → List FetRule → List ℕ → Drafted
with_rules draft name planes pairs classes fets capped =
    record draft { raw = record draft.raw { name = name; planes = planes; pairs = pairs; classes = classes; fets = fets }; capped = capped }

-- a line that adds no type and changes no set
pub rules_step : (draft : Drafted) (name : List ℕ) (planes : List (List ℕ)) (pairs : List (TypeId × TypeId)) (classes : List ClassRec)
    (fets : List FetRule) (capped : List ℕ)
    → HasSoundSets draft → IsStep draft (with_rules draft name planes pairs classes fets capped)
rules_step draft name planes pairs classes fets capped sets =
    let new = with_rules draft name planes pairs classes fets capped in
    let same : (t : ℕ) → IsTrue (is_type draft.raw t)
    → IsSame draft.raw new.raw t = λ t is. record { was = is; images = refl; set = refl } in
    record {
      more_used = [];
      more_residues = [];
      keeps = places-keep draft.raw new.raw (same_places draft.raw.types);
      used = sym (append-nil draft.used);
      residues = sym (append-nil draft.residues);
      types = λ t is. inl (same t is);
      same_used = λ t inside. same t (sets.used t inside).is;
      contacts = λ layer many. many;
      simple_residues = λ pair inside. (sets.residues pair inside).1.simple;
      new_used = λ t absent. absurd absent;
      new_residues = λ pair absent. absurd absent;
    }
