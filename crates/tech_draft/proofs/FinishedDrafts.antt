-- The technology of a sound draft is well formed once it has a name.
use Rattle.tech_draft.proofs.Common.{◌≡◌, ◌≢◌, ◌<◌, ◌≤◌, ◌-◌, ◌^◌, ◌+◌, ◌==◌, ℕ, Bool, true, List, [], ◌∷◌, length, map, get_or, bit_or, refl, sym}
use Rattle.tech_draft.proofs.Common.{ap, subst, ◌∙◌, arith, inl, inr, IsTrue, Option, Some, None, find, cases_eq, eq-eqb, ne_eqb, eqb-true}
use Rattle.tech_draft.proofs.Common.{and_parts, true≢false, length-map, get_or-map, In-get_or, find-none, is_plain_name, LayerId, TypeId, TypeRec}
use Rattle.tech_draft.proofs.Common.{RawTech, MOST_TYPES, is_type, type_at, no_type, no_layer, plane_of, layer_of, parts_of, images_of, layer_number}
use Rattle.tech_draft.proofs.Common.{IsSimple, IsWellFormed, parts_at, type_bounds, Drafted, IsMadeOf, atom, composed, HasImages, IsPart, IsImage}
use Rattle.tech_draft.proofs.Common.{HasSoundLayers, HasSoundSets, IsSound}
use Rattle.std.proofs.Common.{◌*◌, ◌&&◌, zero, suc}
use Rattle.std.specs.Int.{bit_at}
use Rattle.std.proofs.lemmas.Nat.{or_comm}
use Rattle.std.proofs.lemmas.Nat.Bits.{bit_at-pow_other, and_pow}
use Rattle.finite_sets.proofs.Searches.{find-In, find-passes, none_found}
use Rattle.tech_model.specs.declared.limits.TheConstants.{FIRST_MARK}
use Rattle.tech_model.specs.WellFormed.{IsMarked, IsContact, HasSet, HasSets}
use Rattle.tech_model.specs.WellFormed as well
use Rattle.tech_model.proofs.SetLaws.{or_bit_cases, bit_cases}
use Rattle.tech_draft.specs.Finished.{is_residue_of, mark_bit, set_with, finished_type, finished}
use Rattle.tech_draft.proofs.Keeps.{Keeps, kept_type, kept_rules, HasSamePlaces, places-keep, same_type, places-layers}
use Rattle.tech_draft.proofs.Steps.{IsSame, same_part, union_same}

-- the technology of the draft, in the open
abbrev whole : Drafted → RawTech
whole draft = record draft.raw { types = map (finished_type draft) draft.raw.types }

-- ---- its types

-- what a set doesn't change stays
finished_same : {X : Type 0} (draft : Drafted) (f : TypeRec → X) → ((kind : TypeRec) → f (finished_type draft kind) ≡ f kind)
    → (kinds : List TypeRec) (k : ℕ) → f (get_or (map (finished_type draft) kinds) k no_type) ≡ f (get_or kinds k no_type)
finished_same draft f same [] k = refl
finished_same draft f same (kind ∷ kinds) zero = same kind
finished_same draft f same (kind ∷ kinds) (suc k) = finished_same draft f same kinds k

whole-places : (draft : Drafted) → HasSamePlaces draft.raw.types (whole draft).types
whole-places draft = record {
  many = length-map draft.raw.types (finished_type draft);
  planes = finished_same draft (λ (kind : TypeRec). kind.plane) (λ kind. refl) draft.raw.types;
  layers = finished_same draft (λ (kind : TypeRec). kind.layer.0) (λ kind. refl) draft.raw.types;
}

whole-keeps : (draft : Drafted) → Keeps draft.raw (whole draft)
whole-keeps draft = places-keep draft.raw (whole draft) (whole-places draft)

was_type : (draft : Drafted) (t : ℕ) → IsTrue (is_type (whole draft) t) → IsTrue (is_type draft.raw t)
was_type draft t is = same_type draft.raw (whole draft) (whole-places draft) t is

-- the residue that is found for a type
abbrev residue_of : Drafted → ℕ → Option (LayerId × TypeId)
residue_of draft t = find (is_residue_of draft.raw (type_at draft.raw t)) draft.residues

whole_parts : (draft : Drafted) (t : ℕ) → IsTrue (is_type draft.raw t)
    → parts_of (whole draft) t ≡ set_with draft.raw (type_at draft.raw t) (residue_of draft t)
whole_parts draft t is =
    let bounds = type_bounds draft.raw t is in
    parts_at (whole draft) t (kept_type draft.raw (whole draft) (whole-keeps draft) t is)
    ∙ ap (λ (kind : TypeRec). kind.parts.0)
    (get_or-map (finished_type draft) draft.raw.types (t - 1) no_type no_type (omega (arith, bounds.0, bounds.1)))

-- ---- types that are no contacts

-- a type that is no image of a contact has no residue
no_residue : (draft : Drafted) (t : ℕ) → HasSoundSets draft → IsSimple draft.raw t → residue_of draft t ≡ None
no_residue draft t sets simple =
    none_found (is_residue_of draft.raw (type_at draft.raw t)) draft.residues
    (λ pair inside. ap (λ (b : Bool). b && plane_of draft.raw pair.1.0 == plane_of draft.raw t)
    (ne_eqb pair.0.0 (layer_of draft.raw t) (λ (same : pair.0.0 ≡ layer_of draft.raw t).
    let many = (sets.residues pair inside).0 in
    let equal : length (images_of draft.raw pair.0.0)
    ≡ length (images_of draft.raw (layer_of draft.raw t)) = ap (λ (l : ℕ). length (images_of draft.raw l)) same in
    omega (arith, many, simple, equal))))

simple_same : (draft : Drafted) (t : ℕ) → HasSoundSets draft → IsPart draft.raw t → IsSame draft.raw (whole draft) t
simple_same draft t sets part = record {
  was = part.is;
  images = refl;
  set = whole_parts draft t part.is
      ∙ ap (set_with draft.raw (type_at draft.raw t)) (no_residue draft t sets part.simple) ∙ sym (parts_at draft.raw t part.is);
}

simple_set : (draft : Drafted) (t : ℕ) → HasSoundSets draft → IsMadeOf draft.raw draft.used t → IsPart draft.raw t → HasSet (whole draft) t
simple_set draft t sets (atom _ set) part = well.atom t ((simple_same draft t sets part).set ∙ set)
simple_set draft t sets (composed _ first second union _ _ of_first of_second) part =
    let first_part : IsPart draft.raw first = record { is = union.first_type; simple = union.first_simple } in
    let second_part : IsPart draft.raw second = record { is = union.second_type; simple = union.second_simple } in
    well.composed t first second
    (union_same draft.raw (whole draft) t first second (whole-keeps draft) (simple_same draft t sets part)
    (simple_same draft first sets first_part) (simple_same draft second sets second_part) union)
    (simple_set draft first sets of_first first_part) (simple_set draft second sets of_second second_part)

-- they have no bit from that of the first mark on
simple_bits : (draft : Drafted) (t k : ℕ) → length draft.raw.types ≤ MOST_TYPES → IsMadeOf draft.raw draft.used t
    → IsTrue (is_type draft.raw t)
    → bit_at (parts_of draft.raw t) k ≡ 1 → k < MOST_TYPES
simple_bits draft t k limit (atom _ set) is bit =
    let bounds = type_bounds draft.raw t is in
    elim (cases_eq k (t - 1)) [
      | inl same ↦ omega (arith, bounds.0, bounds.1)
      | inr other ↦
          let apart : ◌≡◌ {A = ℕ} 1 0 = sym bit ∙ ap (λ (x : ℕ). bit_at x k) set ∙ bit_at-pow_other (t - 1) k other in
          absurd (omega arith)
    ]
simple_bits draft t k limit (composed _ first second union _ _ of_first of_second) is bit =
    elim (or_bit_cases (parts_of draft.raw first) (parts_of draft.raw second) k (sym (ap (λ (x : ℕ). bit_at x k) union.set) ∙ bit)) [
      | inl here ↦ simple_bits draft first k limit of_first union.first_type here
      | inr there ↦ simple_bits draft second k limit of_second union.second_type there
    ]

no_high_bit : (draft : Drafted) (t bit : ℕ) → HasSoundLayers draft.raw → HasSoundSets draft → IsPart draft.raw t → FIRST_MARK ≤ bit
    → bit_at (parts_of draft.raw t) bit ≡ 1 → ⊥
no_high_bit draft t bit layers sets part high one =
    let low = simple_bits draft t bit layers.types_limit (sets.simple t part.is part.simple) part.is one in omega (arith, low, high)

-- ---- contacts

-- The residue of an image: no contact, on the plane of the image. The set of the image is the mark and the set of the residue.
record HasResidue (draft : Drafted) (t : ℕ) : Type 0 where
  residue : TypeId
  part : IsPart draft.raw residue.0
  plane : plane_of draft.raw residue.0 ≡ plane_of draft.raw t
  set : parts_of (whole draft) t ≡ bit_or (mark_bit (layer_of draft.raw t)) (parts_of draft.raw residue.0)

found_residue : (draft : Drafted) (t : ℕ) (found : Option (LayerId × TypeId)) → HasSoundSets draft → IsTrue (is_type draft.raw t)
    → IsImage draft t
    → residue_of draft t ≡ found → HasResidue draft t
found_residue draft t None sets is image none =
    let pair : LayerId × TypeId = (layer_number (layer_of draft.raw t), image.residue) in
    let passes : is_residue_of draft.raw (type_at draft.raw t) pair ≡ true =
    rw (
      eq-eqb (layer_of draft.raw t) (layer_of draft.raw t) refl,
      eq-eqb (plane_of draft.raw image.residue.0)
          (plane_of draft.raw t) image.plane,
    ) refl in
    absurd (true≢false (sym passes ∙ find-none (is_residue_of draft.raw (type_at draft.raw t)) draft.residues pair none image.noted))
found_residue draft t (Some pair) sets is image some =
    let test = is_residue_of draft.raw (type_at draft.raw t) in
    let both = and_parts (pair.0.0 == layer_of draft.raw t) (plane_of draft.raw pair.1.0 == plane_of draft.raw t)
    (find-passes test draft.residues pair some) in
    record {
      residue = pair.1;
      part = (sets.residues pair (find-In test draft.residues pair some)).1;
      plane = eqb-true (plane_of draft.raw pair.1.0) (plane_of draft.raw t) both.1;
      set = whole_parts draft t is ∙ ap (set_with draft.raw (type_at draft.raw t)) some
          ∙ ap (λ (l : ℕ). bit_or (mark_bit l) (parts_of draft.raw pair.1.0)) (eqb-true pair.0.0 (layer_of draft.raw t) both.0);
    }

has_residue : (draft : Drafted) (t : ℕ) → HasSoundSets draft → IsTrue (is_type draft.raw t) → HasImages draft.raw (layer_of draft.raw t)
    → HasResidue draft t
has_residue draft t sets is many = found_residue draft t (residue_of draft t) sets is (sets.images t is many) refl

image_marked : (draft : Drafted) (layer t : ℕ) → HasSoundSets draft → IsTrue (is_type draft.raw t) → layer_of draft.raw t ≡ layer
    → HasImages draft.raw layer → IsMarked (whole draft) (FIRST_MARK + layer) t
image_marked draft layer t sets is here many =
    let of = has_residue draft t sets is (subst (HasImages draft.raw) (sym here) many) in
    let keeps = whole-keeps draft in
    let same = simple_same draft of.residue.0 sets of.part in
    let part = same_part draft.raw (whole draft) of.residue.0 keeps same of.part.simple in
    record {
      residue = of.residue.0;
      residue_type = part.is;
      residue_simple = part.simple;
      residue_plane = keeps.planes of.residue.0 of.part.is ∙ of.plane ∙ sym (keeps.planes t is);
      set = of.set ∙ or_comm (mark_bit (layer_of draft.raw t)) (parts_of draft.raw of.residue.0)
          ∙ ap (λ (l : ℕ). bit_or (parts_of draft.raw of.residue.0) (mark_bit l)) here
          ∙ ap (λ (n : ℕ). bit_or n (mark_bit layer)) (sym same.set);
    }

-- no type of another layer has the mark
mark_absent : (draft : Drafted) (layer t : ℕ) → HasSoundLayers draft.raw → HasSoundSets draft → IsTrue (is_type draft.raw t)
    → layer_of draft.raw t ≢ layer
    → bit_at (parts_of (whole draft) t) (FIRST_MARK + layer) ≡ 1 → ⊥
mark_absent draft layer t layers sets is other bit =
    let placed = (layers.layers (layer_of draft.raw t) no_layer (layers.type_layers t is)).placed in
    elim (cases_eq (length (images_of draft.raw (layer_of draft.raw t))) 1) [
      | inl simple ↦
          let part : IsPart draft.raw t = record { is = is; simple = simple } in
          no_high_bit draft t (FIRST_MARK + layer) layers sets part (omega arith)
          (sym (ap (λ (n : ℕ). bit_at n (FIRST_MARK + layer)) (simple_same draft t sets part).set) ∙ bit)
      | inr several ↦
          let of = has_residue draft t sets is (omega (arith, placed, several)) in
          elim (or_bit_cases (mark_bit (layer_of draft.raw t)) (parts_of draft.raw of.residue.0) (FIRST_MARK + layer)
          (sym (ap (λ (n : ℕ). bit_at n (FIRST_MARK + layer)) of.set) ∙ bit)) [
            | inl of_mark ↦
                let apart : ◌≡◌ {A = ℕ} 1 0 = sym of_mark
                ∙ bit_at-pow_other (FIRST_MARK + layer_of draft.raw t) (FIRST_MARK + layer)
                (λ (same : FIRST_MARK + layer ≡ FIRST_MARK + layer_of draft.raw t). other (omega (arith, same))) in
                omega (arith, apart)
            | inr of_residue ↦ no_high_bit draft of.residue.0 (FIRST_MARK + layer) layers sets of.part (omega arith) of_residue
          ]
    ]

whole_contact : (draft : Drafted) (layer : ℕ) → HasSoundLayers draft.raw → HasSoundSets draft → layer < length draft.raw.layers
    → HasImages draft.raw layer → IsContact (whole draft) layer
whole_contact draft layer layers sets below many =
    let new = whole draft in
    record {
      bit = FIRST_MARK + layer;
      above_atoms = omega arith;
      below_limit = omega (arith, below, layers.limit, layers.types_limit);
      images = λ k d inside.
          let t = get_or (images_of draft.raw layer) k d in
          let is = (layers.layers layer no_layer below).images k d inside in
          image_marked draft layer t.0 sets is
          (layers.of_one_layer layer t.0 below (In-get_or (images_of draft.raw layer) k d inside)) many;
      no_other = λ t is other.
          let was = was_type draft t is in
          let elsewhere : layer_of draft.raw t ≢ layer = λ same. other ((whole-keeps draft).layers t was ∙ same) in
          elim (bit_cases (parts_of new t) (FIRST_MARK + layer)) [
            | inl clear ↦ and_pow (parts_of new t) (FIRST_MARK + layer) ∙ ap (λ (x : ℕ). x * 2 ^ (FIRST_MARK + layer)) clear ∙ omega arith
            | inr set ↦ absurd (mark_absent draft layer t layers sets was elsewhere set)
          ];
    }

whole_sets : (draft : Drafted) → HasSoundLayers draft.raw → HasSoundSets draft → HasSets (whole draft)
whole_sets draft layers sets = record {
  simple = λ t is simple.
      let was = was_type draft t is in
      let one : IsSimple draft.raw t = sym (ap (λ (l : ℕ). length (images_of draft.raw l)) ((whole-keeps draft).layers t was)) ∙ simple in
      simple_set draft t sets (sets.simple t was one) (record { is = was; simple = one });
  contacts = λ layer below many. whole_contact draft layer layers sets below many;
}

whole_fits : (draft : Drafted) → IsSound draft → IsTrue (is_plain_name draft.raw.name) → IsWellFormed (whole draft)
whole_fits draft sound plain =
    let names = sound.names in
    let layers = places-layers draft.raw (whole draft) (whole-places draft) refl (omega arith) sound.layers in
    let rules = kept_rules draft.raw draft.raw.name draft.raw.planes (whole draft).types draft.raw.layers (whole-keeps draft) sound.rules in
    record {
      planes_limit = names.limit;
      types_limit = layers.types_limit;
      classes_limit = rules.classes_limit;
      fets_limit = rules.fets_limit;
      name = plain;
      plane_names = names.plane_names;
      planes_differ = names.differ;
      layers = layers.layers;
      names_differ = layers.names_differ;
      type_planes = layers.type_planes;
      type_layers = layers.type_layers;
      is_image = layers.is_image;
      of_one_layer = layers.of_one_layer;
      sets = whole_sets draft sound.layers sound.sets;
      pairs = rules.pairs;
      classes = rules.classes;
      classes_apart = rules.classes_apart;
      fets = rules.fets;
      fets_differ = rules.fets_differ;
    }

-- a sound draft with a name is a well-formed technology
pub finished-well_formed : (draft : Drafted) → IsSound draft → IsTrue (is_plain_name draft.raw.name) → IsWellFormed (finished draft)
unfolding finished
finished-well_formed draft sound plain = whole_fits draft sound plain
