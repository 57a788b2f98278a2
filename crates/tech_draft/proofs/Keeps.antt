-- Technologies that keep the types of another: what holds of the other's lists still holds.
use Rattle.tech_draft.proofs.Common.{◌≡◌, ◌-◌, ◌≤◌, ℕ, List, [], ◌∷◌, length, map, get_or, set, refl, sym, ap, subst, ◌∙◌, arith, inl, inr, All}
use Rattle.tech_draft.proofs.Common.{IsTrue, cases_eq, cases_lt, length-set, get_or-set_same, get_or-set_other, In, Distinct, TypeId, TypeRec}
use Rattle.tech_draft.proofs.Common.{LayerRec, ClassRec, FetRule, RawTech, MOST_CLASSES, MOST_FETS, is_type, type_at, plane_of, layer_of, images_of}
use Rattle.tech_draft.proofs.Common.{no_type, no_layer, IsLayer, IsClass, IsFet, IsPair, AreApart, type_bounds, type_from_bounds, with_set}
use Rattle.tech_draft.proofs.Common.{HasSoundLayers, HasSoundRules}
use Rattle.std.proofs.lemmas.List.{set_past, get_or_default}
use Rattle.std.proofs.lemmas.List.Elements.{All-weaker, All-head, All-tail}

-- the other has all types, on their planes and of their layers
pub record Keeps (raw next : RawTech) : Type 0 where
  pub more : length raw.types ≤ length next.types
  pub planes : (t : ℕ) → IsTrue (is_type raw t) → plane_of next t ≡ plane_of raw t
  pub layers : (t : ℕ) → IsTrue (is_type raw t) → layer_of next t ≡ layer_of raw t

-- ---- what holds of the lists

-- a type stays a type
pub kept_type : (raw next : RawTech) → Keeps raw next → (t : ℕ) → IsTrue (is_type raw t) → IsTrue (is_type next t)
kept_type raw next keeps t is = let bounds = type_bounds raw t is in type_from_bounds next t bounds.0 (omega (arith, bounds.1, keeps.more))

kept_types : (raw next : RawTech) → Keeps raw next → (types : List TypeId) → All (λ t. IsTrue (is_type raw t.0)) types
    → All (λ t. IsTrue (is_type next t.0)) types
kept_types raw next keeps types all = All-weaker (λ (t : TypeId). IsTrue (is_type raw t.0)) (λ (t : TypeId). IsTrue (is_type next t.0))
    (λ t. kept_type raw next keeps t.0) types all

-- types stand on the planes on which they stood
pub kept_planes : (raw next : RawTech) → Keeps raw next → (types : List TypeId) → All (λ t. IsTrue (is_type raw t.0)) types
    → map (λ t. plane_of next t.0) types ≡ map (λ t. plane_of raw t.0) types
kept_planes raw next keeps [] all = refl
kept_planes raw next keeps (t ∷ types) all =
    let here = keeps.planes t.0 (All-head (λ (t : TypeId). IsTrue (is_type raw t.0)) t types all) in
    let rest = kept_planes raw next keeps types (All-tail (λ (t : TypeId). IsTrue (is_type raw t.0)) t types all) in
    ap (λ (p : ℕ). p ∷ map (λ (t : TypeId). plane_of next t.0) types) here ∙ ap (λ (ps : List ℕ). plane_of raw t.0 ∷ ps) rest

kept_layer : (raw next : RawTech) → Keeps raw next → (layer : LayerRec) → IsLayer raw layer → IsLayer next layer
kept_layer raw next keeps layer is = record {
  named = is.named;
  names = is.names;
  placed = is.placed;
  images = kept_types raw next keeps layer.images is.images;
  planes = subst (λ (ps : List ℕ). Distinct ps) (sym (kept_planes raw next keeps layer.images is.images)) is.planes;
}

-- layers that fitted the lists fit them still
pub kept_layers : (raw next : RawTech) → Keeps raw next → (layers : List LayerRec) → All (IsLayer raw) layers → All (IsLayer next) layers
kept_layers raw next keeps layers all = All-weaker (IsLayer raw) (IsLayer next) (kept_layer raw next keeps) layers all

kept_class : (raw next : RawTech) → Keeps raw next → (class : ClassRec) → IsClass raw class → IsClass next class
kept_class raw next keeps class is = record {
  value = is.value;
  per_area = is.per_area;
  per_perimeter = is.per_perimeter;
  types = kept_types raw next keeps class.types is.types;
}

kept_fet : (raw next : RawTech) → Keeps raw next → (fet : FetRule) → IsFet raw fet → IsFet next fet
kept_fet raw next keeps fet is = record {
  kind = kept_type raw next keeps fet.kind.0 is.kind;
  terminals = kept_types raw next keeps fet.terminals is.terminals;
  name = is.name;
  substrate = is.substrate;
}

kept_pair : (raw next : RawTech) → Keeps raw next → (pair : TypeId × TypeId) → IsPair raw pair → IsPair next pair
kept_pair raw next keeps pair is = record {
  first = kept_type raw next keeps pair.0.0 is.first;
  second = kept_type raw next keeps pair.1.0 is.second;
  plane = keeps.planes pair.0.0 is.first ∙ is.plane ∙ sym (keeps.planes pair.1.0 is.second);
}

-- pairs, classes and transistors that fit the types from before are sound
pub rules_in : (raw next : RawTech) → Keeps raw next → All (IsPair raw) next.pairs → length next.classes ≤ MOST_CLASSES
    → All (IsClass raw) next.classes → AreApart (λ class. class.types) next.classes → length next.fets ≤ MOST_FETS
    → All (IsFet raw) next.fets → Distinct (map (λ fet. fet.kind) next.fets) → HasSoundRules next
rules_in raw next keeps pairs few_classes classes apart few_fets fets differ = record {
  pairs = All-weaker (IsPair raw) (IsPair next) (kept_pair raw next keeps) next.pairs pairs;
  classes_limit = few_classes;
  classes = All-weaker (IsClass raw) (IsClass next) (kept_class raw next keeps) next.classes classes;
  classes_apart = apart;
  fets_limit = few_fets;
  fets = All-weaker (IsFet raw) (IsFet next) (kept_fet raw next keeps) next.fets fets;
  fets_differ = differ;
}

-- the technology with other names, planes, types and layers
abbrev pub with_shape : RawTech → List ℕ → List (List ℕ) → List TypeRec → List LayerRec → RawTech
with_shape raw name planes types layers = record raw { name = name; planes = planes; types = types; layers = layers }

-- pairs, classes and transistors stay sound
pub kept_rules : (raw : RawTech) (name : List ℕ) (planes : List (List ℕ)) (types : List TypeRec) (layers : List LayerRec)
    → Keeps raw (with_shape raw name planes types layers) → HasSoundRules raw → HasSoundRules (with_shape raw name planes types layers)
kept_rules raw name planes types layers keeps rules =
    rules_in raw (with_shape raw name planes types layers) keeps rules.pairs rules.classes_limit rules.classes rules.classes_apart
    rules.fets_limit rules.fets rules.fets_differ

-- ---- types that stay where they are

-- as many types, on the same planes and of the same layers
pub record HasSamePlaces (types next : List TypeRec) : Type 0 where
  pub many : length next ≡ length types
  pub planes : (k : ℕ) → (get_or next k no_type).plane ≡ (get_or types k no_type).plane
  pub layers : (k : ℕ) → (get_or next k no_type).layer.0 ≡ (get_or types k no_type).layer.0

-- the same types
pub same_places : (types : List TypeRec) → HasSamePlaces types types
same_places types = record { many = refl; planes = λ k. refl; layers = λ k. refl }

-- a write of something with the same f changes no f
pub set_same : {X Y : Type 0} (f : X → Y) (xs : List X) (i : ℕ) (v d : X) → f v ≡ f (get_or xs i d) → (k : ℕ)
    → f (get_or (set xs i v) k d) ≡ f (get_or xs k d)
set_same f xs i v d same k = elim (cases_eq k i) [
  | inl here ↦ elim (cases_lt i (length xs)) [
    | inl below ↦ ap (λ (n : ℕ). f (get_or (set xs i v) n d)) here ∙ ap f (get_or-set_same xs i v d below) ∙ same
        ∙ ap (λ (n : ℕ). f (get_or xs n d)) (sym here)
    | inr past ↦ ap (λ zs. f (get_or zs k d)) (set_past xs i v past)
  ]
  | inr other ↦ ap f (get_or-set_other xs i k v d other)
]

-- a write of something with the same parts keeps things apart
pub apart_set : {X Y : Type 0} (parts : X → List Y) (xs : List X) (i : ℕ) (v e : X) → parts v ≡ parts (get_or xs i e) → AreApart parts xs
    → AreApart parts (set xs i v)
apart_set {X} {Y} parts xs i v e same apart = elim (cases_lt i (length xs)) [
  | inl inside ↦ λ a b d before below y in_a in_b.
      let long = length-set xs i v in
      let here : parts v ≡ parts (get_or xs i d) = same ∙ ap parts (get_or_default xs i e d inside) in
      apart a b d before (omega (arith, below, long)) y
      (subst (λ (ys : List Y). In y ys) (set_same parts xs i v d here a) in_a)
      (subst (λ (ys : List Y). In y ys) (set_same parts xs i v d here b) in_b)
  | inr past ↦ subst (AreApart parts) (sym (set_past xs i v past)) apart
]

-- a write of a set keeps planes and layers
pub with_set-places : (raw : RawTech) (t : TypeId) (parts : ℕ) → HasSamePlaces raw.types (with_set raw t parts)
with_set-places raw t parts =
    let changed : TypeRec = record (type_at raw t.0) { parts = record { 0 = parts } } in
    record {
      many = length-set raw.types (t.0 - 1) changed;
      planes = set_same (λ (kind : TypeRec). kind.plane) raw.types (t.0 - 1) changed no_type refl;
      layers = set_same (λ (kind : TypeRec). kind.layer.0) raw.types (t.0 - 1) changed no_type refl;
    }

-- types that stay where they are are kept
pub places-keep : (raw next : RawTech) → HasSamePlaces raw.types next.types → Keeps raw next
places-keep raw next same = record {
  more = omega (arith, same.many);
  planes = λ t is. same.planes (t - 1);
  layers = λ t is. same.layers
      (t - 1);
}

-- a type was one before
pub same_type : (raw next : RawTech) → HasSamePlaces raw.types next.types → (t : ℕ) → IsTrue (is_type next t) → IsTrue (is_type raw t)
same_type raw next same t is = let bounds = type_bounds next t is in type_from_bounds raw t bounds.0 (omega (arith, bounds.1, same.many))

-- layers stay sound
pub places-layers : (raw next : RawTech) → HasSamePlaces raw.types next.types → next.layers ≡ raw.layers
    → length raw.planes ≤ length next.planes
    → HasSoundLayers raw → HasSoundLayers next
places-layers raw next same layers planes sound =
    let keeps = places-keep raw next same in
    let count : length next.layers ≡ length raw.layers = ap length layers in
    let images : (l : ℕ) → images_of next l ≡ images_of raw l = λ l. ap (λ (all : List LayerRec). (get_or all l no_layer).images) layers in
    record {
      types_limit = omega (arith, same.many, sound.types_limit);
      limit = omega (arith, same.many, count, sound.limit);
      layers = subst (All (IsLayer next)) (sym layers) (kept_layers raw next keeps raw.layers sound.layers);
      names_differ = rw layers sound.names_differ;
      type_planes = λ t is. omega (arith, same.planes (t - 1), sound.type_planes t (same_type raw next same t is), planes);
      type_layers = λ t is. omega (arith, same.layers (t - 1), sound.type_layers t (same_type raw next same t is), count);
      is_image = λ t is. rw (images (layer_of next t), same.layers (t - 1)) (sound.is_image t (same_type raw next same t is));
      of_one_layer = λ l t below is. same.layers (t - 1) ∙ sound.of_one_layer l t (omega (arith, below, count)) (rw (images l) at is);
    }
