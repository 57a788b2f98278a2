-- Technologies with more types, all of one layer: their layers stay sound, and a line that adds them keeps the sets.
use Rattle.tech_draft.proofs.Common.{◌≡◌, ◌≢◌, ◌⊎◌, ◌+◌, ◌-◌, ◌<◌, ◌≤◌, ℕ, List, [], ◌∷◌, ◌++◌, length, map, get_or, refl, sym, ap, subst, ◌∙◌}
use Rattle.tech_draft.proofs.Common.{arith, inl, inr, length-append, All, IsTrue, range_with_len, cases_eq, cases_lt, append-nil}
use Rattle.tech_draft.proofs.Common.{length-map-range_with_len, In, Distinct, In-append_cases, In-append_left, In-append_right, In-map}
use Rattle.tech_draft.proofs.Common.{In-map_source, All-from_In, LayerId, TypeId, TypeRec, LayerRec, RawTech, MOST_TYPES, is_layer_name, type_number}
use Rattle.tech_draft.proofs.Common.{is_type, type_at, plane_of, layer_of, images_of, no_type, no_layer, IsLayer, AreApart, parts_at, type_bounds}
use Rattle.tech_draft.proofs.Common.{type_from_bounds, Drafted, next_types, HasImages, IsPart, HasSoundLayers, HasSoundSets}
use Rattle.std.proofs.Common.{suc}
use Rattle.std.proofs.lemmas.List.{get_or_past, get_or_append_left, get_or-append-add, map-append}
use Rattle.tech_model.proofs.WellFormedLaws.{In-range_with_len, range_bounds}
use Rattle.tech_draft.proofs.Keeps.{Keeps, kept_type, kept_planes}
use Rattle.tech_draft.proofs.LookupLaws.{image_type}
use Rattle.tech_draft.proofs.Steps.{IsSame, IsSoundType, IsStep, same_images, same_part}

-- The types have more at their end, which are the last images of the layer. Other layers keep theirs, and the layer is one of the list.
pub record IsGrown (raw next : RawTech) (layer : ℕ) (more : List TypeRec) : Type 0 where
  pub types : next.types ≡ raw.types ++ more
  pub of : (k : ℕ) → k < length more → (get_or more k no_type).layer.0 ≡ layer
  pub more_layers : length raw.layers ≤ length next.layers
  pub below : layer < length next.layers
  pub others : (l : ℕ) → l < length next.layers → l ≢ layer → l < length raw.layers
  pub here : images_of next layer ≡ images_of raw layer ++ next_types raw (length more)
  pub elsewhere : (l : ℕ) → l ≢ layer → images_of next l ≡ images_of raw l

-- the planes of types
abbrev pub planes_of : List TypeRec → List ℕ
planes_of kinds = map (λ kind. kind.plane) kinds

-- ---- the types after it

grown_long : {raw next : RawTech} {layer : ℕ} {more : List TypeRec} → IsGrown raw next layer more
    → length next.types ≡ length raw.types + length more
grown_long {raw} {next} {layer} {more} g = ap length g.types ∙ length-append raw.types more

old_at : {raw next : RawTech} {layer : ℕ} {more : List TypeRec} → IsGrown raw next layer more → (t : ℕ) → IsTrue (is_type raw t)
    → type_at next t ≡ type_at raw t
old_at {raw} {next} {layer} {more} g t is =
    let bounds = type_bounds raw t is in
    ap (λ (kinds : List TypeRec). get_or kinds (t - 1) no_type) g.types
    ∙ get_or_append_left raw.types more no_type (t - 1) (omega (arith, bounds.0, bounds.1))

-- the records of the new types
pub grown_at : {raw next : RawTech} {layer : ℕ} {more : List TypeRec} → IsGrown raw next layer more → (k : ℕ)
    → type_at next (length raw.types + 1 + k) ≡ get_or more k no_type
grown_at {raw} {next} {layer} {more} g k =
    let place : length raw.types + 1 + k - 1 ≡ length raw.types + k = omega arith in
    ap (λ (kinds : List TypeRec). get_or kinds (length raw.types + 1 + k - 1) no_type) g.types
    ∙ ap (λ (i : ℕ). get_or (raw.types ++ more) i no_type) place ∙ get_or-append-add raw.types more k no_type

-- the types that were there stay
pub grown-keeps : {raw next : RawTech} {layer : ℕ} {more : List TypeRec} → IsGrown raw next layer more → Keeps raw next
grown-keeps g = record {
  more = omega (arith, grown_long g);
  planes = λ t is. ap (λ (kind : TypeRec). kind.plane) (old_at g t is);
  layers = λ t is. ap (λ (kind : TypeRec). kind.layer.0) (old_at g t is);
}

-- a type is one from before, or a new one
pub grown_cases : {raw next : RawTech} {layer : ℕ} {more : List TypeRec} → IsGrown raw next layer more → (t : ℕ) → IsTrue (is_type next t)
    → IsTrue (is_type raw t) ⊎ ((k : ℕ) × ((k < length more) × (t ≡ length raw.types + 1 + k)))
grown_cases {raw} {next} {layer} {more} g t is =
    let bounds = type_bounds next t is in
    let long = grown_long g in
    elim (cases_lt (length raw.types) t) [
      | inl above ↦ inr (t - (length raw.types + 1), (omega (arith, bounds.1, long, above), omega (arith, above)))
      | inr within ↦ inl (type_from_bounds raw t bounds.0 within)
    ]

new_layer : {raw next : RawTech} {layer : ℕ} {more : List TypeRec} → IsGrown raw next layer more → (k : ℕ) → k < length more
    → layer_of next (length raw.types + 1 + k) ≡ layer
new_layer g k below = ap (λ (kind : TypeRec). kind.layer.0) (grown_at g k) ∙ g.of k below

In-next : (raw : RawTech) (count t : ℕ) → length raw.types < t → t ≤ length raw.types + count → In (type_number t) (next_types raw count)
In-next raw count t low high =
    In-map type_number t (range_with_len (length raw.types + 1) count)
    (In-range_with_len (length raw.types + 1) count t (omega arith) (omega arith))

next_bounds : (raw : RawTech) (count : ℕ) (t : TypeId) → In t (next_types raw count)
    → (length raw.types < t.0) × (t.0 ≤ length raw.types + count)
next_bounds raw count t is =
    let source = In-map_source type_number t (range_with_len (length raw.types + 1) count) is in
    let bounds = range_bounds (length raw.types + 1) count source.0 source.1.0 in
    let number : source.0 ≡ t.0 = ap (λ (u : TypeId). u.0) source.1.1 in
    (omega (arith, bounds.0, number), omega (arith, bounds.1, number))

numbered_planes : (f : ℕ → ℕ) (s : ℕ) (kinds : List TypeRec) → ((k : ℕ) → f (s + k) ≡ (get_or kinds k no_type).plane)
    → map (λ t. f t.0) (map type_number (range_with_len s (length kinds))) ≡ planes_of kinds
numbered_planes f s [] same = refl
numbered_planes f s (kind ∷ kinds) same =
    let start : s ≡ s + 0 = omega arith in
    let here : f s ≡ kind.plane = ap f start ∙ same 0 in
    let rest = numbered_planes f (s + 1) kinds (λ k. let next : s + 1 + k ≡ s + suc k = omega arith in ap f next ∙ same (suc k)) in
    ap (λ (p : ℕ). p ∷ map (λ (t : TypeId). f t.0) (map type_number (range_with_len (s + 1) (length kinds)))) here
    ∙ ap (λ (ps : List ℕ). kind.plane ∷ ps) rest

-- ---- the layers after it

-- a layer with an image is one of the list
image_below : (raw : RawTech) (layer : ℕ) (t : TypeId) → In t (images_of raw layer) → layer < length raw.layers
image_below raw layer t is = elim (cases_lt layer (length raw.layers)) [
  | inl below ↦ below
  | inr past ↦ absurd (subst (In t) (ap (λ (l : LayerRec). l.images) (get_or_past raw.layers layer no_layer past)) is)
]

kept_image : {raw next : RawTech} {layer : ℕ} {more : List TypeRec} → IsGrown raw next layer more → (l : ℕ) (t : TypeId)
    → In t (images_of raw l) → In t (images_of next l)
kept_image {raw} {next} {layer} {more} g l t is = elim (cases_eq l layer) [
  | inl same ↦ subst (λ (n : ℕ). In t (images_of next n)) (sym same) (subst (In t) (sym g.here)
      (In-append_left t (images_of raw layer) (next_types raw (length more)) (subst (λ (n : ℕ). In t (images_of raw n)) same is)))
  | inr apart ↦ subst (In t) (sym (g.elsewhere l apart)) is
]

grown_image : {raw next : RawTech} {layer : ℕ} {more : List TypeRec} → IsGrown raw next layer more → HasSoundLayers raw → (t : ℕ)
    → IsTrue (is_type next t) → In (type_number t) (images_of next (layer_of next t))
grown_image {raw} {next} {layer} {more} g sound t is = elim (grown_cases g t is) [
  | inl old ↦ subst (λ (l : ℕ). In (type_number t) (images_of next l)) (sym ((grown-keeps g).layers t old))
      (kept_image g (layer_of raw t) (type_number t) (sound.is_image t old))
  | inr added ↦
      let at = added.1.1 in
      let few = added.1.0 in
      let inside = In-next raw (length more) t (omega (arith, at)) (omega (arith, at, few)) in
      subst (λ (l : ℕ). In (type_number t) (images_of next l)) (sym (ap (layer_of next) at ∙ new_layer g added.0 few))
      (subst (In (type_number t)) (sym g.here) (In-append_right (type_number t) (images_of raw layer) (next_types raw (length more)) inside))
]

-- an image of the layer is a type of it, from before or new
image_cases : {raw next : RawTech} {layer : ℕ} {more : List TypeRec} → IsGrown raw next layer more → (t : TypeId) → HasSoundLayers raw
    → In t (images_of raw layer ++ next_types raw (length more)) → IsTrue (is_type next t.0) × (layer_of next t.0 ≡ layer)
image_cases {raw} {next} {layer} {more} g t sound is = elim (In-append_cases t (images_of raw layer) (next_types raw (length more)) is) [
  | inl before ↦
      let below = image_below raw layer t before in
      let was = image_type raw layer t sound below before in
      let keeps = grown-keeps g in
      (kept_type raw next keeps t.0 was, keeps.layers t.0 was ∙ sound.of_one_layer layer t.0 below before)
  | inr added ↦
      let bounds = next_bounds raw (length more) t added in
      let long = grown_long g in
      let place : t.0 ≡ length raw.types + 1 + (t.0 - (length raw.types + 1)) = omega (arith, bounds.0) in (
        type_from_bounds next t.0 (omega (arith, bounds.0)) (omega (arith, bounds.1, long)),
        ap (layer_of next) place ∙ new_layer g (t.0 - (length raw.types + 1)) (omega (arith, bounds.0, bounds.1)),
      )
]

-- the layer with all its images
pub grown_layer : {raw next : RawTech} {layer : ℕ} {more : List TypeRec} → IsGrown raw next layer more → (names : List (List ℕ))
    (images : List TypeId) → HasSoundLayers raw → 0 < length names → All (λ name. IsTrue (is_layer_name name)) names
    → images ≡ images_of raw layer ++ next_types raw (length more) → 0 < length more
    → Distinct (map (λ t. plane_of raw t.0) (images_of raw layer) ++ planes_of more)
    → IsLayer next (record { names = names; images = images })
grown_layer {raw} {next} {layer} {more} g names images sound some forms are many differ =
    let old = images_of raw layer in
    let new = next_types raw (length more) in
    let was : All (λ t. IsTrue (is_type raw t.0)) old = All-from_In (λ (t : TypeId). IsTrue (is_type raw t.0)) old
    (λ t is. image_type raw layer t sound (image_below raw layer t is) is) in
    let planes : map (λ t. plane_of next t.0) (old ++ new) ≡ map (λ t. plane_of raw t.0) old ++ planes_of more =
    map-append (λ (t : TypeId). plane_of next t.0) old new
    ∙ ap (λ (ps : List ℕ). ps ++ map (λ (t : TypeId). plane_of next t.0) new) (kept_planes raw next (grown-keeps g) old was)
    ∙ ap (λ (ps : List ℕ). map (λ (t : TypeId). plane_of raw t.0) old ++ ps)
    (numbered_planes (plane_of next) (length raw.types + 1) more (λ k. ap (λ (kind : TypeRec). kind.plane) (grown_at g k))) in
    let long = ap length are ∙ length-append old new in
    let count = length-map-range_with_len type_number (length raw.types + 1) (length more) in
    record {
      named = some;
      names = forms;
      placed = omega (arith, long, count, many);
      images = All-from_In (λ (t : TypeId). IsTrue (is_type next t.0)) images (λ t is. (image_cases g t sound (subst (In t) are is)).0);
      planes = subst (λ (ts : List TypeId). Distinct (map (λ t. plane_of next t.0) ts)) (sym are)
          (subst (λ (ps : List ℕ). Distinct ps) (sym planes) differ);
    }

-- the layers stay sound
pub grown_layers : {raw next : RawTech} {layer : ℕ} {more : List TypeRec} → IsGrown raw next layer more → HasSoundLayers raw
    → length raw.types + length more ≤ MOST_TYPES → length next.layers ≤ length next.types → All (IsLayer next) next.layers
    → AreApart (λ layer. layer.names) next.layers → ((k : ℕ) → k < length more → (get_or more k no_type).plane < length raw.planes)
    → length raw.planes ≤ length next.planes → HasSoundLayers next
grown_layers {raw} {next} {layer} {more} g sound room few layers names_differ on stay =
    let keeps = grown-keeps g in
    record {
      types_limit = omega (arith, grown_long g, room);
      limit = few;
      layers = layers;
      names_differ = names_differ;
      type_planes = λ t is. elim (grown_cases g t is) [
        | inl old ↦ omega (arith, keeps.planes t old, sound.type_planes t old, stay)
        | inr added ↦
            let at = ap (plane_of next) added.1.1 ∙ ap (λ (kind : TypeRec). kind.plane) (grown_at g added.0) in
            omega (arith, at, on added.0 added.1.0, stay)
      ];
      type_layers = λ t is. elim (grown_cases g t is) [
        | inl old ↦ (let below = g.more_layers in omega (arith, keeps.layers t old, sound.type_layers t old, below))
        | inr added ↦
            let at = ap (layer_of next) added.1.1 ∙ new_layer g added.0 added.1.0 in
            let below = g.below in
            omega (arith, at, below)
      ];
      is_image = grown_image g sound;
      of_one_layer = λ l t below is. elim (cases_eq l layer) [
        | inl same ↦ (image_cases g (type_number t) sound
            (subst (In (type_number t)) g.here (subst (λ (n : ℕ). In (type_number t) (images_of next n)) same is))).1 ∙ sym same
        | inr apart ↦
            let was = subst (In (type_number t)) (g.elsewhere l apart) is in
            let inside = g.others l below apart in
            keeps.layers t (image_type raw l (type_number t) sound inside was) ∙ sound.of_one_layer l t inside was
      ];
    }

-- ---- the sets

-- what becomes of the draft
abbrev pub grown : Drafted → RawTech → List (LayerId × TypeId) → Drafted
grown draft next residues = record draft { raw = next; residues = residues }

-- a type of another layer is as it was
grown_same : {raw next : RawTech} {layer : ℕ} {more : List TypeRec} → IsGrown raw next layer more → (t : ℕ) → IsTrue (is_type raw t)
    → layer_of raw t ≢ layer → IsSame raw next t
grown_same {raw} {next} {layer} {more} g t is apart = record {
  was = is;
  images = ap length (g.elsewhere (layer_of raw t) apart);
  set = parts_at next t (kept_type raw next (grown-keeps g) t is) ∙ ap (λ (kind : TypeRec). kind.parts.0) (old_at g t is)
      ∙ sym (parts_at raw t is);
}

-- A line that adds the types: those of the layer are sound after it, and were neither parts nor residues.
pub grown_step : (draft : Drafted) {next : RawTech} {layer : ℕ} {more : List TypeRec} → IsGrown draft.raw next layer more
    → (residues noted : List (LayerId × TypeId)) → HasSoundSets draft → residues ≡ draft.residues ++ noted
    → ((t : ℕ) → IsTrue (is_type next t) → layer_of next t ≡ layer → IsSoundType (grown draft next residues) t)
    → ((t : ℕ) → IsTrue (is_type draft.raw t) → In (type_number t) draft.used → layer_of draft.raw t ≢ layer)
    → ((pair : LayerId × TypeId) → IsTrue (is_type draft.raw pair.1.0) → In pair draft.residues → layer_of draft.raw pair.1.0 ≢ layer)
    → ((pair : LayerId × TypeId) → In pair noted
    → HasImages next pair.0.0 × (IsPart draft.raw pair.1.0 × (layer_of draft.raw pair.1.0 ≢ layer)))
    → IsStep draft (grown draft next residues)
grown_step draft {next} {layer} {more} g residues noted sets are sound unused no_residue new =
    let raw = draft.raw in
    let keeps = grown-keeps g in
    record {
      more_used = [];
      more_residues = noted;
      keeps = keeps;
      used = sym (append-nil draft.used);
      residues = are;
      types = λ t is. elim (cases_eq (layer_of next t) layer) [
        | inl here ↦ inr (sound t is here)
        | inr apart ↦ elim (grown_cases g t is) [
          | inl old ↦ inl (grown_same g t old (λ here. apart (keeps.layers t old ∙ here)))
          | inr added ↦ absurd (apart (ap (layer_of next) added.1.1 ∙ new_layer g added.0 added.1.0))
        ]
      ];
      same_used = λ t inside. let is = (sets.used t inside).is in grown_same g t is (unused t is inside);
      contacts = λ l many. elim (cases_eq l layer) [
        | inl here ↦
            let long = ap length g.here ∙ length-append (images_of raw layer) (next_types raw (length more)) in
            let was = subst (HasImages raw) here many in
            subst (HasImages next) (sym here) (omega (arith, long, was))
        | inr apart ↦ omega (arith, many, ap length (g.elsewhere l apart))
      ];
      simple_residues = λ pair inside.
          let part = (sets.residues pair inside).1 in
          same_images raw next pair.1.0 keeps (grown_same g pair.1.0 part.is (no_residue pair part.is inside)) ∙ part.simple;
      new_used = λ t absent. absurd absent;
      new_residues = λ pair inside.
          let residue = new pair inside in
          let part = residue.1.0 in
          (residue.0, same_part raw next pair.1.0 keeps (grown_same g pair.1.0 part.is residue.1.1) part.simple);
    }
