-- What a line of the section `contact` keeps and adds: the images of a layer.
use Rattle.tech_draft.proofs.Common.{◌≡◌, ◌≢◌, ◌+◌, ◌<◌, ◌≤◌, ℕ, List, [], ◌∷◌, ◌++◌, length, map, get_or, refl, sym, ap, subst, ◌∙◌, arith, inl}
use Rattle.tech_draft.proofs.Common.{inr, length-append, IsTrue, length-map, length-set, get_or-map, get_or-set_same, get_or-set_other}
use Rattle.tech_draft.proofs.Common.{length-map-range_with_len, All-set, In, Distinct, In-append_right, In-get_or, LayerId, TypeId, TypeRec}
use Rattle.tech_draft.proofs.Common.{LayerRec, RawTech, MOST_TYPES, type_number, layer_number, is_type, plane_of, layer_of, images_of, no_type}
use Rattle.tech_draft.proofs.Common.{no_layer, IsLayer, Drafted, next_types, HasImages, IsPart, IsImage, HasSoundLayers, HasSoundSets}
use Rattle.tech_model.specs.Types.{layer_at}
use Rattle.tech_draft.specs.SetLines.{image_record, with_images}
use Rattle.tech_draft.proofs.Growths.{IsGrown, planes_of, grown, grown_at, grown-keeps, grown_cases, grown_layer, grown_layers, grown_step}
use Rattle.tech_draft.proofs.Keeps.{kept_layers, apart_set}
use Rattle.tech_draft.proofs.Steps.{IsStep}

-- The layer has this one image, and there is room for a type on another plane for each of the other residues.
pub record IsContactPlan (raw : RawTech) (layer : ℕ) (own : TypeId) (others : List TypeId) : Type 0 where
  pub below : layer < length raw.layers
  pub single : images_of raw layer ≡ own ∷ []
  pub is_own : IsTrue (is_type raw own.0)
  pub own_layer : layer_of raw own.0 ≡ layer
  pub limit : length raw.types + length others ≤ MOST_TYPES
  pub some : 0 < length others
  pub residues : (t : TypeId) → In t others → IsTrue (is_type raw t.0)
  pub planes : Distinct (plane_of raw own.0 ∷ map (λ t. plane_of raw t.0) others)

-- the record of a new image
image_at : (raw : RawTech) (layer : ℕ) (others : List TypeId) (d : TypeId) (k : ℕ) → k < length (map (image_record raw layer) others)
    → get_or (map (image_record raw layer) others) k no_type ≡ image_record raw layer (get_or others k d)
image_at raw layer others d k below =
    get_or-map (image_record raw layer) others k d no_type (omega (arith, below, length-map others (image_record raw layer)))

-- the images of the layer are its own one and the next types
images_are : (raw : RawTech) (layer : ℕ) (own : TypeId) (others : List TypeId) → IsContactPlan raw layer own others
    → own ∷ next_types raw (length others) ≡ images_of raw layer ++ next_types raw (length (map (image_record raw layer) others))
images_are raw layer own others plan =
    ap (λ (n : ℕ). own ∷ next_types raw n) (sym (length-map others (image_record raw layer)))
    ∙ ap (λ (ts : List TypeId). ts ++ next_types raw (length (map (image_record raw layer) others))) (sym plan.single)

-- the new types are images of the layer
pub images_growth : (raw : RawTech) (layer : ℕ) (own : TypeId) (others : List TypeId) → IsContactPlan raw layer own others
    → IsGrown raw (with_images raw layer own others) layer (map (image_record raw layer) others)
images_growth raw layer own others plan =
    let more : LayerRec = record (layer_at raw layer) { images = own ∷ next_types raw (length others) } in
    let layers : length (with_images raw layer own others).layers ≡ length raw.layers = length-set raw.layers layer more in
    record {
      types = refl;
      of = λ k below. ap (λ (kind : TypeRec). kind.layer.0) (image_at raw layer others own k below);
      more_layers = omega (arith, layers);
      below = omega (arith, layers, plan.below);
      others = λ l below apart. omega (arith, layers, below);
      here = ap (λ (l : LayerRec). l.images) (get_or-set_same raw.layers layer more no_layer plan.below)
          ∙ images_are raw layer own others plan;
      elsewhere = λ l apart. ap (λ (l : LayerRec). l.images) (get_or-set_other raw.layers layer l more no_layer apart);
    }

-- ---- the layers after it

-- a type of the layer is its one image
own_only : (raw : RawTech) (layer : ℕ) (own : TypeId) (others : List TypeId) (t : ℕ) → HasSoundLayers raw → IsContactPlan raw layer own others
    → IsTrue (is_type raw t) → layer_of raw t ≡ layer → t ≡ own.0
own_only raw layer own others t sound plan is here =
    let among : In (type_number t) (own ∷ []) = rw plan.single at (rw here at (sound.is_image t is)) in
    elim among [ inl same ↦ ap (λ (u : TypeId). u.0) (sym same) | inr none ↦ absurd none ]

planes_are : (raw : RawTech) (layer : ℕ) (others : List TypeId)
    → planes_of (map (image_record raw layer) others) ≡ map (λ t. plane_of raw t.0) others
planes_are raw layer [] = refl
planes_are raw layer (t ∷ others) = ap (λ (ps : List ℕ). plane_of raw t.0 ∷ ps) (planes_are raw layer others)

-- the images of a contact keep the layers sound
pub images_layers : (raw : RawTech) (layer : ℕ) (own : TypeId) (others : List TypeId) → HasSoundLayers raw
    → IsContactPlan raw layer own others → HasSoundLayers (with_images raw layer own others)
images_layers raw layer own others sound plan =
    let next = with_images raw layer own others in
    let g = images_growth raw layer own others plan in
    let new = map (image_record raw layer) others in
    let many = length-map others (image_record raw layer) in
    let images = own ∷ next_types raw (length others) in
    let more : LayerRec = record (layer_at raw layer) { images = images } in
    let count : length next.layers ≡ length raw.layers = length-set raw.layers layer more in
    let was = sound.layers layer no_layer plan.below in
    let long : length next.types ≡ length raw.types + length new = length-append raw.types new in
    let differ : Distinct (map (λ t. plane_of raw t.0) (own ∷ []) ++ planes_of new) =
    subst (λ (ps : List ℕ). Distinct (plane_of raw own.0 ∷ ps)) (sym (planes_are raw layer others)) plan.planes in
    let one : IsLayer next more = grown_layer g (layer_at raw layer).names images sound was.named was.names
    (images_are raw layer own others plan) (omega (arith, many, plan.some))
    (subst (λ (ts : List TypeId). Distinct (map (λ t. plane_of raw t.0) ts ++ planes_of new)) (sym plan.single) differ) in
    grown_layers g sound (omega (arith, many, plan.limit)) (omega (arith, long, count, sound.limit))
    (All-set (IsLayer next) raw.layers layer more one (kept_layers raw next (grown-keeps g) raw.layers sound.layers))
    (apart_set (λ (l : LayerRec). l.names) raw.layers layer more no_layer refl sound.names_differ)
    (λ k below.
    let residue = get_or others k own in
    let on = sound.type_planes residue.0 (plan.residues residue (In-get_or others k own (omega (arith, below, many)))) in
    subst (λ (kind : TypeRec). kind.plane < length raw.planes) (sym (image_at raw layer others own k below)) on)
    (omega arith)

-- ---- the sets after it

-- The own image is no part so far, each residue is no contact, and one stands on the plane of each image.
pub record IsContactLine (draft : Drafted) (layer : ℕ) (own : TypeId) (others : List TypeId)
    (noted : List (LayerId × TypeId)) : Type 0 where
  pub unused : (t : ℕ) → In (type_number t) draft.used → t ≢ own.0
  pub no_residue : (pair : LayerId × TypeId) → In pair draft.residues → pair.1.0 ≢ own.0
  pub residues : (pair : LayerId × TypeId) → In pair noted → (pair.0.0 ≡ layer) × (IsPart draft.raw pair.1.0 × (pair.1.0 ≢ own.0))
  pub home : TypeId
  pub home_noted : In (layer_number layer, home) noted
  pub home_plane : plane_of draft.raw home.0 ≡ plane_of draft.raw own.0
  pub others_noted : (t : TypeId) → In t others → In (layer_number layer, t) noted

-- what becomes of the draft
abbrev pub after : Drafted → ℕ → TypeId → List TypeId → List (LayerId × TypeId) → Drafted
after draft layer own others noted = grown draft (with_images draft.raw layer own others) (draft.residues ++ noted)

-- a type of the layer is an image with a residue
image_sound : (draft : Drafted) (layer t : ℕ) (own : TypeId) (others : List TypeId) (noted : List (LayerId × TypeId))
    → HasSoundLayers draft.raw → IsContactPlan draft.raw layer own others → IsContactLine draft layer own others noted
    → IsTrue (is_type (with_images draft.raw layer own others) t) → layer_of (with_images draft.raw layer own others) t ≡ layer
    → IsImage (after draft layer own others noted) t
image_sound draft layer t own others noted layers plan line is here =
    let raw = draft.raw in
    let next = with_images raw layer own others in
    let g = images_growth raw layer own others plan in
    let keeps = grown-keeps g in
    let image : (residue : TypeId) → In (layer_number layer, residue) noted → plane_of raw residue.0 ≡ plane_of next t
    → IsImage (after draft layer own others noted) t = λ residue inside plane. record {
      residue = residue;
      noted = rw here (In-append_right (layer_number layer, residue) draft.residues noted inside);
      plane = keeps.planes residue.0 (line.residues (layer_number layer, residue) inside).1.0.is ∙ plane;
    } in
    elim (grown_cases g t is) [
      | inl old ↦
          let same = own_only raw layer own others t layers plan old (sym (keeps.layers t old) ∙ here) in
          image line.home line.home_noted (line.home_plane ∙ ap (plane_of raw) (sym same) ∙ sym (keeps.planes t old))
      | inr added ↦
          let residue = get_or others added.0 own in
          let few : added.0 < length others = omega (arith, added.1.0, length-map others (image_record raw layer)) in
          image residue (line.others_noted residue (In-get_or others added.0 own few))
          (sym (ap (plane_of next) added.1.1 ∙ ap (λ (kind : TypeRec). kind.plane) (grown_at g added.0 ∙ image_at raw layer others own added.0 added.1.0)))
    ]

-- a line that makes a layer a contact
pub contact_step : (draft : Drafted) (layer : ℕ) (own : TypeId) (others : List TypeId) (noted : List (LayerId × TypeId))
    → HasSoundLayers draft.raw → HasSoundSets draft
    → IsContactPlan draft.raw layer own others → IsContactLine draft layer own others noted
    → IsStep draft (after draft layer own others noted)
contact_step draft layer own others noted layers sets plan line =
    let raw = draft.raw in
    let next = with_images raw layer own others in
    let g = images_growth raw layer own others plan in
    let count = length-map-range_with_len type_number (length raw.types + 1) (length others) in
    let many : HasImages next layer = omega (
      arith,
      ap length (g.here ∙ sym (images_are raw layer own others plan)),
      count,
      plan.some,
    ) in
    let only : (t : ℕ) → IsTrue (is_type raw t) → t ≢ own.0 → layer_of raw t ≢ layer =
    λ t is other here. other (own_only raw layer own others t layers plan is here) in
    grown_step draft g (draft.residues ++ noted) noted sets refl
    (λ t is here. inr (subst (HasImages next) (sym here) many, image_sound draft layer t own others noted layers plan line is here))
    (λ t is inside. only t is (line.unused t inside)) (λ pair is inside. only pair.1.0 is (line.no_residue pair inside))
    (λ pair inside.
    let residue = line.residues pair inside in
    (subst (HasImages next) (sym residue.0) many, (residue.1.0, only pair.1.0 residue.1.0.is residue.1.1)))
