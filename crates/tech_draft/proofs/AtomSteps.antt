-- What a line of the section `types` keeps and adds: a layer with the next type.
use Rattle.tech_draft.proofs.Common.{◌≡◌, ◌≢◌, ◌+◌, ◌-◌, ◌<◌, ◌≤◌, ◌^◌, ℕ, List, [], ◌∷◌, ◌++◌, length, map, get_or, refl, sym, ap, subst, ◌∙◌}
use Rattle.tech_draft.proofs.Common.{arith, inl, inr, All, IsTrue, cases_lt, length_push, append-nil, All-push, all_pairs_push, In, Distinct}
use Rattle.tech_draft.proofs.Common.{In-get_or, TypeId, TypeRec, LayerRec, RawTech, MOST_TYPES, is_layer_name, type_number, is_type, type_at}
use Rattle.tech_draft.proofs.Common.{plane_of, layer_of, images_of, no_type, no_layer, IsLayer, parts_at, Drafted, next_types, atom_on, atom_layer}
use Rattle.tech_draft.proofs.Common.{with_atom, atom, HasSoundLayers, HasSoundSets}
use Rattle.std.proofs.lemmas.List.{get_or_push, get_or_append_left, get_or_past}
use Rattle.tech_draft.proofs.Growths.{IsGrown, grown_at, grown-keeps, grown_cases, grown_layer, grown_layers, grown_step}
use Rattle.tech_draft.proofs.Keeps.{kept_layers}
use Rattle.tech_draft.proofs.Steps.{IsStep}

-- there is room for a type on the plane, and no layer has one of the names
pub record IsNewLayer (raw : RawTech) (plane : ℕ) (names : List (List ℕ)) : Type 0 where
  pub plane_below : plane < length raw.planes
  pub named : 0 < length names
  pub forms : All (λ name. IsTrue (is_layer_name name)) names
  pub new : (layer : LayerRec) (name : List ℕ) → In layer raw.layers → In name layer.names → In name names → ⊥
  pub limit : length raw.types < MOST_TYPES

-- no layer has images behind the last one
no_images : (raw : RawTech) (layer : ℕ) → length raw.layers ≤ layer → images_of raw layer ≡ []
no_images raw layer past = ap (λ (l : LayerRec). l.images) (get_or_past raw.layers layer no_layer past)

other_images : (raw : RawTech) (plane : ℕ) (names : List (List ℕ)) (l : ℕ) → l ≢ length raw.layers
    → images_of (with_atom raw plane names) l ≡ images_of raw l
other_images raw plane names l apart = elim (cases_lt l (length raw.layers)) [
  | inl below ↦ ap (λ (l : LayerRec). l.images) (get_or_append_left raw.layers (atom_layer raw names ∷ []) no_layer l below)
  | inr past ↦
      let many = length_push raw.layers (atom_layer raw names) in
      no_images (with_atom raw plane names) l (omega (arith, past, apart, many)) ∙ sym (no_images raw l past)
]

-- the new type is the first image of a new layer
pub atom_growth : (raw : RawTech) (plane : ℕ) (names : List (List ℕ))
    → IsGrown raw (with_atom raw plane names) (length raw.layers) (atom_on raw plane ∷ [])
atom_growth raw plane names =
    let many = length_push raw.layers (atom_layer raw names) in
    record {
      types = refl;
      of = λ k below. let first : 0 ≡ k = omega (arith, below) in
          ap (λ (i : ℕ). (get_or (atom_on raw plane ∷ []) i no_type).layer.0) (sym first);
      more_layers = omega (arith, many);
      below = omega (arith, many);
      others = λ l below apart. omega (arith, many, below, apart);
      here = ap (λ (l : LayerRec). l.images) (get_or_push raw.layers (atom_layer raw names) no_layer (length raw.layers) refl)
          ∙ sym (ap (λ (ts : List TypeId). ts ++ next_types raw 1) (no_images raw (length raw.layers) (omega arith)));
      elsewhere = λ l apart. other_images raw plane names l apart;
    }

-- one more atom keeps the layers sound
pub atom_layers : (raw : RawTech) (plane : ℕ) (names : List (List ℕ)) → HasSoundLayers raw → IsNewLayer raw plane names
    → HasSoundLayers (with_atom raw plane names)
atom_layers raw plane names sound fresh =
    let next = with_atom raw plane names in
    let g = atom_growth raw plane names in
    let none : [] ≡ images_of raw (length raw.layers) = sym (no_images raw (length raw.layers) (omega arith)) in
    let long = length_push raw.types (atom_on raw plane) in
    let many = length_push raw.layers (atom_layer raw names) in
    let one : IsLayer next (atom_layer raw names) =
    grown_layer g names (type_number (length raw.types + 1) ∷ []) sound fresh.named fresh.forms
    (ap (λ (ts : List TypeId). ts ++ next_types raw 1) none) (omega arith)
    (subst (λ (ts : List TypeId). Distinct (map (λ t. plane_of raw t.0) ts ++ plane ∷ [])) none ((λ absent. absent), tt)) in
    grown_layers g sound (omega (arith, fresh.limit)) (omega (arith, long, many, sound.limit))
    (All-push (IsLayer next) raw.layers (atom_layer raw names)
    (kept_layers raw next (grown-keeps g) raw.layers sound.layers) one)
    (all_pairs_push (λ (a b : LayerRec). (y : List ℕ) → In y a.names → In y b.names → ⊥) raw.layers (atom_layer raw names) sound.names_differ
    (λ k d below name in_old in_new. fresh.new (get_or raw.layers k d) name (In-get_or raw.layers k d below) in_old in_new))
    (λ k below. let first : 0 ≡ k = omega (arith, below) in
    subst (λ (i : ℕ). (get_or (atom_on raw plane ∷ []) i no_type).plane < length raw.planes) first fresh.plane_below)
    (omega arith)

-- a line with one more atom
pub atom_step : (draft : Drafted) (plane : ℕ) (names : List (List ℕ)) → HasSoundLayers draft.raw → HasSoundSets draft
    → IsStep draft (record draft { raw = with_atom draft.raw plane names })
atom_step draft plane names layers sets =
    let raw = draft.raw in
    let next = with_atom raw plane names in
    let g = atom_growth raw plane names in
    let old : (t : ℕ) → IsTrue (is_type raw t) → layer_of raw t ≢ length raw.layers =
    λ t is here. (let below = layers.type_layers t is in omega (arith, below, here)) in
    let images : images_of next (length raw.layers) ≡ next_types raw 1 =
    g.here ∙ ap (λ (ts : List TypeId). ts ++ next_types raw 1) (no_images raw (length raw.layers) (omega arith)) in
    grown_step draft g draft.residues [] sets (sym (append-nil draft.residues))
    (λ t is here. elim (grown_cases g t is) [
      | inl before ↦ absurd (old t before (sym ((grown-keeps g).layers t before) ∙ here))
      | inr added ↦
          let new : t ≡ length raw.types + 1 + 0 = omega (arith, added.1.0, added.1.1) in
          let place : length raw.types ≡ t - 1 = omega (arith, new) in
          inl (
            ap (λ (l : ℕ). length (images_of next l)) here ∙ ap length images,
            atom t (parts_at next t is
                ∙ ap (λ (s : ℕ). (type_at next s).parts.0) new ∙ ap (λ (kind : TypeRec). kind.parts.0) (grown_at g 0)
                ∙ ap (λ (n : ℕ). 2 ^ n) place),
          )
    ])
    (λ t is inside. old t is) (λ pair is inside. old pair.1.0 is) (λ pair absent. absurd absent)
