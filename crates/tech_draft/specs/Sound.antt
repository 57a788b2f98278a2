-- Drafts whose lists fit together.
use Rattle.std.specs.Prelude.{◌≡◌, ◌⊎◌, ◌<◌, ◌≤◌, ◌-◌, ◌^◌, ℕ, IsTrue, List, [], length, All, map}
use Rattle.finite_sets.specs.Lists.{In, Distinct}
use Rattle.text_scan.specs.PlainNames.{is_plain_name}
use Rattle.tech_model.specs.declared.raw.LayerId.{LayerId}
use Rattle.tech_model.specs.declared.raw.TypeId.{TypeId}
use Rattle.tech_model.specs.declared.raw.RawTech.{RawTech}
use Rattle.tech_model.specs.declared.limits.TheConstants.{MOST_PLANES, MOST_TYPES, MOST_CLASSES, MOST_FETS}
use Rattle.tech_model.specs.Types.{is_type, plane_of, layer_of, parts_of, images_of, type_number, layer_number}
use Rattle.tech_model.specs.WellFormed.{IsSimple, IsUnion, IsLayer, IsClass, IsFet, IsPair, AreApart}
use Rattle.tech_draft.specs.Drafts.{Drafted}

-- the technology has a plain name or none yet, and its planes have plain names that differ
pub record HasSoundNames (name : List ℕ) (planes : List (List ℕ)) : Type 0 where
  pub plain : (name ≡ []) ⊎ IsTrue (is_plain_name name)
  pub limit : length planes ≤ MOST_PLANES
  pub plane_names : All (λ name. IsTrue (is_plain_name name)) planes
  pub differ : Distinct planes

-- Types stand on planes, and each is an image of the layer that its record names, and of no other. Names of layers differ.
pub record HasSoundLayers (raw : RawTech) : Type 0 where
  pub types_limit : length raw.types ≤ MOST_TYPES
  pub limit : length raw.layers ≤ length raw.types
  pub layers : All (IsLayer raw) raw.layers
  pub names_differ : AreApart (λ layer. layer.names) raw.layers
  pub type_planes : (t : ℕ) → IsTrue (is_type raw t) → plane_of raw t < length raw.planes
  pub type_layers : (t : ℕ) → IsTrue (is_type raw t) → layer_of raw t < length raw.layers
  pub is_image : (t : ℕ) → IsTrue (is_type raw t) → In (type_number t) (images_of raw (layer_of raw t))
  pub of_one_layer : (layer t : ℕ) → layer < length raw.layers → In (type_number t) (images_of raw layer) → layer_of raw t ≡ layer

-- Pairs, classes and transistors are of types, and nothing stands twice that may stand once.
pub record HasSoundRules (raw : RawTech) : Type 0 where
  pub pairs : All (IsPair raw) raw.pairs
  pub classes_limit : length raw.classes ≤ MOST_CLASSES
  pub classes : All (IsClass raw) raw.classes
  pub classes_apart : AreApart (λ class. class.types) raw.classes
  pub fets_limit : length raw.fets ≤ MOST_FETS
  pub fets : All (IsFet raw) raw.fets
  pub fets_differ : Distinct (map (λ fet. fet.kind) raw.fets)

-- An atom's set is the atom itself. That of a composed type is made of those of its two parts, which were used as parts.
pub data IsMadeOf (raw : RawTech) (used : List TypeId) : ℕ → Type 0 where
  atom : (t : ℕ) → parts_of raw t ≡ 2 ^ (t - 1) → IsMadeOf raw used t
  composed : (t first second : ℕ) → IsUnion raw t first second → In (type_number first) used → In (type_number second) used
      → IsMadeOf raw used first → IsMadeOf raw used second → IsMadeOf raw used t

-- The layer is a contact: it has more than one image.
abbrev pub HasImages : RawTech → ℕ → Type 0
HasImages raw layer = 1 < length (images_of raw layer)

-- a type that may be a part of others: it is no contact
pub record IsPart (raw : RawTech) (t : ℕ) : Type 0 where
  pub is : IsTrue (is_type raw t)
  pub simple : IsSimple raw t

-- One of the contact's residues stands on the plane of its image.
pub record IsImage (draft : Drafted) (t : ℕ) : Type 0 where
  pub residue : TypeId
  pub noted : In (layer_number (layer_of draft.raw t), residue) draft.residues
  pub plane : plane_of draft.raw residue.0 ≡ plane_of draft.raw t

-- The sets of types, as far as they are known.
pub record HasSoundSets (draft : Drafted) : Type 0 where
  pub simple : (t : ℕ) → IsTrue (is_type draft.raw t) → IsSimple draft.raw t → IsMadeOf draft.raw draft.used t
  pub images : (t : ℕ) → IsTrue (is_type draft.raw t) → HasImages draft.raw (layer_of draft.raw t) → IsImage draft t
  pub used : (t : ℕ) → In (type_number t) draft.used → IsPart draft.raw t
  -- only contacts have residues, which are no contacts
  pub residues : (pair : LayerId × TypeId) → In pair draft.residues → HasImages draft.raw pair.0.0 × IsPart draft.raw pair.1.0

pub record IsSound (draft : Drafted) : Type 0 where
  pub names : HasSoundNames draft.raw.name draft.raw.planes
  pub layers : HasSoundLayers draft.raw
  pub rules : HasSoundRules draft.raw
  pub sets : HasSoundSets draft
