-- Technologies whose lists fit together: what is asked of a technology before its rules are checked.
use Rattle.std.specs.Prelude.{◌≡◌, ◌≢◌, ◌<◌, ◌≤◌, ◌-◌, ◌^◌, ℕ, bit_and, bit_or, IsTrue, List, length, All, AllPairs, map}
use Rattle.geo_core.specs.FiniteSets.Lists.{In, Distinct}
use Rattle.text_scan.specs.PlainNames.{is_plain_name}
use Rattle.tech_model.specs.declared.raw.TypeId.{TypeId}
use Rattle.tech_model.specs.declared.raw.LayerRec.{LayerRec}
use Rattle.tech_model.specs.declared.raw.ClassRec.{ClassRec}
use Rattle.tech_model.specs.declared.raw.FetRule.{FetRule}
use Rattle.tech_model.specs.declared.raw.RawTech.{RawTech}
use Rattle.tech_model.specs.Forms.{is_layer_name, is_naming_label}
use Rattle.tech_model.specs.Types.{is_type, plane_of, layer_of, parts_of, images_of}
use Rattle.tech_model.specs.declared.limits.TheConstants.{MOST_PLANES, MOST_TYPES, MOST_CLASSES, MOST_FETS, PART_BITS, FIRST_MARK, LARGEST_MEASURE}

-- the layer has one image: it is an atom or composed
abbrev pub IsSimple : RawTech → ℕ → Type 0
IsSimple raw t = length (images_of raw (layer_of raw t)) ≡ 1

-- The set is the union of those of two types of its plane, which are no contacts.
pub record IsUnion (raw : RawTech) (t first second : ℕ) : Type 0 where
  pub first_type : IsTrue (is_type raw first)
  pub second_type : IsTrue (is_type raw second)
  pub differ : first ≢ second
  pub first_simple : IsSimple raw first
  pub second_simple : IsSimple raw second
  pub first_plane : plane_of raw first ≡ plane_of raw t
  pub second_plane : plane_of raw second ≡ plane_of raw t
  pub set : parts_of raw t ≡ bit_or (parts_of raw first) (parts_of raw second)

-- An atom's set is the atom itself. That of a composed type is made of those of its two parts, which are atoms or composed before it.
pub data HasSet (raw : RawTech) : ℕ → Type 0 where
  atom : (t : ℕ) → parts_of raw t ≡ 2 ^ (t - 1) → HasSet raw t
  composed : (t first second : ℕ) → IsUnion raw t first second → HasSet raw first → HasSet raw second → HasSet raw t

-- The set is that of a residue on its plane, which is no contact, and the mark with this bit.
pub record IsMarked (raw : RawTech) (bit t : ℕ) : Type 0 where
  pub residue : ℕ
  pub residue_type : IsTrue (is_type raw residue)
  pub residue_simple : IsSimple raw residue
  pub residue_plane : plane_of raw residue ≡ plane_of raw t
  pub set : parts_of raw t ≡ bit_or (parts_of raw residue) (2 ^ bit)

-- The images of a contact have one mark, which no type of another layer has.
pub record IsContact (raw : RawTech) (layer : ℕ) : Type 0 where
  pub bit : ℕ
  pub above_atoms : FIRST_MARK ≤ bit
  pub below_limit : bit < PART_BITS
  pub images : All (λ t. IsMarked raw bit t.0) (images_of raw layer)
  pub no_other : (t : ℕ) → IsTrue (is_type raw t) → layer_of raw t ≢ layer → bit_and (parts_of raw t) (2 ^ bit) ≡ 0

pub record HasSets (raw : RawTech) : Type 0 where
  pub simple : (t : ℕ) → IsTrue (is_type raw t) → IsSimple raw t → HasSet raw t
  pub contacts : (layer : ℕ) → layer < length raw.layers → 1 < length (images_of raw layer) → IsContact raw layer

pub record IsLayer (raw : RawTech) (layer : LayerRec) : Type 0 where
  pub named : 0 < length layer.names
  pub names : All (λ name. IsTrue (is_layer_name name)) layer.names
  pub placed : 0 < length layer.images
  pub images : All (λ t. IsTrue (is_type raw t.0)) layer.images
  pub planes : Distinct (map (λ t. plane_of raw t.0) layer.images)

pub record IsClass (raw : RawTech) (class : ClassRec) : Type 0 where
  pub value : class.value ≤ LARGEST_MEASURE
  pub per_area : class.per_area ≤ LARGEST_MEASURE
  pub per_perimeter : class.per_perimeter ≤ LARGEST_MEASURE
  pub types : All (λ t. IsTrue (is_type raw t.0)) class.types

pub record IsFet (raw : RawTech) (fet : FetRule) : Type 0 where
  pub kind : IsTrue (is_type raw fet.kind.0)
  pub terminals : All (λ t. IsTrue (is_type raw t.0)) fet.terminals
  pub name : IsTrue (is_plain_name fet.name)
  pub substrate : IsTrue (is_naming_label fet.substrate)

pub record IsPair (raw : RawTech) (pair : TypeId × TypeId) : Type 0 where
  pub first : IsTrue (is_type raw pair.0.0)
  pub second : IsTrue (is_type raw pair.1.0)
  pub plane : plane_of raw pair.0.0 ≡ plane_of raw pair.1.0

-- What two things of a list have, has nothing in common.
abbrev pub AreApart : {X Y : Type 0} → (X → List Y) → List X → Type 0
AreApart {X} {Y} parts xs = AllPairs (λ a b. (y : Y) → In y (parts a) → In y (parts b) → ⊥) xs

-- The lists keep the limits, the words are of their forms, every number is in range, and nothing stands twice that may stand once.
pub record IsWellFormed (raw : RawTech) : Type 0 where
  pub planes_limit : length raw.planes ≤ MOST_PLANES
  pub types_limit : length raw.types ≤ MOST_TYPES
  pub classes_limit : length raw.classes ≤ MOST_CLASSES
  pub fets_limit : length raw.fets ≤ MOST_FETS
  pub name : IsTrue (is_plain_name raw.name)
  pub plane_names : All (λ name. IsTrue (is_plain_name name)) raw.planes
  pub planes_differ : Distinct raw.planes
  pub layers : All (IsLayer raw) raw.layers
  pub names_differ : AreApart (λ layer. layer.names) raw.layers
  pub type_planes : (t : ℕ) → IsTrue (is_type raw t) → plane_of raw t < length raw.planes
  pub type_layers : (t : ℕ) → IsTrue (is_type raw t) → layer_of raw t < length raw.layers
  -- each type is an image of the layer that its record names, and of no other
  pub is_image : (t : ℕ) → IsTrue (is_type raw t) → In (record { 0 = t }) (images_of raw (layer_of raw t))
  pub of_one_layer : (layer t : ℕ) → layer < length raw.layers → In (record { 0 = t }) (images_of raw layer) → layer_of raw t ≡ layer
  pub sets : HasSets raw
  pub pairs : All (IsPair raw) raw.pairs
  pub classes : All (IsClass raw) raw.classes
  pub classes_apart : AreApart (λ class. class.types) raw.classes
  pub fets : All (IsFet raw) raw.fets
  pub fets_differ : Distinct (map (λ fet. fet.kind) raw.fets)
