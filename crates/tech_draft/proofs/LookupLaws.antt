-- What words mean in a sound technology.
use Rattle.tech_draft.proofs.Common.{◌≡◌, ◌≢◌, ◌⊎◌, ◌<◌, ◌==◌, ℕ, Bool, false, List, [], ◌∷◌, length, refl, sym, ap, subst, ◌∙◌, arith, inl, inr}
use Rattle.tech_draft.proofs.Common.{All, IsTrue, Option, Some, None, fold, unwrap_or, cases_Bool, eqb-false, ltb-false, In, In-get_or, All-from_In}
use Rattle.tech_draft.proofs.Common.{TypeId, RawTech, type_number, is_type, plane_of, layer_of, images_of, layer_named, no_layer, has_name}
use Rattle.tech_draft.proofs.Common.{name_part, pieces_of, first_on, entry_types, has_type, with_type_once, types_of_list, type_of_word}
use Rattle.tech_draft.proofs.Common.{layer_of_word, HasSoundLayers, IsPart}
use Rattle.std.proofs.Common.{cond}
use Rattle.std.specs.Option.{option_map_or}
use Rattle.finite_sets.proofs.Members.{In-push_cases}
use Rattle.finite_sets.proofs.Searches.{position_from-below, one_thing, All-In}
use Rattle.tech_draft.specs.Words.{has_slash, plane_part}
use Rattle.tech_draft.specs.Lookups.{plane_named, named_types, type_on}
use Rattle.tech_draft.specs.Lookups.{is_contact}

-- a layer that a word names is one of the list
pub layer_named-below : (raw : RawTech) (word : List ℕ) (layer : ℕ) → layer_named raw word ≡ Some layer → layer < length raw.layers
layer_named-below raw word layer found = let below = position_from-below (has_name word) 0 raw.layers layer found in omega (arith, below)

-- the images of a layer are types
pub image_type : (raw : RawTech) (layer : ℕ) (t : TypeId) → HasSoundLayers raw → layer < length raw.layers → In t (images_of raw layer)
    → IsTrue (is_type raw t.0)
image_type raw layer t sound below is = All-In (λ (t : TypeId). IsTrue (is_type raw t.0)) (images_of raw layer) t
    (sound.layers layer no_layer below).images is

-- ---- entries

named_images : (raw : RawTech) (o : Option ℕ) (t : TypeId) → HasSoundLayers raw → ((layer : ℕ) → o ≡ Some layer → layer < length raw.layers)
    → In t (option_map_or (images_of raw) o []) → IsTrue (is_type raw t.0)
named_images raw None t sound below absent = absurd absent
named_images raw (Some layer) t sound below is = image_type raw layer t sound (below layer refl) is

named_type : (raw : RawTech) (word : List ℕ) (t : TypeId) → HasSoundLayers raw → In t (named_types raw word) → IsTrue (is_type raw t.0)
named_type raw word t sound is = named_images raw (layer_named raw word) t sound (λ layer found. layer_named-below raw word layer found) is

first_on-source : (raw : RawTech) (plane : ℕ) (types : List TypeId) (t : TypeId) → In t (first_on raw plane types) → In t types
first_on-source raw plane [] t absent = absurd absent
first_on-source raw plane (x ∷ types) t is = elim (cases_Bool (plane_of raw x.0 == plane)) [
  | inl here ↦ elim (rw here at is) [ inl same ↦ inl same | inr none ↦ absurd none ]
  | inr other ↦ inr (first_on-source raw plane types t (rw other at is))
]

type_on-source : (raw : RawTech) (plane : Option ℕ) (types : List TypeId) (t : TypeId) → In t (type_on raw plane types) → In t types
type_on-source raw None types t absent = absurd absent
type_on-source raw (Some plane) types t is = first_on-source raw plane types t is

-- what an entry means is a type
pub entry_type : (raw : RawTech) (entry : List ℕ) (t : TypeId) → HasSoundLayers raw → In t (entry_types raw entry)
    → IsTrue (is_type raw t.0)
entry_type raw entry t sound is = elim (cases_Bool (has_slash entry)) [
  | inl slash ↦ named_type raw (name_part entry) t sound
      (type_on-source raw (plane_named raw (plane_part entry)) (named_types raw (name_part entry)) t (rw slash at is))
  | inr plain ↦ named_type raw entry t sound (rw plain at is)
]

-- a word that means something means a type
pub word_type : (raw : RawTech) (word : List ℕ) → HasSoundLayers raw → (length (entry_types raw word) == 0) ≡ false
    → IsTrue (is_type raw (type_of_word raw word).0)
word_type raw word sound some =
    let apart = eqb-false (length (entry_types raw word)) 0 some in
    entry_type raw word (type_of_word raw word) sound (In-get_or (entry_types raw word) 0 (type_number 0) (omega (arith, apart)))

once_cases : (types : List TypeId) (t u : TypeId) → In u (with_type_once types t) → In u types ⊎ (t ≡ u)
once_cases types t u is = elim (cases_Bool (has_type types t)) [
  | inl there ↦ inl (rw there at is)
  | inr new ↦ In-push_cases u types t (rw new at is)
]

noted_cases : (more types : List TypeId) (u : TypeId) → In u (fold with_type_once types more) → In u types ⊎ In u more
noted_cases [] types u is = inl is
noted_cases (t ∷ more) types u is = elim (noted_cases more (with_type_once types t) u is) [
  | inl before ↦ elim (once_cases types t u before) [ inl was ↦ inl was | inr same ↦ inr (inl same) ]
  | inr later ↦ inr (inr later)
]

entries_source : (raw : RawTech) (entries : List (List ℕ)) (types : List TypeId) (u : TypeId)
    → In u (fold (λ types entry. fold with_type_once types (entry_types raw entry)) types entries)
    → In u types ⊎ ((entry : List ℕ) × (In entry entries) × (In u (entry_types raw entry)))
entries_source raw [] types u is = inl is
entries_source raw (entry ∷ entries) types u is = elim
    (entries_source raw entries (fold with_type_once types (entry_types raw entry)) u is) [
      | inl before ↦ elim (noted_cases (entry_types raw entry) types u before) [
        | inl was ↦ inl was
        | inr here ↦ inr
            (entry, inl refl, here)
      ]
      | inr later ↦ inr (later.0, inr later.1, later.2)
    ]

-- a type of a list is one that an entry of it means
pub list_source : (raw : RawTech) (list : List ℕ) (u : TypeId) → In u (types_of_list raw list)
    → (entry : List ℕ) × (In entry (pieces_of list)) × (In u (entry_types raw entry))
list_source raw list u is = elim (entries_source raw (pieces_of list) [] u is) [ inl none ↦ absurd none | inr found ↦ found ]

-- the types of a list are types
pub list_type : (raw : RawTech) (list : List ℕ) (t : TypeId) → HasSoundLayers raw → In t (types_of_list raw list) → IsTrue (is_type raw t.0)
list_type raw list t sound is = let source = list_source raw list t is in entry_type raw source.0 t sound source.2

-- the types of a list are types
pub list_types : (raw : RawTech) (list : List ℕ) → HasSoundLayers raw → All (λ t. IsTrue (is_type raw t.0)) (types_of_list raw list)
list_types raw list sound = All-from_In (λ (t : TypeId). IsTrue (is_type raw t.0)) (types_of_list raw list)
    (λ t is. list_type raw list t sound is)

-- ---- words that name layers

-- The word names a layer of the list; it means the images of the layer, and its type is the first of these.
pub record IsNamed (raw : RawTech) (word : List ℕ) : Type 0 where
  pub below : layer_of_word raw word < length raw.layers
  pub all : entry_types raw word ≡ images_of raw (layer_of_word raw word)
  pub some : 0 < length (entry_types raw word)
  pub is : IsTrue (is_type raw (type_of_word raw word).0)
  pub layer : layer_of raw (type_of_word raw word).0 ≡ layer_of_word raw word

some_named : (raw : RawTech) (o : Option ℕ) → length (option_map_or (images_of raw) o []) ≢ 0
    → (layer : ℕ) × ((o ≡ Some layer) × (option_map_or (images_of raw) o [] ≡ images_of raw (unwrap_or o 0)))
some_named raw None some = absurd (some refl)
some_named raw (Some layer) some = (layer, (refl, refl))

-- a word without a slash that means something names a layer
pub word_named : (raw : RawTech) (word : List ℕ) → HasSoundLayers raw → has_slash word ≡ false
    → (length (entry_types raw word) == 0) ≡ false → IsNamed raw word
word_named raw word sound plain some =
    let types : entry_types raw word ≡ named_types raw word =
    ap (λ (b : Bool). cond b (type_on raw (plane_named raw (plane_part word)) (named_types raw (name_part word)))
    (named_types raw word)) plain in
    let apart = eqb-false (length (entry_types raw word)) 0 some in
    let found = some_named raw (layer_named raw word) (λ (none : length (named_types raw word) ≡ 0). apart (ap length types ∙ none)) in
    let number : layer_of_word raw word ≡ found.0 = ap (λ (o : Option ℕ). unwrap_or o 0) found.1.0 in
    let below : layer_of_word raw word < length raw.layers = omega (arith, number, layer_named-below raw word found.0 found.1.0) in
    let all : entry_types raw word ≡ images_of raw (layer_of_word raw word) = types ∙ found.1.1 in
    let placed : 0 < length (entry_types raw word) = omega (arith, apart) in
    let among : In (type_of_word raw word) (images_of raw (layer_of_word raw word)) =
    subst (In (type_of_word raw word)) all (In-get_or (entry_types raw word) 0 (type_number 0) placed) in
    record {
      below = below;
      all = all;
      some = placed;
      is = image_type raw (layer_of_word raw word) (type_of_word raw word) sound below among;
      layer = sound.of_one_layer (layer_of_word raw word) (type_of_word raw word).0 below among;
    }

one_image : (raw : RawTech) (word : List ℕ) → IsNamed raw word → is_contact raw word ≡ false → length (entry_types raw word) ≡ 1
unfolding is_contact
one_image raw word named is = let few = ltb-false 1 (length (entry_types raw word)) is in omega (arith, few, named.some)

-- a word of no contact means a type that may be a part
pub part_word : (raw : RawTech) (word : List ℕ) → IsNamed raw word → is_contact raw word ≡ false → IsPart raw (type_of_word raw word).0
part_word raw word named is = record {
  is = named.is;
  simple = ap (λ (l : ℕ). length (images_of raw l)) named.layer ∙ ap length (sym named.all) ∙ one_image raw word named is;
}

-- which is the one image of its layer
pub single_word : (raw : RawTech) (word : List ℕ) → IsNamed raw word → is_contact raw word ≡ false
    → images_of raw (layer_of_word raw word) ≡ type_of_word raw word ∷ []
single_word raw word named is = sym named.all ∙ one_thing (entry_types raw word) (type_number 0) (one_image raw word named is)
