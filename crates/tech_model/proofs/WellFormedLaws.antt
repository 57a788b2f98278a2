-- What follows of lists of a technology that fit together: numbers in range, and how many layers there are.
use Rattle.tech_model.proofs.Common.{◌≡◌, ◌≢◌, ◌+◌, ◌<◌, ◌≤◌, ℕ, zero, suc, List, length, map, get_or, sym, ap, subst, ◌∙◌, arith, inl, inr, All}
use Rattle.tech_model.proofs.Common.{IsTrue, slice_index_or, range_with_len, cases_eq, and_parts, and_from, get_or-map, length-map, In, In-get_or}
use Rattle.tech_model.proofs.Common.{LayerRec, RawTech, is_type, layer_of, images_of, no_layer, type_number, IsWellFormed, MOST_TYPES}
use Rattle.std.specs.Prelude.{nat_le}
use Rattle.std.proofs.lemmas.Bool.{leb-true, le-leb}
use Rattle.std.proofs.lemmas.List.FromFn.{length-range_with_len}
use Rattle.geo_core.proofs.FiniteSets.Members.{In-index}
use Rattle.geo_core.proofs.FiniteSets.Distincts.{Distinct-from_places, length-distinct}
use Rattle.tech_model.specs.Types.{layer_at}
use Rattle.tech_model.specs.WellFormed.{IsLayer}
use Rattle.tech_model.specs.declared.pair_table.TheConstants.{ROWS}

-- the numbers of a range are those between its ends
pub In-range_with_len : (a n t : ℕ) → a ≤ t → t < a + n → In t (range_with_len a n)
In-range_with_len a zero t low high = absurd (omega arith)
In-range_with_len a (suc n) t low high = elim (cases_eq a t) [
  | inl same ↦ inl same
  | inr other ↦ inr (In-range_with_len (a + 1) n t (omega arith) (omega arith))
]

-- the numbers of a range lie between its ends
pub range_bounds : (a n t : ℕ) → In t (range_with_len a n) → (a ≤ t) × (t < a + n)
range_bounds a zero t none = absurd none
range_bounds a (suc n) t (inl same) = (omega arith, omega arith)
range_bounds a (suc n) t (inr later) = let bounds = range_bounds (a + 1) n t later in (omega (arith, bounds.0), omega (arith, bounds.1))

-- types are numbered from 1 to the last
pub type_bounds : (raw : RawTech) (t : ℕ) → IsTrue (is_type raw t) → (1 ≤ t) × (t ≤ length raw.types)
type_bounds raw t is = let parts = and_parts (nat_le 1 t) (nat_le t (length raw.types)) is in (leb-true 1 t parts.0, leb-true t (length raw.types) parts.1)

-- the numbers from 1 to the last are types
pub type_from_bounds : (raw : RawTech) (t : ℕ) → 1 ≤ t → t ≤ length raw.types → IsTrue (is_type raw t)
type_from_bounds raw t low high = and_from (nat_le 1 t) (nat_le t (length raw.types)) (le-leb 1 t low) (le-leb t (length raw.types) high)

-- a type has a row in the table of pairs
pub type_has_row : (raw : RawTech) (t : ℕ) → IsWellFormed raw → IsTrue (is_type raw t) → t < ROWS
type_has_row raw t w is = let bounds = type_bounds raw t is in omega (arith, bounds.1, w.types_limit)

-- a layer of the list is well formed
pub layer_well_formed : (raw : RawTech) (layer : ℕ) → IsWellFormed raw → layer < length raw.layers → IsLayer raw (layer_at raw layer)
layer_well_formed raw layer w below = w.layers layer no_layer below

-- the number of the first image of a layer
first_image : LayerRec → ℕ
first_image layer = (slice_index_or layer.images 0 (type_number 0)).0

first_image_in : (raw : RawTech) (layer : ℕ) → IsWellFormed raw → layer < length raw.layers
    → In (type_number (first_image (layer_at raw layer))) (images_of raw layer)
unfolding first_image
first_image_in raw layer w below = In-get_or (images_of raw layer) 0 (type_number 0) (layer_well_formed raw layer w below).placed

first_image_layer : (raw : RawTech) (layer : ℕ) → IsWellFormed raw → layer < length raw.layers
    → layer_of raw (first_image (layer_at raw layer)) ≡ layer
first_image_layer raw layer w below = w.of_one_layer layer (first_image (layer_at raw layer)) below (first_image_in raw layer w below)

first_image_type : (raw : RawTech) (layer : ℕ) → IsWellFormed raw → layer < length raw.layers
    → In (first_image (layer_at raw layer)) (range_with_len 1 (length raw.types))
unfolding first_image
first_image_type raw layer w below =
    let is = (layer_well_formed raw layer w below).images 0 (type_number 0) (layer_well_formed raw layer w below).placed in
    let bounds = type_bounds raw (first_image (layer_at raw layer)) is in
    In-range_with_len 1 (length raw.types) (first_image (layer_at raw layer)) bounds.0 (omega (arith, bounds.1))

-- there are no more layers than types, since each has an image of its own
pub layers_limit : (raw : RawTech) → IsWellFormed raw → length raw.layers ≤ MOST_TYPES
layers_limit raw w =
    let firsts : List ℕ = map first_image raw.layers in
    let first_at : (k d : ℕ) → k < length raw.layers → get_or firsts k d ≡ first_image (layer_at raw k) =
    λ k d below. get_or-map first_image raw.layers k no_layer d below in
    let many : length firsts ≡ length raw.layers = length-map raw.layers first_image in
    let apart : (i j d : ℕ) → i < j → j < length firsts → get_or firsts i d ≢ get_or firsts j d =
    λ i j d before below same.
    let layer_i = first_image_layer raw i w (omega arith) in
    let layer_j = first_image_layer raw j w (omega arith) in
    let one = sym (first_at i d (omega arith)) ∙ same ∙ first_at j d (omega arith) in
    let both : i ≡ j = sym layer_i ∙ ap (layer_of raw) one ∙ layer_j in
    absurd (omega arith) in
    let among : (t : ℕ) → In t firsts → In t (range_with_len 1 (length raw.types)) = λ t is.
    let found = In-index t firsts is in
    subst (λ (n : ℕ). In n (range_with_len 1 (length raw.types)))
    (sym (first_at found.0 0 (omega (arith, found.1.0))) ∙ found.1.1 0)
    (first_image_type raw found.0 w (omega (arith, found.1.0))) in
    let few = length-distinct firsts (range_with_len 1 (length raw.types)) (Distinct-from_places firsts apart) among in
    omega (arith, few, length-map raw.layers first_image, length-range_with_len 1 (length raw.types), w.types_limit)

-- both types of a pair have a row in the table of pairs
pub pairs_have_rows : (raw : RawTech) → IsWellFormed raw → All (λ pair. (pair.0.0 < ROWS) × (pair.1.0 < ROWS)) raw.pairs
pairs_have_rows raw w = λ k d below.
    let pair = w.pairs k d below in
    (type_has_row raw _ w pair.first, type_has_row raw _ w pair.second)
