-- What a line leaves: the index has the names of the layers, and the tables keep their limits.
use Rattle.tech_draft.proofs.Common.{is_some, if◌then◌else◌, All, unwrap_or, Option, Some, None, Ok, list_any, bytes_eq, refl, ap, subst, ◌∙◌, sym}
use Rattle.tech_draft.proofs.Common.{arith, length-append, inl, inr, cases_Bool, length_push, length-map, length-set, bytes_eq-Decides}
use Rattle.tech_draft.proofs.Common.{In-append_cases, In-map_source, All-from_In, LayerId, TypeId, LayerRec, RawTech, Twice, MOST_TYPES, layer_in}
use Rattle.tech_draft.proofs.Common.{layer_named, layer_number, has_name, no_layer, layer_of_word, type_of_word, new_names, with_atom, atom_on}
use Rattle.tech_draft.proofs.Common.{atom_layer, next_types, residues_of_layer}
use Rattle.std.specs.Prelude.{◌≡◌, ◌+◌, ◌<◌, ◌≤◌, ◌||◌, ℕ, Bool, true, false, cond, zero, suc, List, [], ◌∷◌, ◌++◌}
use Rattle.std.specs.Prelude.{length, slice_set, slice_index_or}
use Rattle.std.specs.List.{position_from}
use Rattle.std.proofs.lemmas.Bool.{or_cases}
use Rattle.finite_sets.proofs.Searches.{position_from-below, position_from-push_fails, position_from-push_passes, All-In}
use Rattle.tech_draft.specs.declared.draft.Draft.TheInside.{Inside}
use Rattle.tech_draft.specs.Kept.{draft_of, HasRoom, IsKept}
use Rattle.tech_draft.specs.SetLines.{with_images}
use Rattle.tech_draft.proofs.Refusals.{rule-ok}

below_or_zero : (o : Option ℕ) (n : ℕ) → 0 < n → ((k : ℕ) → o ≡ Some k → k < n) → unwrap_or o 0 < n
below_or_zero None n some below = some
below_or_zero (Some k) n some below = below k refl

-- the number of a layer that a word names is below the number of layers, which are no more than types
pub layer_of_word-bound : (raw : RawTech) (word : List ℕ) → length raw.layers ≤ MOST_TYPES → layer_of_word raw word < MOST_TYPES
layer_of_word-bound raw word limit =
    below_or_zero (layer_named raw word) MOST_TYPES (omega arith)
    (λ k at. let b = position_from-below (has_name word) 0 raw.layers k at in omega arith)

-- ---- a new layer

not_some : (o : Option ℕ) (b : Bool) → (is_some o || b) ≡ false → o ≡ None
not_some None b e = refl
not_some (Some n) b e = absurd (cc)

-- new names are names of no layer
pub new_names-free : (raw : RawTech) (before names : List (List ℕ)) (word : List ℕ) → new_names raw before names ≡ Ok tt
    → list_any (bytes_eq word) names ≡ true → layer_named raw word ≡ None
new_names-free raw before [] word new found = absurd (cc)
new_names-free raw before (name ∷ names) word new found =
    let steps = rule-ok (is_some (layer_named raw name) || list_any (bytes_eq name) before) (Twice name)
    (new_names raw (before ++ name ∷ []) names) tt new in
    elim (or_cases (bytes_eq word name) (list_any (bytes_eq word) names) found) [
      | inl here ↦ ap (layer_named raw) ((bytes_eq-Decides word name).0 here)
          ∙ not_some (layer_named raw name) (list_any (bytes_eq name) before) steps.0
      | inr there ↦ new_names-free raw (before ++ name ∷ []) names word steps.1 there
    ]

named_after : (raw : RawTech) (plane : ℕ) (names : List (List ℕ)) (word : List ℕ) → new_names raw [] names ≡ Ok tt
    → (if list_any (bytes_eq word) names then Some (length raw.layers) else layer_named raw word)
    ≡ layer_named (with_atom raw plane names) word
named_after raw plane names word new = elim (cases_Bool (list_any (bytes_eq word) names)) [
  | inl found ↦
      let none : 0 + length raw.layers ≡ length raw.layers = omega arith in
      rw found (sym (position_from-push_passes (has_name word) 0 raw.layers (atom_layer raw names) found
      (new_names-free raw [] names word new found) ∙ ap (λ (n : ℕ). Some n) none))
  | inr missing ↦ rw missing (sym (position_from-push_fails (has_name word) 0 raw.layers (atom_layer raw names) missing))
]

-- one more atom keeps what every draft keeps
pub atom-kept : (before after : Inside) (plane : ℕ) (names : List (List ℕ)) → IsKept before → length before.types.items < MOST_TYPES
    → new_names (draft_of before).raw [] names ≡ Ok tt
    → ((word : List ℕ) → layer_in after.index word
    ≡ (if list_any (bytes_eq word) names then Some (length before.layers.items) else layer_in before.index word))
    → after.residues.items ≡ before.residues.items → (draft_of after).raw ≡ with_atom (draft_of before).raw plane names → IsKept after
atom-kept before after plane names kept room new indexed residues is =
    let raw = (draft_of before).raw in
    let types = length_push raw.types (atom_on raw plane) in
    let layers = length_push raw.layers (atom_layer raw names) in
    record {
      indexed = λ word.
          indexed word ∙ ap (λ (o : Option ℕ). cond (list_any (bytes_eq word) names) (Some (length before.layers.items)) o)
          (kept.indexed word)
          ∙ named_after raw plane names word new ∙ ap (λ (r : RawTech). layer_named r word) (sym is);
      room = subst HasRoom (sym is) (record {
        planes_limit = kept.room.planes_limit;
        types_limit = omega (arith, types, room);
        layers_limit = omega (arith, types, layers, kept.room.layers_limit);
      });
      marked = subst (All (λ (pair : LayerId × TypeId). pair.0.0 < MOST_TYPES)) (sym residues) kept.marked;
    }

-- ---- images of a contact

-- the residues of a layer are of layers that there may be
pub noted-kept : (raw : RawTech) (residues : List (LayerId × TypeId)) (layer : ℕ) (words : List (List ℕ)) → layer < MOST_TYPES
    → All (λ pair. pair.0.0 < MOST_TYPES) residues → All (λ pair. pair.0.0 < MOST_TYPES) (residues ++ residues_of_layer raw layer words)
noted-kept raw residues layer words below all =
    let few : LayerId × TypeId → Type 0 = λ pair. pair.0.0 < MOST_TYPES in
    All-from_In few (residues ++ residues_of_layer raw layer words) (λ pair inside.
    elim (In-append_cases pair residues (residues_of_layer raw layer words) inside) [
      | inl before ↦ All-In few residues pair all before
      | inr added ↦
          let source = In-map_source (λ (word : List ℕ). (layer_number layer, type_of_word raw word)) pair words added in
          subst few source.1.1 below
    ])

names_stay : (word : List ℕ) (images : List TypeId) (layers : List LayerRec) (i n : ℕ)
    → position_from (has_name word) i (slice_set layers n (record (slice_index_or layers n no_layer) { images = images }))
    ≡ position_from (has_name word) i layers
names_stay word images [] i n = refl
names_stay word images (layer ∷ layers) i zero = refl
names_stay word images (layer ∷ layers) i (suc n) = ap (λ (rest : Option ℕ). cond (has_name word layer) (Some i) rest)
    (names_stay word images layers (i + 1) n)

-- the images of a contact keep what every draft keeps
pub images-kept : (before after : Inside) (layer : ℕ) (own : TypeId) (others : List TypeId) → IsKept before → after.index ≡ before.index
    → after.residues.items ≡ before.residues.items → length (draft_of before).raw.types + length others ≤ MOST_TYPES
    → (draft_of after).raw ≡ with_images (draft_of before).raw layer own others → IsKept after
images-kept before after layer own others kept index residues room is =
    let raw = (draft_of before).raw in
    let images = own ∷ next_types raw (length others) in
    let types : length (with_images raw layer own others).types ≡ length raw.types + length others = simp (length-append, length-map) refl in
    let layers : length (with_images raw layer own others).layers ≡ length raw.layers = simp length-set refl in
    record {
      indexed = λ word.
          ap (λ entries. layer_in entries word) index ∙ kept.indexed word
          ∙ sym (names_stay word images raw.layers 0 layer)
          ∙ ap (λ (r : RawTech). layer_named r word) (sym is);
      room = subst HasRoom (sym is) (record {
        planes_limit = kept.room.planes_limit;
        types_limit = omega (arith, types, room);
        layers_limit = omega (arith, types, layers, kept.room.layers_limit);
      });
      marked = subst (All (λ (pair : LayerId × TypeId). pair.0.0 < MOST_TYPES)) (sym residues) kept.marked;
    }
