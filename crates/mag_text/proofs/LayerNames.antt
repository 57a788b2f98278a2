-- The first name of a layer names that layer, and is the header of its group.
use Rattle.mag_text.proofs.Common.{◌≡◌, ◌<◌, ◌+◌, ℕ, zero, suc, Bool, true, false, cond, List, [], ◌∷◌, length, get_or, Option, Some, None, Ok, inl}
use Rattle.mag_text.proofs.Common.{refl, ap, ◌∙◌, arith, ◌||◌, not, codes, IfSome, list_any, ok_or, option_map, bytes_eq, and_parts, or_parts, In}
use Rattle.mag_text.proofs.Common.{is_plain_name, and_then, LayerId, RawTech, layer_at, no_layer, first_name, has_name, layer_named, layer_number}
use Rattle.mag_text.proofs.Common.{IsWellFormed, NoLayer, Paint, Labels, ReadOver, layer_word}
use Rattle.std.specs.List.{position_from}
use Rattle.std.proofs.lemmas.Slice.Eq.{bytes_eq-Decides}
use Rattle.finite_sets.proofs.Searches.{list_any-of_In, list_any-of_absent}
use Rattle.tech_model.specs.Forms.{is_layer_name, reserved_words}
use Rattle.tech_model.specs.WellFormed.{IsLayer}
use Rattle.mag_text.specs.LineForms.{layer_in, label_layer_in, is_read_over_name, group_named}

-- what is found at the first place that passes
position_is : {X : Type 0} (test : X → Bool) (n : ℕ) (xs : List X) (k : ℕ) (d : X) → k < length xs → ((j : ℕ) → j < k → test (get_or xs j d) ≡ false)
    → test (get_or xs k d) ≡ true → position_from test n xs ≡ Some (n + k)
position_is test n [] k d inside before there = absurd (omega arith)
position_is test n (x ∷ xs) zero d inside before there = ap (λ (b : Bool). cond b (Some n) (position_from test (n + 1) xs)) there
    ∙ ap (λ (i : ℕ). Some i) (omega arith)
position_is test n (x ∷ xs) (suc k) d inside before there =
    ap (λ (b : Bool). cond b (Some n) (position_from test (n + 1) xs)) (before 0 (omega arith))
    ∙ position_is test (n + 1) xs k d (omega arith) (λ j below. before (suc j) (omega arith)) there
    ∙ ap (λ (i : ℕ). Some i) (omega arith)

in_first : (names : List (List ℕ)) → 0 < length names → In (get_or names 0 []) names
in_first [] some = absurd (omega arith)
in_first (name ∷ names) some = inl refl

layer_is : (raw : RawTech) → IsWellFormed raw → (layer : ℕ) → layer < length raw.layers → IsLayer raw (layer_at raw layer)
layer_is raw formed layer below = formed.layers layer no_layer below

-- the first name of a layer names it
pub layer_named-first : (raw : RawTech) → IsWellFormed raw → (layer : ℕ) → layer < length raw.layers
    → layer_named raw (first_name (layer_at raw layer)) ≡ Some layer
layer_named-first raw formed layer below =
    let word = first_name (layer_at raw layer) in
    let there : In word (layer_at raw layer).names = in_first (layer_at raw layer).names (layer_is raw formed layer below).named in
    position_is (has_name word) 0 raw.layers layer no_layer below
    (λ j before. list_any-of_absent bytes_eq bytes_eq-Decides word (get_or raw.layers j no_layer).names
    (λ earlier. formed.names_differ j layer no_layer before below word earlier there))
    (list_any-of_In bytes_eq bytes_eq-Decides word (layer_at raw layer).names there)
    ∙ ap (λ (k : ℕ). Some k) (omega arith)

pub layer_in-first : (raw : RawTech) → IsWellFormed raw → (layer : ℕ) → layer < length raw.layers
    → layer_in raw (first_name (layer_at raw layer)) ≡ Ok (layer_number layer)
layer_in-first raw formed layer below = ap (λ found. ok_or (option_map layer_number found) NoLayer) (layer_named-first raw formed layer below)

first_form : (raw : RawTech) → IsWellFormed raw → (layer : ℕ) → layer < length raw.layers → is_layer_name (first_name (layer_at raw layer)) ≡ true
first_form raw formed layer below = let is = layer_is raw formed layer below in is.names 0 [] is.named

pub first_name-plain : (raw : RawTech) → IsWellFormed raw → (layer : ℕ) → layer < length raw.layers → is_plain_name (first_name (layer_at raw layer)) ≡ true
first_name-plain raw formed layer below =
    let word = first_name (layer_at raw layer) in
    (and_parts (is_plain_name word) (not (list_any (bytes_eq word) reserved_words)) (first_form raw formed layer below)).0

untrue : (b : Bool) → not b ≡ true → b ≡ false
untrue true is = absurd (let no : ⊥ = cc in no)
untrue false is = refl

-- and is none of the words that head other groups
pub record IsFree (word : List ℕ) : Type 0 where
  pub space : bytes_eq word (codes "space") ≡ false
  pub end : bytes_eq word (codes "end") ≡ false
  pub labels : bytes_eq word (codes "labels") ≡ false
  pub read_over : is_read_over_name word ≡ false

free_of : (word : List ℕ) (a b c d e f g h : Bool) → (a || (b || (c || (d || (e || (f || (g || (h || false)))))))) ≡ false
    → (a ≡ false) × (b ≡ false) × (c ≡ false) × ((d || (e || (f || (g || (h || false))))) ≡ false)
free_of word a b c d e f g h is =
    let p = or_parts a (b || (c || (d || (e || (f || (g || (h || false))))))) is in
    let q = or_parts b (c || (d || (e || (f || (g || (h || false)))))) p.1 in
    let r = or_parts c (d || (e || (f || (g || (h || false))))) q.1 in
    (p.0, q.0, r.0, r.1)

pub first_name-free : (raw : RawTech) → IsWellFormed raw → (layer : ℕ) → layer < length raw.layers → IsFree (first_name (layer_at raw layer))
first_name-free raw formed layer below =
    let word = first_name (layer_at raw layer) in
    let none = untrue (list_any (bytes_eq word) reserved_words)
    (and_parts (is_plain_name word) (not (list_any (bytes_eq word) reserved_words)) (first_form raw formed layer below)).1 in
    let parts = free_of word (bytes_eq word (codes "space")) (bytes_eq word (codes "end")) (bytes_eq word (codes "labels")) (bytes_eq word (codes "checkpaint"))
    (bytes_eq word (codes "error_p")) (bytes_eq word (codes "error_s")) (bytes_eq word (codes "error_ps")) (bytes_eq word (codes "properties")) none in
    record { space = parts.0; end = parts.1; labels = parts.2; read_over = parts.3 }

pub group_named-first : (raw : RawTech) → IsWellFormed raw → (layer : ℕ) → layer < length raw.layers
    → group_named raw (first_name (layer_at raw layer)) ≡ Ok (Paint (layer_number layer))
group_named-first raw formed layer below =
    let word = first_name (layer_at raw layer) in
    let free = first_name-free raw formed layer below in
    let named = and_then (layer_in raw word) (λ (l : LayerId). Ok (Paint l)) in
    ap (λ (b : Bool). cond b (Ok Labels) (cond (is_read_over_name word) (Ok ReadOver) named)) free.labels
    ∙ ap (λ (b : Bool). cond b (Ok ReadOver) named) free.read_over
    ∙ ap (λ found. and_then found (λ (l : LayerId). Ok (Paint l))) (layer_in-first raw formed layer below)

-- the word of a label's layer names that layer
pub label_layer-word : (raw : RawTech) → IsWellFormed raw → (layer : Option LayerId) → IfSome layer (λ l. l.0 < length raw.layers)
    → label_layer_in raw (layer_word raw layer) ≡ Ok layer
label_layer-word raw formed None is = refl
label_layer-word raw formed (Some layer) is =
    let word = first_name (layer_at raw layer.0) in
    let some = and_then (layer_in raw word) (λ (l : LayerId). Ok (Some l)) in
    ap (λ (b : Bool). cond b (Ok None) some) (first_name-free raw formed layer.0 is).space
    ∙ ap (λ found. and_then found (λ (l : LayerId). Ok (Some l))) (layer_in-first raw formed layer.0 is)
