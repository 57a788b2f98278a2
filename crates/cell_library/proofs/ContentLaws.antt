-- The contents of cells in a hash table, seen as a list.
use Rattle.cell_library.proofs.Common.{◌≡◌, ◌+◌, ◌≤◌, ℕ, zero, suc, Bool, List, [], ◌∷◌, ◌++◌, length, map, take, set, refl, sym, ap, ◌∙◌, arith}
use Rattle.cell_library.proofs.Common.{inl, inr, Some, None, not, slice_get, Vec, cond, nat_lt, position, position_or_len, values_of, bytes_eq}
use Rattle.cell_library.proofs.Common.{Global, set_value_at, cases_Bool, length-map, map-set, map-append, set-get_or, map-map, insert_entry, Label}
use Rattle.cell_library.proofs.Common.{Place, Layout, Paint, layout_of, Content, Held, held_of, held_in, held_at, no_held, position_of, IsRepainted}
use Rattle.std.specs.Map.{keys_of}
use Rattle.std.proofs.lemmas.Bool.{ltb-false}
use Rattle.std.proofs.lemmas.List.{take-map}
use Rattle.cell_library.specs.Contents.{AreUnderNames}

-- ---- places

-- what is found in an image is found in the list
position_or_len-map : {X Y : Type 0} (f : X → Y) (test : Y → Bool) (xs : List X) → position_or_len test (map f xs) ≡ position_or_len (λ x. test (f x)) xs
position_or_len-map f test [] = refl
position_or_len-map f test (x ∷ xs) = ap (λ (k : ℕ). cond (not (test (f x))) (1 + k) 0) (position_or_len-map f test xs)

position-map : {X Y : Type 0} (f : X → Y) (test : Y → Bool) (xs : List X) → position test (map f xs) ≡ position (λ x. test (f x)) xs
position-map f test xs =
    ap (λ (k : ℕ). cond (nat_lt k (length (map f xs))) (Some k) None) (position_or_len-map f test xs)
    ∙ ap (λ (n : ℕ). cond (nat_lt (position_or_len (λ x. test (f x)) xs) n) (Some (position_or_len (λ x. test (f x)) xs)) None) (length-map xs f)

-- a cell is found where its key is
pub found_by_key : (entries : List (Vec ℕ Global × Content)) (name : List ℕ) → AreUnderNames entries
    → position (λ key. bytes_eq name key.items) (keys_of entries) ≡ position_of name (held_in entries)
found_by_key entries name under =
    sym (position-map (λ (key : Vec ℕ Global). key.items) (bytes_eq name) (keys_of entries)) ∙ ap (position (bytes_eq name)) under
    ∙ ap (position (bytes_eq name)) (sym (map-map (λ (held : Held). held.name) held_of (values_of entries)))

-- ---- the content at a place

-- what is seen at a place is the content there
pub held_value : (contents : List Content) (cell : ℕ) (content : Content) → slice_get contents cell ≡ Some content
    → held_at (map held_of contents) cell ≡ held_of content
held_value [] cell content is = absurd (cc)
held_value (first ∷ contents) zero content is = let same : first ≡ content = cc in ap held_of same
held_value (first ∷ contents) (suc cell) content is = held_value contents cell content is

-- and so in the contents that are seen
pub content_there : (contents : List Held) (entries : List (Vec ℕ Global × Content)) (cell : ℕ) (content : Content) → held_in entries ≡ contents
    → slice_get (values_of entries) cell ≡ Some content → held_at contents cell ≡ held_of content
content_there contents entries cell content seen is =
    ap (λ (c : List Held). held_at c cell) (sym seen) ∙ held_value (values_of entries) cell content is

-- ---- a change of a content

values-set_value_at : (entries : List (Vec ℕ Global × Content)) (cell : ℕ) (content : Content)
    → values_of (set_value_at entries cell content) ≡ set (values_of entries) cell content
values-set_value_at [] cell content = refl
values-set_value_at (entry ∷ entries) zero content = refl
values-set_value_at (entry ∷ entries) (suc cell) content = ap (λ contents. entry.1 ∷ contents) (values-set_value_at entries cell content)

keys-set_value_at : (entries : List (Vec ℕ Global × Content)) (cell : ℕ) (content : Content) → keys_of (set_value_at entries cell content) ≡ keys_of entries
keys-set_value_at [] cell content = refl
keys-set_value_at (entry ∷ entries) zero content = refl
keys-set_value_at (entry ∷ entries) (suc cell) content = ap (λ keys. entry.0 ∷ keys) (keys-set_value_at entries cell content)

-- the list that is seen is changed at the place
pub held_set : (entries : List (Vec ℕ Global × Content)) (cell : ℕ) (content : Content)
    → held_in (set_value_at entries cell content) ≡ set (held_in entries) cell (held_of content)
held_set entries cell content = ap (map held_of) (values-set_value_at entries cell content) ∙ map-set held_of (values_of entries) cell content

names-set : (contents : List Content) (cell : ℕ) (old new : Content) → slice_get contents cell ≡ Some old → new.name ≡ old.name
    → map (λ content. content.name) (set contents cell new) ≡ map (λ content. content.name) contents
names-set [] cell old new is same = refl
names-set (first ∷ contents) zero old new is same =
    let here : first ≡ old = cc in
    ap (λ (name : List ℕ). name ∷ map (λ (content : Content). content.name) contents) (same ∙ ap (λ (content : Content). content.name) (sym here))
names-set (first ∷ contents) (suc cell) old new is same = ap (λ names. first.name ∷ names) (names-set contents cell old new is same)

-- a change that keeps the name keeps contents under their names
pub still_under_names : (entries : List (Vec ℕ Global × Content)) (cell : ℕ) (old new : Content) → slice_get (values_of entries) cell ≡ Some old
    → new.name ≡ old.name
    → AreUnderNames entries → AreUnderNames (set_value_at entries cell new)
still_under_names entries cell old new is same under =
    ap (map (λ (key : Vec ℕ Global). key.items)) (keys-set_value_at entries cell new) ∙ under ∙ sym (names-set (values_of entries) cell old new is same)
    ∙ ap (map (λ (content : Content). content.name)) (sym (values-set_value_at entries cell new))

-- a content whose paint changed
pub repainted : (contents : List Held) (entries : List (Vec ℕ Global × Content)) (cell : ℕ) (old : Content) (paint : Paint) (change : Layout → Layout)
    → held_in entries ≡ contents → slice_get (values_of entries) cell ≡ Some old
    → paint.kinds ≡ old.paint.kinds → length paint.planes ≡ length old.paint.planes
    → ((place : Place) → layout_of paint place ≡ change (layout_of old.paint) place)
    → IsRepainted contents (held_in (set_value_at entries cell (record old { paint = paint }))) cell change
repainted contents entries cell old paint change seen is kinds planes layout =
    let here = content_there contents entries cell old seen is in
    record {
      paint = paint;
      is = held_set entries cell (record old { paint = paint }) ∙ ap (λ (c : List Held). set c cell (held_of (record old { paint = paint }))) seen
          ∙ ap (λ (held : Held). set contents cell (record held { paint = paint })) (sym here);
      layout = λ place. layout place ∙ ap (λ (held : Held). change (layout_of held.paint) place) (sym here);
      kinds = kinds ∙ ap (λ (held : Held). held.paint.kinds) (sym here);
      planes = planes ∙ ap (λ (held : Held). length held.paint.planes) (sym here);
    }

-- a content whose labels changed
pub relabelled : (contents : List Held) (entries : List (Vec ℕ Global × Content)) (cell : ℕ) (old : Content) (labels : Vec Label Global)
    (change : List Label → List Label) → held_in entries ≡ contents → slice_get (values_of entries) cell ≡ Some old → labels.items ≡ change old.labels.items
    → held_in (set_value_at entries cell (record old { labels = labels }))
    ≡ set contents cell (record (held_at contents cell) { labels = change (held_at contents cell).labels })
relabelled contents entries cell old labels change seen is after =
    let here = content_there contents entries cell old seen is in
    held_set entries cell (record old { labels = labels })
    ∙ ap (λ (c : List Held). set c cell (held_of (record old { labels = labels }))) seen
    ∙ ap (λ (ls : List Label). set contents cell (record (held_of old) { labels = ls })) after
    ∙ ap (λ (held : Held). set contents cell (record held { labels = change held.labels })) (sym here)

-- a content whose labels stayed
pub labels_stayed : (contents : List Held) (entries : List (Vec ℕ Global × Content)) (cell : ℕ) (old : Content) (labels : Vec Label Global)
    → held_in entries ≡ contents → slice_get (values_of entries) cell ≡ Some old → labels.items ≡ old.labels.items
    → held_in (set_value_at entries cell (record old { labels = labels })) ≡ contents
labels_stayed contents entries cell old labels seen is same =
    relabelled contents entries cell old labels (λ ls. ls) seen is same ∙ set-get_or contents cell no_held

-- ---- one more

-- where nothing is found, all is passed over
pub position_past : {X : Type 0} (test : X → Bool) (xs : List X) → position test xs ≡ None → length xs ≤ position_or_len test xs
position_past test xs none = elim (cases_Bool (nat_lt (position_or_len test xs) (length xs))) [
  | inl below ↦ let found : Some (position_or_len test xs) ≡ None = rw below at none in absurd (cc)
  | inr past ↦ ltb-false _ _ past
]

position_or_len-most : {X : Type 0} (test : X → Bool) (xs : List X) → position_or_len test xs ≤ length xs
position_or_len-most test [] = omega arith
position_or_len-most test (x ∷ xs) = elim (cases_Bool (test x)) [
  | inl passes ↦ rw passes (omega arith)
  | inr fails ↦ let later = position_or_len-most test xs in rw fails (omega arith)
]

-- a new key comes last
pub entry_new : {X : Type 0} (eq : Vec ℕ Global → Vec ℕ Global → Bool) (entries : List (Vec ℕ Global × X)) (key : Vec ℕ Global) (value : X)
    → position_or_len (eq key) (keys_of entries) ≡ length entries → insert_entry eq entries key value ≡ entries ++ (key, value) ∷ []
entry_new eq [] key value none = refl
entry_new eq (entry ∷ entries) key value none = elim (cases_Bool (eq key entry.0)) [
  | inl same ↦ let found : 0 ≡ suc (length entries) = rw same at none in absurd (omega arith)
  | inr apart ↦
      let later : 1 + position_or_len (eq key) (keys_of entries) ≡ suc (length entries) = rw apart at none in
      rw apart (ap (λ es. entry ∷ es) (entry_new eq entries key value (omega arith)))
]

-- a content under its name, where no cell has the name, comes last
pub content_added : (eq : Vec ℕ Global → Vec ℕ Global → Bool) (entries : List (Vec ℕ Global × Content)) (key : Vec ℕ Global) (content : Content)
    → ((other : Vec ℕ Global) → eq key other ≡ bytes_eq content.name other.items) → AreUnderNames entries → position_of content.name (held_in entries) ≡ None
    → insert_entry eq entries key content ≡ entries ++ (key, content) ∷ []
content_added eq entries key content same under none =
    let keys = keys_of entries in
    let tests : eq key ≡ (λ (other : Vec ℕ Global). bytes_eq content.name other.items) = λ i other. same other i in
    let absent : position (eq key) keys ≡ None = ap (λ (test : Vec ℕ Global → Bool). position test keys) tests ∙ found_by_key entries content.name under
    ∙ none in
    let past = position_past (eq key) keys absent in
    let most = position_or_len-most (eq key) keys in
    let long = length-map entries (λ (entry : Vec ℕ Global × Content). entry.0) in
    entry_new eq entries key content (omega arith)

-- contents stay under their names
pub under_names_more : (entries : List (Vec ℕ Global × Content)) (key : Vec ℕ Global) (content : Content) → key.items ≡ content.name → AreUnderNames entries
    → AreUnderNames (entries ++ (key, content) ∷ [])
under_names_more entries key content same under =
    ap (map (λ (k : Vec ℕ Global). k.items)) (map-append (λ (e : Vec ℕ Global × Content). e.0) entries ((key, content) ∷ []))
    ∙ map-append (λ (k : Vec ℕ Global). k.items) (keys_of entries) (key ∷ [])
    ∙ (λ i. under i ++ same i ∷ [])
    ∙ sym (map-append (λ (c : Content). c.name) (values_of entries) (content ∷ []))
    ∙ ap (map (λ (c : Content). c.name)) (sym (map-append (λ (e : Vec ℕ Global × Content). e.1) entries ((key, content) ∷ [])))

-- and are seen with one more
pub held_more : (entries : List (Vec ℕ Global × Content)) (key : Vec ℕ Global) (content : Content)
    → held_in (entries ++ (key, content) ∷ []) ≡ held_in entries ++ held_of content ∷ []
held_more entries key content =
    ap (map held_of) (map-append (λ (e : Vec ℕ Global × Content). e.1) entries ((key, content) ∷ []))
    ∙ map-append held_of (values_of entries) (content ∷ [])

-- ---- the first ones

-- the first of contents stay under their names
pub under_names_first : (entries : List (Vec ℕ Global × Content)) (count : ℕ) → AreUnderNames entries → AreUnderNames (take count entries)
under_names_first entries count under =
    let key : Vec ℕ Global × Content → List ℕ = λ entry. entry.0.items in
    let name : Vec ℕ Global × Content → List ℕ = λ entry. entry.1.name in
    map-map (λ (k : Vec ℕ Global). k.items) (λ (e : Vec ℕ Global × Content). e.0) (take count entries) ∙ sym (take-map key count entries)
    ∙ ap (take count) (sym (map-map (λ (k : Vec ℕ Global). k.items) (λ (e : Vec ℕ Global × Content). e.0) entries) ∙ under
    ∙ map-map (λ (c : Content). c.name) (λ (e : Vec ℕ Global × Content). e.1) entries)
    ∙ take-map name count entries ∙ sym (map-map (λ (c : Content). c.name) (λ (e : Vec ℕ Global × Content). e.1) (take count entries))

-- and they are seen as the first
pub held_first : (entries : List (Vec ℕ Global × Content)) (count : ℕ) → held_in (take count entries) ≡ take count (held_in entries)
held_first entries count =
    ap (map held_of) (sym (take-map (λ (e : Vec ℕ Global × Content). e.1) count entries)) ∙ sym (take-map held_of count (values_of entries))
