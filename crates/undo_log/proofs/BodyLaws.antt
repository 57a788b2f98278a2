-- What a cell had is brought back: its uses and its labels.
use Rattle.undo_log.proofs.Common.{◌≡◌, ◌-◌, ◌<◌, ◌≤◌, ℕ, zero, suc, true, false, Bool, List, [], ◌∷◌, ◌++◌, length, map, filter, take, drop, insert}
use Rattle.undo_log.proofs.Common.{refl, sym, ap, subst, ◌∙◌, inl, inr, arith, true≢false, ℤ, ◌+ℤ◌, neg_ℤ, Option, Some, not, ◌||◌, slice_get}
use Rattle.undo_log.proofs.Common.{if◌then◌else◌, bytes_eq, cases_Bool, ints, length-append, take-append-drop, slice_get_within, bytes_eq-Decides}
use Rattle.undo_log.proofs.Common.{In, Distinct, Label, Grid, UseBody, moved_use, with_use_changed, has_id, id_same, use_in}
use Rattle.std.proofs.Common.{remove}
use Rattle.std.proofs.lemmas.List.{take_at}
use Rattle.std.proofs.lemmas.List.Edits.{insert_end, length-remove}
use Rattle.std.proofs.lemmas.List.Elements.{filter-append}
use Rattle.edit_script.proofs.CellLibrary.UseLists.{removed_use}

-- uses with their ids
abbrev pub Uses : Type 0
Uses = List (List ℕ × UseBody)

-- the uses without that of the id
abbrev pub without : List ℕ → Uses → Uses
without id uses = filter (λ entry. not (bytes_eq entry.0 id)) uses

-- ---- a use that comes and goes

-- whether the first has the id, and whether a later one has
has_first : (first : List ℕ × UseBody) (rest : Uses) (id : List ℕ) → has_id (first ∷ rest) id ≡ false
    → (bytes_eq first.0 id ≡ false) × (has_id rest id ≡ false)
has_first first rest id none = elim (cases_Bool (bytes_eq first.0 id)) [
  | inl here ↦ absurd (true≢false (sym (ap (λ (b : Bool). b || has_id rest id) here) ∙ none))
  | inr away ↦ (away, sym (ap (λ (b : Bool). b || has_id rest id) away) ∙ none)
]

-- where no use has the id, all stay
all_stay : (id : List ℕ) (uses : Uses) → has_id uses id ≡ false → without id uses ≡ uses
all_stay id [] none = refl
all_stay id (first ∷ rest) none =
    let away = has_first first rest id none in
    ap (λ (b : Bool). if not b then first ∷ without id rest else without id rest) away.0
    ∙ ap (λ uses. first ∷ uses) (all_stay id rest away.1)

-- parts of uses have no id that the whole hasn't
take_none : (k : ℕ) (uses : Uses) (id : List ℕ) → has_id uses id ≡ false → has_id (take k uses) id ≡ false
take_none zero uses id none = refl
take_none (suc k) [] id none = refl
take_none (suc k) (first ∷ rest) id none =
    let away = has_first first rest id none in
    ap (λ (b : Bool). b || has_id (take k rest) id) away.0 ∙ take_none k rest id away.1

drop_none : (k : ℕ) (uses : Uses) (id : List ℕ) → has_id uses id ≡ false → has_id (drop k uses) id ≡ false
drop_none zero uses id none = none
drop_none (suc k) [] id none = refl
drop_none (suc k) (first ∷ rest) id none = drop_none k rest id (has_first first rest id none).1

-- the use of the id goes
first_goes : (id : List ℕ) (used : UseBody) (rest : Uses) → without id ((id, used) ∷ rest) ≡ without id rest
first_goes id used rest = ap (λ (b : Bool). if not b then (id, used) ∷ without id rest else without id rest) (id_same id)

-- A use with an id that no other has comes to some place, and goes.
pub inserted_goes : (uses : Uses) (at : ℕ) (id : List ℕ) (used : UseBody) → has_id uses id ≡ false → without id (insert uses at (id, used)) ≡ uses
inserted_goes uses at id used none =
    filter-append (λ (entry : List ℕ × UseBody). not (bytes_eq entry.0 id)) (take at uses) ((id, used) ∷ drop at uses)
    ∙ (λ i. all_stay id (take at uses) (take_none at uses id none) i
    ++ (first_goes id used (drop at uses) ∙ all_stay id (drop at uses) (drop_none at uses id none)) i)
    ∙ take-append-drop at uses

-- what was removed is inserted again
inserted_again : (uses : Uses) (k : ℕ) (entry : List ℕ × UseBody) → slice_get uses k ≡ Some entry → insert (remove uses k) k entry ≡ uses
inserted_again [] k entry is = absurd (cc)
inserted_again (first ∷ rest) zero entry is = let same : first ≡ entry = cc in ap (λ e. e ∷ rest) (sym same)
inserted_again (first ∷ rest) (suc k) entry is = ap (λ uses. first ∷ uses) (inserted_again rest k entry is)

-- A use goes, and comes again to its place.
pub deleted_comes : (uses : Uses) (k : ℕ) (id : List ℕ) (used : UseBody) → Distinct (map (λ e. e.0) uses) → slice_get uses k ≡ Some (id, used)
    → insert (without id uses) k (id, used) ≡ uses
deleted_comes uses k id used differ is =
    ap (λ (list : Uses). insert list k (id, used)) (sym (removed_use id uses k used differ is)) ∙ inserted_again uses k (id, used) is

-- its place is one to which a use can come
pub deleted_place : (uses : Uses) (k : ℕ) (id : List ℕ) (used : UseBody) → Distinct (map (λ e. e.0) uses) → slice_get uses k ≡ Some (id, used)
    → k ≤ length (without id uses)
deleted_place uses k id used differ is =
    let below : k < length uses = slice_get_within uses k (id, used) is in
    let shorter = length-remove uses k below in
    let same : length (remove uses k) ≡ length (without id uses) = ap length (removed_use id uses k used differ is) in
    omega arith

-- a use that came has its id
pub inserted_has : (uses : Uses) (at : ℕ) (id : List ℕ) (used : UseBody) → has_id (insert uses at (id, used)) id ≡ true
inserted_has uses zero id used = ap (λ (b : Bool). b || has_id uses id) (id_same id)
inserted_has [] (suc at) id used = ap (λ (b : Bool). b || false) (id_same id)
inserted_has (first ∷ rest) (suc at) id used = elim (cases_Bool (bytes_eq first.0 id)) [
  | inl here ↦ ap (λ (b : Bool). b || has_id (insert rest at (id, used)) id) here
  | inr away ↦ ap (λ (b : Bool). b || has_id (insert rest at (id, used)) id) away ∙ inserted_has rest at id used
]

-- the same at the end
pub placed_has : (uses : Uses) (id : List ℕ) (used : UseBody) → has_id (uses ++ (id, used) ∷ []) id ≡ true
placed_has uses id used = ap (λ (list : Uses). has_id list id) (sym (insert_end uses (id, used))) ∙ inserted_has uses (length uses) id used

-- ---- a use that changes

-- the entry of a use, changed where it has the id
abbrev changed_entry : (UseBody → UseBody) → List ℕ → List ℕ × UseBody → List ℕ × UseBody
changed_entry change id entry = if bytes_eq entry.0 id then (entry.0, change entry.1) else entry

-- a change keeps the ids
pub changed_has : (change : UseBody → UseBody) (id : List ℕ) (uses : Uses) → has_id (with_use_changed change id uses) id ≡ has_id uses id
changed_has change id [] = refl
changed_has change id (first ∷ rest) = elim (cases_Bool (bytes_eq first.0 id)) [
  | inl here ↦
      ap (λ (b : Bool). bytes_eq (if b then (first.0, change first.1) else first).0 id || has_id (with_use_changed change id rest) id) here
      ∙ (λ i. bytes_eq first.0 id || changed_has change id rest i)
  | inr away ↦
      ap (λ (b : Bool). bytes_eq (if b then (first.0, change first.1) else first).0 id || has_id (with_use_changed change id rest) id) away
      ∙ (λ i. bytes_eq first.0 id || changed_has change id rest i)
]

-- A change of the use with the id and another one that takes it back for each use with the id.
pub changed_back : (change back : UseBody → UseBody) (id : List ℕ) (uses : Uses)
    → ((k : ℕ) (used : UseBody) → slice_get uses k ≡ Some (id, used) → back (change used) ≡ used)
    → with_use_changed back id (with_use_changed change id uses) ≡ uses
changed_back change back id [] takes = refl
changed_back change back id (first ∷ rest) takes =
    (λ i. head i ∷ changed_back change back id rest (λ k used is. takes (suc k) used is) i)
  where
    head : changed_entry back id (changed_entry change id first) ≡ first
    head = elim (cases_Bool (bytes_eq first.0 id)) [
      | inl here ↦
          let name : first.0 ≡ id = (bytes_eq-Decides first.0 id).0 here in
          ap (λ (b : Bool). changed_entry back id (if b then (first.0, change first.1) else first)) here
          ∙ ap (λ (b : Bool). if b then (first.0, back (change first.1)) else (first.0, change first.1)) here
          ∙ (λ i. (first.0, takes 0 first.1 (λ j. Some (name j, first.1)) i))
      | inr away ↦
          ap (λ (b : Bool). changed_entry back id (if b then (first.0, change first.1) else first)) away
          ∙ ap (λ (b : Bool). if b then (first.0, back first.1) else first) away
    ]

-- ids that differ name one use each
one_use : (uses : Uses) (j k : ℕ) (id : List ℕ) (a b : UseBody) → Distinct (map (λ e. e.0) uses) → slice_get uses j ≡ Some (id, a)
    → slice_get uses k ≡ Some (id, b) → a ≡ b
one_use [] j k id a b differ is also = absurd (cc)
one_use (first ∷ rest) zero zero id a b differ is also =
    let one : (id, a) ≡ (id, b) = cc in ap (λ (e : List ℕ × UseBody). e.1) one
one_use (first ∷ rest) zero (suc k) id a b differ is also =
    let name : first.0 ≡ id = (let same : first ≡ (id, a) = cc in ap (λ (e : List ℕ × UseBody). e.0) same) in
    absurd (differ.0 (subst (λ (n : List ℕ). In n (map (λ e. e.0) rest)) (sym name) (use_in rest k (id, b) also)))
one_use (first ∷ rest) (suc j) zero id a b differ is also =
    let name : first.0 ≡ id = (let same : first ≡ (id, b) = cc in ap (λ (e : List ℕ × UseBody). e.0) same) in
    absurd (differ.0 (subst (λ (n : List ℕ). In n (map (λ e. e.0) rest)) (sym name) (use_in rest j (id, a) is)))
one_use (first ∷ rest) (suc j) (suc k) id a b differ is also = one_use rest j k id a b differ.1 is also

-- A use moves, and moves back.
pub moved_back : (dx dy : ℤ) (id : List ℕ) (uses : Uses)
    → with_use_changed (moved_use (neg_ℤ dx) (neg_ℤ dy)) id (with_use_changed (moved_use dx dy) id uses) ≡ uses
moved_back dx dy id uses = changed_back (moved_use dx dy) (moved_use (neg_ℤ dx) (neg_ℤ dy)) id uses (λ k used is. here used)
  where
    there_and_back : (z d : ℤ) → (z +ℤ d) +ℤ neg_ℤ d ≡ z
    there_and_back z d = omega (arith, ints)

    here : (used : UseBody) → moved_use (neg_ℤ dx) (neg_ℤ dy) (moved_use dx dy used) ≡ used
    here used =
        λ i. record used { placed = record used.placed { dx = there_and_back used.placed.dx dx i; dy = there_and_back used.placed.dy dy i } }

-- A use gets another grid, and the one that it had.
pub regridded_back : (change : UseBody → UseBody) (id : List ℕ) (uses : Uses) (k : ℕ) (used : UseBody)
    → ((other : UseBody) (grid : Option Grid) → record (change other) { grid = grid } ≡ record other { grid = grid })
    → Distinct (map (λ e. e.0) uses) → slice_get uses k ≡ Some (id, used)
    → with_use_changed (λ other. record other { grid = used.grid }) id (with_use_changed change id uses) ≡ uses
regridded_back change id uses k used alone differ is =
    changed_back change (λ (other : UseBody). record other { grid = used.grid }) id uses (λ j other here.
    alone other used.grid ∙ ap (λ (u : UseBody). record other { grid = u.grid }) (one_use uses k j id used other differ is here))

-- ---- labels

-- A label comes last, and the last goes.
pub added_goes : (labels : List Label) (label : Label) → take (length (labels ++ label ∷ []) - 1) (labels ++ label ∷ []) ≡ labels
added_goes labels label =
    take_at labels (label ∷ []) (length (labels ++ label ∷ []) - 1) (let long = length-append labels (label ∷ []) in omega arith)

-- there is one then
pub added_some : (labels : List Label) (label : Label) → 0 < length (labels ++ label ∷ [])
added_some labels label = let long = length-append labels (label ∷ []) in omega arith
