-- Lists of uses with their ids: what a change of the use with an id does to the list.
use Rattle.cell_library.proofs.Common.{◌≡◌, ℕ, zero, suc, true, false, Bool, List, [], ◌∷◌, map, filter, remove, refl, sym, ap, subst, ◌∙◌, inl, inr}
use Rattle.cell_library.proofs.Common.{true≢false, Some, not, ◌||◌, slice_get, if◌then◌else◌, list_any, bytes_eq, cases_Bool, bytes_eq-Decides, In}
use Rattle.cell_library.proofs.Common.{Distinct, UseBody, HasIdAt, moved_at, with_use_changed, has_id}

-- an id is itself
pub id_same : (id : List ℕ) → bytes_eq id id ≡ true
id_same id = (bytes_eq-Decides id id).1 refl

-- a use that stands in the list has its id among the ids
pub use_in : (uses : List (List ℕ × UseBody)) (k : ℕ) (entry : List ℕ × UseBody) → slice_get uses k ≡ Some entry → In entry.0 (map (λ e. e.0) uses)
use_in [] k entry is = absurd (cc)
use_in (first ∷ rest) zero entry is = let same : first ≡ entry = cc in inl (ap (λ (e : List ℕ × UseBody). e.0) same)
use_in (first ∷ rest) (suc k) entry is = inr (use_in rest k entry is)

-- where some use has the id, the list has it
pub has_there : (uses : List (List ℕ × UseBody)) (k : ℕ) (id : List ℕ) (used : UseBody) → slice_get uses k ≡ Some (id, used) → has_id uses id ≡ true
has_there [] k id used is = absurd (cc)
has_there (first ∷ rest) zero id used is =
    let same : first ≡ (id, used) = cc in
    let here : bytes_eq first.0 id ≡ true = ap (λ (e : List ℕ × UseBody). bytes_eq e.0 id) same ∙ id_same id in
    ap (λ (b : Bool). b || list_any (λ entry. bytes_eq entry.0 id) rest) here
has_there (first ∷ rest) (suc k) id used is = elim (cases_Bool (bytes_eq first.0 id)) [
  | inl here ↦ ap (λ (b : Bool). b || list_any (λ entry. bytes_eq entry.0 id) rest) here
  | inr away ↦ ap (λ (b : Bool). b || list_any (λ entry. bytes_eq entry.0 id) rest) away ∙ has_there rest k id used is
]

-- and where none has it, it hasn't
pub has_none : (uses : List (List ℕ × UseBody)) (id : List ℕ) → ((k : ℕ) → HasIdAt uses k id → ⊥) → has_id uses id ≡ false
has_none [] id none = refl
has_none (first ∷ rest) id none = elim (cases_Bool (bytes_eq first.0 id)) [
  | inl here ↦ absurd (none 0 (record { entry = first; stands = refl; same = (bytes_eq-Decides first.0 id).0 here }))
  | inr away ↦
      ap (λ (b : Bool). b || list_any (λ entry. bytes_eq entry.0 id) rest) away
      ∙ has_none rest id (λ k has. none (suc k) (record { entry = has.entry; stands = has.stands; same = has.same }))
]

-- no use has an id that the list hasn't
pub none_has : (uses : List (List ℕ × UseBody)) (id : List ℕ) → has_id uses id ≡ false → (k : ℕ) → HasIdAt uses k id → ⊥
none_has uses id none k has =
    true≢false (sym (has_there uses k id has.entry.1 (has.stands ∙ (λ i. Some (has.same i, has.entry.1)))) ∙ none)

-- where no use has the id, none is changed
unchanged : (change : UseBody → UseBody) (id : List ℕ) (uses : List (List ℕ × UseBody)) → (In id (map (λ e. e.0) uses) → ⊥)
    → with_use_changed change id uses ≡ uses
unchanged change id [] none = refl
unchanged change id (first ∷ rest) none = elim (cases_Bool (bytes_eq first.0 id)) [
  | inl here ↦ absurd (none (inl ((bytes_eq-Decides first.0 id).0 here)))
  | inr away ↦
      ap (λ (b : Bool). (if b then (first.0, change first.1) else first) ∷ with_use_changed change id rest) away
      ∙ ap (λ uses. first ∷ uses) (unchanged change id rest (λ later. none (inr later)))
]

-- Where ids differ, a change of the use with the id that keeps its child is one at its place.
pub changed_use : (change : UseBody → UseBody) (id : List ℕ) (uses : List (List ℕ × UseBody)) (k : ℕ) (used : UseBody) → Distinct (map (λ e. e.0) uses)
    → slice_get uses k ≡ Some (id, used) → (change used).child ≡ used.child
    → moved_at uses k (change used).placed (change used).grid ≡ with_use_changed change id uses
changed_use change id [] k used differ is child = absurd (cc)
changed_use change id (first ∷ rest) zero used differ is child =
    let same : first ≡ (id, used) = cc in
    let here : bytes_eq first.0 id ≡ true = ap (λ (e : List ℕ × UseBody). bytes_eq e.0 id) same ∙ id_same id in
    let body : UseBody = change used in
    let name : first.0 ≡ id = ap (λ (e : List ℕ × UseBody). e.0) same in
    let was : first.1 ≡ used = ap (λ (e : List ℕ × UseBody). e.1) same in
    (λ i. (first.0, record { child = (ap (λ (u : UseBody). u.child) was ∙ sym child) i; placed = body.placed; grid = body.grid }) ∷ rest)
    ∙ (λ i. (first.0, change (sym was i)) ∷ sym
    (unchanged change id rest (λ later. differ.0 (subst (λ (n : List ℕ). In n (map (λ e. e.0) rest)) (sym name) later))) i)
    ∙ ap (λ (b : Bool). (if b then (first.0, change first.1) else first) ∷ with_use_changed change id rest) (sym here)
changed_use change id (first ∷ rest) (suc k) used differ is child =
    let apart : bytes_eq first.0 id ≡ false = elim (cases_Bool (bytes_eq first.0 id)) [
      | inr away ↦ away
      | inl here ↦ absurd (differ.0 (subst (λ (n : List ℕ). In n (map (λ e. e.0) rest)) (sym ((bytes_eq-Decides first.0 id).0 here))
          (use_in rest k (id, used) is)))
    ] in
    ap (λ uses. first ∷ uses) (changed_use change id rest k used differ.1 is child)
    ∙ ap (λ (b : Bool). (if b then (first.0, change first.1) else first) ∷ with_use_changed change id rest) (sym apart)

-- where no use has the id, all stay
all_stay : (id : List ℕ) (uses : List (List ℕ × UseBody)) → (In id (map (λ e. e.0) uses) → ⊥) → filter (λ entry. not (bytes_eq entry.0 id)) uses ≡ uses
all_stay id [] none = refl
all_stay id (first ∷ rest) none = elim (cases_Bool (bytes_eq first.0 id)) [
  | inl here ↦ absurd (none (inl ((bytes_eq-Decides first.0 id).0 here)))
  | inr away ↦ rw away (ap (λ uses. first ∷ uses) (all_stay id rest (λ later. none (inr later))))
]

-- Where ids differ, the uses without the id are those without the one at its place.
pub removed_use : (id : List ℕ) (uses : List (List ℕ × UseBody)) (k : ℕ) (used : UseBody) → Distinct (map (λ e. e.0) uses) → slice_get uses k ≡ Some (id, used)
    → remove uses k ≡ filter (λ entry. not (bytes_eq entry.0 id)) uses
removed_use id [] k used differ is = absurd (cc)
removed_use id (first ∷ rest) zero used differ is =
    let same : first ≡ (id, used) = cc in
    let here : bytes_eq first.0 id ≡ true = ap (λ (e : List ℕ × UseBody). bytes_eq e.0 id) same ∙ id_same id in
    let name : first.0 ≡ id = ap (λ (e : List ℕ × UseBody). e.0) same in
    rw here (sym (all_stay id rest (λ later. differ.0 (subst (λ (n : List ℕ). In n (map (λ e. e.0) rest)) (sym name) later))))
removed_use id (first ∷ rest) (suc k) used differ is =
    let apart : bytes_eq first.0 id ≡ false = elim (cases_Bool (bytes_eq first.0 id)) [
      | inr away ↦ away
      | inl here ↦ absurd (differ.0 (subst (λ (n : List ℕ). In n (map (λ e. e.0) rest)) (sym ((bytes_eq-Decides first.0 id).0 here))
          (use_in rest k (id, used) is)))
    ] in
    rw apart (ap (λ uses. first ∷ uses) (removed_use id rest k used differ.1 is))
