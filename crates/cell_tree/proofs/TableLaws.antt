-- Tables of uses: what a look-up by an id finds, and what an edit of the map makes of the uses.
use Rattle.cell_tree.proofs.Common.{◌≡◌, inl, inr, ℕ, zero, suc, ◌≤◌, Bool, true, length, arith, List, [], ◌∷◌, ◌++◌, take, drop, map, Some, None}
use Rattle.cell_tree.proofs.Common.{refl, sym, ap, subst, ◌∙◌, Vec, Global, insert, remove, option_map, cases_Bool, same_Some, slice_get-map}
use Rattle.cell_tree.proofs.Common.{length-map, UseBody, HasIdAt, with_use_at}
use Rattle.std.proofs.Common.{eqb, true≢false}
use Rattle.std.specs.Prelude.{slice_get, Option, Result, Ok, Err, IsOk, IsSome, IfOk, OnOk, OnErr, IfErr}
use Rattle.std.specs.Cmp.Lexicographic.{pointwise, bytes_decides}
use Rattle.std.specs.List.{position_or_len}
use Rattle.std.specs.Map.{lookup, lookup_key, keys_of}
use Rattle.indexmap.specs.IndexMap.{insert_entry, move_index, set_value_at}
use Rattle.indexmap.proofs.MapLemmas.{absent_from_lookup, insert_entry-absent, or_len-absent}
use Rattle.indexmap.proofs.MoveLemmas.{push_moved}
use Rattle.indexmap.proofs.SetLemmas.{map-insert}
use Rattle.std.proofs.lemmas.Option.{none-some}
use Rattle.std.proofs.lemmas.List.{map-append, take-map, drop-map}

-- where the clause of a value holds and there is one, what it says
pub on_ok : {A E : Type 0} (r : Result A E) (P : Type 0) → IsOk r → OnOk r P → P
on_ok (Ok x) P is holds = holds
on_ok (Err e) P is holds = absurd (cc)

-- and what it says of the value
pub value_of : {A E : Type 0} (r : Result A E) (P : A → Type 0) → IsOk r → IfOk r P → (x : A) × P x
value_of (Ok x) P is holds = (x, holds)
value_of (Err e) P is holds = absurd (cc)

-- what there is is not missing
pub some_or_none : {A : Type 0} (o : Option A) → IsSome o → o ≡ None → ⊥
some_or_none None is none = absurd (cc)
some_or_none (Some x) is none = absurd (cc)

-- what is not found has no place
pub lookup_none : (id : List ℕ) (es : List (Vec ℕ Global × UseBody)) → lookup (λ key. pointwise eqb id key.items) es ≡ None → (k : ℕ)
    → HasIdAt (map (λ entry. (entry.0.items, entry.1)) es) k id → ⊥
lookup_none id [] none k has = none-some has.entry has.stands
lookup_none id (e ∷ es) none zero has = elim (cases_Bool (pointwise eqb id e.0.items)) [
  | inl passes ↦ none-some e.1 (sym (rw passes at none))
  | inr fails ↦
      let same : (e.0.items, e.1) ≡ has.entry = same_Some _ _ has.stands in
      true≢false (sym ((bytes_decides id e.0.items).1 (sym has.same ∙ sym (ap (λ (f : List ℕ × UseBody). f.0) same))) ∙ fails)
]
lookup_none id (e ∷ es) none (suc k) has = elim (cases_Bool (pointwise eqb id e.0.items)) [
  | inl passes ↦ none-some e.1 (sym (rw passes at none))
  | inr fails ↦ lookup_none id es (rw fails at none) k (record { entry = has.entry; stands = has.stands; same = has.same })
]

-- where no use has the id, a look-up finds none
pub lookup_absent : (id : List ℕ) (es : List (Vec ℕ Global × UseBody)) → ((k : ℕ) → HasIdAt (map (λ entry. (entry.0.items, entry.1)) es) k id → ⊥)
    → lookup (λ key. pointwise eqb id key.items) es ≡ None
lookup_absent id [] absent = refl
lookup_absent id (e ∷ es) absent = elim (cases_Bool (pointwise eqb id e.0.items)) [
  | inl passes ↦ absurd (absent 0 (record { entry = (e.0.items, e.1); stands = refl; same = sym ((bytes_decides id e.0.items).0 passes) }))
  | inr fails ↦ rw fails (lookup_absent id es (λ k has. absent (suc k) (record { entry = has.entry; stands = has.stands; same = has.same })))
]

lookup_key_passes : (id : List ℕ) (es : List (Vec ℕ Global × UseBody)) (key : Vec ℕ Global) → lookup_key (λ key. pointwise eqb id key.items) es ≡ Some key
    → pointwise eqb id key.items ≡ true
lookup_key_passes id [] key found = absurd (none-some key found)
lookup_key_passes id (e ∷ es) key found = elim (cases_Bool (pointwise eqb id e.0.items)) [
  | inl passes ↦ let same : e.0 ≡ key = same_Some _ _ (rw passes at found) in ap (λ (k : Vec ℕ Global). pointwise eqb id k.items) (sym same) ∙ passes
  | inr fails ↦ lookup_key_passes id es key (rw fails at found)
]

-- what is found stands in its place under its id
pub lookup_found : (id : List ℕ) (es : List (Vec ℕ Global × UseBody)) (k : ℕ) (key : Vec ℕ Global) (used : UseBody)
    → lookup_key (λ key. pointwise eqb id key.items) es ≡ Some key → slice_get es k ≡ Some (key, used)
    → HasIdAt (map (λ entry. (entry.0.items, entry.1)) es) k id
lookup_found id es k key used found stands =
    record {
      entry = (key.items, used);
      stands = slice_get-map (λ entry. (entry.0.items, entry.1)) es k ∙ ap (option_map (λ (entry : Vec ℕ Global × UseBody). (entry.0.items, entry.1))) stands;
      same = sym ((bytes_decides id key.items).0 (lookup_key_passes id es key found));
    }

-- a new key that came to a place
pub map-inserted : (es after : List (Vec ℕ Global × UseBody)) (id : Vec ℕ Global) (used : UseBody) (k : ℕ)
    → after ≡ move_index (insert_entry (λ one key. pointwise eqb one.items key.items) es id used)
    (position_or_len (λ key. pointwise eqb id.items key.items) (keys_of es)) k
    → ((j : ℕ) → HasIdAt (map (λ entry. (entry.0.items, entry.1)) es) j id.items → ⊥)
    → k ≤ length {A = List ℕ × UseBody} (map (λ entry. (entry.0.items, entry.1)) es)
    → map {B = List ℕ × UseBody} (λ entry. (entry.0.items, entry.1)) after ≡ insert (map (λ entry. (entry.0.items, entry.1)) es) k (id.items, used)
map-inserted es after id used k is new place =
    let is_id : Vec ℕ Global → Bool = λ key. pointwise eqb id.items key.items in
    let absent = absent_from_lookup is_id es (lookup_absent id.items es new) in
    let inside : k ≤ length es = omega (arith, place, length-map {B = List ℕ × UseBody} es (λ (entry : Vec ℕ Global × UseBody). (entry.0.items, entry.1))) in
    ap (map (λ (entry : Vec ℕ Global × UseBody). (entry.0.items, entry.1)))
    (is ∙ (λ i. move_index (insert_entry-absent (λ one key. pointwise eqb one.items key.items) id used es absent i) (or_len-absent is_id es absent i) k)
    ∙ push_moved es (id, used) k inside)
    ∙ map-insert (λ (entry : Vec ℕ Global × UseBody). (entry.0.items, entry.1)) es k (id, used)

-- taking an entry away
pub map-remove : {X Y : Type 0} (f : X → Y) (xs : List X) (k : ℕ) → map f (remove xs k) ≡ remove (map f xs) k
map-remove f xs k =
    map-append f (take k xs) (drop (suc k) xs) ∙ ap (λ front. front ++ map f (drop (suc k) xs)) (sym (take-map f k xs))
    ∙ ap (λ back. take k (map f xs) ++ back) (sym (drop-map f (suc k) xs))

-- giving an entry another value
pub map-set_value : (es : List (Vec ℕ Global × UseBody)) (k : ℕ) (used : UseBody)
    → map (λ entry. (entry.0.items, entry.1)) (set_value_at es k used) ≡ with_use_at (map (λ entry. (entry.0.items, entry.1)) es) k used
map-set_value [] k used = refl
map-set_value (e ∷ es) zero used = refl
map-set_value (e ∷ es) (suc k) used = ap (λ (rest : List (List ℕ × UseBody)). (e.0.items, e.1) ∷ rest) (map-set_value es k used)

-- what two clauses of a value give together
pub on_ok_both : {A E : Type 0} (r : Result A E) (P Q R : Type 0) → OnOk r P → OnOk r Q → (P → Q → R) → OnOk r R
on_ok_both (Ok x) P Q R p q both = both p q
on_ok_both (Err e) P Q R p q both = tt

-- what holds at all holds of a value
pub on_ok_from : {A E : Type 0} (r : Result A E) (P : Type 0) → P → OnOk r P
on_ok_from (Ok x) P p = p
on_ok_from (Err e) P p = tt

pub on_err_from : {A E : Type 0} (r : Result A E) (P : Type 0) → P → OnErr r P
on_err_from (Ok x) P p = tt
on_err_from (Err e) P p = p

-- what holds of a fault holds of a result that is it
pub if_err_from : {A E : Type 0} (r : Result A E) (P : E → Type 0) (e : E) → r ≡ Err e → P e → IfErr r P
if_err_from (Ok x) P e is p = absurd (cc)
if_err_from (Err d) P e is p = let same : e ≡ d = cc in subst P same p

-- and of a value that is none
pub if_ok_none : {A E : Type 0} (r : Result A E) (P : Type 0) (e : E) → r ≡ Err e → OnOk r P
if_ok_none (Ok x) P e is = absurd (cc)
if_ok_none (Err d) P e is = tt

pub if_err_none : {A E : Type 0} (r : Result A E) (P : E → Type 0) (x : A) → r ≡ Ok x → IfErr r P
if_err_none (Ok y) P x is = tt
if_err_none (Err d) P x is = absurd (cc)
