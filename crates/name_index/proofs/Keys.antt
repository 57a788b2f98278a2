-- Names as the keys of a hash set.
use Rattle.std.proofs.Common.{◌≡◌, ◌+◌, ◌||◌, ℕ, Bool, true, false, not, List, [], ◌∷◌, ◌++◌, length, map, refl, sym, ap, ◌∙◌, subst, cond, if◌then◌else◌}
use Rattle.std.specs.Prelude.{Some, None, Vec, nat_lt}
use Rattle.std.specs.List.{list_any, position, position_or_len}
use Rattle.std.specs.Str.{bytes_eq}
use Rattle.std.specs.declared.alloc.Global.{Global}
use Rattle.std.proofs.lemmas.Bool.{cases_Bool}
use Rattle.std.proofs.lemmas.List.{length-map, map-append}
use Rattle.std.proofs.lemmas.Slice.Eq.{bytes_eq-Decides}
use Rattle.indexmap.specs.IndexSet.{insert_key}
use Rattle.finite_sets.specs.Lists.{In, Distinct}
use Rattle.finite_sets.proofs.Distincts.{Distinct-push}
use Rattle.finite_sets.proofs.Searches.{list_any-In}

-- the bytes of the keys
abbrev pub bytes_of : List (Vec ℕ Global) → List (List ℕ)
bytes_of keys = map (λ key. key.items) keys

-- whether a key has these bytes
abbrev pub has_bytes : List ℕ → Vec ℕ Global → Bool
has_bytes name key = bytes_eq name key.items

-- a name is among the bytes where it is among the keys
pub among_keys : (name : List ℕ) (keys : List (Vec ℕ Global)) → list_any (has_bytes name) keys ≡ list_any (bytes_eq name) (bytes_of keys)
among_keys name [] = refl
among_keys name (key ∷ keys) = ap (λ (t : Bool). bytes_eq name key.items || t) (among_keys name keys)

place_of_key : (name : List ℕ) (keys : List (Vec ℕ Global)) → position_or_len (has_bytes name) keys ≡ position_or_len (bytes_eq name) (bytes_of keys)
place_of_key name [] = refl
place_of_key name (key ∷ keys) = ap (λ (k : ℕ). cond (not (bytes_eq name key.items)) (1 + k) 0) (place_of_key name keys)

-- and at the same place
pub number_of_key : (name : List ℕ) (keys : List (Vec ℕ Global)) → position (has_bytes name) keys ≡ position (bytes_eq name) (bytes_of keys)
number_of_key name keys =
    ap (λ (k : ℕ). cond (nat_lt k (length keys)) (Some k) None) (place_of_key name keys)
    ∙ ap (λ (n : ℕ). cond (nat_lt (position_or_len (bytes_eq name) (bytes_of keys)) n) (Some (position_or_len (bytes_eq name) (bytes_of keys))) None)
    (sym (length-map keys (λ (key : Vec ℕ Global). key.items)))

-- the bytes once a name is inserted: one more where it is new
pub inserted : (name : List ℕ) (key : Vec ℕ Global) (keys : List (Vec ℕ Global)) → key.items ≡ name
    → bytes_of (if list_any (has_bytes name) keys then keys else keys ++ key ∷ [])
    ≡ (if list_any (bytes_eq name) (bytes_of keys) then bytes_of keys else bytes_of keys ++ name ∷ [])
inserted name key keys is = step (list_any (has_bytes name) keys) (list_any (bytes_eq name) (bytes_of keys)) (among_keys name keys)
  where
    step : (a b : Bool) → a ≡ b → bytes_of (if a then keys else keys ++ key ∷ []) ≡ (if b then bytes_of keys else bytes_of keys ++ name ∷ [])
    step true true e = refl
    step false false e = map-append (λ (other : Vec ℕ Global). other.items) keys (key ∷ []) ∙ ap (λ (n : List ℕ). bytes_of keys ++ n ∷ []) is
    step true false e = absurd (cc)
    step false true e = absurd (cc)

-- no name stands there twice then
pub still_distinct : (name : List ℕ) (names : List (List ℕ)) → Distinct names
    → Distinct (if list_any (bytes_eq name) names then names else names ++ name ∷ [])
still_distinct name names once = step (list_any (bytes_eq name) names) refl
  where
    step : (t : Bool) → list_any (bytes_eq name) names ≡ t → Distinct (if t then names else names ++ name ∷ [])
    step true e = once
    step false e =
        Distinct-push names name once
        (λ h. (let fails = list_any-In (bytes_eq name) names name e h in let passes = (bytes_eq-Decides name name).1 refl in cc))
