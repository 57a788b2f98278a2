-- Types: which connect and which are within which.
use Rattle.tech_model.proofs.Common.{◌≡◌, ◌⊎◌, ◌==◌, ◌&&◌, ◌||◌, ℕ, Bool, true, false, List, [], ◌∷◌, refl, ap, subst, ◌∙◌, inl, inr, IsTrue}
use Rattle.tech_model.proofs.Common.{list_any, and_parts, and_from, eq-eqb, eqb-true, TypeId, RawTech, is_type, layer_of, parts_of, is_of}
use Rattle.std.proofs.lemmas.Bool.{or_cases}
use Rattle.tech_model.specs.Types.{is_pair, connects, is_proper_subset, is_within}
use Rattle.tech_model.proofs.PairTableLaws.{eq_comm}

-- one of two is enough: the first
pub or_left : (a b : Bool) → a ≡ true → (a || b) ≡ true
or_left true b is = refl
or_left false b is = cc

-- one of two is enough: the second
pub or_right : (a b : Bool) → b ≡ true → (a || b) ≡ true
or_right true b is = refl
or_right false b is = is

and_comm : (a b : Bool) → (a && b) ≡ (b && a)
and_comm true true = refl
and_comm true false = refl
and_comm false true = refl
and_comm false false = refl

or_comm : (a b : Bool) → (a || b) ≡ (b || a)
or_comm true true = refl
or_comm true false = refl
or_comm false true = refl
or_comm false false = refl

-- the types that connect are types
pub connects_types : (raw : RawTech) (s t : ℕ) → connects raw s t ≡ true → IsTrue (is_type raw s) × IsTrue (is_type raw t)
unfolding connects
connects_types raw s t is =
    let both = and_parts (is_type raw s && is_type raw t) _ is in
    and_parts (is_type raw s) (is_type raw t) both.0

-- each type connects to itself
pub connects_self : (raw : RawTech) (s : ℕ) → IsTrue (is_type raw s) → connects raw s s ≡ true
unfolding connects
connects_self raw s is =
    and_from (is_type raw s && is_type raw s) (s == s || is_pair raw s s || layer_of raw s == layer_of raw s)
    (and_from (is_type raw s) (is_type raw s) is is)
    (or_right (s == s || is_pair raw s s) (layer_of raw s == layer_of raw s) (eq-eqb (layer_of raw s) (layer_of raw s) refl))

-- the images of one layer connect
pub connects_layer : (raw : RawTech) (s t : ℕ) → IsTrue (is_type raw s) → IsTrue (is_type raw t) → layer_of raw s ≡ layer_of raw t → connects raw s t ≡ true
unfolding connects
connects_layer raw s t s_is t_is same =
    and_from (is_type raw s && is_type raw t) (s == t || is_pair raw s t || layer_of raw s == layer_of raw t)
    (and_from (is_type raw s) (is_type raw t) s_is t_is)
    (or_right (s == t || is_pair raw s t) (layer_of raw s == layer_of raw t) (eq-eqb (layer_of raw s) (layer_of raw t) same))

is_pair_back : (s t : ℕ) (pairs : List (TypeId × TypeId)) → list_any (is_of s t) pairs ≡ list_any (is_of t s) pairs
is_pair_back s t [] = refl
is_pair_back s t (pair ∷ pairs) =
    ap (λ (b : Bool). b || list_any (is_of s t) pairs) (or_comm (pair.0.0 == s && pair.1.0 == t) (pair.0.0 == t && pair.1.0 == s))
    ∙ ap (λ (b : Bool). is_of t s pair || b) (is_pair_back s t pairs)

-- connecting goes both ways
pub connects_back : (raw : RawTech) (s t : ℕ) → connects raw s t ≡ connects raw t s
unfolding connects
connects_back raw s t =
    rw (and_comm (is_type raw s) (is_type raw t), eq_comm s t, is_pair_back s t raw.pairs, eq_comm (layer_of raw s) (layer_of raw t)) refl

-- each number is within itself
pub within_self : (raw : RawTech) (s : ℕ) → IsTrue (is_within raw s s)
unfolding is_within
within_self raw s = or_left (s == s) _ (eq-eqb s s refl)

-- s is part of t and connects to it
pub within_part : (raw : RawTech) (s t : ℕ) → is_proper_subset (parts_of raw s) (parts_of raw t) ≡ true → connects raw s t ≡ true → IsTrue (is_within raw s t)
unfolding is_within
within_part raw s t part joined =
    or_right (s == t) (is_proper_subset (parts_of raw s) (parts_of raw t) && connects raw s t)
    (and_from (is_proper_subset (parts_of raw s) (parts_of raw t)) (connects raw s t) part joined)

-- what is within a type is that type, or a part of it that connects to it
pub within_cases : (raw : RawTech) (s t : ℕ) → IsTrue (is_within raw s t)
    → (s ≡ t) ⊎ ((is_proper_subset (parts_of raw s) (parts_of raw t) ≡ true) × (connects raw s t ≡ true))
unfolding is_within
within_cases raw s t is = elim (or_cases (s == t) (is_proper_subset (parts_of raw s) (parts_of raw t) && connects raw s t) is) [
  | inl same ↦ inl (eqb-true s t same)
  | inr part ↦ inr (and_parts (is_proper_subset (parts_of raw s) (parts_of raw t)) (connects raw s t) part)
]

-- what a type is within is a type
pub within_type : (raw : RawTech) (s t : ℕ) → IsTrue (is_type raw s) → IsTrue (is_within raw s t) → IsTrue (is_type raw t)
within_type raw s t s_is is = elim (within_cases raw s t is) [
  | inl same ↦ subst (λ (n : ℕ). IsTrue (is_type raw n)) same s_is
  | inr part ↦ (connects_types raw s t part.1).1
]
