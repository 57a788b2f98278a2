-- Where the first slash of a path stands.
use Rattle.name_classes.proofs.Common.{◌≡◌, ◌+◌, ◌==◌, ℕ, suc, Bool, false, cond, inl, inr, List, [], ◌∷◌, length, take, refl, sym, ◌∙◌, ap, subst}
use Rattle.name_classes.proofs.Common.{arith, Some, None, cases_Bool, sum_by-cons, SLASH, slashes_in, IsSplit}
use Rattle.std.proofs.Common.{◌-◌, drop}
use Rattle.std.proofs.Common.{take_all, length-drop}
use Rattle.std.specs.Prelude.{position}
use Rattle.std.specs.List.{position_from}
use Rattle.std.proofs.lemmas.Bool.{eqb-true}
use Rattle.std.proofs.lemmas.Iterator.Adapters.{position_from-zero}

is_slash : ℕ → Bool
is_slash byte = byte == SLASH

-- the path is cut at its first slash, so many bytes behind where it starts
record IsCutAt (start : ℕ) (path : List ℕ) (at : ℕ) : Type 0 where
  before : ℕ
  place : at ≡ start + before
  split : IsSplit path (take before path) (drop (suc before) path)

cons_split : (byte : ℕ) (bytes first behind : List ℕ) → (byte == SLASH) ≡ false → IsSplit bytes first behind → IsSplit (byte ∷ bytes) (byte ∷ first) behind
cons_split byte bytes first behind other split = record {
  text = ap (λ (rest : List ℕ). byte ∷ rest) split.text;
  whole = sum_by-cons (λ (b : ℕ). cond (b == SLASH) 1 0) byte first ∙ ap (λ (t : Bool). cond t 1 0 + slashes_in first) other ∙ omega (arith, split.whole);
}

cut_from : (start : ℕ) (path : List ℕ) (at : ℕ) → position_from (λ byte. byte == SLASH) start path ≡ Some at → IsCutAt start path at
cut_from start [] at found = absurd (cc)
cut_from start (byte ∷ bytes) at found = elim (cases_Bool (byte == SLASH)) [
  | inl slash ↦
      let here : Some start ≡ Some at =
      sym (ap (λ (t : Bool). cond t (Some start) (position_from (λ byte. byte == SLASH) (start + 1) bytes)) slash) ∙ found in
      let same : start ≡ at = cc in record {
        before = 0;
        place = omega arith;
        split = record { text = ap (λ (b : ℕ). b ∷ bytes) (eqb-true byte SLASH slash); whole = refl };
      }
  | inr other ↦
      let later : position_from (λ byte. byte == SLASH) (start + 1) bytes ≡ Some at =
      sym (ap (λ (t : Bool). cond t (Some start) (position_from (λ byte. byte == SLASH) (start + 1) bytes)) other) ∙ found in
      let rest = cut_from (start + 1) bytes at later in record {
        before = suc rest.before;
        place = omega (arith, rest.place);
        split = cons_split byte bytes (take rest.before bytes) (drop (suc rest.before) bytes) other rest.split;
      }
]

none_from : (start : ℕ) (path : List ℕ) → position_from (λ byte. byte == SLASH) start path ≡ None → slashes_in path ≡ 0
none_from start [] none = refl
none_from start (byte ∷ bytes) none = elim (cases_Bool (byte == SLASH)) [
  | inl slash ↦
      let here : Some start ≡ None =
      sym (ap (λ (t : Bool). cond t (Some start) (position_from (λ byte. byte == SLASH) (start + 1) bytes)) slash) ∙ none in
      absurd (cc)
  | inr other ↦
      let later : position_from (λ byte. byte == SLASH) (start + 1) bytes ≡ None =
      sym (ap (λ (t : Bool). cond t (Some start) (position_from (λ byte. byte == SLASH) (start + 1) bytes)) other) ∙ none in
      let rest = none_from (start + 1) bytes later in
      sum_by-cons (λ (b : ℕ). cond (b == SLASH) 1 0) byte bytes ∙ ap (λ (t : Bool). cond t 1 0 + slashes_in bytes) other ∙ omega arith
]

-- the parts before and behind the first slash
pub split_at_slash : (path : List ℕ) (at : ℕ) → position (λ byte. byte == SLASH) path ≡ Some at
    → IsSplit path (take at path) (take (length path - (at + 1)) (drop (at + 1) path))
split_at_slash path at found =
    let cut = cut_from 0 path at (sym (position_from-zero (λ (byte : ℕ). byte == SLASH) path) ∙ found) in
    let same : cut.before ≡ at = omega (arith, cut.place) in
    let P : ℕ → Type 0 = λ k. IsSplit path (take k path) (drop (suc k) path) in
    let Q : List ℕ → Type 0 = λ rest. IsSplit path (take at path) rest in
    let split : IsSplit path (take at path) (drop (suc at) path) = subst P same cut.split in
    let rest : take (length path - (at + 1)) (drop (at + 1) path) ≡ drop (at + 1) path =
    take_all (length path - (at + 1)) (drop (at + 1) path) (omega (arith, length-drop (at + 1) path)) in
    let next : suc at ≡ at + 1 = omega arith in
    subst Q (ap (λ (k : ℕ). drop k path) next ∙ sym rest) split

pub no_slash : (path : List ℕ) → position (λ byte. byte == SLASH) path ≡ None → slashes_in path ≡ 0
no_slash path none = none_from 0 path (sym (position_from-zero (λ (byte : ℕ). byte == SLASH) path) ∙ none)
