-- The pieces of a comma list, and the last byte of a text.
use Rattle.tech_draft.proofs.Common.{Some, None, position, refl, ap, get_or, arith, inl, inr, cases_lt, is_comma, pieces_of}
use Rattle.std.specs.Prelude.{◌≡◌, ◌==◌, ◌+◌, ℕ, Bool, cond, suc, zero, List, [], ◌∷◌, length, take, drop}
use Rattle.std.specs.List.{position_or_len}
use Rattle.std.proofs.lemmas.Bool.{lt-ltb, le-ltb}
use Rattle.std.proofs.lemmas.List.Splits.{slice_split_first, slice_split_none}
use Rattle.std.proofs.lemmas.List.Sums.{fails_before_first}
use Rattle.tech_model.specs.Forms.{ends_in_hash}

-- a text ends in a hash where its last byte is one
pub ends_in_hash-last : (text : List ℕ) (i d : ℕ) → i + 1 ≡ length text → ends_in_hash text ≡ (get_or text i d == 35)
ends_in_hash-last [] i d last = absurd (omega arith)
ends_in_hash-last (byte ∷ []) zero d last = refl
ends_in_hash-last (byte ∷ []) (suc i) d last = absurd (omega arith)
ends_in_hash-last (byte ∷ next ∷ bytes) zero d last = absurd (omega arith)
ends_in_hash-last (byte ∷ next ∷ bytes) (suc i) d last = ends_in_hash-last (next ∷ bytes) i d (omega arith)

-- the first piece ends at the first comma
pub pieces-at : (list : List ℕ) (i : ℕ) → position is_comma list ≡ Some i → pieces_of list ≡ take i list ∷ pieces_of (drop (i + 1) list)
pieces-at list i at =
    elim (cases_lt (position_or_len is_comma list) (length list)) [
      | inl inside ↦
          let found : position is_comma list ≡ Some (position_or_len is_comma list) =
          ap (λ (test : Bool). cond test (Some (position_or_len is_comma list)) None) (lt-ltb _ _ inside) in
          let same : position_or_len is_comma list ≡ i = cc in
          rw (← same) (slice_split_first is_comma list 0 inside)
      | inr past ↦
          let none : position is_comma list ≡ None =
          ap (λ (test : Bool). cond test (Some (position_or_len is_comma list)) None) (le-ltb _ _ past) in
          absurd (cc)
    ]

-- a list without a comma is one piece
pub pieces-one : (list : List ℕ) → position is_comma list ≡ None → pieces_of list ≡ list ∷ []
pieces-one list none =
    elim (cases_lt (position_or_len is_comma list) (length list)) [
      | inl inside ↦
          let found : position is_comma list ≡ Some (position_or_len is_comma list) =
          ap (λ (test : Bool). cond test (Some (position_or_len is_comma list)) None) (lt-ltb _ _ inside) in
          absurd (cc)
      | inr past ↦ slice_split_none is_comma list (λ k d m. fails_before_first is_comma list k d (omega arith))
    ]
