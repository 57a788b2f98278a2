-- Names of elements: ids of uses, and behind the ids of arrays two indices.
use Rattle.std.specs.Prelude.{◌≡◌, ◌==◌, ◌&&◌, not, nat_le, ℕ, IsTrue, ℤ, Bool, List, [], ◌∷◌, ◌++◌, length}
use Rattle.std.specs.Int.{w32}
use Rattle.std.specs.Int.RustNames.{FitsSigned}
use Rattle.std.specs.List.{list_all}
use Rattle.text_scan.specs.Decimal.{decimal}
use Rattle.ext_model.specs.declared.limits.TheConstants.{LONGEST_USE_ID}

-- a printing byte other than a blank, `/`, `[`, `]`, `,` and `"`
abbrev pub is_use_id_byte : ℕ → Bool
is_use_id_byte byte =
    nat_le 33 byte && nat_le byte 126 && not (byte == 47) && not (byte == 91) && not (byte == 93) && not (byte == 44) && not (byte == 34)

-- one or more of them, and no more than an id may have
abbrev pub is_use_id : List ℕ → Bool
is_use_id word = nat_le 1 (length word) && nat_le (length word) LONGEST_USE_ID && list_all is_use_id_byte word

-- the name of an element of an array: the use's id, and behind it in brackets its two indices in decimal, with a comma between them
abbrev pub indexed_name : List ℕ → ℤ → ℤ → List ℕ
indexed_name id i j = id ++ 91 ∷ (decimal i ++ 44 ∷ (decimal j ++ 93 ∷ []))

-- The name is an id with two indices of 32 bits with sign.
pub record IsIndexed (name : List ℕ) : Type 0 where
  pub id : List ℕ
  pub i : ℤ
  pub j : ℤ
  pub id_form : IsTrue (is_use_id id)
  pub i_fits : FitsSigned w32 i
  pub j_fits : FitsSigned w32 j
  pub text : name ≡ indexed_name id i j
