-- The parts of the name of an element of an array.
use Rattle.std.specs.Prelude.{◌≡◌, ◌==◌, ℕ, ℤ, Bool, IsTrue, List}
use Rattle.std.specs.Int.{w32}
use Rattle.std.specs.Int.RustNames.{FitsSigned}
use Rattle.text_scan.specs.Decimal.{decimal}
use Rattle.ext_model.specs.ElementNames.{is_use_id, indexed_name}

-- the byte is this one
abbrev pub is_byte : ℕ → ℕ → Bool
is_byte mark byte = byte == mark

-- The word is the shortest decimal form of a number of 32 bits with sign.
pub record IsIndexText (word : List ℕ) (z : ℤ) : Type 0 where
  pub fits : FitsSigned w32 z
  pub text : word ≡ decimal z

-- The name is this id with these two indices.
pub record ArePartsOf (name id : List ℕ) (i j : ℤ) : Type 0 where
  pub id_form : IsTrue (is_use_id id)
  pub i_fits : FitsSigned w32 i
  pub j_fits : FitsSigned w32 j
  pub text : name ≡ indexed_name id i j
