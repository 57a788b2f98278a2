-- Words that are indices, and the parts of paths whose first names have two.
use Rattle.std.specs.Prelude.{◌≡◌, ℕ, ℤ, IsTrue, List, ◌∷◌}
use Rattle.std.specs.Int.{w32}
use Rattle.std.specs.Int.RustNames.{FitsSigned}
use Rattle.text_scan.specs.Decimal.{decimal}
use Rattle.ext_model.specs.declared.names.TheConstants.{SLASH}
use Rattle.ext_model.specs.ElementNames.{is_use_id}
use Rattle.ext_model.specs.Plain.{before, behind}

-- The word is the decimal text of a number of 32 bits with sign.
pub record IsIndexText (word : List ℕ) : Type 0 where
  pub index : ℤ
  pub fits : FitsSigned w32 index
  pub text : word ≡ decimal index

-- What is before the opening bracket is an id, what is before and behind the comma is an index each, and a slash is behind the closing bracket.
pub record HasIndexParts (path : List ℕ) : Type 0 where
  pub id : IsTrue (is_use_id (before 91 path))
  pub first : IsIndexText (before 44 (behind 91 path))
  pub second : IsIndexText (before 93 (behind 44 (behind 91 path)))
  pub rest : List ℕ
  pub slash : behind 93 (behind 44 (behind 91 path)) ≡ SLASH ∷ rest
