-- The name of a draft's technology.
use Rattle.tech_file.proofs.Common.{◌≡◌, ◌≢◌, ◌⊎◌, inl, inr, ℕ, List, [], refl, Option, Some, None, Drafted}
use Rattle.std.specs.Prelude.{IsTrue, IsNone}
use Rattle.text_scan.specs.PlainNames.{is_plain_name}
use Rattle.tech_draft.specs.Finished.{finished}

-- putting the sets in keeps the name
pub finished_name : (draft : Drafted) → (finished draft).name ≡ draft.raw.name
unfolding finished
finished_name draft = refl

-- a name that is empty or plain, and is not empty
pub plain_if_some : (name : List ℕ) → (name ≡ []) ⊎ IsTrue (is_plain_name name) → name ≢ [] → IsTrue (is_plain_name name)
plain_if_some name (inl empty) some = absurd (some empty)
plain_if_some name (inr plain) some = plain

-- what is none is not there
pub none_is : {X : Type 0} (found : Option X) → found ≡ None → IsNone found
none_is None e = refl
none_is (Some x) e = absurd (let no : ⊥ = cc in no)
