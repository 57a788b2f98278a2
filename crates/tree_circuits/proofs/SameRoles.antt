-- What types of one role have in common.
use Rattle.tree_circuits.proofs.Common.{◌≡◌, ◌==◌, ℕ, Bool, true, false, if◌then◌else◌, inl, inr, refl, sym, ◌∙◌, ap, eq-eqb, eqb-true, Some}
use Rattle.tree_circuits.proofs.Common.{cases_Bool, RawTech, is_terminal, role_of}
use Rattle.tree_names.specs.Offences.Roles.{Role}
use Rattle.tree_names.specs.Offences.Roles.Role.{Channel, Other, Terminal}

-- the role by two tests
abbrev role_by : Bool → Bool → Role
role_by same listed = if same then Channel else if listed then Terminal else Other

-- Both tests are the same, the second where it is asked.
record HaveSameTests (same listed next_same next_listed : Bool) : Type 0 where
  both : same ≡ next_same
  others : same ≡ false → listed ≡ next_listed

tests_of_role : (a b c d : Bool) → role_by a b ≡ role_by c d → HaveSameTests a b c d
tests_of_role true b true d same = record { both = refl; others = λ h. absurd (cc) }
tests_of_role true b false true same = absurd (cc)
tests_of_role true b false false same = absurd (cc)
tests_of_role false true true d same = absurd (cc)
tests_of_role false false true d same = absurd (cc)
tests_of_role false true false true same = record { both = refl; others = λ h. refl }
tests_of_role false false false false same = record { both = refl; others = λ h. refl }
tests_of_role false true false false same = absurd (cc)
tests_of_role false false false true same = absurd (cc)

-- where one of two types of one role is the channel's, the other is
pub same_channel : (raw : RawTech) (fet a b : ℕ) → role_of raw fet (Some a) ≡ role_of raw fet (Some b) → a ≡ fet → b ≡ fet
same_channel raw fet a b same is =
    let tests = tests_of_role (a == fet) (is_terminal raw fet a) (b == fet) (is_terminal raw fet b) same in
    eqb-true b fet (sym tests.both ∙ eq-eqb a fet is)

-- types of one role are terminals both, or neither is
pub same_terminal : (raw : RawTech) (fet a b : ℕ) → role_of raw fet (Some a) ≡ role_of raw fet (Some b)
    → is_terminal raw fet a ≡ is_terminal raw fet b
same_terminal raw fet a b same =
    let tests = tests_of_role (a == fet) (is_terminal raw fet a) (b == fet) (is_terminal raw fet b) same in
    elim (cases_Bool (a == fet)) [
      | inl channel ↦
          let first : a ≡ fet = eqb-true a fet channel in
          let second = same_channel raw fet a b same first in
          ap (is_terminal raw fet) (first ∙ sym second)
      | inr other ↦ tests.others other
    ]
