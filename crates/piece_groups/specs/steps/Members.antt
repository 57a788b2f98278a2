-- Members in the order of their names, each with its mark.
use Rattle.std.specs.Prelude.{◌≡◌, ℕ, Some, List, ◌∷◌, AllPairs, length, map, slice_get, slice_index}
use Rattle.std.specs.declared.cmp.Ordering.{Ordering}
use Rattle.std.specs.Cmp.Lexicographic.{slice_cmp}
use Rattle.std.specs.Ordering.{nat_cmp}
use Rattle.finite_sets.specs.Lists.{In}
use Rattle.ext_model.specs.NameOrder.{kind_rank}
use Rattle.meeting_sums.specs.TreeRecords.FetRecords.{IsNameBefore}
use Rattle.piece_groups.specs.declared.members.Member.{Member}

-- the names of members
abbrev pub names_of : List Member → List (List ℕ)
names_of members = map (λ member. member.name.now) members

-- the marks of members
abbrev pub marks_of : List Member → List ℕ
marks_of members = map (λ member. member.mark) members

-- the numbers by which members are compared
abbrev pub member_rank : Member → List ℕ
member_rank member = kind_rank member.kind ∷ member.slashes ∷ length member.name.now ∷ member.name.now

-- which of two members stands first
unfoldable pub member_cmp : Member → Member → Ordering
member_cmp a b = slice_cmp nat_cmp (member_rank a) (member_rank b)

-- The member has the name and the mark that stand at one number.
pub record IsMemberAt (names : List (List ℕ)) (marks : List ℕ) (member : Member) (number : ℕ) : Type 0 where
  pub named : slice_get names number ≡ Some member.name.now
  pub marked : slice_index marks number ≡ member.mark

-- They are the members with these names and marks, in the order of their names.
pub record AreMembers (names : List (List ℕ)) (marks : List ℕ) (members : List Member) : Type 0 where
  pub in_order : AllPairs (λ a b. IsNameBefore a.name.now b.name.now) members
  pub each : (member : Member) → In member members → (number : ℕ) × IsMemberAt names marks member number
  pub whole : (number : ℕ) (name : List ℕ) → slice_get names number ≡ Some name → (member : Member) × In member members × IsMemberAt names marks member number
