-- Members one after the other, and then in the order of their names.
use Rattle.piece_groups.proofs.Common.{◌≡◌, ◌≢◌, ◌<◌, ◌≤◌, ◌+◌, ℕ, false, List, [], ◌∷◌, ◌++◌, Some, length, get_or, inl, inr, refl, sym, ◌∙◌, ap}
use Rattle.piece_groups.proofs.Common.{subst, arith, option_map, slice_cmp, is_lt, ordering_then, length-map, get_or_from_slice_get, slice_get-map}
use Rattle.piece_groups.proofs.Common.{slice_get_within, In, In-map, Pairwise, Pairwise-from_AllPairs, AllPairs-from_Pairwise, In-slice_get}
use Rattle.piece_groups.proofs.Common.{slice_get-In, slice_get-below, IsNameBefore, Member, names_of, marks_of}
use Rattle.std.proofs.Common.{take}
use Rattle.std.specs.Prelude.{slice_get, IsPermutation, IsSorted}
use Rattle.std.specs.Cmp.{IsTotalOrder}
use Rattle.std.specs.declared.cmp.Ordering.{Ordering}
use Rattle.std.specs.declared.cmp.Ordering.TheVariants.{Less, Equal, Greater}
use Rattle.std.specs.Ordering.{nat_cmp, ordering_reverse}
use Rattle.std.proofs.lemmas.Cmp.{nat_list_cmp_total, on_total}
use Rattle.std.proofs.lemmas.List.{take_more, take_all, get_or-take, map-append}
use Rattle.std.proofs.lemmas.List.Sorted.{IsPermutation-map, IsPermutation-sym}
use Rattle.finite_sets.specs.Lists.{Distinct}
use Rattle.finite_sets.proofs.Members.{In-permutation, In-push_cases}
use Rattle.finite_sets.proofs.Orders.{IsSorted-pairs}
use Rattle.finite_sets.proofs.Images.{Distinct-permutation}
use Rattle.ext_model.specs.NameOrder.{kind_rank, name_cmp, name_rank}
use Rattle.ext_model.specs.NodeNames.{name_kind, slashes_in}
use Rattle.ext_model.proofs.NameOrders.{name_cmp_total, name_cmp_exact}
use Rattle.piece_groups.specs.steps.Members.{member_cmp, member_rank, IsMemberAt, AreMembers}

pub member_cmp_total : IsTotalOrder member_cmp
unfolding member_cmp
member_cmp_total = on_total member_rank nat_list_cmp_total

-- The member is compared as its name is.
abbrev pub IsRanked : Member → Type 0
IsRanked member = member_rank member ≡ name_rank member.name.now

-- a member of what the order asks of its name is compared so
pub member_ranked : (member : Member) (name : List ℕ) → member.name.now ≡ name → member.kind ≡ name_kind name → member.slashes ≡ slashes_in name
    → IsRanked member
member_ranked member name named kind slashes =
    let same_kind : member.kind ≡ name_kind member.name.now = kind ∙ ap name_kind (sym named) in
    let same_slashes : member.slashes ≡ slashes_in member.name.now = slashes ∙ ap slashes_in (sym named) in
    λ i. kind_rank (same_kind i) ∷ same_slashes i ∷ length member.name.now ∷ member.name.now

-- These are the members with the names and marks below this number, one after the other.
pub record AreCollected (names : List (List ℕ)) (marks : List ℕ) (number : ℕ) (members : List Member) : Type 0 where
  pub ranked : (member : Member) → In member members → IsRanked member
  pub names_are : names_of members ≡ take number names
  pub marks_are : marks_of members ≡ take number marks

pub collected_none : (names : List (List ℕ)) (marks : List ℕ) (members : List Member) → members ≡ [] → AreCollected names marks 0 members
collected_none names marks members none = record {
  ranked = λ member among. absurd (subst (In member) none among);
  names_are = ap names_of none;
  marks_are = ap marks_of none;
}

pub collected_more : (names : List (List ℕ)) (marks : List ℕ) (number : ℕ) (members later : List Member) (member : Member)
    (d : List ℕ) → length names ≤ length marks → number < length names → member.name.now ≡ get_or names number d → member.mark ≡ get_or marks number 0
    → IsRanked member → later ≡ members ++ member ∷ [] → AreCollected names marks number members → AreCollected names marks (number + 1) later
collected_more names marks number members later member d enough within name mark is_ranked is so_far = record {
  ranked = λ other among. elim (In-push_cases other members member (subst (In other) is among)) [
    | inl before ↦ so_far.ranked other before
    | inr same ↦ subst IsRanked same is_ranked
  ];
  names_are = ap names_of is ∙ map-append (λ (m : Member). m.name.now) members (member ∷ [])
      ∙ (λ i. so_far.names_are i ++ name i ∷ []) ∙ sym (take_more names number d within);
  marks_are = ap marks_of is ∙ map-append (λ (m : Member). m.mark) members (member ∷ [])
      ∙ (λ i. so_far.marks_are i ++ mark i ∷ []) ∙ sym (take_more marks number 0 (omega arith));
}

module _ (names : List (List ℕ)) (marks : List ℕ) (number : ℕ) (members : List Member) (enough : length names ≤ length marks)
    (past : length names ≤ number) (within : number ≤ length names) (are : AreCollected names marks number members) where
  all_names : names_of members ≡ names
  all_names = are.names_are ∙ take_all number names past

  -- what stands where, once all are collected
  member_at : (k : ℕ) (member : Member) → slice_get members k ≡ Some member → IsMemberAt names marks member k
  member_at k member at =
      let name_of = λ (m : Member). m.name.now in
      let mark_of = λ (m : Member). m.mark in
      let mark : get_or (marks_of members) k 0 ≡ member.mark =
      get_or_from_slice_get (marks_of members) k member.mark 0 (slice_get-map mark_of members k ∙ ap (option_map mark_of) at) in
      let below : k < number = omega (arith, slice_get_within members k member at, length-map members name_of, ap length all_names) in record {
        named = ap (λ (list : List (List ℕ)). slice_get list k) (sym all_names) ∙ slice_get-map name_of members k ∙ ap (option_map name_of) at;
        marked = sym (get_or-take number marks k 0 below) ∙ ap (λ (list : List ℕ). get_or list k 0) (sym are.marks_are) ∙ mark;
      }

  -- the member with a name
  named_member : (k : ℕ) (name : List ℕ) → slice_get names k ≡ Some name → (member : Member) × (slice_get members k ≡ Some member)
  named_member k name at =
      slice_get-below members k
      (omega (arith, slice_get_within names k name at, length-map members (λ (m : Member). m.name.now), ap length all_names))

-- two names that differ, of which the second doesn't stand first
name_before : (a b : List ℕ) → is_lt (name_cmp b a) ≡ false → a ≢ b → IsNameBefore a b
name_before a b no_later differ = by (name_cmp a b) (name_cmp b a) (name_cmp_total.antisymm a b) no_later (λ tied. differ (name_cmp_exact a b tied)) where
  by : (there back : Ordering) → there ≡ ordering_reverse back → is_lt back ≡ false → (there ≡ Equal → ⊥) → there ≡ Less
  by there Less turned less equal = cc
  by there Equal turned less equal = absurd (equal turned)
  by there Greater turned less equal = turned

-- members that are compared as their names are
by_names : (a b : Member) → IsRanked a → IsRanked b → member_cmp a b ≡ name_cmp a.name.now b.name.now
unfolding member_cmp
by_names a b first second = λ i. slice_cmp nat_cmp (first i) (second i)

-- sorted members with different names stand in the order of their names
strictly_in_order : (members : List Member) → ((member : Member) → In member members → IsRanked member)
    → Pairwise (λ a b. is_lt (member_cmp b a) ≡ false) members → Distinct (names_of members)
    → Pairwise (λ a b. IsNameBefore a.name.now b.name.now) members
strictly_in_order [] ranked sorted once = tt
strictly_in_order (member ∷ members) ranked sorted once = (
  λ other here. name_before member.name.now other.name.now
      (ap is_lt (sym (by_names other member (ranked other (inr here)) (ranked member (inl refl)))) ∙ sorted.0 other here)
      (λ same. once.0 (subst (λ (name : List ℕ). In name (names_of members)) (sym same) (In-map (λ (m : Member). m.name.now) other members here))),
  strictly_in_order members (λ other here. ranked other (inr here)) sorted.1 once.1,
)

-- the members once they are sorted
pub members_all : (names : List (List ℕ)) (marks : List ℕ) (number : ℕ) (members sorted : List Member) → Distinct names → length names ≤ length marks
    → length names ≤ number → number ≤ length names → AreCollected names marks number members → IsPermutation members sorted → IsSorted member_cmp sorted
    → AreMembers names marks sorted
members_all names marks number members sorted once enough past within are moved ordered = record {
  in_order =
      let no_later = IsSorted-pairs member_cmp member_cmp_total sorted ordered in
      AllPairs-from_Pairwise (λ (a b : Member). IsNameBefore a.name.now b.name.now) sorted
      (strictly_in_order sorted
      (λ member here. are.ranked member (In-permutation member sorted members (IsPermutation-sym members sorted moved) here))
      (Pairwise-from_AllPairs (λ a b. is_lt (member_cmp b a) ≡ false) sorted no_later)
      (Distinct-permutation (names_of members) (names_of sorted) (IsPermutation-map (λ (m : Member). m.name.now) members sorted moved)
      (subst Distinct (sym (all_names names marks number members enough past within are)) once)));
  each = λ member here.
      let at = slice_get-In member members (In-permutation member sorted members (IsPermutation-sym members sorted moved) here) in
      (at.0, member_at names marks number members enough past within are at.0 member at.1);
  whole = λ k name at.
      let found = named_member names marks number members enough past within are k name at in (
        found.0,
        In-permutation found.0 members sorted moved (In-slice_get members k found.0 found.1),
        member_at names marks number members enough past within are k found.0 found.1,
      );
}
