-- What is known of members stays so when more is learned.
use Rattle.tile_members.proofs.Common.{◌≡◌, ℕ, Bool, false, List, [], ◌∷◌, cond, inl, inr, Some, refl, sym, ap, subst, ◌∙◌, slice_get, get}
use Rattle.tile_members.proofs.Common.{cases_Bool, eqb-true, LibraryView, OpenedCells, AddsName, AddsNameOrNone, IsOfMember, same_key, KeepOpened}
use Rattle.std.proofs.Common.{◌&&◌, true, eqb}
use Rattle.finite_sets.proofs.Places.{slice_get-append_left}
use Rattle.tile_members.specs.declared.known_members.KnownMembers.{KnownMembers}
use Rattle.tile_members.specs.steps.KnownMembers.{AreKnown}

-- where names came or not, a name keeps its number
pub name_kept : (old new : List (List ℕ)) (number : ℕ) → AddsNameOrNone old new number → (k : ℕ) (name : List ℕ) → slice_get old k ≡ Some name
    → slice_get new k ≡ Some name
name_kept old new number (inl same) k name is = subst (λ (names : List (List ℕ)). slice_get names k ≡ Some name) (sym same) is
name_kept old new number (inr (added, same, at)) k name is =
    subst (λ (names : List (List ℕ)). slice_get names k ≡ Some name) (sym same) (slice_get-append_left old (added ∷ []) k name is)

-- a name that is added comes or not
pub added_or_none : (old new : List (List ℕ)) (name : List ℕ) (number : ℕ) → AddsName old new name number → AddsNameOrNone old new number
added_or_none old new name number adds = elim adds.added [ inl same ↦ inl same | inr more ↦ inr (name, more.0, more.1) ]

-- what is known of a member stays so with more names
of_member_kept : (view : LibraryView) (cell : ℕ) (opened : OpenedCells) (old new : List (List ℕ)) (added : ℕ) (key : ℕ × ℕ) (number : ℕ)
    → AddsNameOrNone old new added → IsOfMember view cell opened old key number → IsOfMember view cell opened new key number
of_member_kept view cell opened old new added key number adds is = record {
  standing = is.standing;
  stands = is.stands;
  of = is.of;
  is_open = is.is_open;
  node = is.node;
  node_there = is.node_there;
  name = is.name;
  name_there = name_kept old new added adds number is.name is.name_there;
  leads = is.leads;
}

-- and when more cells are open
pub known_kept : (view : LibraryView) (cell : ℕ) (old new : OpenedCells) (known : KnownMembers) → KeepOpened old new → AreKnown view cell old known
    → AreKnown view cell new known
known_kept view cell old new known keep are = record {
  indexed = are.indexed;
  each = λ key number is.
      let of = are.each key number is in
      record {
        standing = of.standing;
        stands = of.stands;
        of = of.of;
        is_open = keep of.standing.own.cell of.of of.is_open;
        node = of.node;
        node_there = of.node_there;
        name = of.name;
        name_there = of.name_there;
        leads = of.leads;
      };
}

-- keys that pass the test are one
one_key : (a b : ℕ × ℕ) → same_key a b ≡ true → a ≡ b
one_key a b same = λ i. (eqb-true a.0 b.0 (first (eqb a.0 b.0) (eqb a.1 b.1) same) i, eqb-true a.1 b.1 (second (eqb a.0 b.0) (eqb a.1 b.1) same) i)
  where
    first : (p q : Bool) → (p && q) ≡ true → p ≡ true
    first true q both = refl
    first false q both = both

    second : (p q : Bool) → (p && q) ≡ true → q ≡ true
    second true q both = both
    second false q both = absurd (cc)

-- a node more is known
pub known_more : (view : LibraryView) (cell : ℕ) (opened : OpenedCells) (old new : KnownMembers) (key : ℕ × ℕ) (added : ℕ) → AreKnown view cell opened old
    → new.index ≡ new.names.items → AddsNameOrNone old.names.items new.names.items added
    → ((other : ℕ × ℕ) → get same_key new.numbers other ≡ cond (same_key key other) (Some added) (get same_key old.numbers other))
    → IsOfMember view cell opened new.names.items key added → AreKnown view cell opened new
known_more view cell opened old new key added are indexed adds updates is = record {
  indexed = indexed;
  each = λ other number there. elim (cases_Bool (same_key key other)) [
    | inl same ↦
        let found : Some added ≡ Some number =
        sym (ap (λ (t : Bool). cond t (Some added) (get same_key old.numbers other)) same) ∙ sym (updates other) ∙ there in
        let number_is : added ≡ number = cc in
        subst (λ (n : ℕ). IsOfMember view cell opened new.names.items other n) number_is
        (subst (λ (k : ℕ × ℕ). IsOfMember view cell opened new.names.items k added) (one_key key other same) is)
    | inr apart ↦
        let before : get same_key old.numbers other ≡ Some number =
        sym (ap (λ (t : Bool). cond t (Some added) (get same_key old.numbers other)) apart) ∙ sym (updates other) ∙ there in
        of_member_kept view cell opened old.names.items new.names.items added other number adds (are.each other number before)
  ];
}
