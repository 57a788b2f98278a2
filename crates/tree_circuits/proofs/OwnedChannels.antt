-- A channel of the flat layout of a clean cell has one owner, and own channels are channels of the flat layout with the same roles beside
-- them.
use Rattle.tree_circuits.proofs.Common.{◌≡◌, ◌==◌, ℕ, zero, suc, Bool, List, [], ◌∷◌, map, Option, if◌then◌else◌, inl, inr, refl, sym, ◌∙◌, ap}
use Rattle.tree_circuits.proofs.Common.{subst, arith, eq-eqb, IsTrue, Some, slice_get, In, In-map, In-slice_get, RawTech, is_channel, KeepsRules}
use Rattle.tree_circuits.proofs.Common.{IsWellFormed, Place, AreNeighbours, own_types, role_of, flat_layout, NamedTree, NamedStanding, layouts_of}
use Rattle.tree_circuits.proofs.Common.{named_standings, place_forth, back_from_above, neighbours_above, OwnsItsChannels}
use Rattle.std.proofs.Common.{◌≢◌}
use Rattle.std.proofs.Common.{ne_eqb}
use Rattle.std.specs.Prelude.{None}
use Rattle.std.proofs.lemmas.Bool.{cases_eq}
use Rattle.tree_names.specs.LayoutModel.LayerTypes.{or_space}
use Rattle.tree_names.specs.LayoutModel.FlatSets.{IsTyped, flat_sets}
use Rattle.tree_names.specs.Offences.Offences.{is_exactly, joined_at}
use Rattle.tree_names.specs.HierarchyModel.CleanCells.{IsClean}
use Rattle.tree_names.specs.HierarchyModel.Laws.{own_pairs, times}
use Rattle.tree_names.proofs.HierarchyModel.CleanLaws.{has_flat_type, own_count}
use Rattle.tree_names.proofs.HierarchyModel.RoleLaws.{roles_kept}
use Rattle.tree_circuits.specs.Channels.{HasOneOwner}
use Rattle.tree_circuits.proofs.StandingTypes.{pairs_of_standings, type_at, types_at, types_of_standings}

-- ---- what stands once in a list

-- what one thing adds to a count: one where it is the one counted, and else nothing
counts_one : (a b : ℕ) → a ≡ b → ◌≡◌ {A = ℕ} (if a == b then 1 else 0) 1
counts_one a b same = ap (λ (test : Bool). if test then 1 else 0) (eq-eqb a b same)

counts_none : (a b : ℕ) → a ≢ b → ◌≡◌ {A = ℕ} (if a == b then 1 else 0) 0
counts_none a b differ = ap (λ (test : Bool). if test then 1 else 0) (ne_eqb a b differ)

-- what stands in a list stands there some times
some_times : (kind : ℕ) (kinds : List ℕ) → In kind kinds → times kind kinds ≡ 0 → ⊥
some_times kind [] here none = here
some_times kind (other ∷ kinds) (inl same) none =
    omega (arith, counts_one other kind same, none)
some_times kind (other ∷ kinds) (inr later) none = some_times kind kinds later (omega (arith, none))

-- The thing at this position, and no other, has the number.
record IsOnly {X : Type 0} (f : X → ℕ) (xs : List X) (number : ℕ) : Type 0 where
  position : ℕ
  thing : X
  there : slice_get xs position ≡ Some thing
  is : f thing ≡ number
  alone : (k : ℕ) (x : X) → slice_get xs k ≡ Some x → f x ≡ number → k ≡ position

-- a number that stands once among those of a list is that of one thing
only_one : {X : Type 0} (f : X → ℕ) (xs : List X) (number : ℕ) → times number (map f xs) ≡ 1 → IsOnly f xs number
only_one f [] number once = absurd (omega (arith, once))
only_one f (x ∷ xs) number once = elim (cases_eq (f x) number) [
  | inl same ↦
      let none : times number (map f xs) ≡ 0 = omega (arith, counts_one (f x) number same, once) in
      record {
        position = 0;
        thing = x;
        there = refl;
        is = same;
        alone = elim [
          | zero ↦ λ y is has. refl
          | suc k ↦ λ y is has. absurd
              (some_times number (map f xs) (subst (λ (n : ℕ). In n (map f xs)) has (In-map f y xs (In-slice_get xs k y is))) none)
        ];
      }
  | inr differ ↦
      let found = only_one f xs number (omega (arith, counts_none (f x) number differ, once)) in
      record {
        position = suc found.position;
        thing = found.thing;
        there = found.there;
        is = found.is;
        alone = elim [
          | zero ↦ λ y is has. absurd (let same : x ≡ y = cc in differ (ap f same ∙ has))
          | suc k ↦ λ y is has. ap (λ (n : ℕ). suc n) (found.alone k y is has)
        ];
      }
]

-- a type that is defined
defined_is : (found : Option ℕ) → found ≢ None → found ≡ Some (or_space found)
defined_is None some = absurd (some refl)
defined_is (Some kind) some = refl

-- ---- channels

module _ (raw : RawTech) (formed : IsWellFormed raw) (rules : KeepsRules raw) (tree : NamedTree) (typed : IsTyped raw (layouts_of tree))
    (clean : IsClean raw (layouts_of tree)) where
  -- the flat type is defined, and the flat layout has it
  flat_is : (place : Place) → joined_at raw (flat_sets raw (layouts_of tree)) place ≡ Some (flat_layout raw tree place)
  flat_is place = defined_is (joined_at raw (flat_sets raw (layouts_of tree)) place) (has_flat_type raw (layouts_of tree) clean place)

  -- how often a channel's type is an own type at a place
  count_is : (place : Place) (fet : ℕ) → IsTrue (is_channel raw fet)
      → times fet (own_types (layouts_of tree) place) ≡ (if flat_layout raw tree place == fet then 1 else 0)
  count_is place fet channel =
      own_count raw formed rules (layouts_of tree) typed clean place fet channel
      ∙ ap (λ (found : Option ℕ). if is_exactly fet found then 1 else 0) (flat_is place)

  -- an own channel is the flat type
  own_is_flat : (standing : NamedStanding) → In standing (named_standings tree) → (place : Place)
      → IsTrue (is_channel raw (standing.own.layout place))
      → flat_layout raw tree (place_forth standing.placed place) ≡ standing.own.layout place
  own_is_flat standing stands place channel =
      let there = place_forth standing.placed place in
      let fet = standing.own.layout place in
      let back : type_at there standing ≡ fet = ap standing.own.layout (back_from_above standing.placed place) in
      let here : In fet (own_types (layouts_of tree) there) =
      subst (λ (kinds : List ℕ). In fet kinds) (sym (types_of_standings tree there))
      (subst (λ (kind : ℕ). In kind (map (type_at there) (named_standings tree))) back
      (In-map (type_at there) standing (named_standings tree) stands)) in
      elim (cases_eq (flat_layout raw tree there) fet) [
        | inl same ↦ same
        | inr differ ↦ absurd (some_times fet (own_types (layouts_of tree) there) here
            (count_is there fet channel ∙ counts_none (flat_layout raw tree there) fet differ))
      ]

  -- beside an own channel the flat type has the role of the own type
  own_role_kept : (standing : NamedStanding) → In standing (named_standings tree) → (place beside : Place) → AreNeighbours place beside
      → IsTrue (is_channel raw (standing.own.layout place))
      → role_of raw (standing.own.layout place) (Some (flat_layout raw tree (place_forth standing.placed beside)))
      ≡ role_of raw (standing.own.layout place) (Some (standing.own.layout beside))
  own_role_kept standing stands place beside near channel =
      let placed = standing.placed in
      let there = place_forth placed place in
      let next = place_forth placed beside in
      let here : In (types_at there next standing) (own_pairs (layouts_of tree) there next) =
      subst (λ (pairs : List (ℕ × ℕ)). In (types_at there next standing) pairs) (sym (pairs_of_standings tree there next))
      (In-map (types_at there next) standing (named_standings tree) stands) in
      let first : type_at there standing ≡ standing.own.layout place = ap standing.own.layout (back_from_above placed place) in
      let second : type_at next standing ≡ standing.own.layout beside = ap standing.own.layout (back_from_above placed beside) in
      let kept = roles_kept raw formed rules (layouts_of tree) typed clean there next (neighbours_above placed place beside near)
      (types_at there next standing) here (subst (λ (kind : ℕ). IsTrue (is_channel raw kind)) (sym first) channel) in
      ap (role_of raw (standing.own.layout place)) (sym (flat_is next))
      ∙ ap (λ (kind : ℕ). role_of raw kind (joined_at raw (flat_sets raw (layouts_of tree)) next)) (sym first)
      ∙ kept
      ∙ ap (λ (kind : ℕ). role_of raw kind (Some (type_at next standing))) first
      ∙ ap (λ (kind : ℕ). role_of raw (standing.own.layout place) (Some kind)) second

  -- a channel of the flat layout is one cell's, as it stands
  one_owner : (place : Place) → IsTrue (is_channel raw (flat_layout raw tree place)) → HasOneOwner raw tree place
  one_owner place channel =
      let fet = flat_layout raw tree place in
      let once : times fet (map (type_at place) (named_standings tree)) ≡ 1 =
      ap (times fet) (sym (types_of_standings tree place)) ∙ count_is place fet channel ∙ counts_one fet fet refl in
      let found = only_one (type_at place) (named_standings tree) fet once in
      record { position = found.position; standing = found.thing; there = found.there; owns = found.is; alone = found.alone }

  -- channels are owned
  pub owned_channels : OwnsItsChannels raw tree
  owned_channels = record {
    kept = λ position standing there. record {
      same = own_is_flat standing (In-slice_get (named_standings tree) position standing there);
      roles = own_role_kept standing (In-slice_get (named_standings tree) position standing there);
    };
    owned = one_owner;
  }
