-- The places of groups and members have material in the flat layout.
use Rattle.tree_circuits.proofs.Common.{◌≡◌, ◌⊎◌, ℕ, List, inl, inr, refl, sym, ◌∙◌, subst, ap, stay, go, RawTech, KeepsRules, IsWellFormed}
use Rattle.tree_circuits.proofs.Common.{IsMaterial, Place, place_back, AreOneNamedNode, flat_layout, AreOneGroup, IsGroupName, IsMemberAt}
use Rattle.tree_circuits.proofs.Common.{IsMemberBelow, NamedTree, NamedElements, OwnBody, place_forth, named_tree, no_more, element_then}
use Rattle.tree_circuits.proofs.Common.{above_from_back, IsCleanTree, AreCleanTrees, clean_below, clean_first, clean_rest}
use Rattle.finite_sets.specs.Chain.{Chain}
use Rattle.tree_names.proofs.Names.AttachLaws.{suits_material}
use Rattle.tree_names.specs.TreeRecords.MemberGroups.{AreOneGroupBelow}
use Rattle.tree_names.proofs.LiftedLinks.{StandBelow, below_stands, material_up, own_fits}

-- where each step stays, or has the fact at both ends, so has each way
same_or_both : {X : Type 0} {R : X → X → Type 0} (P : X → Type 0) → ((a b : X) → R a b → (a ≡ b) ⊎ (P a × P b)) → {a b : X} → Chain R a b
    → (a ≡ b) ⊎ (P a × P b)
same_or_both P each stay = inl refl
same_or_both {X} P each (go {a = a} {b = b} {c = c} step way) = elim (each a b step) [
  | inl same ↦ let Q : X → Type 0 = λ x. (x ≡ c) ⊎ (P x × P c) in subst Q (sym same) (same_or_both P each way)
  | inr both ↦ elim (same_or_both P each way) [
    | inl same ↦ inr (both.0, subst P same both.1)
    | inr others ↦ inr (both.0, others.1)
  ]
]

-- Some element's flat layout, as it stands, has material at the place.
abbrev IsMaterialBelow : RawTech → NamedElements → Place → Type 0
IsMaterialBelow raw no_more place = ⊥
IsMaterialBelow raw (element_then id placed tree rest) place =
    IsMaterial (flat_layout raw tree) (place_back placed place) ⊎ IsMaterialBelow raw rest place

module _ (raw : RawTech) (well : IsWellFormed raw) (rules : KeepsRules raw) where
  -- where the own layout of a clean cell has material, the flat layout has
  own_material : (own : OwnBody) (elements : NamedElements) → IsCleanTree raw (named_tree own elements) → (place : Place)
      → IsMaterial own.layout place → IsMaterial (flat_layout raw (named_tree own elements)) place
  own_material own elements is place material =
      material_up raw well rules own.layout (flat_layout raw (named_tree own elements)) (λ p. p)
      (own_fits raw well rules own elements is.typed is.clean) place material

  -- and where an element's flat layout has
  stands_material : (whole : NamedTree) (elements : NamedElements) → StandBelow raw whole elements → (place : Place)
      → IsMaterialBelow raw elements place → IsMaterial (flat_layout raw whole) place
  stands_material whole no_more stand place none = absurd none
  stands_material whole (element_then id placed tree rest) stand place (inl here) =
      subst (IsMaterial (flat_layout raw whole)) (above_from_back placed place)
      (material_up raw well rules (flat_layout raw tree) (flat_layout raw whole) (place_forth placed) stand.0.fits (place_back placed place) here)
  stands_material whole (element_then id placed tree rest) stand place (inr later) = stands_material whole rest stand.1 place later

  material_below : (own : OwnBody) (elements : NamedElements) → IsCleanTree raw (named_tree own elements) → (place : Place)
      → IsMaterialBelow raw elements place → IsMaterial (flat_layout raw (named_tree own elements)) place
  material_below own elements is place material =
      stands_material (named_tree own elements) elements (below_stands raw well rules own elements is.clean) place material

  -- two different places of one own node have material
  own_places : (own : OwnBody) (a b : Place) → AreOneNamedNode raw own.layout own.labels a b
      → (a ≡ b) ⊎ (IsMaterial own.layout a × IsMaterial own.layout b)
  own_places own a b joined =
      same_or_both (IsMaterial own.layout) (λ c d step. elim step [
        | inl link ↦ inr (link.here, link.there)
        | inr share ↦ inr (
          suits_material raw own.layout _ c well share.here.names.attaches.least.0,
          suits_material raw own.layout _ d well share.there.names.attaches.least.0,
        )
      ]) joined

  mutual
    -- two different places of one group have material
    group_places : (tree : NamedTree) → IsCleanTree raw tree → (a b : Place) → AreOneGroup raw tree a b
        → (a ≡ b) ⊎ (IsMaterial (flat_layout raw tree) a × IsMaterial (flat_layout raw tree) b)
    group_places (named_tree own elements) is a b joined =
        same_or_both (IsMaterial (flat_layout raw (named_tree own elements))) (λ c d step. elim step [
          | inl link ↦ inr (link.here, link.there)
          | inr (inl named) ↦ elim (own_places own c d named) [
            | inl same ↦ inl same
            | inr both ↦ inr (own_material own elements is c both.0, own_material own elements is d both.1)
          ]
          | inr (inr below) ↦ elim (group_places_below elements (clean_below raw own elements is) c d below) [
            | inl same ↦ inl same
            | inr both ↦ inr (material_below own elements is c both.0, material_below own elements is d both.1)
          ]
        ]) joined

    group_places_below : (elements : NamedElements) → AreCleanTrees raw elements → (a b : Place)
        → AreOneGroupBelow raw elements a b → (a ≡ b) ⊎ (IsMaterialBelow raw elements a × IsMaterialBelow raw elements b)
    group_places_below no_more are a b none = absurd none
    group_places_below (element_then id placed tree rest) are a b (inl here) =
        elim (group_places tree (clean_first raw id placed tree rest are) (place_back placed a) (place_back placed b) here) [
          | inl same ↦ inl (sym (above_from_back placed a) ∙ ap (place_forth placed) same ∙ above_from_back placed b)
          | inr both ↦ inr (inl both.0, inl both.1)
        ]
    group_places_below (element_then id placed tree rest) are a b (inr later) =
        elim (group_places_below rest (clean_rest raw id placed tree rest are) a b later) [
          | inl same ↦ inl same
          | inr both ↦ inr (inr both.0, inr both.1)
        ]

  mutual
    -- the place of a member has material
    pub member_place : (tree : NamedTree) → IsCleanTree raw tree → (place : Place) (member : List ℕ) → IsMemberAt raw tree place member
        → IsMaterial (flat_layout raw tree) place
    member_place (named_tree own elements) is place member (inl one) = own_material own elements is place one.material
    member_place (named_tree own elements) is place member (inr below) =
        material_below own elements is place (member_place_below elements (clean_below raw own elements is) place member below)

    member_place_below : (elements : NamedElements) → AreCleanTrees raw elements → (place : Place) (member : List ℕ)
        → IsMemberBelow raw elements place member → IsMaterialBelow raw elements place
    member_place_below no_more are place member none = absurd none
    member_place_below (element_then id placed tree rest) are place member (inl here) =
        inl (named_place tree (clean_first raw id placed tree rest are) (place_back placed place) here.0 here.1)
    member_place_below (element_then id placed tree rest) are place member (inr later) =
        inr (member_place_below rest (clean_rest raw id placed tree rest are) place member later)

    -- the places of a group have material
    pub named_place : (tree : NamedTree) → IsCleanTree raw tree → (place : Place) (name : List ℕ) → IsGroupName raw tree place name
        → IsMaterial (flat_layout raw tree) place
    named_place (named_tree own elements) is place name named =
        elim (group_places (named_tree own elements) is place named.0.0 named.0.1) [
          | inl same ↦ subst (IsMaterial (flat_layout raw (named_tree own elements))) (sym same) (elim named.0.2 [
            | inl one ↦ own_material own elements is named.0.0 one.material
            | inr below ↦ material_below own elements is named.0.0
                (member_place_below elements (clean_below raw own elements is) named.0.0 name below)
          ])
          | inr both ↦ both.0
        ]
