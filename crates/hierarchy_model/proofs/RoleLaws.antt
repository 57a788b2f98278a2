-- The roles beside channels in a clean cell are those beside the own types that are the channels.
use Rattle.hierarchy_model.proofs.Common.{◌≡◌, ◌≢◌, ◌⊎◌, ℕ, suc, List, ◌∷◌, inl, inr, refl, ap, ◌∙◌, Some, IsTrue, In, In-append_cases, RawTech}
use Rattle.hierarchy_model.proofs.Common.{KeepsRules, IsWellFormed, is_channel, Place, SetLayout, joined_at, flat_type, HasKind, Offends, OwnCell}
use Rattle.hierarchy_model.proofs.Common.{CellTree, Elements, place_back, own_types, own_types_below, cell_tree, no_elements, element_and, sets_in}
use Rattle.hierarchy_model.proofs.Common.{flat_sets, element_parts, IsTyped, AreTyped, IsClean, AreClean}
use Rattle.std.proofs.Common.{◌++◌, map}
use Rattle.std.proofs.lemmas.List.{map-append}
use Rattle.tech_model.specs.GeoCore.declared.transforms.Transform.{Transform}
use Rattle.tech_model.specs.GeoCore.Images.{inverted}
use Rattle.tech_model.proofs.GeoCore.ImageLaws.{neighbours-image}
use Rattle.offences.specs.LayoutModel.Places.{AreNeighbours}
use Rattle.offences.specs.Roles.{Role, role_of}
use Rattle.offences.specs.Roles.Role.{Channel, Terminal, Other}
use Rattle.hierarchy_model.specs.Laws.{own_pairs, own_pairs_below, RolesAreKept}
use Rattle.hierarchy_model.proofs.KindLaws.{type_in_layout}
use Rattle.hierarchy_model.proofs.CleanLaws.{part_channel, flat_of_parts, first_kind, later_kind}

-- two roles are one, or differ
pub role_cases : (a b : Role) → (a ≡ b) ⊎ (a ≢ b)
role_cases Channel Channel = inl refl
role_cases Channel Terminal = inr (λ same. cc)
role_cases Channel Other = inr (λ same. cc)
role_cases Terminal Channel = inr (λ same. cc)
role_cases Terminal Terminal = inl refl
role_cases Terminal Other = inr (λ same. cc)
role_cases Other Channel = inr (λ same. cc)
role_cases Other Terminal = inr (λ same. cc)
role_cases Other Other = inl refl

-- where a place does not offend, the flat type has beside a part's channel the role that the part's type has
pub part_role : (raw : RawTech) (parts : List SetLayout) (place : Place) → (Offends raw parts place → ⊥)
    → (position fet : ℕ) (has : HasKind raw parts position place fet) → IsTrue (is_channel raw fet) → (beside : Place) → AreNeighbours place beside
    → role_of raw fet (flat_type raw parts beside) ≡ role_of raw fet (joined_at raw has.part beside)
part_role raw parts place fine position fet has channel beside neighbour =
    elim (role_cases (role_of raw fet (flat_type raw parts beside)) (role_of raw fet (joined_at raw has.part beside))) [
      | inl same ↦ same
      | inr differs ↦ absurd (fine (inr (inr (inr (inr (record {
        fet = fet;
        flat = part_channel raw parts place fine position fet has channel;
        channel = channel;
        position = position;
        has = has;
        beside = beside;
        neighbour = neighbour;
        differs = differs;
      }))))))
    ]

-- what is brought back from neighbours are neighbours
pub neighbours_back : (placed : Transform) (a b : Place) → AreNeighbours a b → AreNeighbours (place_back placed a) (place_back placed b)
neighbours_back placed a b neighbour = (neighbour.0, neighbours-image (inverted placed) a.square b.square neighbour.1)

-- A part has the first type at the place, and beside it the role of the second.
record HasRole (raw : RawTech) (parts : List SetLayout) (place beside : Place) (pair : ℕ × ℕ) : Type 0 where
  position : ℕ
  has : HasKind raw parts position place pair.0
  role : role_of raw pair.0 (joined_at raw has.part beside) ≡ role_of raw pair.0 (Some pair.1)

later_role : (raw : RawTech) (first : SetLayout) (parts : List SetLayout) (place beside : Place) (pair : ℕ × ℕ) → HasRole raw parts place beside pair
    → HasRole raw (first ∷ parts) place beside pair
later_role raw first parts place beside pair found = record {
  position = suc found.position;
  has = later_kind raw first parts found.position place pair.0 found.has;
  role = found.role;
}

-- The flat type is the channel, and beside it the flat type has the role of the own type.
record HasFlatRole (raw : RawTech) (tree : CellTree) (place beside : Place) (pair : ℕ × ℕ) : Type 0 where
  flat : joined_at raw (flat_sets raw tree) place ≡ Some pair.0
  role : role_of raw pair.0 (joined_at raw (flat_sets raw tree) beside) ≡ role_of raw pair.0 (Some pair.1)

flat_role : (raw : RawTech) (own : OwnCell) (below : Elements) → IsClean raw (cell_tree own below) → (place beside : Place)
    → AreNeighbours place beside
    → (pair : ℕ × ℕ) → IsTrue (is_channel raw pair.0) → HasRole raw (sets_in raw own.layout ∷ element_parts raw below) place beside pair
    → HasFlatRole raw (cell_tree own below) place beside pair
flat_role raw own below clean place beside neighbour pair channel found =
    let parts = sets_in raw own.layout ∷ element_parts raw below in
    record {
      flat = flat_of_parts raw own below place ∙ part_channel raw parts place (clean.1 place) found.position pair.0 found.has channel;
      role = ap (role_of raw pair.0) (flat_of_parts raw own below beside)
          ∙ part_role raw parts place (clean.1 place) found.position pair.0 found.has channel beside neighbour ∙ found.role;
    }

own_role : (raw : RawTech) → IsWellFormed raw → KeepsRules raw → (own : OwnCell) (below : Elements) → IsTyped raw (cell_tree own below)
    → (place beside : Place) (pair : ℕ × ℕ) → ◌≡◌ {A = ℕ × ℕ} (own.layout place, own.layout beside) pair
    → HasRole raw (sets_in raw own.layout ∷ element_parts raw below) place beside pair
own_role raw formed rules own below typed place beside pair same = record {
  position = 0;
  has = first_kind raw (sets_in raw own.layout) (element_parts raw below) place pair.0
      (type_in_layout raw formed rules own.layout typed.0 place ∙ ap (λ (p : ℕ × ℕ). Some p.0) same);
  role = ap (role_of raw pair.0) (type_in_layout raw formed rules own.layout typed.0 beside ∙ ap (λ (p : ℕ × ℕ). Some p.1) same);
}

mutual
  -- beside an own channel of a clean cell the roles are those of the own types
  own_roles : (raw : RawTech) → IsWellFormed raw → KeepsRules raw → (tree : CellTree) → IsTyped raw tree → IsClean raw tree
      → (place beside : Place) → AreNeighbours place beside → (pair : ℕ × ℕ) → In pair (own_pairs tree place beside) → IsTrue (is_channel raw pair.0)
      → HasFlatRole raw tree place beside pair
  own_roles raw formed rules (cell_tree own below) typed clean place beside neighbour pair (inl same) channel =
      flat_role raw own below clean place beside neighbour pair channel (own_role raw formed rules own below typed place beside pair same)
  own_roles raw formed rules (cell_tree own below) typed clean place beside neighbour pair (inr is) channel =
      flat_role raw own below clean place beside neighbour pair channel
      (later_role raw (sets_in raw own.layout) (element_parts raw below) place beside pair
      (roles_below raw formed rules below typed.1 clean.0 place beside neighbour pair is channel))

  roles_below : (raw : RawTech) → IsWellFormed raw → KeepsRules raw → (elements : Elements) → AreTyped raw elements → AreClean raw elements
      → (place beside : Place) → AreNeighbours place beside → (pair : ℕ × ℕ) → In pair (own_pairs_below elements place beside)
      → IsTrue (is_channel raw pair.0)
      → HasRole raw (element_parts raw elements) place beside pair
  roles_below raw formed rules no_elements typed clean place beside neighbour pair none channel = absurd none
  roles_below raw formed rules (element_and placed tree rest) typed clean place beside neighbour pair is channel =
      elim (In-append_cases pair (own_pairs tree (place_back placed place) (place_back placed beside)) (own_pairs_below rest place beside) is) [
        | inl here ↦
            let found = own_roles raw formed rules tree typed.0 clean.0 (place_back placed place) (place_back placed beside)
            (neighbours_back placed place beside neighbour) pair here channel in
            record {
              position = 0;
              has = first_kind raw (λ p. flat_sets raw tree (place_back placed p)) (element_parts raw rest) place pair.0 found.flat;
              role = found.role;
            }
        | inr later ↦
            later_role raw (λ p. flat_sets raw tree (place_back placed p)) (element_parts raw rest) place beside pair
            (roles_below raw formed rules rest typed.1 clean.1 place beside neighbour pair later channel)
      ]

-- the roles beside channels are kept
pub roles_kept : (raw : RawTech) → IsWellFormed raw → KeepsRules raw → (tree : CellTree) → IsTyped raw tree → IsClean raw tree → RolesAreKept raw tree
roles_kept raw formed rules tree typed clean place beside neighbour pair is channel =
    (own_roles raw formed rules tree typed clean place beside neighbour pair is channel).role

mutual
  -- the first of the pairs are the own types at the first place
  pub own_pairs_first : (tree : CellTree) (place beside : Place) → map (λ (pair : ℕ × ℕ). pair.0) (own_pairs tree place beside) ≡ own_types tree place
  own_pairs_first (cell_tree own below) place beside = ap (λ (kinds : List ℕ). own.layout place ∷ kinds) (own_pairs_below_first below place beside)

  own_pairs_below_first : (elements : Elements) (place beside : Place)
      → map (λ (pair : ℕ × ℕ). pair.0) (own_pairs_below elements place beside) ≡ own_types_below elements place
  own_pairs_below_first no_elements place beside = refl
  own_pairs_below_first (element_and placed tree rest) place beside =
      map-append (λ (pair : ℕ × ℕ). pair.0) (own_pairs tree (place_back placed place) (place_back placed beside)) (own_pairs_below rest place beside)
      ∙ ap (λ (kinds : List ℕ). kinds ++ map (λ (pair : ℕ × ℕ). pair.0) (own_pairs_below rest place beside))
      (own_pairs_first tree (place_back placed place) (place_back placed beside))
      ∙ ap (λ (kinds : List ℕ). own_types tree (place_back placed place) ++ kinds) (own_pairs_below_first rest place beside)

mutual
  -- and the second those at the second
  pub own_pairs_second : (tree : CellTree) (place beside : Place)
      → map (λ (pair : ℕ × ℕ). pair.1) (own_pairs tree place beside) ≡ own_types tree beside
  own_pairs_second (cell_tree own below) place beside = ap (λ (kinds : List ℕ). own.layout beside ∷ kinds) (own_pairs_below_second below place beside)

  own_pairs_below_second : (elements : Elements) (place beside : Place)
      → map (λ (pair : ℕ × ℕ). pair.1) (own_pairs_below elements place beside) ≡ own_types_below elements beside
  own_pairs_below_second no_elements place beside = refl
  own_pairs_below_second (element_and placed tree rest) place beside =
      map-append (λ (pair : ℕ × ℕ). pair.1) (own_pairs tree (place_back placed place) (place_back placed beside)) (own_pairs_below rest place beside)
      ∙ ap (λ (kinds : List ℕ). kinds ++ map (λ (pair : ℕ × ℕ). pair.1) (own_pairs_below rest place beside))
      (own_pairs_second tree (place_back placed place) (place_back placed beside))
      ∙ ap (λ (kinds : List ℕ). own_types tree (place_back placed beside) ++ kinds) (own_pairs_below_second rest place beside)
