-- The squares of a list's types are those that its pieces have, so they violate the same rules.
use Rattle.drc_check.proofs.Common.{◌≡◌, ◌==◌, inl, inr, ℕ, ℤ, true, List, refl, sym, ap, subst, ◌∙◌, eqb-true, eq-eqb, Some, filter, list_any}
use Rattle.drc_check.proofs.Common.{and_from, and_parts, In, In-filter, In-filter_passes, In-filter_source, In-map_source, list_any-passes, Square}
use Rattle.drc_check.proofs.Common.{Rect, Covers, IsInUnion, RawTech, TypeId, CellTree, flat_sets, joined_at, on_plane, Rule, RuleKind, ListedPiece}
use Rattle.drc_check.proofs.Common.{areas_of_list, is_of_list, ViolatesIn, IsListedType, AreListedPieces, IsListedAt, ViolatesBy}
use Rattle.finite_sets.proofs.Members.{In-map}
use Rattle.finite_sets.proofs.Searches.{list_any-source}
use Rattle.square_sets.specs.Boxes.{LiesInBox}
use Rattle.drc_rules.specs.declared.rules.RuleKind.TheVariants.{Separation, Spacing, Width}
use Rattle.drc_check.specs.Violations.{IsOfList, Violates}

-- ---- sets with the same squares

-- a box in one set lies in another that has its squares
box_in_more : (S T : Square → Type 0) → ((square : Square) → S square → T square) → (d : ℤ) (square : Square) → LiesInBox S d square → LiesInBox T d square
box_in_more S T more d square box = record { corner = box.corner; covers = box.covers; within = λ other covers. more other (box.within other covers) }

-- where sets have the same squares, the same squares violate a rule
violates_alike : (kind : RuleKind) (First Second First' Second' : Square → Type 0) → ((square : Square) → First square → First' square)
    → ((square : Square) → First' square → First square) → ((square : Square) → Second square → Second' square) → (d : ℤ) (square : Square)
    → ViolatesBy kind First Second d square → ViolatesBy kind First' Second' d square
violates_alike Width First Second First' Second' more less more' d square is =
    (more square is.0, λ box. is.1 (box_in_more First' First less d square box))
violates_alike Spacing First Second First' Second' more less more' d square is = (
  λ inside. is.0 (less square inside),
  λ box. is.1 (box_in_more (λ s. First' s → ⊥) (λ s. First s → ⊥) (λ s outside inside. outside (more s inside)) d square box),
)
violates_alike Separation First Second First' Second' more less more' d square is =
    (more square is.0, (is.1.0, (more' is.1.0 is.1.1.0, is.1.1.1)))

-- ---- the squares of lists

module _ (raw : RawTech) (tree : CellTree) (rules : List Rule) (pieces : List ListedPiece)
    (are : AreListedPieces raw (flat_sets raw tree) (IsListedAt rules) pieces) where
  -- what a piece of a list covers is of the list
  piece_is_of_list : (kinds : List TypeId) (plane : ℕ) (square : Square) → IsInUnion (areas_of_list plane kinds pieces) square
      → IsOfList raw tree kinds plane square
  piece_is_of_list kinds plane square found =
      let from = In-map_source (λ (piece : ListedPiece). piece.area) found.0 (filter (is_of_list plane kinds) pieces) found.1.0 in
      let piece = from.0 in
      let test = and_parts (piece.plane == plane) (list_any (λ kind. kind.0 == piece.kind.0) kinds)
      (In-filter_passes (is_of_list plane kinds) piece pieces from.1.0) in
      let kind = list_any-source (λ (kind : TypeId). kind.0 == piece.kind.0) kinds test.1 in
      let flat = are.sound piece (In-filter_source (is_of_list plane kinds) piece pieces from.1.0) square
      (subst (λ (area : Rect). Covers area square) (sym from.1.1) found.1.1) in (
        kind.0,
        (
          kind.1.0,
          subst (λ (p : ℕ). joined_at raw (flat_sets raw tree) (on_plane p square) ≡ Some kind.0.0) (eqb-true piece.plane plane test.0)
              (flat ∙ ap (λ (k : ℕ). Some k) (sym (eqb-true kind.0.0 piece.kind.0 kind.1.1))),
        ),
      )

  -- and what is of a list that rules have, a piece of it covers
  list_has_piece : (kinds : List TypeId) (plane : ℕ) (square : Square) → ((kind : TypeId) → In kind kinds → IsListedType rules plane kind)
      → IsOfList raw tree kinds plane square → IsInUnion (areas_of_list plane kinds pieces) square
  list_has_piece kinds plane square listed (kind, (among, flat)) =
      let has = are.whole (on_plane plane square) kind (listed kind among) flat in
      let piece = has.piece in
      let of_list : is_of_list plane kinds piece ≡ true =
      and_from (piece.plane == plane) (list_any (λ (k : TypeId). k.0 == piece.kind.0) kinds) (eq-eqb piece.plane plane has.plane)
      (list_any-passes (λ (k : TypeId). k.0 == piece.kind.0) kinds kind among (eq-eqb kind.0 piece.kind.0 (ap (λ (k : TypeId). k.0) (sym has.is)))) in (
        piece.area,
        (
          In-map (λ (p : ListedPiece). p.area) piece (filter (is_of_list plane kinds) pieces)
              (In-filter (is_of_list plane kinds) piece pieces has.among of_list),
          has.covers,
        ),
      )

  module _ (rule : Rule) (among : In rule rules) where
    first_listed : (kind : TypeId) → In kind rule.first → IsListedType rules rule.first_plane kind
    first_listed kind h = record { rule = rule; among = among; lists = inl (refl, h) }

    second_listed : (kind : TypeId) → In kind rule.second → IsListedType rules rule.second_plane kind
    second_listed kind h = record { rule = rule; among = among; lists = inr (refl, h) }

    -- what violates a rule by the pieces violates it
    pub violates_by_pieces : (square : Square) → ViolatesIn pieces rule square → Violates raw tree rule square
    violates_by_pieces square is =
        violates_alike rule.kind (IsInUnion (areas_of_list rule.first_plane rule.first pieces))
        (IsInUnion (areas_of_list rule.second_plane rule.second pieces)) (IsOfList raw tree rule.first rule.first_plane)
        (IsOfList raw tree rule.second rule.second_plane) (piece_is_of_list rule.first rule.first_plane)
        (λ s. list_has_piece rule.first rule.first_plane s first_listed) (piece_is_of_list rule.second rule.second_plane) rule.d square is

    -- and what violates it does so by the pieces
    pub violates_in_pieces : (square : Square) → Violates raw tree rule square → ViolatesIn pieces rule square
    violates_in_pieces square is =
        violates_alike rule.kind (IsOfList raw tree rule.first rule.first_plane) (IsOfList raw tree rule.second rule.second_plane)
        (IsInUnion (areas_of_list rule.first_plane rule.first pieces)) (IsInUnion (areas_of_list rule.second_plane rule.second pieces))
        (λ s. list_has_piece rule.first rule.first_plane s first_listed) (piece_is_of_list rule.first rule.first_plane)
        (λ s. list_has_piece rule.second rule.second_plane s second_listed) rule.d square is
