-- What the pieces of a mark count is what its group adds.
use Rattle.piece_groups.proofs.Common.{◌≡◌, ℕ, ℤ, Bool, List, [], ◌∷◌, length, slice_get, slice_index, sym, ap, ◌∙◌, arith, range_with_len}
use Rattle.piece_groups.proofs.Common.{length-map, same_Some, slice_get_within, Square, RawTech, KeepsRules, IsWellFormed, RegionTile, Place, Class}
use Rattle.piece_groups.proofs.Common.{rules_of, PlaneStack, SetLayout, NamedTree, MemberGroup, area_weight, capacitance_weight, perimeter_weight}
use Rattle.piece_groups.proofs.Common.{group_name_along, one_group, excess, named_is_material, MeetingSum, AreMeetingMeasures, AreMarkedPieces}
use Rattle.piece_groups.proofs.Common.{MarksTellGroups, LiesInPiece, piece_marks}
use Rattle.std.specs.Prelude.{Some}
use Rattle.std.proofs.lemmas.List.FromFn.{get_or-map-range_with_len, length-range_with_len}
use Rattle.std.proofs.lemmas.Option.{slice_get_read}
use Rattle.finite_sets.proofs.Totals.{Total-iff}
use Rattle.piece_groups.specs.MeetingSums.StackTiles.{IsInGroup}
use Rattle.piece_groups.specs.MeetingSums.Sums.{IsMeetingSum}
use Rattle.piece_groups.specs.MemberMarks.{mark_at}
use Rattle.piece_groups.proofs.PiecePlaces.{piece_at, piece_is_within}
use Rattle.piece_groups.proofs.MarkedMembers.{IsGroupAt}
use Rattle.piece_groups.proofs.GroupAdjustments.{IsWithin}

-- what one set of places counts, another with the same places does
measures_of_same : (raw : RawTech) (parts : List SetLayout) (classes : List Class) (Of Also : Place → Type 0) → ((place : Place) → Of place → Also place)
    → ((place : Place) → Also place → Of place) → (measures : List (ℤ × ℤ)) → AreMeetingMeasures raw parts classes Of measures
    → AreMeetingMeasures raw parts classes Also measures
measures_of_same raw parts [] Of Also there back [] found = tt
measures_of_same raw parts [] Of Also there back (measure ∷ measures) found = absurd found
measures_of_same raw parts (class ∷ classes) Of Also there back [] found = absurd found
measures_of_same raw parts (class ∷ classes) Of Also there back (measure ∷ measures) found = (
  Total-iff Of Also (excess raw (area_weight class) parts) measure.0 there back found.0,
  Total-iff Of Also (excess raw (perimeter_weight class) parts) measure.1 there back found.1,
  measures_of_same raw parts classes Of Also there back measures found.2,
)

module _ (raw : RawTech) (formed : IsWellFormed raw) (rules : KeepsRules raw) (within : Square → Bool) (tree : NamedTree) (others : List SetLayout)
    (stacks : List PlaneStack) (names : List (List ℕ)) (pairs : List (ℕ × ℕ)) (tiles : List RegionTile) (count : ℕ) (marks : List ℕ)
    (pieces : AreMarkedPieces raw within tree others stacks names pairs tiles count marks)
    (tell : MarksTellGroups raw tree stacks names tiles marks) (mark : ℕ) (group : MemberGroup)
    (at : IsGroupAt raw tree names marks mark group) where
  abbrev Within : Place → Type 0
  Within = IsWithin raw within tree at.name

  -- The place lies in a piece of the mark.
  abbrev IsOfMark : Place → Type 0
  IsOfMark place = IsInGroup stacks (piece_marks (length names) stacks tiles marks) mark place

  -- the mark of a piece, as it is read
  mark_read : (index : ℕ) (place : Place) → LiesInPiece stacks index place
      → slice_get (piece_marks (length names) stacks tiles marks) index ≡ Some (mark_at (length names) tiles marks index)
  mark_read index place lies =
      let read = mark_at (length names) tiles marks in
      let below = slice_get_within stacks index lies.piece lies.there in
      let long : length stacks ≡ length (piece_marks (length names) stacks tiles marks) =
      sym (length-map (range_with_len 0 (length stacks)) read ∙ length-range_with_len 0 (length stacks)) in
      slice_get_read (piece_marks (length names) stacks tiles marks) (length stacks) index (read index) long below
      (sym (get_or-map-range_with_len read 0 (length stacks) index index (read index) below (omega arith)))

  -- the places of the mark's pieces are those of the group where parts meet
  to_group : (place : Place) → IsOfMark place → Within place
  to_group place of =
      let lies : LiesInPiece stacks of.index place =
      record { piece = of.piece; there = of.there; plane = of.plane; covers = of.covers } in
      let is : mark_at (length names) tiles marks of.index ≡ slice_index marks at.number =
      same_Some (mark_at (length names) tiles marks of.index) mark (sym (mark_read of.index place lies) ∙ of.of_group) ∙ sym at.marked in
      let together = (tell.pieces at.number of.index at.name at.place place at.there at.has lies).0 is in (
        group_name_along raw tree at.place place at.name together at.are.named,
        piece_is_within raw formed rules within tree others stacks names pairs tiles count marks pieces of.index place lies,
      )

  to_mark : (place : Place) → Within place → IsOfMark place
  to_mark place is =
      let clean = pieces.clean in
      let material = named_is_material raw formed rules tree clean.typed clean.clean place at.name is.0 in
      let found = piece_at raw formed rules within tree others stacks names pairs tiles count marks pieces place material is.1 in
      let lies = found.1 in
      let together = one_group raw formed tree clean at.place place at.name at.are.named is.0 in
      record {
        index = found.0;
        piece = lies.piece;
        there = lies.there;
        plane = lies.plane;
        covers = lies.covers;
        of_group = mark_read found.0 place lies ∙ ap (λ (read : ℕ). Some read)
            ((tell.pieces at.number found.0 at.name at.place place at.there at.has lies).1 together ∙ at.marked);
      }

  -- so what the mark counts is what the places of the group count where parts meet
  pub mark_counts : (sum : MeetingSum) → IsMeetingSum raw others IsOfMark sum → IsMeetingSum raw others Within sum
  mark_counts sum is =
      let classes = (rules_of raw).classes in
      record {
        cap = Total-iff IsOfMark Within (excess raw (capacitance_weight classes) others) sum.cap to_group to_mark is.cap;
        measures = measures_of_same raw others classes IsOfMark Within to_group to_mark sum.measures is.measures;
      }
