-- A trial in all dimensions, one after another.
use Rattle.cell_tree.proofs.Common.{◌≡◌, ◌≢◌, ℕ, ◌-◌, List, length, slice_set, sym, ◌∙◌, arith, length-set, get_or-set_same, get_or-set_other}
use Rattle.cell_tree.proofs.Common.{TreeCell, Dimension, Depth, Elements, Hull, Size, size_at, no_size, IsWithin, AreAlike, states, StandsIn}
use Rattle.cell_tree.proofs.Common.{AreSettledBut, IsTried, ComesBefore, PassesFirst, IsDone, StopsIn, ListsAbove, AreLawful, IsPass}
use Rattle.cell_tree.specs.steps.Passes.{MayPass}
use Rattle.cell_tree.proofs.SizeLaws.{alike_refl, alike_sym, alike_trans, alike_within}
use Rattle.cell_tree.proofs.TryLaws.{IsOrder, Begins, settled-alike, settled-start, done_within, stops_first, done_tried}
use Rattle.cell_tree.proofs.FindLaws.{order_of, inside_of, length-states}

module _ {cells : List TreeCell} {changed : ℕ} {order : List ℕ} {sizes : List Size} (size : Size) (lawful : AreLawful cells sizes)
    (lists : ListsAbove cells changed order) where
  is_order : IsOrder (states cells) changed order
  is_order = order_of lawful.users lists

  -- the cell has the size that is tried, and what doesn't stand above it is as before
  record IsFrom (next : List Size) : Type 0 where
    given : size_at next changed ≡ size
    others : (key : ℕ) → (StandsIn order key → ⊥) → size_at next key ≡ size_at sizes key

  from_start : IsFrom (slice_set sizes changed size)
  from_start =
      record {
        given = get_or-set_same sizes changed size no_size (inside_of lawful lists);
        others = λ key apart. get_or-set_other sizes changed key size no_size (λ same.
            apart (record { place = length order - 1; before = omega (arith, lists.some); is = lists.last ∙ sym same }));
      }

  from_pass : {dimension : Dimension} {old new : List Size} → IsFrom old → IsPass dimension changed order old new → IsFrom new
  from_pass from pass = record { given = pass.kept ∙ from.given; others = λ key apart. pass.others key apart ∙ from.others key apart }

  begins : (dimension : Dimension) {next : List Size} → IsFrom next → Begins dimension changed order sizes next size
  begins dimension from =
      record { given = alike_refl dimension _ _ from.given; others = λ key apart. alike_refl dimension _ _ (from.others key apart) }

  -- what a trial in a dimension asks for, where the dimension is as it was at the start
  pub ready : (dimension : Dimension) {next : List Size} → length next ≡ length (slice_set sizes changed size)
      → ((key : ℕ) → AreAlike dimension (size_at next key) (size_at (slice_set sizes changed size) key)) → MayPass dimension cells changed order next
  ready dimension long same =
      record {
        lists = lists;
        long = long ∙ length-set sizes changed size ∙ lawful.measured.count ∙ length-states cells;
        lawful = lawful.uses;
        known = lawful.users;
        settled = settled-alike dimension _ _ _ _ (slice_set sizes changed size) _ (settled-start is_order dimension sizes size lawful.measured.right) same;
      }

  pub ready_within : (dimension : Dimension) (next : List Size)
      → ((key : ℕ) → AreAlike dimension (size_at next key) (size_at (slice_set sizes changed size) key))
      → (key : ℕ) → key ≢ changed → IsWithin dimension (size_at next key)
  ready_within dimension next same key differs =
      alike_within dimension _ _
      (alike_sym dimension _ _ (alike_trans dimension _ _ _ (same key) (alike_refl dimension _ _ (get_or-set_other sizes changed key size no_size differs))))
      (lawful.measured.within dimension key)

  module _ {one : List Size} (first : IsPass Depth changed order (slice_set sizes changed size) one) where
    pub stops_one : StopsIn Depth (states cells) changed order one → (tried : List Size) → IsTried (states cells) sizes tried changed size
        → PassesFirst Depth (states cells) changed tried
    stops_one stops tried is_tried = stops_first is_order Depth is_tried (begins Depth (from_pass from_start first)) stops none_before
      where
        none_before : (other : Dimension) → ComesBefore other Depth → (key : ℕ) → IsWithin other (size_at tried key)
        none_before Depth earlier key = absurd earlier
        none_before Elements earlier key = absurd earlier
        none_before Hull earlier key = absurd earlier

    module _ (done : IsDone Depth (states cells) changed order one) {two : List Size} (second : IsPass Elements changed order one two) where
      from_two : IsFrom two
      from_two = from_pass (from_pass from_start first) second

      pub two_alike : (key : ℕ) → AreAlike Hull (size_at two key) (size_at (slice_set sizes changed size) key)
      two_alike key = second.alike Hull (λ e. absurd (cc)) key ∙ first.alike Hull (λ e. absurd (cc)) key

      one_within : {tried : List Size} → IsTried (states cells) sizes tried changed size → (key : ℕ) → IsWithin Depth (size_at tried key)
      one_within is_tried = done_within is_order Depth is_tried (begins Depth (from_pass from_start first)) done

      pub stops_two : StopsIn Elements (states cells) changed order two → (tried : List Size) → IsTried (states cells) sizes tried changed size
          → PassesFirst Elements (states cells) changed tried
      stops_two stops tried is_tried = stops_first is_order Elements is_tried (begins Elements from_two) stops before
        where
          before : (other : Dimension) → ComesBefore other Elements → (key : ℕ) → IsWithin other (size_at tried key)
          before Depth earlier key = one_within is_tried key
          before Elements earlier key = absurd earlier
          before Hull earlier key = absurd earlier

      module _ (also : IsDone Elements (states cells) changed order two) {three : List Size} (third : IsPass Hull changed order two three) where
        from_three : IsFrom three
        from_three = from_pass from_two third

        pub stops_three : StopsIn Hull (states cells) changed order three → (tried : List Size) → IsTried (states cells) sizes tried changed size
            → PassesFirst Hull (states cells) changed tried
        stops_three stops tried is_tried = stops_first is_order Hull is_tried (begins Hull from_three) stops before
          where
            before : (other : Dimension) → ComesBefore other Hull → (key : ℕ) → IsWithin other (size_at tried key)
            before Depth earlier key = one_within is_tried key
            before Elements earlier key = done_within is_order Elements is_tried (begins Elements from_two) also key
            before Hull earlier key = absurd earlier

        pub all_others : (key : ℕ) → (StandsIn order key → ⊥) → size_at three key ≡ size_at sizes key
        all_others key apart = from_three.others key apart

        three_one : (key : ℕ) → AreAlike Depth (size_at three key) (size_at one key)
        three_one key = third.alike Depth (λ e. absurd (cc)) key ∙ second.alike Depth (λ e. absurd (cc)) key

        three_two : (key : ℕ) → AreAlike Elements (size_at three key) (size_at two key)
        three_two key = third.alike Elements (λ e. absurd (cc)) key

        module _ (last : IsDone Hull (states cells) changed order three) where
          settled : (dimension : Dimension) → AreSettledBut dimension (states cells) changed order 0 three
          settled Depth = settled-alike Depth _ _ _ _ one three done.settled three_one
          settled Elements = settled-alike Elements _ _ _ _ two three also.settled three_two
          settled Hull = last.settled

          -- Where all three end well, the sizes are those that the cells would have.
          pub all_tried : IsTried (states cells) sizes three changed size
          all_tried = done_tried is_order from_three.others from_three.given settled

          -- and within all limits
          pub all_within : (dimension : Dimension) (key : ℕ) → IsWithin dimension (size_at three key)
          all_within Depth key = alike_within Depth (size_at one key) (size_at three key) (sym (three_one key)) (done.within key)
          all_within Elements key = alike_within Elements (size_at two key) (size_at three key) (sym (three_two key)) (also.within key)
          all_within Hull key = last.within key
