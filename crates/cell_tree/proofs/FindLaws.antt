-- What a search for the cells above a cell begins with, and what it leaves.
use Rattle.cell_tree.proofs.Common.{◌≡◌, inl, inr, ℕ, ◌-◌, ◌<◌, ◌≤◌, Bool, true, false, List, [], ◌∷◌, length, get_or, slice_index_or, slice_get}
use Rattle.cell_tree.proofs.Common.{Some, ap, subst, ◌∙◌, arith, option_map, length-map, slice_get_within, slice_get-map, slice_get-get_or, stay, go}
use Rattle.cell_tree.proofs.Common.{TreeCell, Depth, Size, state_of, states, Uses, IsAbove, KnowUsers, IsReached, at, StandsIn, IsSeen, unseen}
use Rattle.cell_tree.proofs.Common.{ComesAfterUsers, IsRanked, Adds, EndsWith, ListsAbove, AreLawful}
use Rattle.cell_tree.proofs.AboveLaws.{above_iff}
use Rattle.cell_tree.proofs.EditLaws.{user_is_deeper}
use Rattle.cell_tree.proofs.TryLaws.{IsOrder}

-- the same, as it is read
pub state_read : (cells : List TreeCell) (key : ℕ) (d : TreeCell) → key < length cells → slice_get (states cells) key ≡ Some (state_of (get_or cells key d))
state_read cells key d within = slice_get-map state_of cells key ∙ ap (option_map state_of) (slice_get-get_or cells key d within)

-- there are as many of them
pub length-states : (cells : List TreeCell) → length (states cells) ≡ length cells
length-states cells = length-map cells state_of

-- what is not seen is no more than there is
pub unseen-most : (seen : List Bool) → unseen seen ≤ length seen
unseen-most [] = omega arith
unseen-most (true ∷ rest) = omega (arith, unseen-most rest)
unseen-most (false ∷ rest) = omega (arith, unseen-most rest)

module _ (cells : List TreeCell) where
  reached_above : KnowUsers cells → (low up : ℕ) → IsReached cells low up → IsAbove (states cells) low up
  reached_above users low up stay = stay
  reached_above users low up (go {b = user} step rest) = go (users.none low user step) (reached_above users user up rest)

  above_reached : KnowUsers cells → (low up : ℕ) → IsAbove (states cells) low up → IsReached cells low up
  above_reached users low up stay = stay
  above_reached users low up (go {b = user} step rest) = go (users.known low user step) (above_reached users user up rest)

  user_within : (user low : ℕ) → Uses (states cells) user low → user < length cells
  user_within user low uses = omega (arith, slice_get_within (states cells) user uses.cell uses.is, length-states cells)

  above_within : (low up : ℕ) → low < length cells → IsAbove (states cells) low up → up < length cells
  above_within low up within stay = within
  above_within low up within (go {b = user} step rest) = above_within user up (user_within user low step) rest

  -- users rise in depth
  pub lawful_ranked : (sizes : List Size) → AreLawful cells sizes → IsRanked cells sizes
  lawful_ranked sizes lawful =
      record {
        within = λ key user uses. omega (arith, user_within user key (lawful.users.none key user uses), lawful.measured.count, length-states cells);
        rises = λ key user uses. user_is_deeper lawful.uses lawful.measured user key (lawful.users.none key user uses);
        most = λ key. lawful.measured.within Depth key;
      }

  module _ (cell : ℕ) (seen seen' : List Bool) (order order' : List ℕ) (users : KnowUsers cells) (inside : cell < length cells) (empty : order ≡ [])
      (adds : Adds cells cell seen seen' order order')
      (sorted : ComesAfterUsers cells order') (there : StandsIn order' cell) where
    from_start : (place : ℕ) → length order ≤ place
    from_start place = omega (arith, ap length empty)

    -- The order has the cell and all above it.
    pub found_lists : EndsWith cell order order' → ListsAbove cells cell order'
    found_lists ends =
        record {
          sorted = sorted;
          above = λ key. (
            (λ stands. reached_above users cell key ((above_iff cells cell seen seen' order order' empty adds sorted there key).0 stands)),
            (λ above. (above_iff cells cell seen seen' order order' empty adds sorted there key).1 (above_reached users cell key above)),
          );
          within = within;
          some = omega (arith, ends.more);
          last = ends.is;
          once = λ p q before inside. adds.once p q (from_start p) before inside;
        }
      where
        within : (place : ℕ) → place < length order' → at order' place < length cells
        within place before = above_within cell (at order' place) inside
            (reached_above users cell (at order' place) (adds.above place (from_start place) before))

    -- Whatever is seen stands in the order, and whatever stands there is seen.
    pub found_marks : ((key : ℕ) → slice_index_or seen key false ≡ false) → (key : ℕ) → IsSeen seen' key → StandsIn order' key
    found_marks none key is = elim (adds.only key is) [ inl was ↦ absurd (differ _ (none key) was) | inr stands ↦ stands ]
      where
        differ : (b : Bool) → b ≡ false → b ≡ true → ⊥
        differ b is_false is_true = absurd (cc)

    pub found_seen : (key : ℕ) → StandsIn order' key → IsSeen seen' key
    found_seen key stands = subst (IsSeen seen') stands.is (adds.marked stands.place (from_start stands.place) stands.before)

-- An order for a trial.
pub order_of : {cells : List TreeCell} {cell : ℕ} {order : List ℕ} → KnowUsers cells → ListsAbove cells cell order → IsOrder (states cells) cell order
order_of {cells = cells} {order = order} users lists =
    record {
      sorted = λ place before user uses. lists.sorted place before user (users.known (at order place) user uses);
      above = lists.above;
      within = λ place before. omega (arith, lists.within place before, length-states cells);
      some = lists.some;
      last = lists.last;
      once = lists.once;
    }

-- the cell of such an order is a cell
pub inside_of : {cells : List TreeCell} {sizes : List Size} {cell : ℕ} {order : List ℕ} → AreLawful cells sizes → ListsAbove cells cell order
    → cell < length sizes
inside_of {cells = cells} {order = order} lawful lists =
    omega (arith, lists.within (length order - 1) (omega (arith, lists.some)), lists.last, lawful.measured.count, length-states cells)
