-- What the calls of a tree show of it.
use Rattle.cell_tree.proofs.Common.{◌≡◌, ◌≢◌, ◌↔◌, ◌<◌, ℕ, List, length, slice_set, slice_get, Option, Some, None, refl, ap, sym, subst, ◌∙◌, arith}
use Rattle.cell_tree.proofs.Common.{Rect, TreeCell, Passed, SizeBook, Dimension, Depth, Elements, Hull, Size, HasChild, IsInside, CellState, size_at}
use Rattle.cell_tree.proofs.Common.{IsWithin, states, users_of, FitsIn, cell_at, with_own, IsEdited, RefusesBox, IsReady, IsBooked, tree_of, IsWhole}
use Rattle.cell_tree.proofs.Common.{AreUsersKept, AreUsersBut, WouldPassFirst, length-set, same_Some, slice_get-set_same}
use Rattle.cell_tree.specs.Sizes.{size_of}
use Rattle.cell_tree.specs.Trees.{IsLawfulOwn}
use Rattle.cell_tree.proofs.SizeLaws.{size_is}
use Rattle.cell_tree.proofs.ShrinkLaws.{IsUpright, IsSmaller, AreAmong}
use Rattle.cell_tree.proofs.EditLaws.{child_is_not_above, shrunk_within, smaller_keeps}
use Rattle.cell_tree.proofs.DecideLaws.{would_have}
use Rattle.cell_tree.proofs.FindLaws.{length-states}
use Rattle.cell_tree.proofs.WholeLaws.{IsLawfulState, IsChange, cell_is, kept_users, changed_users, whole_again, would_pass}

-- with another own box a cell has another hull and nothing else
pub box_size : (sizes : List Size) (old : CellState) (own : Option Rect) (wide size : Size) → size ≡ size_of (size_at sizes) old
    → wide.hull ≡ (size_of (size_at sizes) (with_own old own)).hull
    → record { hull = wide.hull; elements = size.elements; depth = size.depth } ≡ size_of (size_at sizes) (with_own old own)
unfolding size_of
box_size sizes old own wide size is hulls = size_is _ _ hulls (ap (λ (s : Size). s.elements) is) (ap (λ (s : Size). s.depth) is)

own_depth : (f : ℕ → Size) (old : CellState) (own : Option Rect) → (size_of f (with_own old own)).depth ≡ (size_of f old).depth
unfolding size_of
own_depth f old own = refl

own_elements : (f : ℕ → Size) (old : CellState) (own : Option Rect) → (size_of f (with_own old own)).elements ≡ (size_of f old).elements
unfolding size_of
own_elements f old own = refl

-- a lawful box is not turned inside out
pub upright_of : (own : Option Rect) → IsLawfulOwn own → IsUpright own
upright_of None lawful = tt
upright_of (Some box) lawful = let is = lawful box refl in (is.wide, is.high)

module _ {cells : List TreeCell} {book : SizeBook} (whole : IsWhole cells book) (changed : ℕ) (inside : changed < length cells) where
  in_states : changed < length (states cells)
  in_states = omega (arith, inside, length-states cells)

  was : slice_get (states cells) changed ≡ Some (cell_at (states cells) changed)
  was = cell_is (states cells) changed in_states

  uprights : (key : ℕ) (cell : CellState) → slice_get (states cells) key ≡ Some cell → IsUpright cell.own
  uprights key cell is = upright_of cell.own (whole.lawful.each key cell is).own

  pub own_upright : IsUpright (cell_at (states cells) changed).own
  own_upright = uprights changed _ was

  -- a cell with another own box is a lawful state
  pub own_lawful : (own : Option Rect) → IsLawfulOwn own → IsLawfulState (states cells) changed (with_own (cell_at (states cells) changed) own)
  own_lawful own lawful =
      record {
        few = whole.lawful.cells.few changed _ was;
        uses = whole.lawful.cells.uses changed _ was;
        cell = record { ids = (whole.lawful.each changed _ was).ids; own = lawful };
        free = λ k entry stands above.
            child_is_not_above whole.lawful.cells whole.lawful.sizes changed entry.1.child.0
            (record { cell = cell_at (states cells) changed; is = was; k = k; entry = entry; stands = stands; child = refl }) above;
      }

  -- a cell that gets no larger in a dimension passes no limit of it
  pub never_passes : (dimension : Dimension) (size : Size) → IsSmaller dimension size (size_at book.sizes.items changed)
      → WouldPassFirst dimension (states cells) book.sizes.items changed size → ⊥
  never_passes dimension size base passes =
      let there = would_have whole.lawful.cells whole.lawful.sizes changed size in_states in
      let first = passes there.0 there.2 in
      first.passes (smaller_keeps whole.lawful.cells whole.lawful.sizes uprights dimension changed size there.0 base there.2 first.key)

  -- what another own box passes first is the range
  pub own_refused : (own : Option Rect) → IsLawfulOwn own → (dimension : Dimension)
      → WouldPassFirst dimension (states cells) book.sizes.items changed (size_of (size_at book.sizes.items) (with_own (cell_at (states cells) changed) own))
      → RefusesBox (tree_of cells book) changed own (Passed dimension)
  own_refused own lawful Hull passes = would_pass whole inside (own_lawful own lawful) Hull passes
  own_refused own lawful Depth passes =
      let same = own_depth (size_at book.sizes.items) (cell_at (states cells) changed) own
      ∙ ap (λ (s : Size). s.depth) (sym (whole.lawful.sizes.right changed _ was)) in
      never_passes Depth _ (omega (arith, same)) passes
  own_refused own lawful Elements passes =
      let same = own_elements (size_at book.sizes.items) (cell_at (states cells) changed) own
      ∙ ap (λ (s : Size). s.elements) (sym (whole.lawful.sizes.right changed _ was)) in
      never_passes Elements _ (omega (arith, same)) passes

  -- A cell that shrinks passes no limit.
  pub shrunk_passes : (state : CellState) (dimension : Dimension) → IsInside state.own (cell_at (states cells) changed).own → IsUpright state.own
      → AreAmong state.uses (cell_at (states cells) changed).uses
      → WouldPassFirst dimension (states cells) book.sizes.items changed (size_of (size_at book.sizes.items) state) → ⊥
  shrunk_passes state dimension within up among passes =
      let there = would_have whole.lawful.cells whole.lawful.sizes changed (size_of (size_at book.sizes.items) state) in_states in
      let first = passes there.0 there.2 in
      first.passes (shrunk_within whole.lawful.cells whole.lawful.sizes uprights changed state _ there.0 was within up among
      there.2 dimension first.key)

-- An edit of one cell, for which cells and sizes were shown that are those of the tree.
module _ {cells shown : List TreeCell} {book : SizeBook} {sizes : List Size} {size : Size} (whole : IsWhole cells book) (f : CellState → CellState)
    (changed : ℕ) (same : shown ≡ cells) (sized : sizes ≡ book.sizes.items) (is : size ≡ size_of (size_at sizes) (f (cell_at (states shown) changed))) where
  -- the size that was tried is that of the edited cell
  pub run_size : size ≡ size_of (size_at book.sizes.items) (f (cell_at (states cells) changed))
  run_size =
      is ∙ ap (λ (s : List Size). size_of (size_at s) (f (cell_at (states shown) changed))) sized
      ∙ ap (λ (cs : List TreeCell). size_of (size_at book.sizes.items) (f (cell_at (states cs) changed))) same

  pub run_refused : (dimension : Dimension) → WouldPassFirst dimension (states shown) book.sizes.items changed size
      → WouldPassFirst dimension (states cells) book.sizes.items changed (size_of (size_at book.sizes.items) (f (cell_at (states cells) changed)))
  run_refused dimension refused =
      subst (WouldPassFirst dimension (states cells) book.sizes.items changed) run_size
      (subst (λ (cs : List TreeCell). WouldPassFirst dimension (states cs) book.sizes.items changed size) same refused)

  pub run_fits : FitsIn (states shown) book.sizes.items changed size
      → FitsIn (states cells) book.sizes.items changed (size_of (size_at book.sizes.items) (f (cell_at (states cells) changed)))
  run_fits fits =
      subst (FitsIn (states cells) book.sizes.items changed) run_size
      (subst (λ (cs : List TreeCell). FitsIn (states cs) book.sizes.items changed size) same fits)

  module _ {given new after : List TreeCell} {book' : SizeBook} (booked : IsBooked shown book book' changed size) (again : given ≡ cells)
      (are : states new ≡ slice_set (states given) changed (f (cell_at (states given) changed))) (left : after ≡ new) where
    run_booked : IsBooked cells book book' changed (size_of (size_at book.sizes.items) (f (cell_at (states cells) changed)))
    run_booked = subst (IsBooked cells book book' changed) run_size (subst (λ (cs : List TreeCell). IsBooked cs book book' changed size) same booked)

    run_states : states after ≡ slice_set (states cells) changed (f (cell_at (states cells) changed))
    run_states = ap states left ∙ are ∙ ap (λ (cs : List TreeCell). slice_set (states cs) changed (f (cell_at (states cs) changed))) again

    -- it is the edit
    pub run_edited : IsEdited (tree_of cells book) (tree_of after book') changed (f (cell_at (states cells) changed))
    run_edited = record { cells = run_states; edits = run_booked.edits; stamps = run_booked.stamps; others = run_booked.sizes.others }

    module _ (within : (dimension : Dimension) (key : ℕ) → IsWithin dimension (size_at book'.sizes.items key)) (ready : IsReady book' (length shown))
        (inside : changed < length cells) (lawful : IsLawfulState (states cells) changed (f (cell_at (states cells) changed))) where
      run_whole : IsChange cells after changed (f (cell_at (states cells) changed)) → IsWhole after book'
      run_whole change = whole_again whole inside change lawful run_booked within (subst (λ (cs : List TreeCell). IsReady book' (length cs)) same ready)

      -- An edit that keeps the children of the cell leaves the tree whole.
      pub run_kept : AreUsersKept given new
          → ((key : ℕ) → HasChild (f (cell_at (states cells) changed)).uses key ↔ HasChild (cell_at (states cells) changed).uses key) → IsWhole after book'
      run_kept kept children =
          run_whole (kept_users cells after changed (f (cell_at (states cells) changed)) whole.users inside run_states
          (λ key. ap (λ (cs : List TreeCell). users_of cs key) left ∙ kept key ∙ ap (λ (cs : List TreeCell). users_of cs key) again) children)

      -- So does one by which one child comes or goes.
      pub run_changed : (child : ℕ) → AreUsersBut given new changed child
          → ((key : ℕ) → key ≢ child → HasChild (f (cell_at (states cells) changed)).uses key ↔ HasChild (cell_at (states cells) changed).uses key)
          → IsWhole after book'
      run_changed child but others =
          run_whole (changed_users cells after changed (f (cell_at (states cells) changed)) whole.users inside run_states child
          (subst (λ (cs : List TreeCell). AreUsersBut cells cs changed child) (sym left)
          (subst (λ (cs : List TreeCell). AreUsersBut cs new changed child) again but))
          (same_Some _ _ (sym (slice_get-set_same (states cells) changed (f (cell_at (states cells) changed)) in_cells)
          ∙ sym (ap (λ s. slice_get s changed) run_states)
          ∙ cell_is (states after) changed (omega (
            arith,
            in_cells,
            ap length run_states,
            length-set (states cells) changed
                (f (cell_at (states cells) changed)),
          ))))
          others)
        where
          in_cells : changed < length (states cells)
          in_cells = omega (arith, inside, length-states cells)
