-- A whole tree stays whole where one cell is edited.
use Rattle.cell_tree.proofs.Common.{◌≡◌, ◌≢◌, ◌↔◌, inl, inr, ℕ, ◌<◌, ◌≤◌, List, length, slice_set, slice_get, Some, sym, ap, subst, ◌∙◌, arith}
use Rattle.cell_tree.proofs.Common.{Contains, cases_eq, length-set, same_Some, slice_get-get_or, slice_get-set_same, slice_get-set_other, TreeCell}
use Rattle.cell_tree.proofs.Common.{MOST_USES, SizeBook, Dimension, UseBody, HasChild, CellState, size_at, IsWithin, AreSizes, AreUsesBelow, states}
use Rattle.cell_tree.proofs.Common.{Uses, IsAbove, KnowUsers, IsUserOf, FitsIn, Tree, stamp_at, empty_cell, cell_at, IsLawfulCell, WouldPass}
use Rattle.cell_tree.proofs.Common.{WouldKeepWithin, IsReady, AreLawful, IsBooked, tree_of, IsWhole, AreUsersKept, AreUsersBut, WouldPassFirst}
use Rattle.cell_tree.specs.Sizes.{size_of}
use Rattle.cell_tree.proofs.EditLaws.{tried_is_right}
use Rattle.cell_tree.proofs.DecideLaws.{above_or_not, would_have}
use Rattle.cell_tree.proofs.FindLaws.{length-states}

-- what a trial asks for holds of a whole tree
pub whole_lawful : {cells : List TreeCell} {book : SizeBook} → IsWhole cells book → AreLawful cells book.sizes.items
whole_lawful whole = record { uses = whole.lawful.cells; measured = whole.lawful.sizes; users = whole.users }

-- the cell at a position
pub cell_is : (cells : List CellState) (key : ℕ) → key < length cells → slice_get cells key ≡ Some (cell_at cells key)
cell_is cells key within = slice_get-get_or cells key empty_cell within

-- a cell of the tree
pub is_inside : {cells : List TreeCell} {book : SizeBook} {tree : Tree} → IsWhole cells book → tree_of cells book ≡ tree → (key : ℕ)
    → key < length tree.cells → key < length cells
is_inside {cells = cells} whole view key within = omega (arith, ap (λ (t : Tree). length t.cells) view, length-states cells)

-- What another state of a cell must be.
pub record IsLawfulState (cells : List CellState) (changed : ℕ) (state : CellState) : Type 0 where
  pub few : length state.uses ≤ MOST_USES
  pub uses : AreUsesBelow (length cells) state.uses
  pub cell : IsLawfulCell state
  pub free : (k : ℕ) (entry : List ℕ × UseBody) → slice_get state.uses k ≡ Some entry → IsAbove cells changed entry.1.child.0 → ⊥

module _ (cells : List CellState) (changed : ℕ) (state : CellState) (inside : changed < length cells) where
  -- each cell is the one that changed or as it was
  pub each_cell : (P : CellState → Type 0) → P state → ((key : ℕ) (cell : CellState) → slice_get cells key ≡ Some cell → P cell)
      → (key : ℕ) (cell : CellState) → slice_get (slice_set cells changed state) key ≡ Some cell → P cell
  each_cell P new old key cell is =
      elim (cases_eq key changed) [
        | inl same ↦ subst P (same_Some state cell
            (sym (slice_get-set_same cells changed state inside) ∙ ap (slice_get (slice_set cells changed state)) (sym same) ∙ is)) new
        | inr differs ↦ old key cell (sym (slice_get-set_other cells changed key state differs) ∙ is)
      ]

-- The tree after an edit of one cell.
pub record IsChange (cells cells' : List TreeCell) (changed : ℕ) (state : CellState) : Type 0 where
  pub states : states cells' ≡ slice_set (states cells) changed state
  pub users : KnowUsers cells'

module _ {cells cells' : List TreeCell} {book book' : SizeBook} {changed : ℕ} {state : CellState} (whole : IsWhole cells book) (inside : changed < length cells)
    (change : IsChange cells cells' changed state) (lawful : IsLawfulState (states cells) changed state)
    (booked : IsBooked cells book book' changed (size_of (size_at book.sizes.items) state))
    (within : (dimension : Dimension) (key : ℕ) → IsWithin dimension (size_at book'.sizes.items key)) (ready : IsReady book' (length cells)) where
  in_states : changed < length (states cells)
  in_states = omega (arith, inside, length-states cells)

  as_many : length (states cells') ≡ length (states cells)
  as_many = ap length change.states ∙ length-set (states cells) changed state

  many : length cells' ≡ length cells
  many = sym (length-states cells') ∙ as_many ∙ length-states cells

  past : (key : ℕ) → stamp_at book'.stamps.items key ≤ book'.edits
  past key =
      elim (above_or_not whole.lawful.cells whole.lawful.sizes changed key) [
        | inl up ↦ omega (arith, booked.stamps.raised key up)
        | inr apart ↦ omega (arith, booked.stamps.others key apart, whole.lawful.past key, booked.edits)
      ]

  -- and the tree is whole
  pub whole_again : IsWhole cells' book'
  whole_again =
      record {
        lawful = record {
          cells = record {
            few = λ key cell is. each_cell (states cells) changed state in_states (λ c. length c.uses ≤ MOST_USES) lawful.few whole.lawful.cells.few key cell
                (sym (ap (λ s. slice_get s key) change.states) ∙ is);
            uses = λ key cell is. subst (λ n. AreUsesBelow n cell.uses) (sym as_many)
                (each_cell (states cells) changed state in_states (λ c. AreUsesBelow (length (states cells)) c.uses) lawful.uses whole.lawful.cells.uses key
                cell (sym (ap (λ s. slice_get s key) change.states) ∙ is));
          };
          each = λ key cell is. each_cell (states cells) changed state in_states IsLawfulCell lawful.cell whole.lawful.each key cell
              (sym (ap (λ s. slice_get s key) change.states) ∙ is);
          sizes = record {
            count = ready.sizes ∙ sym many ∙ sym (length-states cells');
            right = subst (λ s. AreSizes s book'.sizes.items) (sym change.states)
                (tried_is_right whole.lawful.cells whole.lawful.sizes changed state book'.sizes.items in_states lawful.free
                booked.sizes);
            within = within;
          };
          stamps = ready.stamps ∙ sym many ∙ sym (length-states cells');
          past = past;
        };
        users = change.users;
        ready = subst (IsReady book') (sym many) ready;
      }

module _ {cells : List TreeCell} {book : SizeBook} {changed : ℕ} {state : CellState} (whole : IsWhole cells book) (inside : changed < length cells)
    (lawful : IsLawfulState (states cells) changed state) where
  -- what fits would keep within the limits
  pub would_keep : FitsIn (states cells) book.sizes.items changed (size_of (size_at book.sizes.items) state)
      → WouldKeepWithin (tree_of cells book) changed state
  would_keep fits =
      record {
        sizes = fits.tried;
        count = fits.count;
        right = tried_is_right whole.lawful.cells whole.lawful.sizes changed state fits.tried
            (omega (arith, inside, length-states cells)) lawful.free fits.is_tried;
        within = fits.within;
      }

  -- what would pass a limit, in the sizes that the cells would have
  pub would_pass : (dimension : Dimension) → WouldPassFirst dimension (states cells) book.sizes.items changed (size_of (size_at book.sizes.items) state)
      → WouldPass dimension (tree_of cells book) changed state
  would_pass dimension passes =
      let in_states : changed < length (states cells) = omega (arith, inside, length-states cells) in
      let there = would_have whole.lawful.cells whole.lawful.sizes changed (size_of (size_at book.sizes.items) state) in_states in
      record {
        sizes = there.0;
        count = there.1;
        right = tried_is_right whole.lawful.cells whole.lawful.sizes changed state there.0 in_states lawful.free there.2;
        passes = passes there.0 there.2;
      }

-- a cell uses the children of its uses
pub uses_child : {cells : List CellState} {user : ℕ} {cell : CellState} → slice_get cells user ≡ Some cell → (key : ℕ) → HasChild cell.uses key
    → Uses cells user key
uses_child {cell = cell} is key has = record { cell = cell; is = is; k = has.k; entry = has.entry; stands = has.stands; child = has.same }

-- and no other cells
pub child_used : {cells : List CellState} {user : ℕ} {cell : CellState} → slice_get cells user ≡ Some cell → (key : ℕ) → Uses cells user key
    → HasChild cell.uses key
child_used {cell = cell} is key uses =
    let same : cell ≡ uses.cell = same_Some _ _ (sym is ∙ uses.is) in
    record { k = uses.k; entry = uses.entry; stands = ap (λ (c : CellState). slice_get c.uses uses.k) same ∙ uses.stands; same = uses.child }

-- users that are kept are known where the children of the cell stay the same
module _ (cells cells' : List TreeCell) (changed : ℕ) (state : CellState) (users : KnowUsers cells) (inside : changed < length cells)
    (are : states cells' ≡ slice_set (states cells) changed state) where
  in_cells : changed < length (states cells)
  in_cells = omega (arith, inside, length-states cells)

  new_is : slice_get (states cells') changed ≡ Some state
  new_is = ap (λ s. slice_get s changed) are ∙ slice_get-set_same (states cells) changed state in_cells

  old_is : slice_get (states cells) changed ≡ Some (cell_at (states cells) changed)
  old_is = cell_is (states cells) changed in_cells

  same_other : (user : ℕ) → user ≢ changed → slice_get (states cells') user ≡ slice_get (states cells) user
  same_other user differs = ap (λ s. slice_get s user) are ∙ slice_get-set_other (states cells) changed user state differs

  other_uses : (user key : ℕ) → user ≢ changed → Uses (states cells') user key → Uses (states cells) user key
  other_uses user key differs uses = uses_child (sym (same_other user differs) ∙ uses.is) key (child_used uses.is key uses)

  other_uses_back : (user key : ℕ) → user ≢ changed → Uses (states cells) user key → Uses (states cells') user key
  other_uses_back user key differs uses = uses_child (same_other user differs ∙ uses.is) key (child_used uses.is key uses)

  -- where the children stay the same and users are kept
  pub kept_users : AreUsersKept cells cells' → ((key : ℕ) → HasChild state.uses key ↔ HasChild (cell_at (states cells) changed).uses key)
      → IsChange cells cells' changed state
  kept_users kept same =
      record {
        states = are;
        users = record {
          known = λ key user uses. subst (λ list. Contains list user) (sym (kept key)) (users.known key user (elim (cases_eq user changed) [
            | inl here ↦ subst (λ u. Uses (states cells) u key) (sym here)
                (uses_child old_is key ((same key).0 (child_used new_is key (subst (λ u. Uses (states cells') u key) here uses))))
            | inr differs ↦ other_uses user key differs uses
          ]));
          none = λ key user knows.
              let uses = users.none key user (subst (λ list. Contains list user) (kept key) knows) in
              elim (cases_eq user changed) [
                | inl here ↦ subst (λ u. Uses (states cells') u key) (sym here)
                    (uses_child new_is key ((same key).1 (child_used old_is key (subst (λ u. Uses (states cells) u key) here uses))))
                | inr differs ↦ other_uses_back user key differs uses
              ];
        };
      }

  -- where one child comes or goes, and the cell is known as its user where it has a use of it
  pub changed_users : (child : ℕ) → AreUsersBut cells cells' changed child → state ≡ cell_at (states cells') changed
      → ((key : ℕ) → key ≢ child → HasChild state.uses key ↔ HasChild (cell_at (states cells) changed).uses key) → IsChange cells cells' changed state
  changed_users child but new same =
      record {
        states = are;
        users = record {
          known = λ key user uses. elim (cases_eq user changed) [
            | inl here ↦ subst (λ u. IsUserOf cells' key u) (sym here) (elim (cases_eq key child) [
              | inl at_child ↦ subst (λ k. IsUserOf cells' k changed) (sym at_child)
                  (but.own.1 (subst (λ (c : CellState). HasChild c.uses child) new
                  (subst (HasChild state.uses) at_child (child_used new_is key (subst (λ u. Uses (states cells') u key) here uses)))))
              | inr apart ↦
                  (but.others key changed apart).1 (users.known key changed
                  (uses_child old_is key ((same key apart).0 (child_used new_is key (subst (λ u. Uses (states cells') u key) here uses)))))
            ])
            | inr differs ↦ elim (cases_eq key child) [
              | inl at_child ↦ subst (λ k. IsUserOf cells' k user) (sym at_child)
                  ((but.rest user differs).1 (users.known child user (other_uses user child differs (subst (Uses (states cells') user) at_child uses))))
              | inr apart ↦ (but.others key user apart).1 (users.known key user (other_uses user key differs uses))
            ]
          ];
          none = λ key user knows. elim (cases_eq user changed) [
            | inl here ↦ subst (λ u. Uses (states cells') u key) (sym here) (elim (cases_eq key child) [
              | inl at_child ↦ subst (Uses (states cells') changed) (sym at_child)
                  (uses_child new_is child (subst (λ (c : CellState). HasChild c.uses child) (sym new)
                  (but.own.0 (subst (λ k. IsUserOf cells' k changed) at_child (subst (IsUserOf cells' key) here knows)))))
              | inr apart ↦
                  uses_child new_is key ((same key apart).1 (child_used old_is key
                  (users.none key changed ((but.others key changed apart).0 (subst (IsUserOf cells' key) here knows)))))
            ])
            | inr differs ↦ elim (cases_eq key child) [
              | inl at_child ↦ subst (Uses (states cells') user) (sym at_child)
                  (other_uses_back user child differs (users.none child user ((but.rest user differs).0 (subst (λ k. IsUserOf cells' k user) at_child knows))))
              | inr apart ↦ other_uses_back user key differs (users.none key user ((but.others key user apart).0 knows))
            ]
          ];
        };
      }
