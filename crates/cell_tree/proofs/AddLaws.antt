-- A whole tree stays whole where an empty cell comes at the end.
use Rattle.cell_tree.proofs.Common.{◌≡◌, inl, inr, ℕ, suc, ◌<◌, ◌≤◌, List, [], ◌∷◌, ◌++◌, length, slice_get, Some, None, refl, sym, ap, subst, ◌∙◌}
use Rattle.cell_tree.proofs.Common.{arith, Contains, option_map_or, cases_eq, cases_lt, length-append, get_or_append_left, get_or_at, get_or_past}
use Rattle.cell_tree.proofs.Common.{slice_get_within, slice_get_past, slice_get-push_cases, slice_get-append_left, slice_get-append_front}
use Rattle.cell_tree.proofs.Common.{slice_get-push_new, TreeCell, MOST_USES, SizeBook, Dimension, Depth, Elements, Hull, Size, CellState, size_at}
use Rattle.cell_tree.proofs.Common.{no_size, IsWithin, AreUsesBelow, state_of, states, users_of, Uses, KnowUsers, empty_cell, stamp_at, IsLawfulCell}
use Rattle.cell_tree.proofs.Common.{IsReady, IsWhole}
use Rattle.std.proofs.lemmas.List.{map_push}
use Rattle.cell_tree.specs.Sizes.{size_of, own_size}
use Rattle.cell_tree.proofs.SizeLaws.{size_of-same}
use Rattle.cell_tree.proofs.FindLaws.{length-states}

empty_size : (f : ℕ → Size) → size_of f empty_cell ≡ own_size None
unfolding size_of
empty_size f = refl

empty_within : (dimension : Dimension) → IsWithin dimension (own_size None)
empty_within Depth = omega arith
empty_within Elements = omega arith
empty_within Hull = tt

-- a cell that isn't there keeps within all limits
pub none_within : (dimension : Dimension) → IsWithin dimension no_size
none_within Depth = omega arith
none_within Elements = omega arith
none_within Hull = tt

module _ (cells : List TreeCell) (book book' : SizeBook) (whole : IsWhole cells book) (new : TreeCell) (is_empty : state_of new ≡ empty_cell)
    (alone : new.users.keys ≡ [])
    (sizes : book'.sizes.items ≡ book.sizes.items ++ own_size None ∷ []) (stamps : book'.stamps.items ≡ book.stamps.items ++ book'.edits ∷ [])
    (edits : book'.edits ≡ suc book.edits)
    (ready : IsReady book' (length book'.sizes.items)) where
  are : states (cells ++ new ∷ []) ≡ states cells ++ empty_cell ∷ []
  are = map_push state_of cells new ∙ ap (λ c. states cells ++ c ∷ []) is_empty

  many : length (states (cells ++ new ∷ [])) ≡ suc (length (states cells))
  many = omega (arith, ap length are, length-append (states cells) (empty_cell ∷ []))

  each : (P : CellState → Type 0) → P empty_cell → ((key : ℕ) (cell : CellState) → slice_get (states cells) key ≡ Some cell → P cell)
      → (key : ℕ) (cell : CellState) → slice_get (states (cells ++ new ∷ [])) key ≡ Some cell → P cell
  each P last old key cell is =
      elim (slice_get-push_cases (states cells) empty_cell cell key (sym (ap (λ s. slice_get s key) are) ∙ is)) [
        | inl before ↦ old key cell before
        | inr here ↦ subst P here.1 last
      ]

  old_size : (key : ℕ) → key < length (states cells) → size_at book'.sizes.items key ≡ size_at book.sizes.items key
  old_size key within =
      ap (λ (s : List Size). size_at s key) sizes
      ∙ get_or_append_left book.sizes.items (own_size None ∷ []) no_size key (omega (arith, within, whole.lawful.sizes.count))

  new_size : size_at book'.sizes.items (length (states cells)) ≡ own_size None
  new_size = ap (λ (s : List Size). size_at s (length (states cells))) sizes ∙ get_or_at book.sizes.items (own_size None) [] no_size (length (states cells))
      whole.lawful.sizes.count

  right : (key : ℕ) (cell : CellState) → slice_get (states (cells ++ new ∷ [])) key ≡ Some cell
      → size_at book'.sizes.items key ≡ size_of (size_at book'.sizes.items) cell
  right key cell is =
      elim (slice_get-push_cases (states cells) empty_cell cell key (sym (ap (λ s. slice_get s key) are) ∙ is)) [
        | inl before ↦
            old_size key (slice_get_within (states cells) key cell before) ∙ whole.lawful.sizes.right key cell before
            ∙ size_of-same (size_at book.sizes.items) (size_at book'.sizes.items) cell
            (λ k entry stands. sym (old_size entry.1.child.0 (whole.lawful.cells.uses key cell before k entry stands).1))
        | inr here ↦ ap (size_at book'.sizes.items) here.0 ∙ new_size ∙ sym (empty_size (size_at book'.sizes.items))
            ∙ ap (size_of (size_at book'.sizes.items)) here.1
      ]

  within : (dimension : Dimension) (key : ℕ) → IsWithin dimension (size_at book'.sizes.items key)
  within dimension key =
      elim (cases_lt key (length (states cells))) [
        | inl before ↦ subst (IsWithin dimension) (sym (old_size key before)) (whole.lawful.sizes.within dimension key)
        | inr after ↦ elim (cases_eq key (length (states cells))) [
          | inl here ↦ subst (IsWithin dimension) (sym (ap (size_at book'.sizes.items) here ∙ new_size)) (empty_within dimension)
          | inr past ↦
              subst (IsWithin dimension)
              (sym (ap (λ (s : List Size). size_at s key) sizes ∙ get_or_past (book.sizes.items ++ own_size None ∷ []) key no_size
              (omega (arith, after, past, whole.lawful.sizes.count, length-append book.sizes.items (own_size None ∷ [])))))
              (none_within dimension)
        ]
      ]

  past : (key : ℕ) → stamp_at book'.stamps.items key ≤ book'.edits
  past key =
      elim (cases_lt key (length book.stamps.items)) [
        | inl before ↦ omega (
          arith,
          ap (λ s. stamp_at s key) stamps,
          get_or_append_left book.stamps.items (book'.edits ∷ []) 0 key before,
          whole.lawful.past
              key,
          edits,
        )
        | inr after ↦ elim (cases_eq key (length book.stamps.items)) [
          | inl here ↦ omega (
            arith,
            ap (λ s. stamp_at s key) stamps,
            ap (stamp_at (book.stamps.items ++ book'.edits ∷ [])) here,
            get_or_at book.stamps.items
                book'.edits [] 0 (length book.stamps.items) refl,
          )
          | inr beyond ↦ omega (
            arith,
            ap (λ s. stamp_at s key) stamps,
            get_or_past (book.stamps.items ++ book'.edits ∷ []) key 0
                (omega (arith, after, beyond, length-append book.stamps.items (book'.edits ∷ []))),
          )
        ]
      ]

  old_users : (key : ℕ) → key < length cells → users_of (cells ++ new ∷ []) key ≡ users_of cells key
  old_users key before = ap (λ o. option_map_or (λ (cell : TreeCell). cell.users.keys) o []) (slice_get-append_front cells (new ∷ []) key before)

  old_user : (key user : ℕ) → Uses (states (cells ++ new ∷ [])) user key → Uses (states cells) user key
  old_user key user uses =
      elim (slice_get-push_cases (states cells) empty_cell uses.cell user (sym (ap (λ s. slice_get s user) are) ∙ uses.is)) [
        | inl before ↦ record { cell = uses.cell; is = before; k = uses.k; entry = uses.entry; stands = uses.stands; child = uses.child }
        | inr here ↦ absurd (let e : slice_get empty_cell.uses uses.k ≡ Some uses.entry = ap (λ (c : CellState). slice_get c.uses uses.k) here.1
            ∙ uses.stands in cc)
      ]

  child_before : (key user : ℕ) → Uses (states cells) user key → key < length cells
  child_before key user uses =
      omega (
        arith,
        subst (λ c. c < length (states cells)) uses.child (whole.lawful.cells.uses user uses.cell uses.is uses.k uses.entry uses.stands).1,
        length-states cells,
      )

  users : KnowUsers (cells ++ new ∷ [])
  users =
      record {
        known = λ key user uses. let old = old_user key user uses in
            subst (λ ks. Contains ks user) (sym (old_users key (child_before key user old))) (whole.users.known key user old);
        none = λ key user knows. elim (cases_lt key (length cells)) [
          | inl before ↦
              let old = whole.users.none key user (subst (λ ks. Contains ks user) (old_users key before) knows) in
              record {
                cell = old.cell;
                is = ap (λ s. slice_get s user) are ∙ slice_get-append_left (states cells) (empty_cell ∷ []) user old.cell old.is;
                k = old.k;
                entry = old.entry;
                stands = old.stands;
                child = old.child;
              }
          | inr after ↦ absurd (elim (cases_eq key (length cells)) [
            | inl here ↦
                let none = subst (λ ks. Contains ks user)
                (ap (users_of (cells ++ new ∷ [])) here ∙ ap (λ o. option_map_or (λ (cell : TreeCell). cell.users.keys) o []) (slice_get-push_new cells new)
                ∙ alone) knows in
                omega (arith, none.1)
            | inr beyond ↦
                let none = subst (λ ks. Contains ks user)
                (ap (λ o. option_map_or (λ (cell : TreeCell). cell.users.keys) o [])
                (slice_get_past (cells ++ new ∷ []) key (omega (arith, after, beyond, length-append cells (new ∷ []))))) knows in
                omega (arith, none.1)
          ])
        ];
      }

  -- the tree with the cell is whole
  pub added_whole : IsWhole (cells ++ new ∷ []) book'
  added_whole =
      record {
        lawful = record {
          cells = record {
            few = each (λ c. length c.uses ≤ MOST_USES) (omega arith) whole.lawful.cells.few;
            uses = each (λ c. AreUsesBelow (length (states (cells ++ new ∷ []))) c.uses) (λ k entry stands. absurd (cc))
                (λ key cell is k entry stands. let old = whole.lawful.cells.uses key cell is k entry stands in (old.0, omega (arith, old.1, many)));
          };
          each = each IsLawfulCell (record { ids = tt; own = λ box is. absurd (cc) }) whole.lawful.each;
          sizes = record {
            count = omega (arith, ap length sizes, length-append book.sizes.items (own_size None ∷ []), whole.lawful.sizes.count, many);
            right = right;
            within = within;
          };
          stamps = omega (arith, ap length stamps, length-append book.stamps.items (book'.edits ∷ []), whole.lawful.stamps, many);
          past = past;
        };
        users = users;
        ready = subst (IsReady book') (omega (
          arith,
          ap length sizes,
          length-append book.sizes.items (own_size None ∷ []),
          whole.lawful.sizes.count,
          length-states cells,
          length-append cells (new ∷ []),
        )) ready;
      }
