-- A whole tree to which cells come at the end: it stays whole, and where they are refused and go again, it is as before.
use Rattle.cell_tree.proofs.Common.{◌≡◌, inl, inr, ℕ, zero, suc, ◌+◌, ◌-◌, ◌<◌, ◌≤◌, List, [], ◌∷◌, ◌++◌, length, map, take, replicate, slice_get}
use Rattle.cell_tree.proofs.Common.{Some, refl, sym, ap, subst, ◌∙◌, arith, Contains, option_map_or, cases_lt, length-append, get_or_append_left}
use Rattle.cell_tree.proofs.Common.{get_or_past, slice_get_within, slice_get_past, slice_get-append_front, TreeCell, MOST_USES, SizeBook, Dimension}
use Rattle.cell_tree.proofs.Common.{Size, CellState, size_at, AreAlike, AreSizes, AreUsesBelow, states, users_of, Uses, IsAbove, KnowUsers, IsUserOf}
use Rattle.cell_tree.proofs.Common.{stamp_at, IsLawfulCell, IsLawfulTree, AreLawfulCells, IsReady, SaysTheSame, IsWhole, tree_of, AreAdded}
use Rattle.cell_tree.proofs.Common.{AreBehind, AreSettled, IsNewOrder}
use Rattle.std.proofs.lemmas.List.{length-replicate, length-take-le, get_or-append_right, get_or-replicate, take-map, take_at}
use Rattle.geo_core.specs.FiniteSets.Chain.Chain.{stay, go}
use Rattle.geo_core.proofs.FiniteSets.Places.{All-slice_get, slice_get-append_cases}
use Rattle.cell_tree.specs.Sizes.{size_of}
use Rattle.cell_tree.specs.Additions.{IsBelowItself, MayCome, MayAllCome}
use Rattle.cell_tree.specs.Arrivals.{IsExtended, IsSettled, MayBeSized}
use Rattle.cell_tree.proofs.EditLaws.{user_is_deeper}
use Rattle.cell_tree.proofs.FindLaws.{length-states}
use Rattle.cell_tree.proofs.SizeLaws.{alike_refl}

get_take : {X : Type 0} (xs : List X) (n k : ℕ) → k < n → slice_get (take n xs) k ≡ slice_get xs k
get_take [] zero k low = absurd (omega (arith, low))
get_take [] (suc n) k low = refl
get_take (x ∷ xs) zero k low = absurd (omega (arith, low))
get_take (x ∷ xs) (suc n) zero low = refl
get_take (x ∷ xs) (suc n) (suc k) low = get_take xs n k (omega (arith, low))

all_same : {X Y : Type 0} (xs : List X) (y : Y) → map (λ _. y) xs ≡ replicate (length xs) y
all_same [] y = refl
all_same (x ∷ xs) y = ap (λ ys. y ∷ ys) (all_same xs y)

module _ (cells : List TreeCell) (book : SizeBook) (whole : IsWhole cells book) (more all : List CellState) (may : MayAllCome (tree_of cells book) more)
    (are : all ≡ states cells ++ more) where
  count : length all ≡ length (states cells) + length more
  count = ap length are ∙ length-append (states cells) more

  each : (P : CellState → Type 0) → ((key : ℕ) (cell : CellState) → slice_get (states cells) key ≡ Some cell → P cell)
      → ((cell : CellState) → MayCome (length (states cells ++ more)) cell → P cell)
      → (key : ℕ) (cell : CellState) → slice_get all key ≡ Some cell → P cell
  each P old new key cell is =
      elim (slice_get-append_cases (states cells) more key cell (ap (λ (s : List CellState). slice_get s key) (sym are) ∙ is)) [
        | inl was ↦ old key cell was
        | inr comes ↦ new cell (All-slice_get (MayCome (length (states cells ++ more))) more comes.0 cell may comes.2)
      ]

  -- all the cells are lawful
  pub all_lawful : AreLawfulCells all
  all_lawful =
      record {
        few = each (λ cell. length cell.uses ≤ MOST_USES) whole.lawful.cells.few (λ cell comes. comes.few);
        uses = each (λ cell. AreUsesBelow (length all) cell.uses)
            (λ key cell is k entry stands. let old = whole.lawful.cells.uses key cell is k entry stands in (old.0, omega (arith, old.1, count)))
            (λ cell comes. subst (λ n. AreUsesBelow n cell.uses) (ap length (sym are)) comes.uses);
      }

  front : (key : ℕ) → key < length (states cells) → slice_get all key ≡ slice_get (states cells) key
  front key low = ap (λ (s : List CellState). slice_get s key) are ∙ slice_get-append_front (states cells) more key low

  old_uses : (user key : ℕ) → user < length (states cells) → Uses all user key → Uses (states cells) user key
  old_uses user key low uses = record {
    cell = uses.cell;
    is = sym (front user low) ∙ uses.is;
    k = uses.k;
    entry = uses.entry;
    stands = uses.stands;
    child = uses.child;
  }

  -- cells that were there use none but such
  pub old_children : (first : ℕ) → first ≡ length cells → (key child : ℕ) → key < first → Uses all key child → child < first
  old_children first is key child low uses =
      let old = old_uses key child (omega (arith, low, is, length-states cells)) uses in
      omega (
        arith,
        is,
        length-states cells,
        subst (λ c. c < length (states cells)) old.child
            (whole.lawful.cells.uses key old.cell old.is old.k old.entry old.stands).1,
      )

  old_above : (first : ℕ) → first ≡ length cells → (low up : ℕ) → IsAbove all low up → up < first
      → (low < first) × ((size_at book.sizes.items low).depth ≤ (size_at book.sizes.items up).depth)
  old_above first is low up stay within = (within, omega arith)
  old_above first is low up (go {b = user} uses rest) within =
      let above = old_above first is user up rest within in
      let deeper = user_is_deeper whole.lawful.cells whole.lawful.sizes user low (old_uses user low (omega (arith, above.0, is, length-states cells)) uses) in
      (old_children first is user low above.0 uses, omega (arith, above.1, deeper))

  -- and none of them stands below itself
  pub old_acyclic : (first : ℕ) → first ≡ length cells → (key : ℕ) → key < first → IsBelowItself all key → ⊥
  old_acyclic first is key low below =
      let child = old_children first is key below.child low below.used in
      let above = old_above first is key below.child below.above child in
      let deeper = user_is_deeper whole.lawful.cells whole.lawful.sizes key below.child
      (old_uses key below.child (omega (arith, low, is, length-states cells)) below.used) in
      omega (arith, above.1, deeper)

  -- so their sizes may be worked out
  pub may_be_sized : (first : ℕ) (order : List ℕ) (sizes : List Size) → first ≡ length cells → IsNewOrder all first order → sizes ≡ book.sizes.items
      → MayBeSized all first order sizes
  may_be_sized first order sizes is sorted same =
      record {
        lawful = all_lawful;
        sorted = sorted;
        count = omega (arith, ap length same, whole.lawful.sizes.count, length-states cells, is);
        old = λ dimension. subst (AreSettled dimension all first order 0) (sym same)
            (record { right = right dimension; within = λ key settled. whole.lawful.sizes.within dimension key });
      }
    where
      only_old : (key : ℕ) → IsSettled first order 0 key → key < first
      only_old key (inl old) = old
      only_old key (inr s) = absurd (omega (arith, s.before))

      right : (dimension : Dimension) (key : ℕ) (cell : CellState) → slice_get all key ≡ Some cell → IsSettled first order 0 key
          → AreAlike dimension (size_at book.sizes.items key) (size_of (size_at book.sizes.items) cell)
      right dimension key cell here settled =
          alike_refl dimension _ _ (whole.lawful.sizes.right key cell (sym (front key (omega (arith, only_old key settled, is, length-states cells))) ∙ here))

  module _ (new : List TreeCell) (book' : SizeBook) (users : KnowUsers new) (first total : ℕ) (is : first ≡ length cells) (long : total ≡ length new)
      (new_states : states new ≡ all)
      (mid : SizeBook) (same : SaysTheSame book mid) (extended : IsExtended all first total mid book') where
    total_is : length (states new) ≡ total
    total_is = length-states new ∙ sym long

    stamps_are : book'.stamps.items ≡ book.stamps.items ++ replicate (total - first) book'.edits
    stamps_are = extended.stamps ∙ ap (λ (s : List ℕ). s ++ replicate (total - first) book'.edits) same.stamps

    edits_are : book'.edits ≡ suc book.edits
    edits_are = extended.edits ∙ ap suc same.edits

    past : (key : ℕ) → stamp_at book'.stamps.items key ≤ book'.edits
    past key =
        elim (cases_lt key (length book.stamps.items)) [
          | inl before ↦ omega (
            arith,
            ap (λ s. stamp_at s key) stamps_are,
            get_or_append_left book.stamps.items (replicate (total - first) book'.edits) 0 key
                before,
            whole.lawful.past key,
            edits_are,
          )
          | inr after ↦
              let here = get_or-append_right book.stamps.items (replicate (total - first) book'.edits) (length book.stamps.items) key 0 refl
              (omega (arith, after)) in
              elim (cases_lt (key - length book.stamps.items) (total - first)) [
                | inl comes ↦ omega (
                  arith,
                  ap (λ s. stamp_at s key) stamps_are,
                  here,
                  get_or-replicate (total - first) (key - length book.stamps.items)
                      book'.edits 0 comes,
                )
                | inr beyond ↦
                    omega (
                      arith,
                      ap (λ s. stamp_at s key) stamps_are,
                      here,
                      get_or_past (replicate (total - first) book'.edits) (key - length book.stamps.items) 0
                          (omega (arith, beyond, length-replicate (total - first) book'.edits)),
                    )
              ]
        ]

    -- The tree is whole with them,
    pub come_whole : IsWhole new book'
    come_whole =
        record {
          lawful = record {
            cells = subst AreLawfulCells (sym new_states) all_lawful;
            each = λ key cell here. each IsLawfulCell whole.lawful.each (λ c comes. comes.lawful) key cell
                (ap (λ (s : List CellState). slice_get s key) (sym new_states) ∙ here);
            sizes = record {
              count = extended.ready.sizes ∙ sym total_is;
              right = subst (λ s. AreSizes s book'.sizes.items) (sym new_states) extended.right;
              within = extended.within;
            };
            stamps = extended.ready.stamps ∙ sym total_is;
            past = past;
          };
          users = users;
          ready = subst (IsReady book') long extended.ready;
        }

    -- and they were added.
    pub come_added : AreAdded (tree_of cells book) (tree_of new book') more
    come_added =
        record {
          cells = new_states ∙ are;
          sizes = λ key low. extended.kept key (omega (arith, low, is, length-states cells)) ∙ ap (λ (s : List Size). size_at s key) same.sizes;
          edits = edits_are;
          stamps = stamps_are ∙ ap (λ (s : List ℕ). book.stamps.items ++ s)
              (ap (λ n. replicate n book'.edits) (let e : total - first ≡ length more =
              omega (arith, is, length-states cells, total_is, ap length new_states, count) in e) ∙ sym (all_same more book'.edits));
        }

module _ (cells new : List TreeCell) (book book' : SizeBook) (whole : IsWhole cells book) (behind : AreBehind cells new) (same : SaysTheSame book book')
    (ready : IsReady book' (length cells))
    (first : ℕ) (is : first ≡ length cells) where
  left : states (take first new) ≡ states cells
  left =
      sym (take-map _ first new) ∙ ap (take first) behind.is ∙ take_at (states cells) behind.more first (length-states cells ∙ sym is)

  enough : first ≤ length new
  enough = omega (arith, is, ap length behind.is, length-append (states cells) behind.more, length-states cells, length-states new)

  left_long : length (take first new) ≡ length cells
  left_long = length-take-le first new enough ∙ is

  users_left : (key : ℕ) → key < first → users_of (take first new) key ≡ users_of new key
  users_left key low = ap (λ o. option_map_or (λ (c : TreeCell). c.users.keys) o []) (get_take new first key low)

  new_uses : (user key : ℕ) → Uses (states cells) user key → Uses (states new) user key
  new_uses user key uses =
      record {
        cell = uses.cell;
        is = ap (λ (s : List CellState). slice_get s user) behind.is
            ∙ slice_get-append_front (states cells) behind.more user (slice_get_within (states cells) user uses.cell uses.is) ∙ uses.is;
        k = uses.k;
        entry = uses.entry;
        stands = uses.stands;
        child = uses.child;
      }

  old_of_new : (user key : ℕ) → user < first → Uses (states new) user key → Uses (states cells) user key
  old_of_new user key low uses =
      record {
        cell = uses.cell;
        is = sym (ap (λ (s : List CellState). slice_get s user) behind.is
            ∙ slice_get-append_front (states cells) behind.more user (omega (arith, low, is, length-states cells))) ∙ uses.is;
        k = uses.k;
        entry = uses.entry;
        stands = uses.stands;
        child = uses.child;
      }

  users_of_left : KnowUsers (take first new)
  users_of_left =
      record {
        known = λ key user uses'.
            let uses : Uses (states cells) user key = subst (λ s. Uses s user key) left uses' in
            let low : user < first = omega (arith, slice_get_within (states cells) user uses.cell uses.is, length-states cells, is) in
            let inside : key < first = omega (
              arith,
              is,
              length-states cells,
              subst (λ c. c < length (states cells)) uses.child
                  (whole.lawful.cells.uses user uses.cell uses.is uses.k uses.entry uses.stands).1,
            ) in
            subst (λ ks. Contains ks user) (sym (users_left key inside)) (behind.users.known key user (omega (arith, low, is)) (new_uses user key uses));
        none = λ key user has. elim (cases_lt key first) [
          | inl inside ↦
              let has' : IsUserOf new key user = subst (λ ks. Contains ks user) (users_left key inside) has in
              subst (λ s. Uses s user key) (sym left) (old_of_new user key (omega (arith, behind.users.before key user has', is))
              (behind.users.uses key user has'))
          | inr past ↦ absurd (
              let none = subst (λ ks. Contains ks user)
              (ap (λ o. option_map_or (λ (cell : TreeCell). cell.users.keys) o []) (slice_get_past (take first new) key (omega (arith, past, left_long, is))))
              has in
              omega (arith, none.1))
        ];
      }

  -- where the cells that came go again, the tree says the same
  pub gone_same : tree_of cells book ≡ tree_of (take first new) book'
  gone_same =
      let whole : record { cells = states cells; sizes = book.sizes.items; stamps = book.stamps.items; edits = book.edits } ≡ tree_of (take first new) book' =
      rw (← left, ← same.sizes, ← same.stamps, ← same.edits) refl in whole

  -- and is whole again
  pub gone_whole : IsWhole (take first new) book'
  gone_whole = record { lawful = subst IsLawfulTree gone_same whole.lawful; users = users_of_left; ready = subst (IsReady book') (sym left_long) ready }
