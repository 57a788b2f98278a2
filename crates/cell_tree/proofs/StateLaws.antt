-- Which states a cell may take: with one more use, with a use placed otherwise, and with one use less.
use Rattle.cell_tree.proofs.Common.{◌≡◌, ◌≢◌, ◌⊎◌, ◌↔◌, inl, inr, ℕ, zero, suc, ◌<◌, ◌≤◌, List, [], ◌∷◌, ◌++◌, length, map, take, drop, max, get_or}
use Rattle.cell_tree.proofs.Common.{slice_get, Option, Some, refl, Contains, sym, ap, subst, ◌∙◌, arith, same_Some, In, Grid, Transform, TreeCell}
use Rattle.cell_tree.proofs.Common.{MOST_USES, SizeBook, UseBody, HasChild, HasIdAt, IsShift, IsLawfulGrid, IsLawfulUse, with_use_at, Passed}
use Rattle.cell_tree.proofs.Common.{Dimension, Depth, Elements, Hull, Size, CellState, size_at, AreUsesBelow, IsReady, SaysTheSame, AreLawful}
use Rattle.cell_tree.proofs.Common.{IsUserOf, AreUsersKept, WouldPassFirst, state_of, states, users_of, Uses, IsAbove, Tree, cell_at, with_inserted}
use Rattle.cell_tree.proofs.Common.{with_moved, with_use_set, with_uses, without_use, IsLawfulTree, RefusesMove, WouldPass, tree_of, IsWhole}
use Rattle.cell_tree.proofs.Common.{option_map}
use Rattle.std.proofs.Common.{insert}
use Rattle.std.proofs.lemmas.List.Edits.{length-insert}
use Rattle.geo_core.specs.FiniteSets.Lists.{Distinct}
use Rattle.cell_tree.specs.Uses.{moved_at}
use Rattle.ext_model.specs.declared.tables.CellKey.{CellKey}
use Rattle.cell_tree.specs.Sizes.{size_of, with_use, depth_below}
use Rattle.cell_tree.specs.Trees.{IsFree}
use Rattle.cell_tree.proofs.EditLaws.{child_is_not_above}
use Rattle.cell_tree.proofs.FindLaws.{length-states}
use Rattle.cell_tree.proofs.ShrinkLaws.{AreAmong, none, both, skip, among_all, among_removed}
use Rattle.cell_tree.proofs.SizeLaws.{size_of-inserted, body_at}
use Rattle.cell_tree.proofs.CellLaws.{cell_at-states}
use Rattle.cell_tree.proofs.WholeLaws.{IsLawfulState, cell_is, would_pass}
use Rattle.cell_tree.proofs.TreeLaws.{never_passes}

abbrev Entry : Type 0
Entry = List ℕ × UseBody

-- what stands in a list with one more at a place
pub get_inserted : (xs : List Entry) (at : ℕ) (y e : Entry) (k : ℕ) → slice_get (insert xs at y) k ≡ Some e → ((j : ℕ) × (slice_get xs j ≡ Some e)) ⊎ (y ≡ e)
get_inserted xs zero y e zero is = inr (same_Some y e is)
get_inserted xs zero y e (suc k) is = inl (k, is)
get_inserted [] (suc at) y e zero is = inr (same_Some y e is)
get_inserted [] (suc at) y e (suc k) is = absurd (cc)
get_inserted (x ∷ xs) (suc at) y e zero is = inl (0, is)
get_inserted (x ∷ xs) (suc at) y e (suc k) is = elim (get_inserted xs at y e k is) [ inl old ↦ inl (suc old.0, old.1) | inr same ↦ inr same ]

-- the one that came stands there
pub get_new : (xs : List Entry) (at : ℕ) (y : Entry) → (j : ℕ) × (slice_get (insert xs at y) j ≡ Some y)
get_new xs zero y = (0, refl)
get_new [] (suc at) y = (0, refl)
get_new (x ∷ xs) (suc at) y = let r = get_new xs at y in (suc r.0, r.1)

-- and the others are among them
pub among_inserted : (xs : List Entry) (at : ℕ) (y : Entry) → AreAmong xs (insert xs at y)
among_inserted xs zero y = skip y (among_all xs)
among_inserted [] (suc at) y = skip y none
among_inserted (x ∷ xs) (suc at) y = both x (among_inserted xs at y)

In-id : (xs : List Entry) (id : List ℕ) → In id (map (λ entry. entry.0) xs) → (k : ℕ) × HasIdAt xs k id
In-id [] id stands = absurd stands
In-id (x ∷ xs) id (inl same) = (0, record { entry = x; stands = refl; same = same })
In-id (x ∷ xs) id (inr later) = let r = In-id xs id later in (suc r.0, record { entry = r.1.entry; stands = r.1.stands; same = r.1.same })

In-inserted_id : (xs : List Entry) (at : ℕ) (y : Entry) (id : List ℕ) → In id (map (λ entry. entry.0) (insert xs at y))
    → In id (map (λ entry. entry.0) xs) ⊎ (y.0 ≡ id)
In-inserted_id xs zero y id (inl same) = inr same
In-inserted_id xs zero y id (inr later) = inl later
In-inserted_id [] (suc at) y id (inl same) = inr same
In-inserted_id [] (suc at) y id (inr later) = absurd later
In-inserted_id (x ∷ xs) (suc at) y id (inl same) = inl (inl same)
In-inserted_id (x ∷ xs) (suc at) y id (inr later) = elim (In-inserted_id xs at y id later) [ inl stands ↦ inl (inr stands) | inr same ↦ inr same ]

distinct_inserted : (xs : List Entry) (at : ℕ) (y : Entry) → Distinct (map (λ entry. entry.0) xs) → (In y.0 (map (λ entry. entry.0) xs) → ⊥)
    → Distinct (map (λ entry. entry.0) (insert xs at y))
distinct_inserted xs zero y apart new = (new, apart)
distinct_inserted [] (suc at) y apart new = ((λ never. never), tt)
distinct_inserted (x ∷ xs) (suc at) y apart new = (
  (λ stands. elim (In-inserted_id xs at y x.0 stands) [ inl old ↦ apart.0 old | inr same ↦ new (inl (sym same)) ]),
  distinct_inserted xs at y apart.1 (λ stands. new (inr stands)),
)

ids-set : (xs : List Entry) (k : ℕ) (used : UseBody) → map (λ (entry : Entry). entry.0) (with_use_at xs k used) ≡ map (λ (entry : Entry). entry.0) xs
ids-set [] k used = refl
ids-set (x ∷ xs) zero used = refl
ids-set (x ∷ xs) (suc k) used = ap (λ (ids : List (List ℕ)). x.0 ∷ ids) (ids-set xs k used)

length-with_use_at : (xs : List Entry) (k : ℕ) (used : UseBody) → length (with_use_at xs k used) ≡ length xs
length-with_use_at [] k used = refl
length-with_use_at (x ∷ xs) zero used = refl
length-with_use_at (x ∷ xs) (suc k) used = ap suc (length-with_use_at xs k used)

get_set : (xs : List Entry) (k : ℕ) (used : UseBody) (j : ℕ) (e : Entry) → slice_get (with_use_at xs k used) j ≡ Some e
    → (slice_get xs j ≡ Some e) ⊎ ((used ≡ e.1) × (j ≡ k))
get_set [] k used j e is = absurd (cc)
get_set (x ∷ xs) zero used zero e is = inr (ap (λ (f : Entry). f.1) (same_Some _ _ is), refl)
get_set (x ∷ xs) zero used (suc j) e is = inl is
get_set (x ∷ xs) (suc k) used zero e is = inl is
get_set (x ∷ xs) (suc k) used (suc j) e is = elim (get_set xs k used j e is) [ inl old ↦ inl old | inr new ↦ inr (new.0, ap suc new.1) ]

-- children stay where one use got another body of the same child
pub child_set : (xs : List Entry) (k : ℕ) (used : UseBody) (id : List ℕ) (body : UseBody) → slice_get xs k ≡ Some (id, body) → used.child.0 ≡ body.child.0
    → (key : ℕ) → HasChild (with_use_at xs k used) key ↔ HasChild xs key
child_set [] k used id body is same key = absurd (cc)
child_set (x ∷ xs) zero used id body is same key =
    let here : x.1.child.0 ≡ body.child.0 = ap (λ (e : Entry). e.1.child.0) (same_Some x (id, body) is) in
    ((λ has. forth here has.k has.entry has.stands has.same), (λ has. back here has.k has.entry has.stands has.same))
  where
    forth : x.1.child.0 ≡ body.child.0 → (j : ℕ) (e : Entry) → slice_get ((x.0, used) ∷ xs) j ≡ Some e → e.1.child.0 ≡ key → HasChild (x ∷ xs) key
    forth here zero e stands child = record {
      k = 0;
      entry = x;
      stands = refl;
      same = here ∙ sym same ∙ ap (λ (f : Entry). f.1.child.0) (same_Some _ _ stands) ∙ child;
    }
    forth here (suc j) e stands child = record { k = suc j; entry = e; stands = stands; same = child }

    back : x.1.child.0 ≡ body.child.0 → (j : ℕ) (e : Entry) → slice_get (x ∷ xs) j ≡ Some e → e.1.child.0 ≡ key → HasChild ((x.0, used) ∷ xs) key
    back here zero e stands child = record {
      k = 0;
      entry = (x.0, used);
      stands = refl;
      same = same ∙ sym here ∙ ap (λ (f : Entry). f.1.child.0) (same_Some _ _ stands) ∙ child;
    }
    back here (suc j) e stands child = record { k = suc j; entry = e; stands = stands; same = child }
child_set (x ∷ xs) (suc k) used id body is same key =
    let r = child_set xs k used id body is same key in
    ((λ has. forth r has.k has.entry has.stands has.same), (λ has. back r has.k has.entry has.stands has.same))
  where
    forth : (HasChild (with_use_at xs k used) key ↔ HasChild xs key) → (j : ℕ) (e : Entry) → slice_get (x ∷ with_use_at xs k used) j ≡ Some e
        → e.1.child.0 ≡ key → HasChild (x ∷ xs) key
    forth r zero e stands child = record { k = 0; entry = e; stands = stands; same = child }
    forth r (suc j) e stands child = let h = r.0 (record { k = j; entry = e; stands = stands; same = child }) in
        record { k = suc h.k; entry = h.entry; stands = h.stands; same = h.same }

    back : (HasChild (with_use_at xs k used) key ↔ HasChild xs key) → (j : ℕ) (e : Entry) → slice_get (x ∷ xs) j ≡ Some e → e.1.child.0 ≡ key
        → HasChild (x ∷ with_use_at xs k used) key
    back r zero e stands child = record { k = 0; entry = e; stands = stands; same = child }
    back r (suc j) e stands child = let h = r.1 (record { k = j; entry = e; stands = stands; same = child }) in
        record { k = suc h.k; entry = h.entry; stands = h.stands; same = h.same }

-- another body that keeps the child moves the use
pub moved-set : (xs : List Entry) (k : ℕ) (used : UseBody) (id : List ℕ) (body : UseBody) → slice_get xs k ≡ Some (id, body) → used.child ≡ body.child
    → with_use_at xs k used ≡ moved_at xs k used.placed used.grid
moved-set [] k used id body is same = absurd (cc)
moved-set (x ∷ xs) zero used id body is same =
    let child : used.child ≡ x.1.child = same ∙ sym (ap (λ (e : Entry). e.1.child) (same_Some x (id, body) is)) in
    ap (λ c. (x.0, record { child = c; placed = used.placed; grid = used.grid }) ∷ xs) child
moved-set (x ∷ xs) (suc k) used id body is same = ap (λ (rest : List Entry). x ∷ rest) (moved-set xs k used id body is same)

-- what stands in the first stands in the second
pub among_get : {xs ys : List Entry} → AreAmong xs ys → (k : ℕ) (e : Entry) → slice_get xs k ≡ Some e → (j : ℕ) × (slice_get ys j ≡ Some e)
among_get none k e is = absurd (cc)
among_get (both x rest) zero e is = (0, is)
among_get (both x rest) (suc k) e is = let r = among_get rest k e is in (suc r.0, r.1)
among_get (skip x rest) k e is = let r = among_get rest k e is in (suc r.0, r.1)

among_length : {xs ys : List Entry} → AreAmong xs ys → length xs ≤ length ys
among_length none = omega arith
among_length (both x rest) = omega (arith, among_length rest)
among_length (skip x rest) = omega (arith, among_length rest)

among_id : {xs ys : List Entry} → AreAmong xs ys → (id : List ℕ) → In id (map (λ entry. entry.0) xs) → In id (map (λ entry. entry.0) ys)
among_id none id stands = stands
among_id (both x rest) id (inl same) = inl same
among_id (both x rest) id (inr later) = inr (among_id rest id later)
among_id (skip x rest) id stands = inr (among_id rest id stands)

among_distinct : {xs ys : List Entry} → AreAmong xs ys → Distinct (map (λ entry. entry.0) ys) → Distinct (map (λ entry. entry.0) xs)
among_distinct none apart = tt
among_distinct (both x rest) apart = ((λ stands. apart.0 (among_id rest x.0 stands)), among_distinct rest apart.1)
among_distinct (skip x rest) apart = among_distinct rest apart.1

-- the children but one of uses of which one of it is taken away
pub child_removed : (xs : List Entry) (k : ℕ) (id : List ℕ) (body : UseBody) → slice_get xs k ≡ Some (id, body) → (key : ℕ) → key ≢ body.child.0
    → HasChild (take k xs ++ drop (suc k) xs) key ↔ HasChild xs key
child_removed xs k id body is key differs = (
  (λ has. let r = among_get (among_removed xs k) has.k has.entry has.stands in record { k = r.0; entry = has.entry; stands = r.1; same = has.same }),
  (λ has. back xs k is has.k has.entry has.stands has.same),
)
  where
    back : (xs : List Entry) (k : ℕ) → slice_get xs k ≡ Some (id, body) → (j : ℕ) (e : Entry) → slice_get xs j ≡ Some e → e.1.child.0 ≡ key
        → HasChild (take k xs ++ drop (suc k) xs) key
    back [] k is j e stands child = absurd (cc)
    back (x ∷ xs) zero is zero e stands child =
        absurd (differs (sym child ∙ sym (ap (λ (f : Entry). f.1.child.0) (same_Some x e stands))
        ∙ ap (λ (f : Entry). f.1.child.0) (same_Some x (id, body) is)))
    back (x ∷ xs) zero is (suc j) e stands child = record { k = j; entry = e; stands = stands; same = child }
    back (x ∷ xs) (suc k) is zero e stands child = record { k = 0; entry = e; stands = stands; same = child }
    back (x ∷ xs) (suc k) is (suc j) e stands child = let r = back xs k is j e stands child in
        record { k = suc r.k; entry = r.entry; stands = r.stands; same = r.same }

-- and but the child of a use that came
pub child_inserted : (xs : List Entry) (at : ℕ) (y : Entry) (key : ℕ) → key ≢ y.1.child.0 → HasChild (insert xs at y) key ↔ HasChild xs key
child_inserted xs at y key differs = (
  (λ has. elim (get_inserted xs at y has.entry has.k has.stands) [
    | inl old ↦ record { k = old.0; entry = has.entry; stands = old.1; same = has.same }
    | inr new ↦ absurd (differs (sym has.same ∙ sym (ap (λ (f : Entry). f.1.child.0) new)))
  ]),
  (λ has. let r = among_get (among_inserted xs at y) has.k has.entry has.stands in record { k = r.0; entry = has.entry; stands = r.1; same = has.same }),
)

-- which is a child
pub new_child : (xs : List Entry) (at : ℕ) (y : Entry) → HasChild (insert xs at y) y.1.child.0
new_child xs at y = let r = get_new xs at y in record { k = r.0; entry = y; stands = r.1; same = refl }

depth_set : (f : ℕ → Size) (xs : List Entry) (k : ℕ) (used : UseBody) (id : List ℕ) (body : UseBody) → slice_get xs k ≡ Some (id, body)
    → used.child.0 ≡ body.child.0
    → depth_below f (with_use_at xs k used) ≡ depth_below f xs
depth_set f [] k used id body is same = absurd (cc)
depth_set f (x ∷ xs) zero used id body is same =
    ap (λ c. max (f c).depth (depth_below f xs)) (same ∙ sym (ap (λ (e : Entry). e.1.child.0) (same_Some x (id, body) is)))
depth_set f (x ∷ xs) (suc k) used id body is same = ap (max (f x.1.child.0).depth) (depth_set f xs k used id body is same)

-- a use placed otherwise leaves the depth
pub moved_depth : (f : ℕ → Size) (cell : CellState) (k : ℕ) (used : UseBody) (id : List ℕ) (body : UseBody) → slice_get cell.uses k ≡ Some (id, body)
    → used.child.0 ≡ body.child.0
    → (size_of f (with_use_set cell k used)).depth ≡ (size_of f cell).depth
unfolding size_of
moved_depth f cell k used id body is same = ap suc (depth_set f cell.uses k used id body is same)

-- Another body of a use of a cell, which keeps its child.
pub record IsMove (cells : List CellState) (changed k : ℕ) (used : UseBody) : Type 0 where
  pub id : List ℕ
  pub body : UseBody
  pub stands : slice_get (cell_at cells changed).uses k ≡ Some (id, body)
  pub child : used.child ≡ body.child
  pub lawful : IsLawfulUse used

-- Which use may come to a cell, and at which place.
pub record MayInsert (tree : Tree) (cell at : ℕ) (id : List ℕ) (used : UseBody) : Type 0 where
  pub within : cell < length tree.cells
  pub place : at ≤ length (cell_at tree.cells cell).uses
  pub new : (k : ℕ) → HasIdAt (cell_at tree.cells cell).uses k id → ⊥
  pub lawful : IsLawfulUse used
  pub child : used.child.0 < length tree.cells
  pub free : IsFree tree cell used
  pub few : length (cell_at tree.cells cell).uses < MOST_USES

module _ {cells : List TreeCell} {book : SizeBook} (whole : IsWhole cells book) (changed : ℕ) (inside : changed < length cells) where
  in_states : changed < length (states cells)
  in_states = omega (arith, inside, length-states cells)

  was : slice_get (states cells) changed ≡ Some (cell_at (states cells) changed)
  was = cell_is (states cells) changed in_states

  old_uses : (k : ℕ) (entry : Entry) → slice_get (cell_at (states cells) changed).uses k ≡ Some entry → Uses (states cells) changed entry.1.child.0
  old_uses k entry stands = record { cell = cell_at (states cells) changed; is = was; k = k; entry = entry; stands = stands; child = refl }

  old_free : (k : ℕ) (entry : Entry) → slice_get (cell_at (states cells) changed).uses k ≡ Some entry → IsAbove (states cells) changed entry.1.child.0 → ⊥
  old_free k entry stands =
      child_is_not_above whole.lawful.cells whole.lawful.sizes changed entry.1.child.0 (old_uses k entry stands)

  old_below : AreUsesBelow (length (states cells)) (cell_at (states cells) changed).uses
  old_below = whole.lawful.cells.uses changed _ was

  -- the cell is known as a user of the child of each of its uses
  pub old_known : (k : ℕ) (entry : Entry) → slice_get (cell_at (states cells) changed).uses k ≡ Some entry → IsUserOf cells entry.1.child.0 changed
  old_known k entry stands = whole.users.known _ _ (old_uses k entry stands)

  -- which is a cell
  pub old_child : (k : ℕ) (entry : Entry) → slice_get (cell_at (states cells) changed).uses k ≡ Some entry → entry.1.child.0 < length cells
  old_child k entry stands = omega (arith, (old_below k entry stands).1, length-states cells)

  -- one more use of a child that doesn't stand above
  pub inserted_lawful : (at : ℕ) (id : List ℕ) (used : UseBody) → MayInsert (tree_of cells book) changed at id used
      → IsLawfulState (states cells) changed (with_inserted (cell_at (states cells) changed) at id used)
  inserted_lawful at id used may =
      record {
        few = omega (arith, may.few, length-insert (cell_at (states cells) changed).uses at (id, used) may.place);
        uses = λ k entry is. elim (get_inserted (cell_at (states cells) changed).uses at (id, used) entry k is) [
          | inl old ↦ old_below old.0 entry old.1
          | inr same ↦ subst (λ (e : Entry). IsLawfulUse e.1 × (e.1.child.0 < length (states cells))) same (may.lawful, may.child)
        ];
        cell = record {
          ids = distinct_inserted (cell_at (states cells) changed).uses at (id, used) (whole.lawful.each changed _ was).ids
              (λ stands. let r = In-id (cell_at (states cells) changed).uses id stands in may.new r.0 r.1);
          own = (whole.lawful.each changed _ was).own;
        };
        free = λ k entry is. elim (get_inserted (cell_at (states cells) changed).uses at (id, used) entry k is) [
          | inl old ↦ old_free old.0 entry old.1
          | inr same ↦ subst (λ (e : Entry). IsAbove (states cells) changed e.1.child.0 → ⊥) same may.free
        ];
      }

  -- a use placed otherwise
  pub moved_lawful : (k : ℕ) (used : UseBody) → IsMove (states cells) changed k used
      → IsLawfulState (states cells) changed (with_use_set (cell_at (states cells) changed) k used)
  moved_lawful k used move =
      let same : used.child.0 ≡ move.body.child.0 = ap (λ (c : CellKey). c.0) move.child in
      record {
        few = omega (arith, whole.lawful.cells.few changed _ was, length-with_use_at (cell_at (states cells) changed).uses k used);
        uses = λ j entry stands. elim (get_set (cell_at (states cells) changed).uses k used j entry stands) [
          | inl old ↦ old_below j entry old
          | inr new ↦ subst (λ (u : UseBody). IsLawfulUse u × (u.child.0 < length (states cells))) new.0
              (move.lawful, subst (λ n. n < length (states cells)) (sym same) (old_below k (move.id, move.body) move.stands).1)
        ];
        cell = record {
          ids = subst Distinct (sym (ids-set (cell_at (states cells) changed).uses k used)) (whole.lawful.each changed _ was).ids;
          own = (whole.lawful.each changed _ was).own;
        };
        free = λ j entry stands. elim (get_set (cell_at (states cells) changed).uses k used j entry stands) [
          | inl old ↦ old_free j entry old
          | inr new ↦ subst (λ (u : UseBody). IsAbove (states cells) changed u.child.0 → ⊥) new.0
              (subst (λ n. IsAbove (states cells) changed n → ⊥) (sym same) (old_free k (move.id, move.body) move.stands))
        ];
      }

  -- its child is a cell
  pub moved_child : (k : ℕ) (used : UseBody) → IsMove (states cells) changed k used → used.child.0 < length cells
  moved_child k used move = omega (arith, old_child k (move.id, move.body) move.stands, ap (λ (c : CellKey). c.0) move.child)

  -- the children stay the same
  pub moved_children : (k : ℕ) (used : UseBody) → IsMove (states cells) changed k used → (key : ℕ)
      → HasChild (with_use_set (cell_at (states cells) changed) k used).uses key ↔ HasChild (cell_at (states cells) changed).uses key
  moved_children k used move =
      child_set (cell_at (states cells) changed).uses k used move.id move.body move.stands (ap (λ (c : CellKey). c.0) move.child)

  -- and it is placed so
  pub moved_is : (k : ℕ) (used : UseBody) → IsMove (states cells) changed k used
      → with_use_set (cell_at (states cells) changed) k used ≡ with_moved (cell_at (states cells) changed) k used.placed used.grid
  moved_is k used move =
      ap (with_uses (cell_at (states cells) changed)) (moved-set (cell_at (states cells) changed).uses k used move.id move.body move.stands move.child)

  -- what a use placed otherwise passes first
  pub moved_refused : (k : ℕ) (used : UseBody) → IsMove (states cells) changed k used → (dimension : Dimension)
      → WouldPassFirst dimension (states cells) book.sizes.items changed (size_of (size_at book.sizes.items)
      (with_use_set (cell_at (states cells) changed) k used))
      → RefusesMove (tree_of cells book) changed k used.placed used.grid (Passed dimension)
  moved_refused k used move Depth passes =
      never_passes whole changed inside Depth _ (omega (
        arith,
        moved_depth (size_at book.sizes.items) (cell_at (states cells) changed) k used move.id move.body move.stands (ap (λ (c : CellKey). c.0) move.child),
        ap (λ (s : Size). s.depth) (whole.lawful.sizes.right changed _ was),
      )) passes
  moved_refused k used move Elements passes =
      subst (WouldPass Elements (tree_of cells book) changed) (moved_is k used move) (would_pass whole inside (moved_lawful k used move) Elements passes)
  moved_refused k used move Hull passes =
      subst (WouldPass Hull (tree_of cells book) changed) (moved_is k used move) (would_pass whole inside (moved_lawful k used move) Hull passes)

  -- one use less
  pub removed_lawful : (k : ℕ) → IsLawfulState (states cells) changed (without_use (cell_at (states cells) changed) k)
  removed_lawful k =
      let among = among_removed (cell_at (states cells) changed).uses k in
      record {
        few = omega (arith, whole.lawful.cells.few changed _ was, among_length among);
        uses = λ j entry stands. let r = among_get among j entry stands in old_below r.0 entry r.1;
        cell = record { ids = among_distinct among (whole.lawful.each changed _ was).ids; own = (whole.lawful.each changed _ was).own };
        free = λ j entry stands. let r = among_get among j entry stands in old_free r.0 entry r.1;
      }

-- the size of a cell with one more use
pub inserted_size : {cells : List TreeCell} {sizes : List Size} → AreLawful cells sizes → (changed : ℕ) → changed < length cells → (at : ℕ) (id : List ℕ)
    (used : UseBody)
    → with_use (size_at sizes changed) used (size_at sizes used.child.0) ≡ size_of (size_at sizes) (with_inserted (cell_at (states cells) changed) at id used)
inserted_size {cells = cells} {sizes = sizes} lawful changed inside at id used =
    ap (λ (s : Size). with_use s used (size_at sizes used.child.0))
    (lawful.measured.right changed _ (cell_is (states cells) changed (omega (arith, inside, length-states cells))))
    ∙ sym (size_of-inserted (size_at sizes) (cell_at (states cells) changed) at id used)

-- A tree of cells of the same states and users is whole, with a book that says the same.
pub whole_same : {cells : List TreeCell} {book book' : SizeBook} (cells' : List TreeCell) → IsWhole cells book → states cells' ≡ states cells
    → AreUsersKept cells cells' → SaysTheSame book book' → IsReady book' (length cells) → IsWhole cells' book'
whole_same {cells = cells} {book = book} {book' = book'} cells' whole are kept same ready =
    record {
      lawful = subst IsLawfulTree trees whole.lawful;
      users = record {
        known = λ key user uses. subst (λ ks. Contains ks user) (sym (kept key)) (whole.users.known key user (subst (λ s. Uses s user key) are uses));
        none = λ key user knows. subst (λ s. Uses s user key) (sym are) (whole.users.none key user (subst (λ ks. Contains ks user) (kept key) knows));
      };
      ready = subst (IsReady book') (sym (sym (length-states cells') ∙ ap length are ∙ length-states cells)) ready;
    }
  where
    trees : tree_of cells book ≡ tree_of cells' book'
    trees =
        let whole : record { cells = states cells; sizes = book.sizes.items; stamps = book.stamps.items; edits = book.edits } ≡ tree_of cells' book' =
        rw (← are, ← same.sizes, ← same.stamps, ← same.edits) refl in whole

-- The cells and what contracts see of them, after room was made.
pub record IsReserved (cells : List TreeCell) (book : SizeBook) (tree : Tree) : Type 0 where
  pub whole : IsWhole cells book
  pub view : tree_of cells book ≡ tree

pub reserved : {cells shown new after : List TreeCell} {book : SizeBook} {tree : Tree} → IsWhole cells book → tree_of cells book ≡ tree → shown ≡ cells
    → states new ≡ states shown → AreUsersKept shown new → after ≡ new → IsReserved after book tree
reserved {after = after} {book = book} whole view same are kept left =
    let states_are = ap states left ∙ are ∙ ap states same in
    record {
      whole = whole_same after whole states_are
          (λ key. ap (λ (cs : List TreeCell). users_of cs key) left ∙ kept key ∙ ap (λ (cs : List TreeCell). users_of cs key) same)
          (record { sizes = refl; stamps = refl; edits = refl }) whole.ready;
      view = ap (λ (s : List CellState). let t : Tree = record { cells = s; sizes = book.sizes.items; stamps = book.stamps.items; edits = book.edits } in t)
          states_are ∙ view;
    }

-- the use that is read of a cell
pub stands_at : (cells : List TreeCell) (key : ℕ) {d : TreeCell} (k : ℕ) {used : UseBody} → key < length cells → d ≡ get_or cells key d
    → option_map (λ (entry : Entry). entry.1) (slice_get d.uses.entries k) ≡ Some used
    → (id : List ℕ) × (slice_get (cell_at (states cells) key).uses k ≡ Some (id, used))
stands_at cells key {d = d} k {used = used} within is at =
    let r = body_at d.uses.entries k used at in
    (r.0, subst (λ (c : CellState). slice_get c.uses k ≡ Some (r.0, used)) (sym (cell_at-states cells key d within ∙ ap state_of (sym is))) r.1)

-- another place and grid of it
pub move_of : (cells : List TreeCell) (key : ℕ) {d : TreeCell} (k : ℕ) {body : UseBody} (placed : Transform) (grid : Option Grid) → key < length cells
    → d ≡ get_or cells key d
    → option_map (λ (entry : Entry). entry.1) (slice_get d.uses.entries k) ≡ Some body
    → IsShift placed.dx → IsShift placed.dy → ((g : Grid) → grid ≡ Some g → IsLawfulGrid g)
    → IsMove (states cells) key k (record { child = body.child; placed = placed; grid = grid })
move_of cells key k {body = body} placed grid within is at dx dy lawful =
    let there = stands_at cells key k within is at in
    record { id = there.0; body = body; stands = there.1; child = refl; lawful = record { dx = dx; dy = dy; grid = lawful } }
