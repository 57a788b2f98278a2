-- Steps of the functions that take in cells which come all at once.
use Rattle.cell_library.proofs.Common.{◌≡◌, ◌+◌, ◌-◌, ◌<◌, ◌≤◌, ℕ, zero, suc, List, [], ◌∷◌, ◌++◌, append_assoc, length, length-append, map, take}
use Rattle.cell_library.proofs.Common.{drop, get_or, refl, sym, ap, subst, ◌∙◌, arith, inl, inr, true, Some, None, All, cond, nat_lt, position}
use Rattle.cell_library.proofs.Common.{position_or_len, bytes_eq, cases_Bool, length-map, map-append, take_more, All-push, bytes_eq-Decides, map-map}
use Rattle.cell_library.proofs.Common.{In, Distinct, CellBody, CellUse, layout_of, NewCell, UseBody, new_state, new_states, CellState, AreFitFor}
use Rattle.cell_library.proofs.Common.{AreUsesAmong, contents_with, held_from, kept_uses, names_in, new_views, views_from, kept_cell, kept_use, Held}
use Rattle.cell_library.proofs.Common.{held_at, no_held, position_of, AreStatesOf, OwnBoxIs, cell_view, cell_views, CellView}
use Rattle.std.proofs.lemmas.Bool.Decides.{nat_tests}
use Rattle.std.proofs.lemmas.List.{length-take-le, length-drop}
use Rattle.std.proofs.lemmas.List.{get_or-drop, get_or_default}
use Rattle.geo_core.proofs.FiniteSets.Distincts.{Distinct-append_apart}
use Rattle.cell_library.proofs.ViewLaws.{one_more_seen, states_more, length-states, length-cell_views}

-- ---- contents that come

-- what isn't there is passed over
position_absent : (name : List ℕ) (names : List (List ℕ)) → (In name names → ⊥) → position_or_len (bytes_eq name) names ≡ length names
position_absent name [] absent = refl
position_absent name (other ∷ names) absent = elim (cases_Bool (bytes_eq name other)) [
  | inl same ↦ absurd (absent (inl (sym ((bytes_eq-Decides name other).0 same))))
  | inr apart ↦ (let later = position_absent name names (λ there. absent (inr there)) in rw apart (omega arith))
]

-- what is looked for past the end is not found
pub not_found : (n m : ℕ) → n ≡ m → cond (nat_lt n m) (Some n) None ≡ None
not_found n m same = elim (cases_Bool (nat_lt n m)) [
  | inl below ↦ absurd (below_itself n m same below)
  | inr past ↦ rw past refl
]
  where
    below_itself : (a b : ℕ) → a ≡ b → nat_lt a b ≡ true → ⊥
    below_itself a b one below = grind (arith, nat_tests)

-- Where the names of all differ, the name of the next cell is new.
pub next_is_new : (old : List Held) (done : List (List ℕ × CellBody)) (cell : List ℕ × CellBody) (rest all : List (List ℕ × CellBody))
    → done ++ cell ∷ rest ≡ all → Distinct (names_in (contents_with old all)) → position_of cell.0 (contents_with old done) ≡ None
next_is_new old done cell rest all is differ =
    let name : Held → List ℕ = λ held. held.name in
    let split : contents_with old all ≡ contents_with old done ++ held_from cell ∷ map held_from rest =
    ap (contents_with old) (sym is) ∙ ap (λ (more : List Held). old ++ more) (map-append held_from done (cell ∷ rest))
    ∙ sym (append_assoc old (map held_from done) (held_from cell ∷ map held_from rest)) in
    let names : names_in (contents_with old all) ≡ names_in (contents_with old done) ++ cell.0 ∷ names_in (map held_from rest) =
    ap names_in split ∙ map-append name (contents_with old done) (held_from cell ∷ map held_from rest) in
    not_found (position_or_len (bytes_eq cell.0) (names_in (contents_with old done))) (length (names_in (contents_with old done)))
    (position_absent cell.0 (names_in (contents_with old done)) (λ there.
    Distinct-append_apart (names_in (contents_with old done)) (cell.0 ∷ names_in (map held_from rest)) (subst Distinct names differ) cell.0 there
    (inl refl)))

-- and those that came follow them
pub rest_new : (old : List Held) (more : List (List ℕ × CellBody)) → drop (length old) (contents_with old more) ≡ map held_from more
rest_new [] more = refl
rest_new (held ∷ old) more = rest_new old more

-- what holds of each image
pub All-map : {X Y : Type 0} (f : X → Y) (P : Y → Type 0) (xs : List X) → All (λ x. P (f x)) xs → All P (map f xs)
All-map f P [] all k d below = absurd (omega arith)
All-map f P (x ∷ xs) all zero d below = all 0 x (omega arith)
All-map f P (x ∷ xs) all (suc k) d below = All-map f P xs (λ j e inside. all (suc j) e (omega arith)) k d (omega arith)

-- cells that come, with their uses, are seen as the library keeps them
pub views_kept : (names : List (List ℕ)) (cells : List (List ℕ × CellBody))
    → cell_views (map held_from cells) (map (λ cell. map (kept_use names) cell.1.uses) cells) ≡ map (kept_cell names) cells
views_kept names [] = refl
views_kept names (cell ∷ cells) = ap (λ views. kept_cell names cell ∷ views) (views_kept names cells)

-- Cells with the contents that came and their uses are seen as the library keeps them.
pub views_are_new : (old new : List Held) (cells : List (List ℕ × CellBody)) (all_uses : List (List CellUse)) → new ≡ contents_with old cells
    → all_uses ≡ map (λ cell. cell.1.uses) cells → views_from new (length old) all_uses ≡ new_views old cells
views_are_new old new cells all_uses new_is uses_is =
    let all = contents_with old cells in
    (λ i. views_from (new_is i) (length old) (uses_is i))
    ∙ (λ i. cell_views (rest_new old cells i) (map-map (kept_uses all) (λ (cell : List ℕ × CellBody). cell.1.uses) cells i))
    ∙ views_kept (names_in all) cells

-- the contents and the uses of cells that fit are fit for the tree
pub uses_fit : (old new : List Held) (cells : List (List ℕ × CellBody)) (all_uses : List (List CellUse)) → AreFitFor old cells
    → new ≡ contents_with old cells → all_uses ≡ map (λ cell. cell.1.uses) cells → All (AreUsesAmong (names_in new)) all_uses
uses_fit old new cells all_uses fit new_is uses_is =
    subst (All (AreUsesAmong (names_in new))) (sym uses_is)
    (All-map (λ (cell : List ℕ × CellBody). cell.1.uses) (AreUsesAmong (names_in new)) cells
    (subst (λ (contents : List Held). All (λ cell. AreUsesAmong (names_in contents) cell.1.uses) cells) (sym new_is) fit.uses))

-- ---- cells for the tree

-- with the cells that come there are as many as contents
pub all_count : (contents : List Held) (all_uses : List (List CellUse)) (cells states : List CellState) (first : ℕ) → length cells ≡ first
    → first ≤ length contents → AreStatesOf (views_from contents first all_uses) states → length (cells ++ states) ≡ length contents
all_count contents all_uses cells states first many within are =
    let a = length-append cells states in
    let b = length-states (views_from contents first all_uses) states are in
    let d = length-cell_views (drop first contents) (map (kept_uses contents) all_uses) in
    let e = length-drop first contents in
    omega arith

-- the contents at a position stand at its place among those from the first on
pub held_there : (contents : List Held) (first position : ℕ) → first ≤ position → position < length contents
    → get_or (drop first contents) (position - first) (held_at contents position) ≡ held_at contents position
held_there contents first position before below =
    let held = held_at contents position in
    let place : first + (position - first) ≡ position = omega arith in
    get_or-drop first contents (position - first) held ∙ ap (λ (n : ℕ). get_or contents n held) place
    ∙ get_or_default contents position held no_held below

-- one more cell, with the contents and the uses at its place
pub cell_more : (contents : List Held) (all_uses : List (List CellUse)) (done : List NewCell) (k : ℕ) (held : Held) (uses : List CellUse) (cell : NewCell)
    (f : List CellUse → List (List ℕ × UseBody))
    → k < length contents → k < length all_uses → get_or contents k held ≡ held → get_or all_uses k uses ≡ uses
    → AreStatesOf (cell_views (take k contents) (map f (take k all_uses))) (new_states done)
    → OwnBoxIs (layout_of held.paint) held.labels cell.own → (new_state cell).uses ≡ f uses
    → AreStatesOf (cell_views (take (k + 1) contents) (map f (take (k + 1) all_uses))) (new_states (done ++ cell ∷ []))
cell_more contents all_uses done k held uses cell f inside uses_inside held_is uses_is are own same =
    let heads : take (k + 1) contents ≡ take k contents ++ held ∷ [] =
    take_more contents k held inside ∙ ap (λ (h : Held). take k contents ++ h ∷ []) held_is in
    let some_uses : map f (take (k + 1) all_uses) ≡ map f (take k all_uses) ++ f uses ∷ [] =
    ap (map f) (take_more all_uses k uses uses_inside ∙ ap (λ (u : List CellUse). take k all_uses ++ u ∷ []) uses_is)
    ∙ map-append f (take k all_uses) (uses ∷ []) in
    let long : length (map f (take k all_uses)) ≡ length (take k contents) =
    (let a = length-map (take k all_uses) f in
    let b = length-take-le k all_uses (omega arith) in
    let d = length-take-le k contents (omega arith) in
    omega arith) in
    let views : cell_views (take (k + 1) contents) (map f (take (k + 1) all_uses))
    ≡ cell_views (take k contents) (map f (take k all_uses)) ++ cell_view held (f uses) ∷ [] =
    (λ i. cell_views (heads i) (some_uses i)) ∙ one_more_seen (take k contents) (map f (take k all_uses)) held (f uses) long in
    let states : new_states (done ++ cell ∷ []) ≡ new_states done ++ new_state cell ∷ [] = map-append new_state done (cell ∷ []) in
    subst (AreStatesOf (cell_views (take (k + 1) contents) (map f (take (k + 1) all_uses)))) (sym states)
    (subst (λ (v : List CellView). AreStatesOf v (new_states done ++ new_state cell ∷ [])) (sym views)
    (states_more (cell_views (take k contents) (map f (take k all_uses))) (new_states done) (cell_view held (f uses)) (new_state cell) are own same))

-- what holds of the new cells holds with one more
pub all_more : (P : CellState → Type 0) (done : List NewCell) (cell : NewCell) → All P (new_states done) → P (new_state cell)
    → All P (new_states (done ++ cell ∷ []))
all_more P done cell all one = subst (All P) (sym (map-append new_state done (cell ∷ []))) (All-push P (new_states done) (new_state cell) all one)
