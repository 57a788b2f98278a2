-- One turn of the walk, over the lists that it keeps.
use Rattle.element_tree.proofs.Common.{◌≡◌, ℕ, zero, suc, ◌<◌, ◌≤◌, ◌+◌, ◌-◌, Option, Some, None, List, [], ◌∷◌, ◌++◌, length, get_or, set, refl}
use Rattle.element_tree.proofs.Common.{sym, ◌∙◌, ap, subst, arith, reverse, inl, inr, length-append, reverse-append, length-reverse, slice_get, In}
use Rattle.element_tree.proofs.Common.{In-get_or, NoCell, Cycle, Mark, New, Open, Done, Graph, uses_of, IsGraph, mark_of, uses_left, IsUnderWay}
use lib.ListN.{replicate}
use Rattle.element_tree.specs.declared.walks.Step.TheVariants.{Over, Nowhere, To}
use Rattle.element_tree.specs.steps.Steps.{step_of}
use Rattle.element_tree.specs.steps.Walks.{walk_fault}
use Rattle.element_tree.proofs.WalkLaws.{few, uses_left-set, fault_no_cell, fault_cycle, past_done, past_new, finished}

-- ---- what a step says of the uses

over : (uses : List (Option ℕ)) (at : ℕ) → step_of (slice_get uses at) ≡ Over → length uses ≤ at
over [] at e = omega arith
over (None ∷ uses) zero e = cc
over (Some c ∷ uses) zero e = cc
over (u ∷ uses) (suc at) e = let more = over uses at e in omega arith

nowhere : (uses : List (Option ℕ)) (at : ℕ) → step_of (slice_get uses at) ≡ Nowhere → (at < length uses) × (get_or uses at None ≡ None)
nowhere [] at e = cc
nowhere (None ∷ uses) zero e = (omega arith, refl)
nowhere (Some c ∷ uses) zero e = cc
nowhere (u ∷ uses) (suc at) e = let more = nowhere uses at e in (omega (arith, more.0), more.1)

towards : (uses : List (Option ℕ)) (at child : ℕ) → step_of (slice_get uses at) ≡ To child → (at < length uses) × (get_or uses at None ≡ Some child)
towards [] at child e = cc
towards (None ∷ uses) zero child e = cc
towards (Some c ∷ uses) zero child e = (omega arith, cc)
towards (u ∷ uses) (suc at) child e = let more = towards uses at child e in (omega (arith, more.0), more.1)

-- ---- the innermost cell

last_cons : (x y : ℕ) (s : List ℕ) → slice_get (x ∷ y ∷ s) (length (x ∷ y ∷ s) - 1) ≡ slice_get (y ∷ s) (length (y ∷ s) - 1)
last_cons x y s = let e : length (x ∷ y ∷ s) - 1 ≡ suc (length (y ∷ s) - 1) = omega arith in ap (slice_get (x ∷ y ∷ s)) e

pub top_of : (s : List ℕ) (cell : ℕ) → slice_get s (length s - 1) ≡ Some cell → (st : List ℕ) × (s ≡ st ++ (cell ∷ []))
top_of [] cell e = cc
top_of (x ∷ []) cell e = ([], (let same : x ≡ cell = cc in ap (λ z. z ∷ []) same))
top_of (x ∷ y ∷ s) cell e =
    let more = top_of (y ∷ s) cell (sym (last_cons x y s) ∙ e) in
    (x ∷ more.0, ap (λ z. x ∷ z) more.1)

pub no_top : (s : List ℕ) → slice_get s (length s - 1) ≡ None → s ≡ []
no_top [] e = refl
no_top (x ∷ []) e = cc
no_top (x ∷ y ∷ s) e = let more = no_top (y ∷ s) (sym (last_cons x y s) ∙ e) in cc

pub reverse-push : (s : List ℕ) (x : ℕ) → reverse (s ++ (x ∷ [])) ≡ x ∷ reverse s
reverse-push s x = reverse-append s (x ∷ [])

pub top_from : {xs s : List ℕ} {cell : ℕ} → xs ≡ s → Some cell ≡ slice_get xs (length xs - 1) → slice_get s (length s - 1) ≡ Some cell
top_from {cell = cell} e h = subst (λ z. slice_get z (length z - 1) ≡ Some cell) e (sym h)

pub none_from : {xs s : List ℕ} → xs ≡ s → None ≡ slice_get xs (length xs - 1) → s ≡ []
none_from {s = s} e h = no_top s (subst (λ z. slice_get z (length z - 1) ≡ None) e (sym h))

pub some_top : (s : List ℕ) (cell : ℕ) → slice_get s (length s - 1) ≡ Some cell → 0 < length s
some_top [] cell e = cc
some_top (x ∷ s) cell e = omega arith

pub get_or-replicate_same : {X : Type 0} (n : ℕ) (x : X) (k : ℕ) → get_or (replicate n x) k x ≡ x
get_or-replicate_same zero x k = refl
get_or-replicate_same (suc n) x zero = refl
get_or-replicate_same (suc n) x (suc k) = get_or-replicate_same n x k

-- an element that is there is there whatever the default
pub at_any : {X : Type 0} (xs : List X) (k : ℕ) (x d : X) → k < length xs → x ≡ get_or xs k x → x ≡ get_or xs k d
at_any [] k x d h e = absurd (omega arith)
at_any (y ∷ xs) zero x d h e = e
at_any (y ∷ xs) (suc k) x d h e = at_any xs k x d (omega arith) e

-- A turn of the walk: this cell is the innermost open one.
pub record IsTurn (graph : Graph) (root : ℕ) (marks : List Mark) (next s done : List ℕ) (cell : ℕ) : Type 0 where
  pub way : IsUnderWay graph root marks next (reverse s) done
  pub top : slice_get s (length s - 1) ≡ Some cell

module _ {graph : Graph} {root : ℕ} {marks : List Mark} {next s done : List ℕ} {cell : ℕ} (turn : IsTurn graph root marks next s done cell) where
  opened : reverse s ≡ cell ∷ reverse (top_of s cell turn.top).0
  opened = ap reverse (top_of s cell turn.top).1 ∙ reverse-push (top_of s cell turn.top).0 cell

  under : IsUnderWay graph root marks next (cell ∷ reverse (top_of s cell turn.top).0) done
  under = subst (λ z. IsUnderWay graph root marks next z done) opened turn.way

  pub top_within : cell < length graph
  top_within = under.open_within cell (inl refl)

  pub child_within : (at : ℕ) {child : ℕ} → IsGraph graph → step_of (slice_get (uses_of graph cell) at) ≡ To child → child < length graph
  child_within at {child} is_graph step =
      let k = towards (uses_of graph cell) at child step in
      is_graph cell child (subst (λ u. In u (uses_of graph cell)) k.1 (In-get_or (uses_of graph cell) at None k.0))

  -- the place that is read is that of the use that is next
  pub next_at : {at : ℕ} → at ≡ get_or next cell at → at ≡ get_or next cell 0
  next_at {at} e = at_any next cell at 0 (let a = top_within in let b = turn.way.long_next in omega arith) e

  module _ {at : ℕ} (here : at ≡ get_or next cell 0) where
    pub turn_nowhere : step_of (slice_get (uses_of graph cell) at) ≡ Nowhere → walk_fault graph root ≡ Some (NoCell (record { cell = cell; at = at }))
    turn_nowhere step =
        let k = nowhere (uses_of graph cell) at step in
        let P : ℕ → Type 0 = λ n. n < length (uses_of graph cell) → get_or (uses_of graph cell) n None ≡ None → walk_fault graph root ≡ Some (NoCell
        (record { cell = cell; at = n })) in
        (subst P (sym here) (fault_no_cell graph root marks next cell (reverse (top_of s cell turn.top).0) done under)) k.0 k.1

    -- towards a child
    module _ {child : ℕ} (step : step_of (slice_get (uses_of graph cell) at) ≡ To child) where
      -- what holds at the place of a use that leads to the child
      led : (P : ℕ → Type 0)
          → (get_or next cell 0 < length (uses_of graph cell) → get_or (uses_of graph cell) (get_or next cell 0) None ≡ Some child → P (get_or next cell 0))
          → P at
      led P holds =
          let k = towards (uses_of graph cell) at child step in
          let Q : ℕ → Type 0 = λ n. n < length (uses_of graph cell) → get_or (uses_of graph cell) n None ≡ Some child → P n in
          subst Q (sym here) holds k.0 k.1

      pub marked : IsGraph graph → {mark : Mark} → mark ≡ get_or marks child mark → mark_of marks child ≡ mark
      marked is_graph {mark} e =
          let within = child_within at is_graph step in sym (at_any marks child mark New (let b = turn.way.long in omega arith) e)

      pub turn_cycle : mark_of marks child ≡ Open → walk_fault graph root ≡ Some (Cycle (record { cell = cell; at = at }))
      turn_cycle open_mark =
          led (λ n. walk_fault graph root ≡ Some (Cycle (record { cell = cell; at = n })))
          (λ a b. fault_cycle graph root marks next cell (reverse (top_of s cell turn.top).0) done under child a b open_mark)

      pub turn_done : mark_of marks child ≡ Done → IsUnderWay graph root marks (set next cell (at + 1)) (reverse s) done
      turn_done done_mark =
          let more : suc at ≡ at + 1 = omega arith in
          subst (λ n. IsUnderWay graph root marks (set next cell n) (reverse s) done) more
          (subst (λ z. IsUnderWay graph root marks (set next cell (suc at)) z done) (sym opened)
          (led (λ n. IsUnderWay graph root marks (set next cell (suc n)) (cell ∷ reverse (top_of s cell turn.top).0) done)
          (λ a b. past_done graph root marks next cell (reverse (top_of s cell turn.top).0) done under child a b done_mark)))

      pub turn_new : {pushed : List ℕ} → IsGraph graph → mark_of marks child ≡ New → pushed ≡ s ++ (child ∷ [])
          → IsUnderWay graph root (set marks child Open) (set next cell (at + 1)) (reverse pushed) done
      turn_new {pushed} is_graph new push =
          let more : suc at ≡ at + 1 = omega arith in
          let stack : reverse pushed ≡ child ∷ cell ∷ reverse (top_of s cell turn.top).0 =
          ap reverse push ∙ reverse-push s child ∙ ap (λ z. child ∷ z) opened in
          subst (λ n. IsUnderWay graph root (set marks child Open) (set next cell n) (reverse pushed) done) more
          (subst (λ z. IsUnderWay graph root (set marks child Open) (set next cell (suc at)) z done) (sym stack)
          (led (λ n. IsUnderWay graph root (set marks child Open) (set next cell (suc n)) (child ∷ cell ∷ reverse (top_of s cell turn.top).0) done)
          (λ a b. past_new graph root marks next cell (reverse (top_of s cell turn.top).0) done under child a b new (child_within at is_graph step))))

      -- the measure falls
      pub falls_taken : (room : ℕ) → uses_left graph (set next cell (at + 1)) + room < uses_left graph next + room
      falls_taken room =
          let less = led (λ n. suc (uses_left graph (set next cell (suc n))) ≡ uses_left graph next)
          (λ a b. uses_left-set graph next cell top_within turn.way.long_next a) in
          let more : suc at ≡ at + 1 = omega arith in
          subst (λ n. uses_left graph (set next cell n) + room < uses_left graph next + room) more (omega (arith, less))

    pub turn_over : (popped order : List ℕ) {pushed : List ℕ} → done ≡ reverse order → step_of (slice_get (uses_of graph cell) at) ≡ Over → (x : ℕ)
        → s ≡ popped ++ (x ∷ []) → pushed ≡ order ++ (cell ∷ []) → IsUnderWay graph root (set marks cell Done) next (reverse popped) (reverse pushed)
    turn_over popped order {pushed} was step x pop push =
        let k : length (uses_of graph cell) ≤ get_or next cell 0 = subst (λ n. length (uses_of graph cell) ≤ n) here (over (uses_of graph cell) at step) in
        let turned = finished graph root marks next cell (reverse (top_of s cell turn.top).0) done under k in
        let whole : (x ∷ reverse popped) ≡ (cell ∷ reverse (top_of s cell turn.top).0) = sym (reverse-push popped x) ∙ ap reverse (sym pop) ∙ opened in
        let rest : reverse (top_of s cell turn.top).0 ≡ reverse popped = cc in
        let last : (cell ∷ done) ≡ reverse pushed = ap (λ z. cell ∷ z) was ∙ sym (reverse-push order cell) ∙ ap reverse (sym push) in
        subst (λ z. IsUnderWay graph root (set marks cell Done) next (reverse popped) z) last
        (subst (λ z. IsUnderWay graph root (set marks cell Done) next z (cell ∷ done)) rest turned)

pub falls_done : {graph : Graph} {root : ℕ} {marks : List Mark} {next s : List ℕ} (order : List ℕ) {cell : ℕ}
    → IsTurn graph root marks next s (reverse order) cell → {pushed : List ℕ} → pushed ≡ order ++ (cell ∷ [])
    → length graph - length pushed < length graph - length order
falls_done {graph} {s = s} order {cell = cell} turn push =
    let w = turn.way in
    let within = top_within turn in
    let in_open : In cell (reverse s) =
    subst (λ z. In cell z) (sym (ap reverse (top_of s cell turn.top).1 ∙ reverse-push (top_of s cell turn.top).0 cell)) (inl refl) in
    let apart : In cell (reverse order) → ⊥ = λ h. (let a = w.marked_done cell h in let b = w.marked_open cell in_open in cc) in
    let room = few (length graph) (cell ∷ reverse order) (apart, w.done_once) (λ x. elim [
      | inl same ↦ subst
          (λ z. z < length graph) same within
      | inr h ↦ w.done_within x h
    ]) in
    let size = ap length push ∙ length-append order (cell ∷ []) in
    let turned = length-reverse order in
    omega arith
