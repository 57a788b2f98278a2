-- The sizes that cells have after an edit of one of them: there are such sizes, they are right, and they shrink where the cell does.
use Rattle.cell_tree.proofs.Common.{◌≡◌, ◌≢◌, ◌⊎◌, inl, inr, ℕ, zero, suc, ◌+◌, ◌<◌, ◌≤◌, List, [], ◌∷◌, length, get_or, slice_set, slice_get}
use Rattle.cell_tree.proofs.Common.{Option, Some, None, refl, sym, ap, subst, ◌∙◌, arith, cases_eq, cases_lt, get_or_past, same_Some}
use Rattle.cell_tree.proofs.Common.{slice_get_within, slice_get-get_or, stay, go, slice_get-set_same, slice_get-set_other, Dimension, Depth}
use Rattle.cell_tree.proofs.Common.{Elements, Hull, Size, UseBody, IsInside, CellState, size_at, no_size, IsWithin, AreSizes, Uses, IsAbove, IsTried}
use Rattle.cell_tree.proofs.Common.{AreLawfulCells, AreLawfulSizes}
use Rattle.cell_tree.specs.Sizes.{size_of}
use Rattle.cell_tree.proofs.HullLaws.{inside_refl}
use Rattle.cell_tree.proofs.SizeLaws.{size_of-same, child_is_lower}
use Rattle.cell_tree.proofs.ShrinkLaws.{IsSmaller, IsUpright, AreAmong, among_all, size_of-smaller, smaller_within}

choose : {P Q : Type 0} → P ⊎ Q → Size → Size → Size
choose (inl p) a b = a
choose (inr q) a b = b

choose-left : {P Q : Type 0} (c : P ⊎ Q) (a b : Size) → (Q → ⊥) → choose c a b ≡ a
unfolding choose
choose-left (inl p) a b never = refl
choose-left (inr q) a b never = absurd (never q)

choose-right : {P Q : Type 0} (c : P ⊎ Q) (a b : Size) → (P → ⊥) → choose c a b ≡ b
unfolding choose
choose-right (inl p) a b never = absurd (never p)
choose-right (inr q) a b never = refl

choose-same : {P Q : Type 0} (c : P ⊎ Q) (a b : Size) → a ≡ b → choose c a b ≡ b
unfolding choose
choose-same (inl p) a b same = same
choose-same (inr q) a b same = refl

abbrev pick : Option CellState → Size → (CellState → Size) → Size
pick None old f = old
pick (Some cell) old f = f cell

-- as many sizes, each worked out from its position
listed : (ℕ → Size) → ℕ → List Size → List Size
listed f n [] = []
listed f n (x ∷ xs) = f n ∷ listed f (suc n) xs

length-listed : (f : ℕ → Size) (n : ℕ) (xs : List Size) → length (listed f n xs) ≡ length xs
unfolding listed
length-listed f n [] = refl
length-listed f n (x ∷ xs) = ap suc (length-listed f (suc n) xs)

listed-at : (f : ℕ → Size) (n : ℕ) (xs : List Size) (key : ℕ) → key < length xs → size_at (listed f n xs) key ≡ f (n + key)
unfolding listed
listed-at f n [] key within = absurd (omega (arith, within))
listed-at f n (x ∷ xs) zero within = ap f (let e : n ≡ n + 0 = omega arith in e)
listed-at f n (x ∷ xs) (suc key) within = listed-at f (suc n) xs key (omega (arith, within)) ∙ ap f (let e : suc n + key ≡ n + suc key = omega arith in e)

depth-some : (f : ℕ → Size) (cell : CellState) → 0 < (size_of f cell).depth
unfolding size_of
depth-some f cell = omega arith

-- and what uses a cell above stands above
pub user_above : (cells : List CellState) (low up user : ℕ) → IsAbove cells low up → Uses cells user up → IsAbove cells low user
user_above cells low up user stay uses = go uses stay
user_above cells low up user (go {b = next} step rest) uses = go step (user_above cells next up user rest uses)

module _ {cells : List CellState} {sizes : List Size} (lawful : AreLawfulCells cells) (sound : AreLawfulSizes cells sizes) where
  -- A user is deeper.
  pub user_is_deeper : (user low : ℕ) → Uses cells user low → (size_at sizes low).depth < (size_at sizes user).depth
  user_is_deeper user low uses =
      subst (λ child. (size_at sizes child).depth < (size_at sizes user).depth) uses.child
      (subst (λ (s : Size). (size_at sizes uses.entry.1.child.0).depth < s.depth) (sym (sound.right user uses.cell uses.is))
      (child_is_lower (size_at sizes) uses.cell uses.k uses.entry uses.stands))

  -- What stands above a cell is the cell or deeper, so no cell is its own descendant.
  pub above_is_deeper : (low up : ℕ) → IsAbove cells low up → (low ≡ up) ⊎ ((size_at sizes low).depth < (size_at sizes up).depth)
  above_is_deeper low up stay = inl refl
  above_is_deeper low up (go {b = user} uses rest) =
      elim (above_is_deeper user up rest) [
        | inl same ↦ inr (subst (λ key. (size_at sizes low).depth < (size_at sizes key).depth) same (user_is_deeper user low uses))
        | inr deeper ↦ inr (omega (arith, deeper, user_is_deeper user low uses))
      ]

  -- a child doesn't stand above
  pub child_is_not_above : (user low : ℕ) → Uses cells user low → IsAbove cells user low → ⊥
  child_is_not_above user low uses above =
      elim (above_is_deeper user low above) [
        | inl same ↦ omega (arith, ap (λ k. (size_at sizes k).depth) same, user_is_deeper user low uses)
        | inr deeper ↦ omega (arith, deeper, user_is_deeper user low uses)
      ]

  module _ (changed : ℕ) (size : Size) (is_above : (key : ℕ) → IsAbove cells changed key ⊎ (IsAbove cells changed key → ⊥)) where
    -- the size of a cell, worked out through so many levels
    value : ℕ → ℕ → Size
    value zero key = size_at sizes key
    value (suc n) key =
        choose (cases_eq key changed) size (choose (is_above key) (pick (slice_get cells key) (size_at sizes key) (size_of (value n))) (size_at sizes key))

    value-changed : (n key : ℕ) → key ≡ changed → value (suc n) key ≡ size
    unfolding value
    value-changed n key same = choose-left (cases_eq key changed) size _ (λ differs. differs same)

    value-apart : (n key : ℕ) → key ≢ changed → (IsAbove cells changed key → ⊥) → value (suc n) key ≡ size_at sizes key
    unfolding value
    value-apart n key differs apart =
        choose-right (cases_eq key changed) size _ differs ∙ choose-right (is_above key) (pick (slice_get cells key) (size_at sizes key) (size_of (value n)))
        (size_at sizes key) apart

    value-above : (n key : ℕ) (cell : CellState) → key ≢ changed → IsAbove cells changed key → slice_get cells key ≡ Some cell
        → value (suc n) key ≡ size_of (value n) cell
    unfolding value
    value-above n key cell differs up is =
        choose-right (cases_eq key changed) size _ differs
        ∙ choose-left (is_above key) (pick (slice_get cells key) (size_at sizes key) (size_of (value n))) (size_at sizes key) (λ apart. apart up)
        ∙ ap (λ (o : Option CellState). pick o (size_at sizes key) (size_of (value n))) is

    value-none : (n key : ℕ) → key ≢ changed → slice_get cells key ≡ None → value (suc n) key ≡ size_at sizes key
    unfolding value
    value-none n key differs is =
        choose-right (cases_eq key changed) size _ differs
        ∙ choose-same (is_above key) (pick (slice_get cells key) (size_at sizes key) (size_of (value n))) (size_at sizes key)
        (ap (λ (o : Option CellState). pick o (size_at sizes key) (size_of (value n))) is)

    some_or_none : (key : ℕ) → ((cell : CellState) × (slice_get cells key ≡ Some cell)) ⊎ (slice_get cells key ≡ None)
    some_or_none key = by (slice_get cells key)
      where
        by : (o : Option CellState) → ((cell : CellState) × (o ≡ Some cell)) ⊎ (o ≡ None)
        by None = inr refl
        by (Some cell) = inl (cell, refl)

    -- levels above the depth make no difference
    value-same : (m n key : ℕ) → (size_at sizes key).depth ≤ m → (size_at sizes key).depth ≤ n → value (suc m) key ≡ value (suc n) key
    value-same zero n key low less =
        elim (cases_eq key changed) [
          | inl same ↦ value-changed zero key same ∙ sym (value-changed n key same)
          | inr differs ↦ elim (is_above key) [
            | inr apart ↦ value-apart zero key differs apart ∙ sym (value-apart n key differs apart)
            | inl up ↦ elim (some_or_none key) [
              | inr missing ↦ value-none zero key differs missing ∙ sym (value-none n key differs missing)
              | inl found ↦ absurd (omega (arith, low, deep key found.0 found.1))
            ]
          ]
        ]
      where
        deep : (key : ℕ) (cell : CellState) → slice_get cells key ≡ Some cell → 0 < (size_at sizes key).depth
        deep key cell is = subst (λ (s : Size). 0 < s.depth) (sym (sound.right key cell is)) (depth-some (size_at sizes) cell)
    value-same (suc m) zero key low less =
        elim (cases_eq key changed) [
          | inl same ↦ value-changed (suc m) key same ∙ sym (value-changed zero key same)
          | inr differs ↦ elim (is_above key) [
            | inr apart ↦ value-apart (suc m) key differs apart ∙ sym (value-apart zero key differs apart)
            | inl up ↦ elim (some_or_none key) [
              | inr missing ↦ value-none (suc m) key differs missing ∙ sym (value-none zero key differs missing)
              | inl found ↦ absurd (omega (
                arith,
                less,
                subst (λ (s : Size). 0 < s.depth) (sym (sound.right key found.0 found.1))
                    (depth-some (size_at sizes) found.0),
              ))
            ]
          ]
        ]
    value-same (suc m) (suc n) key low less =
        elim (cases_eq key changed) [
          | inl same ↦ value-changed (suc m) key same ∙ sym (value-changed (suc n) key same)
          | inr differs ↦ elim (is_above key) [
            | inr apart ↦ value-apart (suc m) key differs apart ∙ sym (value-apart (suc n) key differs apart)
            | inl up ↦ elim (some_or_none key) [
              | inr missing ↦ value-none (suc m) key differs missing ∙ sym (value-none (suc n) key differs missing)
              | inl found ↦
                  value-above (suc m) key found.0 differs up found.1
                  ∙ size_of-same (value (suc m)) (value (suc n)) found.0 (λ k entry stands.
                  let deeper : (size_at sizes entry.1.child.0).depth < (size_at sizes key).depth =
                  user_is_deeper key entry.1.child.0 (record { cell = found.0; is = found.1; k = k; entry = entry; stands = stands; child = refl }) in
                  value-same m n entry.1.child.0 (omega (arith, deeper, low)) (omega (arith, deeper, less)))
                  ∙ sym (value-above (suc n) key found.0 differs up found.1)
            ]
          ]
        ]

    -- the sizes that the cells would have
    would_be : List Size
    would_be = listed (value 65) 0 sizes

    would_be-at : (key : ℕ) → key < length cells → size_at would_be key ≡ value 65 key
    unfolding would_be
    would_be-at key within = listed-at (value 65) 0 sizes key (omega (arith, within, sound.count)) ∙ ap (value 65) (let e : 0 + key ≡ key = omega arith in e)

    would_be-past : (key : ℕ) → length cells ≤ key → size_at would_be key ≡ size_at sizes key
    unfolding would_be
    would_be-past key past =
        get_or_past (listed (value 65) 0 sizes) key no_size (omega (arith, past, sound.count, length-listed (value 65) 0 sizes))
        ∙ sym (get_or_past sizes key no_size (omega (arith, past, sound.count)))

    would_be-apart : changed < length cells → (key : ℕ) → (IsAbove cells changed key → ⊥) → size_at would_be key ≡ size_at sizes key
    would_be-apart within key apart =
        elim (cases_lt key (length cells)) [
          | inl inside ↦ would_be-at key inside ∙ value-apart 64 key (λ same. apart (subst (IsAbove cells changed) (sym same) stay)) apart
          | inr past ↦ would_be-past key past
        ]

    -- There are such sizes.
    pub tried_exists : changed < length cells → (tried : List Size) × (length tried ≡ length cells) × IsTried cells sizes tried changed size
    unfolding would_be
    tried_exists within = (
      would_be,
      length-listed (value 65) 0 sizes ∙ sound.count,
      record {
        others = would_be-apart within;
        right = right;
        given = would_be-at changed within ∙ value-changed 64 changed refl;
      },
    )
      where
        right : (key : ℕ) (cell : CellState) → slice_get cells key ≡ Some cell → key ≢ changed → size_at would_be key ≡ size_of (size_at would_be) cell
        right key cell is differs =
            let inside : key < length cells = slice_get_within cells key cell is in
            let low : (size_at sizes key).depth ≤ 64 = sound.within Depth key in
            elim (is_above key) [
              | inr apart ↦
                  would_be-apart within key apart ∙ sound.right key cell is
                  ∙ size_of-same (size_at sizes) (size_at would_be) cell (λ k entry stands.
                  sym (would_be-apart within entry.1.child.0
                  (λ up. apart (user_above cells changed entry.1.child.0 key up
                  (record { cell = cell; is = is; k = k; entry = entry; stands = stands; child = refl })))))
              | inl up ↦
                  would_be-at key inside ∙ value-above 64 key cell differs up is
                  ∙ size_of-same (value 64) (size_at would_be) cell (λ k entry stands.
                  let deeper : (size_at sizes entry.1.child.0).depth < (size_at sizes key).depth =
                  user_is_deeper key entry.1.child.0 (record { cell = cell; is = is; k = k; entry = entry; stands = stands; child = refl }) in
                  value-same 63 64 entry.1.child.0 (omega (arith, deeper, low)) (omega (arith, deeper, low))
                  ∙ sym (would_be-at entry.1.child.0 (lawful.uses key cell is k entry stands).1))
            ]

  -- After an edit of a cell whose children don't stand above it, those sizes are right.
  pub tried_is_right : (changed : ℕ) (state : CellState) (tried : List Size) → changed < length cells
      → ((k : ℕ) (entry : List ℕ × UseBody) → slice_get state.uses k ≡ Some entry → IsAbove cells changed entry.1.child.0 → ⊥)
      → IsTried cells sizes tried changed (size_of (size_at sizes) state) → AreSizes (slice_set cells changed state) tried
  tried_is_right changed state tried within free is_tried key cell is =
      elim (cases_eq key changed) [
        | inl same ↦
            let new : cell ≡ state = same_Some cell state
            (sym is ∙ ap (slice_get (slice_set cells changed state)) same ∙ slice_get-set_same cells changed state within) in
            ap (size_at tried) same ∙ is_tried.given
            ∙ size_of-same (size_at sizes) (size_at tried) state (λ k entry stands. sym (is_tried.others entry.1.child.0 (free k entry stands)))
            ∙ ap (size_of (size_at tried)) (sym new)
        | inr differs ↦ is_tried.right key cell (sym (slice_get-set_other cells changed key state differs) ∙ is) differs
      ]

  module _ (own : (key : ℕ) (cell : CellState) → slice_get cells key ≡ Some cell → IsUpright cell.own) where
    cell_or_none : (key : ℕ) → ((cell : CellState) × (slice_get cells key ≡ Some cell)) ⊎ (size_at sizes key ≡ no_size)
    cell_or_none key =
        elim (cases_lt key (length cells)) [
          | inl inside ↦ inl (get_or cells key empty, slice_get-get_or cells key empty inside)
          | inr past ↦ inr (get_or_past sizes key no_size (omega (arith, past, sound.count)))
        ]
      where
        empty : CellState
        empty = record { own = None; uses = [] }

    upright : (bound key : ℕ) → (size_at sizes key).depth < bound → IsUpright (size_at sizes key).hull
    upright zero key low = absurd (omega (arith, low))
    upright (suc bound) key low =
        elim (cell_or_none key) [
          | inr missing ↦ subst (λ (s : Size). IsUpright s.hull) (sym missing) tt
          | inl found ↦
              let below : IsSmaller Hull (size_of (size_at sizes) found.0) (size_of (size_at sizes) found.0) =
              size_of-smaller (size_at sizes) (size_at sizes) Hull found.0 found.0 (inside_refl found.0.own) (own key found.0 found.1)
              (among_all found.0.uses) (λ k entry stands.
              let deeper : (size_at sizes entry.1.child.0).depth < (size_at sizes key).depth =
              user_is_deeper key entry.1.child.0 (record { cell = found.0; is = found.1; k = k; entry = entry; stands = stands; child = refl }) in
              (inside_refl (size_at sizes entry.1.child.0).hull, upright bound entry.1.child.0 (omega (arith, deeper, low)))) in
              subst (λ (s : Size). IsUpright s.hull) (sym (sound.right key found.0 found.1)) below.1
        ]

    -- a size is no larger than itself
    smaller_self : (dimension : Dimension) (key : ℕ) → IsSmaller dimension (size_at sizes key) (size_at sizes key)
    smaller_self Depth key = omega arith
    smaller_self Elements key = omega arith
    smaller_self Hull key = (inside_refl (size_at sizes key).hull, upright (suc (size_at sizes key).depth) key (omega arith))

    -- where the cell has no larger a size in a dimension, all cells have none
    shrinks : (dimension : Dimension) (changed : ℕ) (size : Size) (tried : List Size) → IsSmaller dimension size (size_at sizes changed)
        → IsTried cells sizes tried changed size
        → (bound key : ℕ) → (size_at sizes key).depth < bound → IsSmaller dimension (size_at tried key) (size_at sizes key)
    shrinks dimension changed size tried base is_tried zero key low = absurd (omega (arith, low))
    shrinks dimension changed size tried base is_tried (suc bound) key low =
        elim (cases_eq key changed) [
          | inl same ↦
              subst (λ k. IsSmaller dimension (size_at tried k) (size_at sizes k)) (sym same)
              (subst (λ s. IsSmaller dimension s (size_at sizes changed)) (sym is_tried.given) base)
          | inr differs ↦ elim (cell_or_none key) [
            | inr missing ↦
                subst (λ s. IsSmaller dimension s (size_at sizes key)) (sym (is_tried.others key (λ above. elim (above_is_deeper changed key above) [
                  | inl same ↦ differs (sym same)
                  | inr deeper ↦ omega (arith, deeper, ap (λ (s : Size). s.depth) missing)
                ])))
                (smaller_self dimension key)
            | inl found ↦
                subst (λ s. IsSmaller dimension s (size_at sizes key)) (sym (is_tried.right key found.0 found.1 differs))
                (subst (IsSmaller dimension (size_of (size_at tried) found.0)) (sym (sound.right key found.0 found.1))
                (size_of-smaller (size_at tried) (size_at sizes) dimension found.0 found.0 (inside_refl found.0.own) (own key found.0 found.1)
                (among_all found.0.uses) (λ k entry stands.
                let deeper : (size_at sizes entry.1.child.0).depth < (size_at sizes key).depth =
                user_is_deeper key entry.1.child.0 (record { cell = found.0; is = found.1; k = k; entry = entry; stands = stands; child = refl }) in
                shrinks dimension changed size tried base is_tried bound entry.1.child.0 (omega (arith, deeper, low)))))
          ]
        ]

    -- so the limit of the dimension is kept
    pub smaller_keeps : (dimension : Dimension) (changed : ℕ) (size : Size) (tried : List Size) → IsSmaller dimension size (size_at sizes changed)
        → IsTried cells sizes tried changed size → (key : ℕ) → IsWithin dimension (size_at tried key)
    smaller_keeps dimension changed size tried base is_tried key =
        smaller_within dimension (size_at tried key) (size_at sizes key)
        (shrinks dimension changed size tried base is_tried (suc (size_at sizes key).depth) key (omega arith)) (sound.within dimension key)

    -- Where a cell shrinks, all cells keep within the limits.
    pub shrunk_within : (changed : ℕ) (state old : CellState) (tried : List Size) → slice_get cells changed ≡ Some old
        → IsInside state.own old.own → IsUpright state.own → AreAmong state.uses old.uses → IsTried cells sizes tried changed (size_of (size_at sizes) state)
        → (dimension : Dimension) (key : ℕ) → IsWithin dimension (size_at tried key)
    shrunk_within changed state old tried was inside up among is_tried dimension key =
        smaller_keeps dimension changed (size_of (size_at sizes) state) tried
        (subst (IsSmaller dimension (size_of (size_at sizes) state)) (sym (sound.right changed old was))
        (size_of-smaller (size_at sizes) (size_at sizes) dimension state old inside up among (λ k entry stands. smaller_self dimension entry.1.child.0)))
        is_tried key
