-- Whether a cell stands above another can be told.
use Rattle.cell_tree.proofs.Common.{◌≡◌, ◌⊎◌, inl, inr, ℕ, zero, suc, ◌<◌, List, [], ◌∷◌, length, get_or, slice_get, Some, None, refl, sym, ap}
use Rattle.cell_tree.proofs.Common.{subst, ◌∙◌, arith, cases_eq, cases_lt, same_Some, slice_get_within, slice_get-get_or, stay, go, Size, UseBody}
use Rattle.cell_tree.proofs.Common.{CellState, size_at, Uses, IsAbove, IsTried, AreLawfulCells, AreLawfulSizes}
use Rattle.cell_tree.proofs.EditLaws.{user_is_deeper, user_above, tried_exists}

-- a use with a child of some kind
record FindsUse (P : ℕ → Type 0) (uses : List (List ℕ × UseBody)) : Type 0 where
  k : ℕ
  entry : List ℕ × UseBody
  stands : slice_get uses k ≡ Some entry
  holds : P entry.1.child.0

find_use : (P : ℕ → Type 0) (uses : List (List ℕ × UseBody))
    → ((k : ℕ) (entry : List ℕ × UseBody) → slice_get uses k ≡ Some entry → P entry.1.child.0 ⊎ (P entry.1.child.0 → ⊥))
    → FindsUse P uses ⊎ (FindsUse P uses → ⊥)
find_use P [] tell = inr (λ f. absurd (let e = f.stands in cc))
find_use P (first ∷ rest) tell =
    elim (tell 0 first refl) [
      | inl holds ↦ inl (record { k = 0; entry = first; stands = refl; holds = holds })
      | inr not_here ↦ elim (find_use P rest (λ k entry is. tell (suc k) entry is)) [
        | inl f ↦ inl (record { k = suc f.k; entry = f.entry; stands = f.stands; holds = f.holds })
        | inr none ↦ inr (λ f. neither not_here none f.k f.entry f.stands f.holds)
      ]
    ]
  where
    neither : (P first.1.child.0 → ⊥) → (FindsUse P rest → ⊥) → (k : ℕ) (entry : List ℕ × UseBody) → slice_get (first ∷ rest) k ≡ Some entry
        → P entry.1.child.0 → ⊥
    neither not_here none zero entry is holds = not_here (subst (λ (e : List ℕ × UseBody). P e.1.child.0) (sym (same_Some first entry is)) holds)
    neither not_here none (suc k) entry is holds = none (record { k = k; entry = entry; stands = is; holds = holds })

-- what stands above is the cell or uses what stands above
record LastStep (cells : List CellState) (low up : ℕ) : Type 0 where
  mid : ℕ
  below : IsAbove cells low mid
  uses : Uses cells up mid

last_step : (cells : List CellState) (low up : ℕ) → IsAbove cells low up → (low ≡ up) ⊎ LastStep cells low up
last_step cells low up stay = inl refl
last_step cells low up (go {b = user} step rest) =
    elim (last_step cells user up rest) [
      | inl same ↦ inr (record { mid = low; below = stay; uses = subst (λ u. Uses cells u low) same step })
      | inr last ↦ inr (record { mid = last.mid; below = go step last.below; uses = last.uses })
    ]

module _ {cells : List CellState} {sizes : List Size} (lawful : AreLawfulCells cells) (sound : AreLawfulSizes cells sizes) (low : ℕ) where
  tell_below : (bound key : ℕ) → (size_at sizes key).depth < bound → IsAbove cells low key ⊎ (IsAbove cells low key → ⊥)
  tell_below zero key deep = absurd (omega (arith, deep))
  tell_below (suc bound) key deep =
      elim (cases_eq low key) [
        | inl same ↦ inl (subst (IsAbove cells low) same stay)
        | inr differs ↦ elim (cases_lt key (length cells)) [
          | inr past ↦ inr (λ above. elim (last_step cells low key above) [
            | inl same ↦ differs same
            | inr last ↦ omega (arith, past, slice_get_within cells key last.uses.cell last.uses.is)
          ])
          | inl inside ↦
              let cell : CellState = get_or cells key empty in
              let is : slice_get cells key ≡ Some cell = slice_get-get_or cells key empty inside in
              elim (find_use (IsAbove cells low) cell.uses (λ k entry stands.
              tell_below bound entry.1.child.0 (omega (
                arith,
                deep,
                user_is_deeper lawful sound key entry.1.child.0
                    (record { cell = cell; is = is; k = k; entry = entry; stands = stands; child = refl }),
              )))) [
                | inl f ↦ inl (user_above cells low f.entry.1.child.0 key f.holds
                    (record { cell = cell; is = is; k = f.k; entry = f.entry; stands = f.stands; child = refl }))
                | inr none ↦ inr (λ above. elim (last_step cells low key above) [
                  | inl same ↦ differs same
                  | inr last ↦
                      let here : last.uses.cell ≡ cell = same_Some last.uses.cell cell (sym last.uses.is ∙ is) in
                      none (record {
                        k = last.uses.k;
                        entry = last.uses.entry;
                        stands = ap (λ (c : CellState). slice_get c.uses last.uses.k) (sym here) ∙ last.uses.stands;
                        holds = subst (IsAbove cells low) (sym last.uses.child) last.below;
                      })
                ])
              ]
        ]
      ]
    where
      empty : CellState
      empty = record { own = None; uses = [] }

  -- it does or it doesn't
  pub above_or_not : (key : ℕ) → IsAbove cells low key ⊎ (IsAbove cells low key → ⊥)
  above_or_not key = tell_below (suc (size_at sizes key).depth) key (omega arith)

  -- So there are the sizes that all cells would have, were the cell of this size.
  pub would_have : (size : Size) → low < length cells → (tried : List Size) × (length tried ≡ length cells) × IsTried cells sizes tried low size
  would_have size within = tried_exists lawful sound low size above_or_not within
