-- The uses of a cell as they are found by area, use by use.
use Rattle.cell_library.proofs.Common.{◌≡◌, ℕ, suc, ◌+◌, ◌<◌, List, [], ◌∷◌, ◌++◌, ◌⊎◌, length, map, take, inl, inr, sym, ap, subst, ◌∙◌, arith}
use Rattle.cell_library.proofs.Common.{slice_get, Rect, UseBody, size_at, Tree, cell_at, UseStart, start_at, start_behind, use_box}
use Rattle.std.proofs.Common.{Some}
use Rattle.std.proofs.lemmas.List.{length-append}
use Rattle.geo_core.proofs.FiniteSets.Places.{slice_get-append_front, slice_get-push_new}
use Rattle.cell_library.proofs.GridSteps.{images_on}
use Rattle.cell_library.proofs.UseSums.{start_next, IsUseAt}

-- the box of a use of a list
abbrev pub entry_box : Tree → List ℕ × UseBody → Rect
entry_box tree entry = use_box tree.sizes entry.1

-- The boxes of the first uses of a cell, where their elements begin, and where those of the next use do.
pub record AreFirstUses (tree : Tree) (cell k : ℕ) (boxes : List Rect) (starts : List UseStart) (start : UseStart) : Type 0 where
  pub boxes_are : boxes ≡ map (entry_box tree) (take k (cell_at tree.cells cell).uses)
  pub count : length starts ≡ k
  pub starts_are : (j : ℕ) → j < k → slice_get starts j ≡ Some (start_at (size_at tree.sizes) (cell_at tree.cells cell).uses j)
  pub start_is : start ≡ start_at (size_at tree.sizes) (cell_at tree.cells cell).uses k

-- one use more
pub first_more : (tree : Tree) (cell k next : ℕ) (used : UseBody) (boxes new_boxes : List Rect) (starts new_starts : List UseStart) (start behind : UseStart)
    → AreFirstUses tree cell k boxes starts start → IsUseAt tree cell k used → next ≡ k + 1
    → new_boxes ≡ boxes ++ use_box tree.sizes used ∷ [] → new_starts ≡ starts ++ start ∷ [] → behind ≡ start_behind tree.sizes start used
    → AreFirstUses tree cell next new_boxes new_starts behind
first_more tree cell k next used boxes new_boxes starts new_starts start behind first at after more_boxes more_starts is =
    let uses = (cell_at tree.cells cell).uses in
    let sizes = size_at tree.sizes in
    let count : length new_starts ≡ k + 1 =
    ap (λ (xs : List UseStart). length xs) more_starts ∙ length-append starts (start ∷ []) ∙ ap (λ (n : ℕ). n + 1) first.count in
    let all : AreFirstUses tree cell (k + 1) new_boxes new_starts behind = record {
      boxes_are = images_on (entry_box tree) uses k (at.id, used) [] boxes new_boxes at.there first.boxes_are more_boxes;
      count = count;
      starts_are = λ j less. elim (last_or_before k j less) [
        | inl before ↦
            ap (λ (xs : List UseStart). slice_get xs j) more_starts
            ∙ slice_get-append_front starts (start ∷ []) j (let c = first.count in omega (arith, c, before))
            ∙ first.starts_are j before
        | inr last ↦
            ap (λ (xs : List UseStart). slice_get xs j) more_starts
            ∙ ap (slice_get (starts ++ start ∷ [])) (last ∙ sym first.count)
            ∙ slice_get-push_new starts start
            ∙ ap (λ (s : UseStart). Some s) first.start_is
            ∙ ap (λ (n : ℕ). Some (start_at sizes uses n)) (sym last)
      ];
      start_is = is ∙ ap (λ (s : UseStart). start_behind tree.sizes s used) first.start_is ∙ start_next tree cell k used at
          ∙ ap (start_at sizes uses) (let e : suc k ≡ k + 1 = omega arith in e);
    } in
    subst (λ (n : ℕ). AreFirstUses tree cell n new_boxes new_starts behind) (sym after) all
  where
    last_or_before : (k j : ℕ) → j < k + 1 → (j < k) ⊎ (j ≡ k)
    last_or_before k j less = grind arith
