-- A symbol of a cell stays one where layers come behind those that were there.
use Rattle.file_laws.proofs.Common.{ℕ, suc, List, [], ◌∷◌, LibraryView, view_at, CifSymbol, part_name, part_sets, AreRuns, IsCellSymbol, IsPartBoxes}
use Rattle.file_laws.proofs.ReadParts.{KeepsLayers}

-- What each thing stands for, it stands for by a weaker relation too.
runs_weaker : {X Y : Type 0} (Of Weaker : ℕ → X → List Y → Type 0) → ((k : ℕ) (x : X) (ys : List Y) → Of k x ys → Weaker k x ys)
    → (number : ℕ) (xs : List X) (ys : List Y) → AreRuns Of number xs ys → AreRuns Weaker number xs ys
runs_weaker Of Weaker weaker number [] ys none = none
runs_weaker Of Weaker weaker number (x ∷ xs) ys (first, rest, are, here, later) =
    (first, rest, are, weaker number x first here, runs_weaker Of Weaker weaker (suc number) xs rest later)

-- so does a symbol, whose boxes have the layers that they had
pub symbol_kept : (layers new : List (List ℕ)) (view : LibraryView) (order : List ℕ) (cell : ℕ) (symbol : CifSymbol) → KeepsLayers layers new
    → IsCellSymbol layers view order cell symbol → IsCellSymbol new view order cell symbol
symbol_kept layers new view order cell symbol kept is = record {
  number = is.number;
  boxes = is.boxes;
  are_boxes =
      runs_weaker (IsPartBoxes layers view.tech (view_at view cell).own) (IsPartBoxes new view.tech (view_at view cell).own)
      (λ k part items (areas, layer, strips, named, same). (areas, layer, strips, (λ some. kept layer (part_name k) (named some)), same))
      1 (part_sets view.tech) is.boxes is.are_boxes;
  calls = is.calls;
  are_calls = is.are_calls;
  items = is.items;
}
