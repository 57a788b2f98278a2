-- What items mean, told by the boxes and the calls among them.
use Rattle.file_laws.proofs.Common.{◌≡◌, ◌⊎◌, ◌∙◌, ℕ, List, [], ◌∷◌, Some, refl, sym, subst, inl, inr, arith, slice_get, ints, In, In-slice_get}
use Rattle.file_laws.proofs.Common.{slice_get-In, Rect, Square, Transform, Covers, image, inverted, CifItem, Area, Call, CifMove, CifParts, Means}
use Rattle.file_laws.proofs.Common.{items_at, moved}
use Rattle.geo_core.specs.Images.{identity, rect_image}
use Rattle.geo_core.proofs.ImageLaws.{image-forth, image-moved, rect_image-covered, rect_image-covers}
use Rattle.geo_core.proofs.SquareLaws.{square_is}
use Rattle.cif_model.specs.Meanings.{StandsUnder}

-- ---- images of boxes

-- a rectangle that is moved covers a square where it covered what is moved there
covered_back : (t : Transform) (area : Rect) (square : Square) → Covers (rect_image t area) square → Covers area (image (inverted t) square)
covered_back t area square covers =
    rect_image-covered t area (image (inverted t) square) (subst (Covers (rect_image t area)) (sym (image-forth t square)) covers)

-- and the other way round
covered_forth : (t : Transform) (area : Rect) (square : Square) → Covers area (image (inverted t) square) → Covers (rect_image t area) square
covered_forth t area square covers =
    subst (Covers (rect_image t area)) (image-forth t square) (rect_image-covers t area (image (inverted t) square) covers)

-- what does not move comes from where it is
pub back_identity : (square : Square) → image (inverted identity) square ≡ square
back_identity square = image-moved (inverted identity) square ∙ square_is _ _ (omega (arith, ints)) (omega (arith, ints))

-- ---- items

-- the text with these items at the top level
abbrev pub with_top : CifParts → List CifItem → CifParts
with_top cif items = record cif { top = items }

-- The items of a symbol mean the square.
abbrev pub SymbolMeans : CifParts → ℕ → List ℕ → Square → Type 0
SymbolMeans cif symbol name square = Means (with_top cif (items_at (slice_get cif.symbols symbol))) name square

-- A box of the layer of this name stands among the items and covers the square.
abbrev pub HasBox : CifParts → List CifItem → List ℕ → Square → Type 0
HasBox cif items name square =
    (layer : ℕ) × ((slice_get cif.layers layer ≡ Some name) × ((box : Rect) × (In (Area layer box) items × Covers box square)))

-- A call stands among the items, and the called symbol's items mean the square that it moves to this one.
abbrev pub HasCall : CifParts → List CifItem → List ℕ → Square → Type 0
HasCall cif items name square =
    (symbol : ℕ) × ((moves : List CifMove) × (In (Call symbol moves) items
    × SymbolMeans cif symbol name (image (inverted (moved moves)) square)))

-- what stands among items stands among more of them
pub box_wider : (cif : CifParts) (items more : List CifItem) (name : List ℕ) (square : Square) → ((item : CifItem) → In item items → In item more)
    → HasBox cif items name square → HasBox cif more name square
box_wider cif items more name square wider (layer, (named, (box, (stands, covers)))) = (layer, (named, (box, (wider (Area layer box) stands, covers))))

module _ (cif : CifParts) (items : List CifItem) (name : List ℕ) (square : Square) where
  opened : (layer : ℕ) → slice_get cif.layers layer ≡ Some name → (calls : List ℕ) (box : Rect)
      → StandsUnder cif.symbols layer calls items box → Covers box square → HasBox cif items name square ⊎ HasCall cif items name square
  opened layer named [] box stands covers = inl (layer, (named, (box, (stands, covers))))
  opened layer named (place ∷ calls) box (symbol, (moves, (inner, (here, (stands, same))))) covers =
      let inside = covered_back (moved moves) inner square (subst (λ (b : Rect). Covers b square) same covers) in
      inr (symbol, (moves, (In-slice_get items place (Call symbol moves) here, (layer, (named, (calls, (inner, (stands, inside))))))))

  -- What items mean, a box among them covers, or a called symbol's items mean.
  pub items_open : Means (with_top cif items) name square → HasBox cif items name square ⊎ HasCall cif items name square
  items_open (layer, (named, (calls, (box, (stands, covers))))) = opened layer named calls box stands covers

  -- what a box among them covers, items mean
  pub box_means : HasBox cif items name square → Means (with_top cif items) name square
  box_means (layer, (named, (box, (stands, covers)))) = (layer, (named, ([], (box, (stands, covers)))))

  -- and what a called symbol's items mean
  pub call_means : HasCall cif items name square → Means (with_top cif items) name square
  call_means (symbol, (moves, (stands, (layer, (named, (calls, (inner, (under, covers)))))))) =
      let at = slice_get-In (Call symbol moves) items stands in (
        layer,
        (
          named,
          (
            at.0 ∷ calls,
            (
              rect_image (moved moves) inner,
              ((symbol, (moves, (inner, (at.1, (under, refl))))), covered_forth (moved moves) inner square covers),
            ),
          ),
        ),
      )
