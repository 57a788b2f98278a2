-- What the text of a cell means: each symbol, in library order, means the tree of its cell, and the top level calls the last.
use Rattle.file_laws.proofs.Common.{◌≡◌, ◌∙◌, ◌<◌, ◌↔◌, ℕ, zero, suc, List, [], ◌∷◌, Option, Some, refl, sym, ap, subst, inl, inr, arith, slice_get}
use Rattle.file_laws.proofs.Common.{slice_get_within, slice_get-below, Square, image, inverted, CifItem, Call, CifMove, CifSymbol, CifParts, Means}
use Rattle.file_laws.proofs.Common.{items_at, moved, LibraryView, part_name, part_sets, IsCellCif, symbol_place, IsBit, HoldsPartOfTree}
use Rattle.cif_writing.specs.CellLibrary.LayoutTrees.{tree_at}
use Rattle.file_laws.proofs.ItemMeanings.{HasBox, HasCall, SymbolMeans, back_identity, call_means, items_open, with_top}
use Rattle.file_laws.proofs.SymbolMeanings.{HullsHold, MeansTree, TreesUnfold, held_is_meant, items_hold}
use Rattle.file_laws.proofs.SymbolPlaces.{place_of_symbol, root_listed}

-- ---- one call without steps

module _ (cif : CifParts) (symbol : ℕ) (name : List ℕ) (square : Square) where
  one_call : HasCall cif (Call symbol [] ∷ []) name square → SymbolMeans cif symbol name square
  one_call (called, (moves, (inr none, means))) = absurd none
  one_call (called, (moves, (inl same, means))) =
      let symbols : called ≡ symbol = cc in
      let steps : moves ≡ [] = cc in
      let still : image (inverted (moved moves)) square ≡ square = ap (λ (m : List CifMove). image (inverted (moved m)) square) steps ∙ back_identity square in
      subst (λ (s : Square). SymbolMeans cif symbol name s) still
      (subst (λ (n : ℕ). SymbolMeans cif n name (image (inverted (moved moves)) square)) symbols means)

  no_box : HasBox cif (Call symbol [] ∷ []) name square → ⊥
  no_box (layer, (named, (box, (inr none, covers)))) = none
  no_box (layer, (named, (box, (inl same, covers)))) = cc

  -- a call without steps means what the symbol means
  call_opens : Means (with_top cif (Call symbol [] ∷ [])) name square → SymbolMeans cif symbol name square
  call_opens means = elim (items_open cif (Call symbol [] ∷ []) name square means) [
    | inl box ↦ absurd (no_box box)
    | inr call ↦ one_call call
  ]

  -- and the other way round
  called_means : SymbolMeans cif symbol name square → Means (with_top cif (Call symbol [] ∷ [])) name square
  called_means means =
      call_means cif (Call symbol [] ∷ []) name square
      (symbol, ([], (inl refl, subst (λ (s : Square). SymbolMeans cif symbol name s) (sym (back_identity square)) means)))

-- ---- symbol by symbol

module _ (view : LibraryView) (root : ℕ) (cif : CifParts) (is : IsCellCif view root cif) (k part : ℕ)
    (known : slice_get (part_sets view.tech) k ≡ Some part) (bit : IsBit part) (trees : TreesUnfold view is.order)
    (hulls : HullsHold view part) where
  symbol_means : (place cell : ℕ) (symbol : CifSymbol) → slice_get is.order place ≡ Some cell → slice_get cif.symbols place ≡ Some symbol
      → ((before other : ℕ) → before < place → slice_get is.order before ≡ Some other → MeansTree view cif k part before other)
      → MeansTree view cif k part place cell
  symbol_means place cell symbol at there earlier square = (
    (λ means. items_hold view root cif is k part known bit place cell symbol at there earlier trees square
        (subst (λ (found : Option CifSymbol). Means (with_top cif (items_at found)) (part_name (suc k)) square) there means)),
    (λ holds. subst (λ (found : Option CifSymbol). Means (with_top cif (items_at found)) (part_name (suc k)) square) (sym there)
        (held_is_meant view root cif is k part known bit place cell symbol at there earlier trees hulls square holds)),
  )

  symbols_mean : (bound place cell : ℕ) → place < bound → slice_get is.order place ≡ Some cell → MeansTree view cif k part place cell
  symbols_mean zero place cell below at = absurd (omega arith)
  symbols_mean (suc bound) place cell below at =
      let symbol = slice_get-below cif.symbols place (omega (arith, is.so_many, slice_get_within is.order place cell at)) in
      symbol_means place cell symbol.0 at symbol.1 (λ before other less listed. symbols_mean bound before other (omega (arith, less, below)) listed)

  root_means : MeansTree view cif k part (symbol_place is.order root) root
  root_means =
      let place = symbol_place is.order root in
      symbols_mean (suc place) place root (omega arith) (place_of_symbol is.order root (root_listed view root is.order is.is_order))

  -- the text means the tree of its cell
  pub text_means : (square : Square) → Means cif (part_name (suc k)) square ↔ HoldsPartOfTree view.tech (tree_at view root) part square
  text_means square =
      let place = symbol_place is.order root in
      let name = part_name (suc k) in (
        (λ means. (root_means square).0 (call_opens cif place name square
            (subst (λ (items : List CifItem). Means (with_top cif items) name square) is.top means))),
        (λ holds. subst (λ (items : List CifItem). Means (with_top cif items) name square) (sym is.top)
            (called_means cif place name square ((root_means square).1 holds))),
      )
