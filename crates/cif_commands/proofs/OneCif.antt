-- `cif` does one thing, since a cell has one text.
use Rattle.cif_commands.proofs.Common.{◌≡◌, ◌∙◌, ◌<◌, inl, inr, ℕ, List, [], ◌∷◌, length, ap, sym, arith, IsLibraryOrder, children_in, IsCifText}
use Rattle.cif_commands.proofs.Common.{FreeEffect, reply, CifMeans, cif_store, written_text}
use Rattle.use_orders.specs.Uses.{IsAtOrBelow}
use Rattle.geo_core.specs.FiniteSets.Lists.{Lists}
use Rattle.geo_core.proofs.FiniteSets.Places.{In-slice_get}
use Rattle.cell_library.specs.Libraries.{IsLawfulLibrary, LibraryParts, seen}
use Rattle.cif_writing.proofs.OrderLaws.{order_there}
use Rattle.cif_writing.proofs.SymbolLaws.{one_text}
use Rattle.cif_commands.specs.OneEffects.{CifMeansOneEffect}

-- a text with so many symbols is stored
abbrev stored : List ℕ → ℕ → List ℕ → FreeEffect
stored name symbols text =
    record { state = tt; lines = reply (written_text name symbols) ∷ []; stores = cif_store name text ∷ []; fetched = [] }

module _ (lists : (children : List (List ℕ)) (root : ℕ) (order : List ℕ) → IsLibraryOrder children root order → Lists (IsAtOrBelow children root) order)
    (unique : (children : List (List ℕ)) (root : ℕ) (one other : List ℕ) → IsLibraryOrder children root one → IsLibraryOrder children root other
    → one ≡ other) where
  module _ (library : LibraryParts) (lawful : IsLawfulLibrary library) (cell : ℕ) (there : cell < length library.contents) where
    same_text : (text other : List ℕ) → IsCifText (seen library) cell text → IsCifText (seen library) cell other → text ≡ other
    same_text text other p q =
        let children = children_in (seen library) in
        one_text library lawful cell p.order p.is_order (λ order is. unique children cell order p.order is p.is_order)
        (λ k below at. order_there library lawful cell p.order there (lists children cell p.order p.is_order) below (In-slice_get p.order k below at))
        text other p q

    one_cif : (number : ℕ) (name : List ℕ) (effect other : FreeEffect) → CifMeans number (seen library) cell name effect
        → CifMeans number (seen library) cell name other → effect ≡ other
    one_cif number name effect other (inl p) (inl q) =
        let orders = unique (children_in (seen library)) cell p.is_text.order q.is_text.order p.is_text.is_order q.is_text.is_order in
        p.is
        ∙ ap (λ (order : List ℕ). stored name (length order) p.text) orders
        ∙ ap (λ (text : List ℕ). stored name (length q.is_text.order) text) (same_text p.text q.text p.is_text q.is_text)
        ∙ sym q.is
    one_cif number name effect other (inl p) (inr q) = absurd (omega (arith, p.fits, q.long p.text p.is_text))
    one_cif number name effect other (inr p) (inl q) = absurd (omega (arith, q.fits, p.long q.text q.is_text))
    one_cif number name effect other (inr p) (inr q) = p.is ∙ sym q.is

  pub cif_does_one_thing : CifMeansOneEffect
  cif_does_one_thing number library cell name effect other lawful there p q = one_cif library lawful cell there number name effect other p q
