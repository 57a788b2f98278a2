-- Why an extraction is refused: by one cell, and by an order.
use Rattle.ext_cache.proofs.Common.{◌≡◌, ℕ, List, sym, subst, LibraryView, IsCleanCell}
use Rattle.std.proofs.Common.{Result, Ok, Err, IfErr, IsErrAnd}
use Rattle.tree_merges.specs.HierMerge.UncleanCells.{AreOffendingOf, IsFirstUnclean}
use Rattle.ext_cache.specs.declared.faults.ExtractFault.{ExtractFault}
use Rattle.ext_cache.specs.declared.faults.ExtractFault.TheVariants.{Memory, Unclean}
use Rattle.ext_cache.specs.Refusals.{IsUncleanCell, IsUncleanIn}

-- a refusal by a cell that is the first of an order which is not clean, if it is not
pub unclean_in_order : (view : LibraryView) (order : List ℕ) (cell : ℕ) (fault : ExtractFault)
    → ((IsCleanCell view cell → ⊥) → IsFirstUnclean view order cell) → IsUncleanCell view cell fault → IsUncleanIn view order fault
unclean_in_order view order cell Memory first is = tt
unclean_in_order view order cell (Unclean found) first (same, unclean, squares) = (
  subst (λ (at : ℕ). IsFirstUnclean view order at) (sym same) (first unclean),
  subst (λ (at : ℕ). AreOffendingOf view at found.squares) (sym same) squares,
)

-- a fault that is handed on
pub fault_same : {T : Type 0} (result : Result T ExtractFault) (fault : ExtractFault) → IsErrAnd result (λ error. error ≡ fault)
    → (P : ExtractFault → Type 0) → P fault → IfErr result P
fault_same (Ok value) fault is P holds = tt
fault_same (Err error) fault is P holds = subst P (sym is) holds
