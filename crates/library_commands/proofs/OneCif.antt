-- A cell that is written as a CIF text is written in one way.
use Rattle.library_commands.proofs.Common.{◌≡◌, ◌∙◌, ◌<◌, ℕ, List, [], Option, Some, None, length, refl, ap, sym, subst, arith, MatchOption, Effect}
use Rattle.library_commands.proofs.Common.{IsLawfulLibrary, LibraryParts, seen, LibraryView, cell_named, count_seen, named_below, refused, no_cell}
use Rattle.library_commands.proofs.Common.{State, Workspace}
use Rattle.cif_commands.specs.CommandCif.{CifMeans}
use Rattle.cif_commands.specs.OneEffects.{CifMeansOneEffect}
use Rattle.library_commands.specs.CommandCif.{WritesIn}
use Rattle.library_commands.specs.OneEffects.{WriteMeansOneEffect}
use Rattle.library_commands.proofs.OneChecks.{free_of, with_state}

module _ (one : CifMeansOneEffect) (number : ℕ) (name : List ℕ) (work : Workspace) (library : LibraryParts) (lawful : IsLawfulLibrary library)
    (is : seen library ≡ work.editing.library) (effect other : Effect State) where
  one_writing : (cell : ℕ) → cell < length work.editing.library.cells → WritesIn number name work cell effect → WritesIn number name work cell other
      → effect ≡ other
  one_writing cell within p q =
      let same = subst
      (λ (view : LibraryView). cell < length view.cells → CifMeans number view cell name (free_of effect)
      → CifMeans number view cell name (free_of other) → free_of effect ≡ free_of other)
      is
      (λ there first second. one number library cell name (free_of effect) (free_of other) lawful (omega (arith, there, count_seen library)) first second)
      within p.1 q.1 in
      ap (λ (state : State). with_state state (free_of effect)) (p.0 ∙ sym q.0) ∙ ap (with_state other.state) same

  -- where there may be no cell of the name
  of_name : (found : Option ℕ) → cell_named work.editing.library name ≡ found
      → MatchOption found (effect ≡ refused number (Some work) (no_cell name) []) (λ cell. WritesIn number name work cell effect)
      → MatchOption found (other ≡ refused number (Some work) (no_cell name) []) (λ cell. WritesIn number name work cell other)
      → effect ≡ other
  of_name None found p q = p ∙ sym q
  of_name (Some cell) found p q = one_writing cell (named_below work.editing.library name cell found) p q

pub writings_do_one_thing : CifMeansOneEffect → WriteMeansOneEffect
writings_do_one_thing one number None name effect other sees p q = p ∙ sym q
writings_do_one_thing one number (Some work) name effect other sound p q =
    let (library, lawful, is) = sound.lawful in
    of_name one number name work library lawful is effect other (cell_named work.editing.library name) refl p q
