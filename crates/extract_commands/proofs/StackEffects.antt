-- `generate` has one effect: the cells that it makes are those that the technology says, and the stack is one of them.
use Rattle.extract_commands.proofs.Common.{◌≡◌, ◌<◌, ◌∙◌, ℕ, List, [], ◌∷◌, length, Some, None, inl, inr, sym, ap, subst, arith, length-append}
use Rattle.extract_commands.proofs.Common.{unsigned_abs, ReportLine, Effect, CellView, LibraryView, array_cell, row_grid, row_name, stack_grid}
use Rattle.extract_commands.proofs.Common.{stack_name, tile_cell, Stack, State, Workspace, RunsExtracted, GeneratesStack, stack_cell, unless_refused}
use Rattle.extract_commands.proofs.Common.{CellCircuitsAreUnique, CellCircuitsPassNoLimit, CellLimitsAreUnique, ExtractedCellsAreNotRefused}
use Rattle.extract_commands.proofs.Common.{ExtractionsAreUnique, UncleanRefusalsAreUnique, IsSoundView, SeesSoundLibrary}
use Rattle.std.specs.Prelude.{◌+◌, Bool, true, false, if◌then◌else◌, option_map, codes}
use Rattle.layout_gen.specs.Generated.{IsGenerated, with_generated}
use Rattle.uniqueness.specs.Simulations.{CircuitAnswersAreUnique}
use Rattle.extract_commands.specs.CommandGenerate.{MakesStack, forgets_edits, is_refused, with_stack}
use Rattle.extract_commands.specs.CommandGenerate.{without_versions}
use Rattle.extract_commands.specs.OneEffects.{GenerateMeansOneEffect}
use Rattle.extract_commands.proofs.RunEffects.{same_run}

-- a library has one with the cells that are made from a number
same_generated : (old new other : LibraryView) (n : ℕ) → IsGenerated old n new → IsGenerated old n other → new ≡ other
same_generated old new other n p q =
    let poly : p.poly ≡ q.poly = let here = p.poly_is in let also = q.poly_is in cc in
    let diff : p.diff ≡ q.diff = let here = p.diff_is in let also = q.diff_is in cc in
    p.is ∙ (λ i. with_generated old (poly i) (diff i) n) ∙ sym q.is

-- the stack is one of its cells
stack_there : (work : Workspace) (after : LibraryView) (n : ℕ) → IsGenerated work.editing.library n after → stack_cell work < length after.cells
stack_there work after n generated =
    let old = work.editing.library in
    let cells = ap (λ (view : LibraryView). length view.cells) generated.is in
    let made : List CellView = tile_cell old.tech generated.poly generated.diff
    ∷ array_cell row_name (codes "t") (length old.cells) (row_grid n)
    ∷ array_cell stack_name (codes "r") (length old.cells + 1) (stack_grid n)
    ∷ [] in
    omega (arith, cells, length-append old.cells made)

-- what is run of a cell leaves the library
library_after : (budget number n : ℕ) (work : Workspace) (cell : ℕ) (effect : Effect State) → RunsExtracted (Stack n) budget number [] work cell effect
    → SeesSoundLibrary effect.state → IsSoundView work.editing.library
library_after budget number n work cell effect (inl runs) sees = subst SeesSoundLibrary (ap (λ (e : Effect State). e.state) runs.is) sees
library_after budget number n work cell effect (inr refuses) sees = subst SeesSoundLibrary (ap (λ (e : Effect State). e.state) refuses.is) sees

-- what is forgotten are edits alone
sound_before : (refused : Bool) (work : Workspace) → IsSoundView (if refused then work else without_versions work).editing.library
    → IsSoundView work.editing.library
sound_before true work sound = sound
sound_before false work sound = sound

seen_before : (lines : List ReportLine) (state : State) → SeesSoundLibrary (option_map (unless_refused lines) state) → SeesSoundLibrary state
seen_before lines None sees = sees
seen_before lines (Some work) sees = sound_before (is_refused lines) work sees

module _ (one_circuit : CellCircuitsAreUnique) (one_limit : CellLimitsAreUnique) (either : CellCircuitsPassNoLimit)
    (one_answer : CircuitAnswersAreUnique) (one_extraction : ExtractionsAreUnique) (one_refusal : UncleanRefusalsAreUnique)
    (not_both : ExtractedCellsAreNotRefused) where
  -- the stack is made with one effect
  same_made : (budget number n : ℕ) (work : Workspace) (effect other : Effect State) → SeesSoundLibrary effect.state → MakesStack budget number n work effect
      → MakesStack budget number n work other → effect ≡ other
  same_made budget number n work effect other sees p q =
      let after = same_generated work.editing.library p.after q.after n p.generated q.generated in
      let now = with_stack work p.after in
      let extracts = subst (λ (view : LibraryView). RunsExtracted (Stack n) budget number [] (with_stack work view) (stack_cell work) q.ran) (sym after)
      q.extracts in
      let ran = seen_before p.ran.lines p.ran.state (subst (λ (e : Effect State). SeesSoundLibrary e.state) p.is sees) in
      let sound = library_after budget number n now (stack_cell work) p.ran p.extracts ran in
      p.is
      ∙ ap forgets_edits
      (same_run one_circuit one_limit either one_answer one_extraction one_refusal not_both (Stack n) budget number [] now (stack_cell work) sound
      (stack_there work p.after n p.generated) p.ran q.ran p.extracts extracts)
      ∙ sym q.is

  -- or it is refused
  same_stack : (budget number n : ℕ) (work : Workspace) (effect other : Effect State) → SeesSoundLibrary effect.state
      → GeneratesStack budget number n work effect → GeneratesStack budget number n work other → effect ≡ other
  same_stack budget number n work effect other sees (inl p) (inl q) = same_made budget number n work effect other sees p q
  same_stack budget number n work effect other sees (inl p) (inr q) = absurd (let none = p.accepted in let some = q.is_fault in let no : ⊥ = cc in no)
  same_stack budget number n work effect other sees (inr p) (inl q) = absurd (let none = q.accepted in let some = p.is_fault in let no : ⊥ = cc in no)
  same_stack budget number n work effect other sees (inr p) (inr q) =
      let fault : p.fault ≡ q.fault = let here = p.is_fault in let also = q.is_fault in cc in
      let one = p.is in let more = q.is in cc

  -- so `generate` has one effect
  pub same_generate : GenerateMeansOneEffect
  same_generate budget number None count effect other sees p q = p ∙ sym q
  same_generate budget number (Some work) count effect other sees p q =
      same_stack budget number (unsigned_abs count) work effect other sees p q
