-- A check by design rules has one effect, and rests on the file alone that it fetches.
use Rattle.library_commands.proofs.Common.{◌≡◌, ◌∙◌, ℕ, List, [], Option, Some, None, ap, sym, MatchOption, Files, Effect, AgreeOn, cell_named}
use Rattle.library_commands.proofs.Common.{refused, no_cell, State, Workspace, CheckMeans, ChecksIn}
use Rattle.line_answers.specs.LineEffects.{FreeEffect}
use Rattle.drc_commands.proofs.RestLaws.{drc_rests}
use Rattle.drc_commands.specs.OneEffect.{DrcMeansOneEffect}
use Rattle.library_commands.specs.OneEffects.{CheckMeansOneEffect}

-- an effect without its state
abbrev pub free_of : Effect State → FreeEffect
free_of effect = record { state = tt; lines = effect.lines; stores = effect.stores; fetched = effect.fetched }

-- an effect with a state
abbrev pub with_state : State → FreeEffect → Effect State
with_state state effect = record { state = state; lines = effect.lines; stores = effect.stores; fetched = effect.fetched }

module _ (one : DrcMeansOneEffect) (number : ℕ) (files : Files) (name file : List ℕ) (work : Workspace) (effect other : Effect State) where
  one_check : (cell : ℕ) → ChecksIn number files name file work cell effect → ChecksIn number files name file work cell other → effect ≡ other
  one_check cell p q =
      ap (λ (state : State). with_state state (free_of effect)) (p.0 ∙ sym q.0)
      ∙ ap (with_state other.state) (one number files work.editing.library cell name file (free_of effect) (free_of other) p.1 q.1)

  -- where there may be no cell of the name
  of_name : (found : Option ℕ)
      → MatchOption found (effect ≡ refused number (Some work) (no_cell name) []) (λ cell. ChecksIn number files name file work cell effect)
      → MatchOption found (other ≡ refused number (Some work) (no_cell name) []) (λ cell. ChecksIn number files name file work cell other)
      → effect ≡ other
  of_name None p q = p ∙ sym q
  of_name (Some cell) p q = one_check cell p q

pub checks_do_one_thing : DrcMeansOneEffect → CheckMeansOneEffect
checks_do_one_thing one number None files name file effect other p q = p ∙ sym q
checks_do_one_thing one number (Some work) files name file effect other p q =
    of_name one number files name file work effect other (cell_named work.editing.library name) p q

-- ---- over files that agree on what was fetched

module _ (number : ℕ) (files others : Files) (name file : List ℕ) (work : Workspace) (effect : Effect State) where
  cell_rests : (found : Option ℕ)
      → MatchOption found (effect ≡ refused number (Some work) (no_cell name) []) (λ cell. ChecksIn number files name file work cell effect)
      → AgreeOn effect.fetched files others
      → MatchOption found (effect ≡ refused number (Some work) (no_cell name) []) (λ cell. ChecksIn number others name file work cell effect)
  cell_rests None is agree = is
  cell_rests (Some cell) (stays, means) agree =
      (stays, drc_rests number files others work.editing.library cell name file (free_of effect) means agree)

-- what a check does is the same over such files
pub check_rests : (number : ℕ) (state : State) (files others : Files) (name file : List ℕ) (effect : Effect State)
    → CheckMeans number state files name file effect → AgreeOn effect.fetched files others → CheckMeans number state others name file effect
check_rests number None files others name file effect is agree = is
check_rests number (Some work) files others name file effect means agree =
    cell_rests number files others name file work effect (cell_named work.editing.library name) means agree
