-- Which cells are dirty after an edit is one.
use Rattle.library_commands.proofs.Common.{◌≡◌, ℕ, List, refl, sym, ◌∙◌, MatchOption, children_in, Command, Editing, MarksAbove, MarksAfter}
use Rattle.library_commands.proofs.Common.{MarksCurrent}
use Rattle.std.proofs.Common.{true≢false}
use Rattle.std.proofs.Math.Path.{fun_ext}
use Rattle.std.specs.Prelude.{Bool, true, false, None, Some, Option}
use Rattle.use_orders.specs.Uses.{IsAtOrBelow}
use Rattle.script_lines.specs.declared.commands.Command.TheVariants as command

-- Booleans of which neither is true alone are one
same_bool : (b c : Bool) → (b ≡ true → c ≡ false → ⊥) → (b ≡ false → c ≡ true → ⊥) → b ≡ c
same_bool true true left right = refl
same_bool true false left right = absurd (left refl refl)
same_bool false true left right = absurd (right refl refl)
same_bool false false left right = refl

-- a mark of the one and none of the other are at a cell neither at or above the edited one nor apart from it
not_alone : (children : List (List ℕ)) (cell other : ℕ) (old new later : ℕ → Bool) → MarksAbove children cell old new → MarksAbove children cell old later
    → new other ≡ true → later other ≡ false → ⊥
not_alone children cell other old new later p q marked unmarked =
    let apart : IsAtOrBelow children other cell → ⊥ = λ stands. true≢false (sym (q.marked other stands) ∙ unmarked) in
    true≢false (sym marked ∙ p.kept other apart ∙ sym (q.kept other apart) ∙ unmarked)

-- so the marks of all cells are one
pub same_above : (children : List (List ℕ)) (cell : ℕ) (old new later : ℕ → Bool) → MarksAbove children cell old new → MarksAbove children cell old later
    → new ≡ later
same_above children cell old new later p q =
    fun_ext (λ other. same_bool (new other) (later other)
    (not_alone children cell other old new later p q)
    (λ unmarked marked. not_alone children cell other old later new q p marked unmarked))

-- also where there may be no current cell
same_of : (children : List (List ℕ)) (current : Option ℕ) (old new later : ℕ → Bool)
    → MatchOption current (new ≡ old) (λ cell. MarksAbove children cell old new)
    → MatchOption current (later ≡ old) (λ cell. MarksAbove children cell old later) → new ≡ later
same_of children None old new later p q = p ∙ sym q
same_of children (Some cell) old new later p q = same_above children cell old new later p q

same_current : (editing : Editing) (old new later : ℕ → Bool) → MarksCurrent editing old new → MarksCurrent editing old later → new ≡ later
same_current editing old new later = same_of (children_in editing.library) editing.current old new later

-- and after each command
pub same_marks : (editing : Editing) (edit : Command) (old new later : ℕ → Bool) → MarksAfter editing edit old new → MarksAfter editing edit old later
    → new ≡ later
same_marks editing (command.Paint layer area) old new later = same_current editing old new later
same_marks editing (command.Erase layer area) old new later = same_current editing old new later
same_marks editing (command.Place name id six) old new later = same_current editing old new later
same_marks editing (command.Array id six) old new later = same_current editing old new later
same_marks editing (command.Move id dx dy) old new later = same_current editing old new later
same_marks editing (command.Delete id) old new later = same_current editing old new later
same_marks editing (command.Label layer area position text) old new later = same_current editing old new later
same_marks editing (command.Unlabel text) old new later = same_current editing old new later
same_marks editing _ old new later = λ p q. p ∙ sym q
