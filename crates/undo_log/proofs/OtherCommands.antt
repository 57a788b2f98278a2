-- Commands that change no cell, or come where there is none to change: a log keeps its versions.
use Rattle.undo_log.proofs.Common.{◌≡◌, ◌<◌, ℕ, zero, suc, true, false, Bool, List, [], ◌∷◌, length, refl, sym, ap, subst, ◌∙◌, inl, inr, arith}
use Rattle.undo_log.proofs.Common.{true≢false, Option, None, Some, if◌then◌else◌, slice_index_or, option_map_or, CellKey, UseBody, IsLawfulLibrary}
use Rattle.undo_log.proofs.Common.{IsLawfulScale, LibraryParts, seen, CellView, LibraryView, count_seen, Command, Editing, editing_of, applied}
use Rattle.undo_log.proofs.Common.{CellsCame, Inverses, Keeps, Versions, after_edit, is_edit, versions_after}
use Rattle.std.proofs.Common.{◌⊎◌}
use Rattle.std.specs.Prelude.{unwrap_or}
use Rattle.edit_script.specs.CellLibrary.Edits.{empty_cell, with_new_cell}
use Rattle.edit_script.specs.ScriptLines.declared.commands.Command.TheVariants as command
use Rattle.undo_log.proofs.CameLaws.{cells_come}

-- a new cell is one that came
new_came : (view : LibraryView) (name : List ℕ) → (0 < length view.cells → view.scale ≡ None → ⊥) → CellsCame view (with_new_cell view name)
new_came view name scaled = record {
  more = empty_cell name ∷ [];
  cells = refl;
  tech = refl;
  scale = λ some. kept view.scale (scaled some);
  apart = λ k d below j e inside. absurd (none k d below j e inside);
}
  where
    kept : (scale : Option (ℕ × ℕ)) → (scale ≡ None → ⊥) → Some (unwrap_or scale (1, 1)) ≡ scale
    kept None there = absurd (there refl)
    kept (Some numbers) there = refl

    none : (k : ℕ) (d : CellView) → k < 1 → (j : ℕ) (e : List ℕ × UseBody)
        → j < length (slice_index_or (empty_cell name ∷ []) k d).uses → ⊥
    none zero d below j e inside = omega arith
    none (suc k) d below j e inside = omega arith

-- a lawful library with cells has a scale
scaled : (library : LibraryParts) → IsLawfulLibrary library → 0 < length (seen library).cells → (seen library).scale ≡ None → ⊥
scaled library lawful some none =
    let empty : length library.contents ≡ 0 = subst (λ (scale : Option (ℕ × ℕ)). IsLawfulScale scale (length library.contents)) none lawful.scale in
    let count = count_seen library in
    omega arith

-- what a command that is no edit makes of a library
pub other_applied : (editing : Editing) (command : Command) → is_edit command ≡ false
    → ((name : List ℕ) × ((applied editing command).library ≡ with_new_cell editing.library name))
    ⊎ ((applied editing command).library ≡ editing.library)
other_applied editing (command.New name) other = inl (name, refl)
other_applied editing (command.Paint layer area) other = absurd (true≢false other)
other_applied editing (command.Erase layer area) other = absurd (true≢false other)
other_applied editing (command.Place name id six) other = absurd (true≢false other)
other_applied editing (command.Array id six) other = absurd (true≢false other)
other_applied editing (command.Move id dx dy) other = absurd (true≢false other)
other_applied editing (command.Delete id) other = absurd (true≢false other)
other_applied editing (command.Label layer area position text) other = absurd (true≢false other)
other_applied editing (command.Unlabel text) other = absurd (true≢false other)
other_applied editing command other = inr refl

-- without a current cell an edit changes nothing
pub none_applied : (library : LibraryView) (edits : ℕ) (command : Command) → is_edit command ≡ true
    → (applied (record { library = library; edits = edits; current = None }) command).library ≡ library
none_applied library edits (command.Paint layer area) edit = refl
none_applied library edits (command.Erase layer area) edit = refl
none_applied library edits (command.Place name id six) edit = refl
none_applied library edits (command.Array id six) edit = refl
none_applied library edits (command.Move id dx dy) edit = refl
none_applied library edits (command.Delete id) edit = refl
none_applied library edits (command.Label layer area position text) edit = refl
none_applied library edits (command.Unlabel text) edit = refl
none_applied library edits command edit = absurd (true≢false (sym edit))

-- a log keeps its versions after a command that is no edit
pub other_keeps : (old new : LibraryParts) (before now : Option CellKey) (command : Command) (log : Inverses) (versions : Versions)
    → IsLawfulLibrary old → IsLawfulLibrary new → is_edit command ≡ false → editing_of new now ≡ applied (editing_of old before) command
    → Keeps (seen old) log versions → Keeps (seen new) log (versions_after (editing_of old before) command versions)
other_keeps old new before now command log versions old_lawful new_lawful other made keeps =
    subst (Keeps (seen new) log) (sym same) (elim (other_applied (editing_of old before) command other) [
      | inl added ↦
          subst (λ (view : LibraryView). Keeps view log versions) (sym (here ∙ added.1))
          (cells_come (seen old) (with_new_cell (seen old) added.0) log versions (new_came (seen old) added.0 (scaled old old_lawful))
          (new, new_lawful, here ∙ added.1) keeps)
      | inr left ↦ subst (λ (view : LibraryView). Keeps view log versions) (sym (here ∙ left)) keeps
    ])
  where
    here : seen new ≡ (applied (editing_of old before) command).library
    here = ap (λ (editing : Editing). editing.library) made

    same : versions_after (editing_of old before) command versions ≡ versions
    same =
        ap (λ (b : Bool). if b
        then option_map_or (λ cell. after_edit (seen old) cell versions) (editing_of old before).current versions
        else versions) other

-- and after an edit where there is no current cell
pub none_keeps : (old new : LibraryParts) (before now : Option CellKey) (command : Command) (log : Inverses) (versions : Versions)
    → before ≡ None → is_edit command ≡ true → editing_of new now ≡ applied (editing_of old before) command → Keeps (seen old) log versions
    → Keeps (seen new) log (versions_after (editing_of old before) command versions)
none_keeps old new before now command log versions none edit made keeps =
    subst (λ (current : Option CellKey). Keeps (seen new) log (versions_after (editing_of old current) command versions)) (sym none)
    (subst (Keeps (seen new) log) (sym same) (subst (λ (view : LibraryView). Keeps view log versions) (sym here) keeps))
  where
    here : seen new ≡ seen old
    here =
        ap (λ (editing : Editing). editing.library) made
        ∙ ap (λ (current : Option CellKey). (applied (editing_of old current) command).library) none
        ∙ none_applied (seen old) old.tree.edits command edit

    same : versions_after (editing_of old None) command versions ≡ versions
    same = ap (λ (b : Bool). if b then versions else versions) edit
