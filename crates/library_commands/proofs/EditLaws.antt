-- What the commands answer that edit.
use Rattle.library_commands.proofs.Common.{◌≡◌, ◌∙◌, ℕ, [], ◌∷◌, Option, Some, inl, inr, refl, sym, subst, codes, Answer, AnswersAlone, CellKey}
use Rattle.library_commands.proofs.Common.{LibraryParts, IsLawfulLibrary, IsSame, seen, Command, EditFault, editing_of, applied, ApplyIsRefused}
use Rattle.library_commands.proofs.Common.{Inverses, kept_versions, versions_after, Agrees, Records, is_dirty, edit_refusal, EditMeans, refusal_line}
use Rattle.library_commands.proofs.Common.{refused, reply, Workspace, answers_refusal, same_workspace, workspace_of}
use Rattle.uniqueness.specs.EditScript.Stamps.{IsStamped}
use Rattle.library_commands.proofs.MarkLaws.{marks_applied}

-- the command was applied
pub edit_done : (number : ℕ) (old new : LibraryParts) (before now : Option CellKey) (records : Records) (log later : Inverses) (command : Command)
    (answer : Answer) → kept_versions (seen new) later ≡ versions_after (editing_of old before) command (kept_versions (seen old) log)
    → IsLawfulLibrary old → IsStamped old new before command → editing_of new now ≡ applied (editing_of old before) command → Agrees old records
    → ((fault : EditFault) → ApplyIsRefused (editing_of old before) command fault → ⊥)
    → answer.lines.items ≡ reply (codes "ok") ∷ [] → answer.stores.items ≡ []
    → AnswersAlone (EditMeans number (Some (workspace_of old before records log)) command) (Some (workspace_of new now records later)) answer
edit_done number old new before now records log later command answer versions lawful stamped done agrees accepts lines stores =
    inl (record {
      accepts = accepts;
      dirty = is_dirty new records;
      marks = (marks_applied old new before now records command lawful stamped done agrees).1;
      is = λ i. record {
        state = Some (record { editing = done i; dirty = is_dirty new records; versions = versions i });
        lines = lines i;
        stores = stores i;
        fetched = [];
      };
    })

-- where nothing changed, neither did what is edited
pub edit_same : (old new : LibraryParts) (before now : Option CellKey) (records : Records) (log later : Inverses) → IsSame old new → now ≡ before
    → later ≡ log → workspace_of new now records later ≡ workspace_of old before records log
edit_same old new before now records log later same kept logged =
    (λ i. workspace_of new (kept i) records (logged i)) ∙ same_workspace old new before records log same

-- the command is refused
pub edit_refused : (number : ℕ) (old new : LibraryParts) (before now : Option CellKey) (records : Records) (log later : Inverses) (command : Command)
    (fault : EditFault) (answer : Answer) → IsSame old new → now ≡ before → later ≡ log → ApplyIsRefused (editing_of old before) command fault
    → answer.lines.items ≡ refusal_line number (edit_refusal fault) ∷ [] → answer.stores.items ≡ []
    → AnswersAlone (EditMeans number (Some (workspace_of old before records log)) command) (Some (workspace_of new now records later)) answer
edit_refused number old new before now records log later command fault answer same kept logged is lines stores =
    let work = workspace_of old before records log in
    let means : EditMeans number (Some work) command (refused number (Some work) (edit_refusal fault) []) =
    inr (record { fault = fault; is_refused = is; is = refl }) in
    subst (λ (w : Workspace). AnswersAlone (EditMeans number (Some work) command) (Some w) answer)
    (sym (edit_same old new before now records log later same kept logged))
    (answers_refusal (EditMeans number (Some work) command) number (Some work) (edit_refusal fault) [] answer lines stores means)
