-- Inverses that lead from a library to versions: one more of them, one fewer, and more cells.
use Rattle.undo_log.proofs.Common.{◌≡◌, ◌<◌, ℕ, true, Bool, List, [], ◌∷◌, length, refl, sym, ap, subst, ◌∙◌, Option, Some, if◌then◌else◌}
use Rattle.undo_log.proofs.Common.{option_map_or, CellKey, IsLawfulLibrary, LibraryParts, seen, IsLawfulView, LibraryView, view_at}
use Rattle.undo_log.proofs.Common.{with_cell_changed, Command, Editing, Change, Inverse, CanBeMade, Inverses, Keeps, LeadTo, TakesBack, changed}
use Rattle.undo_log.proofs.Common.{Version, Versions, after_edit, is_edit, version_of, versions_after, with_version}
use Rattle.edit_script.specs.CellLibrary.Libraries.{IsNextEdit}
use Rattle.undo_log.specs.Inverses.{IsReturned, led_to}
use Rattle.undo_log.specs.Laws.{KeptVersionsAreUnique, NothingIsKept}
use Rattle.undo_log.proofs.CellLaws.{cell_alike, cell_here}
use Rattle.undo_log.proofs.ChangeLaws.{changed_is, remade}

-- a library that was changed has the version that the change left
pub version_is : (view : LibraryView) (cell : ℕ) (change : Change) → cell < length view.cells
    → with_version view (version_of (changed view cell change) cell) ≡ changed view cell change
version_is view cell change there =
    let is : changed view cell change ≡ with_cell_changed view cell (remade change) = changed_is view cell change in
    let here : view_at (changed view cell change) cell ≡ remade change (view_at view cell) =
    ap (λ (after : LibraryView). view_at after cell) is ∙ cell_here view cell (remade change) there in
    cell_alike view cell (λ _. view_at (changed view cell change) cell) (remade change) here ∙ sym is

-- what takes a library back can be made
pub can_take_back : (before after : LibraryView) (cell : ℕ) (back : Change) → IsLawfulView before → TakesBack before after cell back
    → CanBeMade after cell back
can_take_back before after cell back lawful takes =
    record { there = takes.there; speaks = takes.speaks; lawful = subst IsLawfulView (sym takes.is) lawful }

-- the first of inverses that lead somewhere can be made
pub first_can_be_made : (view : LibraryView) (inverses rest : List Inverse) (inverse : Inverse) (versions : List Version) → inverses ≡ inverse ∷ rest
    → LeadTo view inverses versions → CanBeMade view inverse.cell.0 inverse.change
first_can_be_made view inverses rest inverse versions is leads =
    first versions (subst (λ (list : List Inverse). LeadTo view list versions) is leads)
  where
    first : (to : List Version) → LeadTo view (inverse ∷ rest) to → CanBeMade view inverse.cell.0 inverse.change
    first [] none = absurd none
    first (version ∷ more) leads_on = leads_on.0

-- One more inverse: it leads to the library before, and to the version that a cell has there.
pub one_more_leads : (before after : LibraryView) (cell : ℕ) (inverse : Inverse) (inverses : List Inverse) (versions : List Version)
    → inverse.cell.0 ≡ cell → IsLawfulView before → TakesBack before after cell inverse.change → LeadTo before inverses versions
    → LeadTo after (inverse ∷ inverses) (version_of before cell ∷ versions)
one_more_leads before after cell inverse inverses versions same lawful takes leads =
    let here : TakesBack before after inverse.cell.0 inverse.change = subst (λ (c : ℕ). TakesBack before after c inverse.change) (sym same) takes in
    let back : changed after inverse.cell.0 inverse.change ≡ before = here.is in (
      can_take_back before after inverse.cell.0 inverse.change lawful here,
      (λ i. version_of (sym back i) (sym same i)),
      subst (λ (view : LibraryView). LeadTo view inverses versions) (sym back) leads,
    )

-- the latest inverse was made of the library, which is at the latest version then
pub brought_back : (old new : LibraryParts) (from from_then to to_then rest : List Inverse) (latest inverse : Inverse) (earlier later : List Version)
    → IsLawfulLibrary old → from ≡ latest ∷ rest → from_then ≡ rest → to_then ≡ inverse ∷ to → inverse.cell ≡ latest.cell
    → seen new ≡ changed (seen old) latest.cell.0 latest.change
    → TakesBack (seen old) (changed (seen old) latest.cell.0 latest.change) latest.cell.0 inverse.change
    → IsNextEdit old new latest.cell.0 → LeadTo (seen old) from earlier → LeadTo (seen old) to later
    → IsReturned old new earlier later from_then to_then
brought_back old new from from_then to to_then rest latest inverse earlier later lawful from_is from_left to_left same made takes edit leads_from leads_to =
    at_versions earlier (subst (λ (list : List Inverse). LeadTo (seen old) list earlier) from_is leads_from)
  where
    at_versions : (versions : List Version) → LeadTo (seen old) (latest ∷ rest) versions → IsReturned old new versions later from_then to_then
    at_versions [] leads = absurd leads
    at_versions (version ∷ versions) leads =
        let after : LibraryView = changed (seen old) latest.cell.0 latest.change in
        let version_at : version ≡ version_of after latest.cell.0 = leads.1 in
        let cell : version.cell ≡ latest.cell.0 = ap (λ (v : Version). v.cell) version_at in
        record {
          back = record {
            cell = version.cell;
            library = with_version (seen old) version;
            earlier = versions;
            later = version_of (seen old) version.cell ∷ later;
          };
          is = refl;
          library = made ∙ sym (version_is (seen old) latest.cell.0 latest.change leads.0.there) ∙ ap (with_version (seen old)) (sym version_at);
          edit = subst (IsNextEdit old new) (sym cell) edit;
          leads = subst (λ (list : List Inverse). LeadTo (seen new) list versions) (sym from_left)
              (subst (λ (view : LibraryView). LeadTo view rest versions) (sym made) leads.2);
          leads_back = subst (λ (list : List Inverse). LeadTo (seen new) list (version_of (seen old) version.cell ∷ later)) (sym to_left)
              (one_more_leads (seen old) (seen new) version.cell inverse to later (ap (λ (key : CellKey). key.0) same ∙ sym cell) (old, lawful, refl)
              (subst (λ (c : ℕ). TakesBack (seen old) (seen new) c inverse.change) (sym cell)
              (subst (λ (view : LibraryView). TakesBack (seen old) view latest.cell.0 inverse.change) (sym made) takes)) leads_to);
        }

-- the versions after an edit of the current cell
pub edit_versions : (editing : Editing) (command : Command) (versions : Versions) (cell : ℕ) → editing.current ≡ Some cell → is_edit command ≡ true
    → versions_after editing command versions ≡ after_edit editing.library cell versions
edit_versions editing command versions cell is edit =
    ap (λ (b : Bool). if b then option_map_or (λ at. after_edit editing.library at versions) editing.current versions else versions) edit
    ∙ ap (λ (found : Option ℕ). option_map_or (λ at. after_edit editing.library at versions) found versions) is

-- an edit of the current cell was made, whose inverse comes to a log
pub edit_kept : (editing : Editing) (command : Command) (new : LibraryView) (log log_then : Inverses) (inverse : Inverse) (versions : Versions)
    → editing.current ≡ Some inverse.cell.0 → is_edit command ≡ true → IsLawfulView editing.library
    → TakesBack editing.library new inverse.cell.0 inverse.change → log_then ≡ record { done = inverse ∷ log.done; undone = [] }
    → Keeps editing.library log versions → Keeps new log_then (versions_after editing command versions)
edit_kept editing command new log log_then inverse versions is edit lawful takes log_is keeps =
    subst (λ (l : Inverses). Keeps new l (versions_after editing command versions)) (sym log_is)
    (subst (Keeps new (record { done = inverse ∷ log.done; undone = [] }))
    (sym (edit_versions editing command versions inverse.cell.0 is edit)) (record {
      done = one_more_leads editing.library new inverse.cell.0 inverse log.done versions.done refl lawful takes keeps.done;
      undone = tt;
    }))

-- ---- one list of versions

-- inverses lead to one list of versions
led_there : (view : LibraryView) (inverses : List Inverse) (versions : List Version) → LeadTo view inverses versions → versions ≡ led_to view inverses
led_there view [] [] leads = refl
led_there view [] (version ∷ versions) leads = absurd leads
led_there view (inverse ∷ inverses) [] leads = absurd leads
led_there view (inverse ∷ inverses) (version ∷ versions) leads =
    λ i. leads.1 i ∷ led_there (changed view inverse.cell.0 inverse.change) inverses versions leads.2 i

-- so a log keeps one
pub versions_unique : KeptVersionsAreUnique
versions_unique view log versions keeps =
    λ i. record { done = led_there view log.done versions.done keeps.done i; undone = led_there view log.undone versions.undone keeps.undone i }

-- and a log without edits none
pub nothing_kept : NothingIsKept
nothing_kept view = record { done = tt; undone = tt }
