-- What `undo` and `redo` do to what a session keeps.
use Rattle.library_commands.proofs.Common.{◌≡◌, ◌⊎◌, ◌<◌, ◌∙◌, ℕ, length, List, [], ◌∷◌, Err, inl, inr, sym, ap, subst, refl, IfSome, CellKey}
use Rattle.library_commands.proofs.Common.{children_in, LibraryParts, IsLawfulLibrary, IsSame, edits_of, seen, CellView, LibraryView, view_at}
use Rattle.library_commands.proofs.Common.{with_cell_changed, count_seen, length-changed_at, UndoFault, Inverses, Keeps, kept_versions, Return}
use Rattle.library_commands.proofs.Common.{Versions, versions_unique, Agrees, Records, is_dirty, Workspace, same_current, workspace_of, Way, Redo}
use Rattle.library_commands.proofs.Common.{Undo, MarksAbove, IsBrought, ReturnIsRefused, agrees_same, KeepsSome, log_same}
use Rattle.std.proofs.Common.{◌≢◌}
use Rattle.std.specs.Prelude.{◌↔◌, IfErr, IsErrOf, IsSome, OnErr, OnOk, Option, None, Result, Some, Ok}
use Rattle.cell_library.specs.declared.limits.TheConstants.{MOST_EDITS}
use Rattle.uniqueness.specs.EditScript.Editing.{IsCurrent}
use Rattle.look_commands.specs.UndoLog.declared.changes.Inverse.{Inverse}
use Rattle.look_commands.specs.UndoLog.declared.faults.UndoFault.TheVariants as undo
use Rattle.look_commands.specs.UndoLog.Inverses.{IsReturned, LeadTo, led_to}
use Rattle.look_commands.specs.UndoLog.Versions.{Version, returned}
use Rattle.library_commands.specs.CommandReturns.{nothing_left, return_by, versions_by}
use Rattle.library_commands.proofs.MarkLaws.{current_edited}

-- ---- an edit that is left

-- the library of a return has another body in the place of its cell's
returned_changes : (view : LibraryView) (earlier later : List Version) (back : Return) → returned view earlier later ≡ Some back
    → (body : CellView) × (back.library ≡ with_cell_changed view back.cell (λ _. body))
returned_changes view [] later back is = absurd (let no : ⊥ = cc in no)
returned_changes view (version ∷ earlier) later back is =
    let one : Return = record {
      cell = version.cell;
      library = with_cell_changed view version.cell (λ _. version.body);
      earlier = earlier;
      later = record { cell = version.cell; body = view_at view version.cell } ∷ later;
    } in
    let same : one ≡ back = cc in
    (version.body, subst (λ (b : Return). b.library ≡ with_cell_changed view b.cell (λ _. version.body)) same refl)

-- the versions and the inverses of the way, and the others
abbrev pub earlier_by : Way → Versions → List Version
earlier_by Undo versions = versions.done
earlier_by Redo versions = versions.undone

abbrev pub later_by : Way → Versions → List Version
later_by Undo versions = versions.undone
later_by Redo versions = versions.done

abbrev pub inverses_by : Way → Inverses → List Inverse
inverses_by Undo log = log.done
inverses_by Redo log = log.undone

abbrev pub others_by : Way → Inverses → List Inverse
others_by Undo log = log.undone
others_by Redo log = log.done

-- the library was brought to a version by the lists of the way
abbrev pub IsReturnedBy : Way → LibraryParts → LibraryParts → Versions → Inverses → Type 0
IsReturnedBy way old new versions log =
    IsReturned old new (earlier_by way versions) (later_by way versions) (inverses_by way log) (others_by way log)

-- what is left of versions
left_by : (way : Way) (work : Workspace) → return_by way work ≡ returned work.editing.library (earlier_by way work.versions) (later_by way work.versions)
left_by Undo work = refl
left_by Redo work = refl

-- a log keeps the versions of a return to which its lists lead
kept_by : (way : Way) (view : LibraryView) (back : Return) (log : Inverses) → LeadTo view (inverses_by way log) back.earlier
    → LeadTo view (others_by way log) back.later → Keeps view log (versions_by way back)
kept_by Undo view back log leads leads_back = record { done = leads; undone = leads_back }
kept_by Redo view back log leads leads_back = record { done = leads_back; undone = leads }

module _ (way : Way) (old new : LibraryParts) (log later : Inverses) (versions : Versions) (keeps : Keeps (seen old) log versions)
    (is : IsReturnedBy way old new versions later) (lawful : IsLawfulLibrary old) (current : Option CellKey) (records : Records)
    (agrees : Agrees old records) where
  -- the return is from the versions that the log keeps
  is_left : return_by way (workspace_of old current records log) ≡ Some is.back
  is_left =
      let same = sym (versions_unique (seen old) log versions keeps) in
      left_by way (workspace_of old current records log)
      ∙ ap (λ (v : Versions). returned (seen old) (earlier_by way v) (later_by way v)) same
      ∙ is.is

  -- and the log keeps those of the return then
  keeps_back : Keeps (seen new) later (versions_by way is.back)
  keeps_back = kept_by way (seen new) is.back later is.leads is.leads_back

  -- what the edit leaves of records and marks
  edited : Agrees new records × MarksAbove (children_in (seen old)) is.back.cell (is_dirty old records) (is_dirty new records)
  edited =
      let (body, change) = returned_changes (seen old) (earlier_by way versions) (later_by way versions) is.back is.is in
      current_edited old new (Some (record { 0 = is.back.cell })) is.back.library records lawful is.edit ((λ _. body), change) is.library agrees

  -- so a cell is brought to its version
  pub is_brought : edits_of old ≢ MOST_EDITS → IsBrought way (workspace_of old current records log) (workspace_of new current records later)
  is_brought few =
      let kept = sym (versions_unique (seen new) later (versions_by way is.back) keeps_back) in
      record {
        back = is.back;
        is_left = is_left;
        few = few;
        dirty = is_dirty new records;
        marks = edited.1;
        is = λ i. record {
          editing = record { library = is.library i; edits = is.edit.edits i; current = (workspace_of new current records later).editing.current };
          dirty = is_dirty new records;
          versions = kept i;
        };
      }

  -- all agrees then, and there are as many cells
  pub is_edited : IsCurrent old current → (IsCurrent new current) × Agrees new records × KeepsSome (seen new) later
  is_edited there =
      let (body, change) = returned_changes (seen old) (earlier_by way versions) (later_by way versions) is.back is.is in
      let same = is.library ∙ change in
      let long = (λ i. length (same i).cells) ∙ length-changed_at (seen old).cells is.back.cell (λ _. body) in
      let count : length old.contents ≡ length new.contents = sym (count_seen old) ∙ sym long ∙ count_seen new in
      (subst (λ (n : ℕ). IfSome current (λ key. key.0 < n)) count there, edited.0, (versions_by way is.back, keeps_back))

module _ {T : Type 0} (way : Way) (old new : LibraryParts) (current : Option CellKey) (records : Records) (log later : Inverses) (lawful : IsLawfulLibrary old)
    (agrees : Agrees old records) (keeps : KeepsSome (seen old) log) where
  -- where the log did it, a cell is brought to its version
  pub way_brought : (result : Result T UndoFault)
      → OnOk result ((versions : Versions) → Keeps (seen old) log versions → IsReturnedBy way old new versions later)
      → OnOk result (edits_of old ≢ MOST_EDITS)
      → OnOk result (IsBrought way (workspace_of old current records log) (workspace_of new current records later))
  way_brought (Ok done) returns few = is_brought way old new log later keeps.0 keeps.1 (returns keeps.0 keeps.1) lawful current records agrees few
  way_brought (Err fault) returns few = tt

  -- and all agrees, whether it did or not
  pub way_kept : (result : Result T UndoFault)
      → OnOk result ((versions : Versions) → Keeps (seen old) log versions → IsReturnedBy way old new versions later) → OnErr result (IsSame old new)
      → OnErr result (later ≡ log) → IsCurrent old current → (IsCurrent new current) × Agrees new records × KeepsSome (seen new) later
  way_kept (Ok done) returns same logged there =
      is_edited way old new log later keeps.0 keeps.1 (returns keeps.0 keeps.1) lawful current records agrees there
  way_kept (Err fault) returns same logged there =
      (same_current old new current same there, agrees_same old new records same agrees, log_same old new log later same logged keeps)

-- ---- what is refused

-- the other way
abbrev back_way : Way → Way
back_way Undo = Redo
back_way Redo = Undo

one_fault : (T : Type 0) (fault other : UndoFault) → ◌≡◌ {A = Result T UndoFault} (Err fault) (Err other) → fault ≡ other
one_fault T fault other same = cc

not_nothing : (way : Way) → undo.Edits ≡ nothing_left way → ⊥
not_nothing Undo same = cc
not_nothing Redo same = cc

module _ (old : LibraryParts) (current : Option CellKey) (records : Records) (log : Inverses) where
  -- without inverses nothing is left
  none_left : (way : Way) → inverses_by way log ≡ [] → return_by way (workspace_of old current records log) ≡ None
  none_left Undo none = ap (λ (inverses : List Inverse). returned (seen old) (led_to (seen old) inverses) (kept_versions (seen old) log).undone) none
  none_left Redo none = ap (λ (inverses : List Inverse). returned (seen old) (led_to (seen old) inverses) (kept_versions (seen old) log).done) none

  -- and with some there is
  some_of : (inverses : List Inverse) (others : List Version) → inverses ≢ [] → IsSome (returned (seen old) (led_to (seen old) inverses) others)
  some_of [] others some = absurd (some refl)
  some_of (inverse ∷ inverses) others some = refl

  some_left : (way : Way) → inverses_by way log ≢ [] → IsSome (return_by way (workspace_of old current records log))
  some_left Undo some = some_of log.done (kept_versions (seen old) log).undone some
  some_left Redo some = some_of log.undone (kept_versions (seen old) log).done some

  -- a fault is told for what is left, or for the number of edits, or for want of memory
  told_alone : (way : Way) (fault : UndoFault) → (fault ≡ nothing_left way → inverses_by way log ≡ [])
      → (fault ≡ undo.Edits → (edits_of old ≡ MOST_EDITS) × (inverses_by way log ≢ []))
      → (fault ≡ nothing_left way) ⊎ ((fault ≡ undo.Edits) ⊎ (fault ≡ undo.Memory))
      → (fault ≡ undo.Memory) ⊎ ReturnIsRefused way (workspace_of old current records log) fault
  told_alone way fault nothing edits (inl is) = inr (inl (none_left way (nothing is), is))
  told_alone way fault nothing edits (inr (inl is)) = inr (inr (some_left way (edits is).1, (edits is).0, is))
  told_alone way fault nothing edits (inr (inr is)) = inl is

  -- no other is told
  which : (way : Way) (fault : UndoFault) → (fault ≡ nothing_left (back_way way) → ⊥)
      → (fault ≡ nothing_left way) ⊎ ((fault ≡ undo.Edits) ⊎ (fault ≡ undo.Memory))
  which Undo undo.NothingToUndo other = inl refl
  which Undo undo.NothingToRedo other = absurd (other refl)
  which Undo undo.Edits other = inr (inl refl)
  which Undo undo.Memory other = inr (inr refl)
  which Redo undo.NothingToUndo other = absurd (other refl)
  which Redo undo.NothingToRedo other = inl refl
  which Redo undo.Edits other = inr (inl refl)
  which Redo undo.Memory other = inr (inr refl)

  -- what the log told is why the command is refused
  pub way_refused : {T : Type 0} (way : Way) (result : Result T UndoFault) → (IsErrOf result (nothing_left way) ↔ (inverses_by way log ≡ []))
      → (IsErrOf result undo.Edits → edits_of old ≡ MOST_EDITS) → (IsErrOf result (nothing_left (back_way way)) → ⊥)
      → IfErr result (λ fault. (fault ≡ undo.Memory) ⊎ ReturnIsRefused way (workspace_of old current records log) fault)
  way_refused way (Ok done) nothing edits other = tt
  way_refused {T} way (Err fault) nothing edits other =
      let err : UndoFault → Result T UndoFault = λ f. Err f in
      told_alone way fault (λ is. nothing.0 (ap err is))
      (λ is. (edits (ap err is), λ none. not_nothing way (sym is ∙ one_fault T fault (nothing_left way) (nothing.1 none))))
      (which way fault (λ is. other (ap err is)))
