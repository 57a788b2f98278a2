-- Each command on a library has one effect.
use Rattle.library_commands.proofs.Common.{◌≡◌, ◌<◌, inl, inr, ℕ, List, [], ◌∷◌, length, ap, sym, ◌∙◌, subst, refl, MatchOption, codes, Files, Store}
use Rattle.library_commands.proofs.Common.{ReportLine, Effect, refused, reply, no_cell, children_in, IsLawfulLibrary, LibraryParts, seen}
use Rattle.library_commands.proofs.Common.{LibraryView, cell_named, Command, EditFault, applied, named_below, UndoFault, Return, versions_after}
use Rattle.library_commands.proofs.Common.{edit_refusal, load_refusal, loaded_text, UncleanCellsBelowAreUnique, LoadFault, Look, Tells, State}
use Rattle.library_commands.proofs.Common.{Workspace, Way, MarksAbove, with_loaded, IsBrought, ReturnIsRefused}
use Rattle.std.specs.Prelude.{None, Some, Option, Bool, IsSome}
use Rattle.line_answers.specs.LineEffects.{accepted}
use Rattle.workspace.specs.LibraryAnswers.Refusals.{undo_refusal}
use Rattle.uniqueness.proofs.CommandFaults.{one_refusal}
use Rattle.uniqueness.proofs.OneLoad.{not_both, same_load, same_refusal}
use Rattle.library_commands.specs.CommandEdits.{Applies, RefusesEdit}
use Rattle.library_commands.specs.CommandLoad.{Loads, RefusesLoad}
use Rattle.library_commands.specs.CommandLooks.{LooksAt}
use Rattle.library_commands.specs.CommandReturns.{brought_back, return_by}
use Rattle.library_commands.specs.OneEffects.{EditMeansOneEffect, LoadMeansOneEffect, LookMeansOneEffect, ReturnMeansOneEffect, TechMeansOneEffect}
use Rattle.library_commands.proofs.OneLook.{same_look}
use Rattle.library_commands.proofs.OneMarks.{same_above, same_marks}

-- ---- tech

pub tech_does_one_thing : TechMeansOneEffect
tech_does_one_thing number None files name effect other p q = p ∙ sym q
tech_does_one_thing number (Some work) files name effect other p q = p ∙ sym q

-- ---- load

-- what a load leaves and tells
abbrev load_effect : Workspace → List ℕ → LibraryView → ℕ → List (List ℕ) → Effect State
load_effect work cell after count fetched = accepted (Some (with_loaded work after)) (reply (loaded_text cell count) ∷ []) fetched

module _ (number : ℕ) (work : Workspace) (files : Files) (cell : List ℕ) where
  one_load : (effect other : Effect State) → Loads work files cell effect → Loads work files cell other → effect ≡ other
  one_load effect other p q =
      let editing = work.editing in
      let same = same_load files editing.library editing.edits cell p.after q.after p.count q.count p.fetched q.fetched p.is_loaded q.is_loaded in
      p.is
      ∙ ap (λ (after : LibraryView). load_effect work cell after p.count p.fetched) same.0
      ∙ ap (λ (count : ℕ). load_effect work cell q.after count p.fetched) same.1
      ∙ ap (λ (fetched : List (List ℕ)). load_effect work cell q.after q.count fetched) same.2
      ∙ sym q.is

  one_refused_load : (effect other : Effect State) → RefusesLoad number work files cell effect → RefusesLoad number work files cell other
      → effect ≡ other
  one_refused_load effect other p q =
      let same = same_refusal files work.editing.library work.editing.edits cell p.fetched q.fetched p.fault q.fault p.is_refused q.is_refused in
      p.is
      ∙ ap (λ (fetched : List (List ℕ)). refused number (Some work) (load_refusal p.fault) fetched) same.0
      ∙ ap (λ (fault : LoadFault). refused number (Some work) (load_refusal fault) q.fetched) same.1
      ∙ sym q.is

  -- it is done or refused
  not_both_loads : (effect other : Effect State) → Loads work files cell effect → RefusesLoad number work files cell other → ⊥
  not_both_loads effect other p q =
      not_both files work.editing.library work.editing.edits cell p.after p.count p.fetched q.fetched q.fault p.is_loaded q.is_refused

pub load_does_one_thing : LoadMeansOneEffect
load_does_one_thing number None files cell effect other p q = p ∙ sym q
load_does_one_thing number (Some work) files cell effect other (inl p) (inl q) = one_load number work files cell effect other p q
load_does_one_thing number (Some work) files cell effect other (inl p) (inr q) = absurd (not_both_loads number work files cell effect other p q)
load_does_one_thing number (Some work) files cell effect other (inr p) (inl q) = absurd (not_both_loads number work files cell other effect q p)
load_does_one_thing number (Some work) files cell effect other (inr p) (inr q) = one_refused_load number work files cell effect other p q

-- ---- commands that edit

module _ (number : ℕ) (work : Workspace) (edit : Command) where
  one_edit : (effect other : Effect State) → Applies work edit effect → Applies work edit other → effect ≡ other
  one_edit effect other p q =
      p.is
      ∙ ap (λ (dirty : ℕ → Bool). accepted (Some (record {
        editing = applied work.editing edit;
        dirty = dirty;
        versions = versions_after work.editing edit work.versions;
      })) (reply (codes "ok") ∷ []) [])
      (same_marks work.editing edit work.dirty p.dirty q.dirty p.marks q.marks)
      ∙ sym q.is

  one_refused_edit : (effect other : Effect State) → RefusesEdit number work edit effect → RefusesEdit number work edit other → effect ≡ other
  one_refused_edit effect other p q =
      p.is
      ∙ ap (λ (fault : EditFault). refused number (Some work) (edit_refusal fault) [])
      (one_refusal work.editing edit p.fault q.fault p.is_refused q.is_refused)
      ∙ sym q.is

pub edits_do_one_thing : EditMeansOneEffect
edits_do_one_thing number None edit effect other p q = p ∙ sym q
edits_do_one_thing number (Some work) edit effect other (inl p) (inl q) = one_edit number work edit effect other p q
edits_do_one_thing number (Some work) edit effect other (inl p) (inr q) = absurd (p.accepts q.fault q.is_refused)
edits_do_one_thing number (Some work) edit effect other (inr p) (inl q) = absurd (q.accepts p.fault p.is_refused)
edits_do_one_thing number (Some work) edit effect other (inr p) (inr q) = one_refused_edit number work edit effect other p q

-- ---- undo and redo

-- an edit is left or none is
some_or_none : (found : Option Return) → found ≡ None → IsSome found → ⊥
some_or_none found none some = cc

-- an edit that is left is one
one_return : (found : Option Return) (one other : Return) → found ≡ Some one → found ≡ Some other → one ≡ other
one_return found one other is also = cc

module _ (way : Way) (work : Workspace) where
  -- what is edited after it is one
  one_brought : (now later : Workspace) → IsBrought way work now → IsBrought way work later → now ≡ later
  one_brought now later p q =
      let back = one_return (return_by way work) p.back q.back p.is_left q.is_left in
      let marks = subst (λ (one : Return). MarksAbove (children_in work.editing.library) one.cell work.dirty q.dirty) (sym back) q.marks in
      p.is
      ∙ ap (λ (one : Return). brought_back way work one p.dirty) back
      ∙ ap (brought_back way work q.back) (same_above (children_in work.editing.library) p.back.cell work.dirty p.dirty q.dirty p.marks marks)
      ∙ sym q.is

  -- it is refused for one fault
  one_return_fault : (fault other : UndoFault) → ReturnIsRefused way work fault → ReturnIsRefused way work other → fault ≡ other
  one_return_fault fault other (inl p) (inl q) = p.1 ∙ sym q.1
  one_return_fault fault other (inl p) (inr q) = absurd (some_or_none (return_by way work) p.0 q.0)
  one_return_fault fault other (inr p) (inl q) = absurd (some_or_none (return_by way work) q.0 p.0)
  one_return_fault fault other (inr p) (inr q) = p.2 ∙ sym q.2

  -- and then no cell is brought back
  none_brought : (now : Workspace) (fault : UndoFault) → IsBrought way work now → ¬ (ReturnIsRefused way work fault)
  none_brought now fault p (inl q) = (let some = p.is_left in let none = q.0 in let no : ⊥ = cc in no)
  none_brought now fault p (inr q) = p.few q.1

pub returns_do_one_thing : ReturnMeansOneEffect
returns_do_one_thing way number None effect other p q = p ∙ sym q
returns_do_one_thing way number (Some work) effect other (inl p) (inl q) =
    p.is ∙ ap (λ (now : Workspace). accepted (Some now) (reply (codes "ok") ∷ []) []) (one_brought way work p.now q.now p.is_brought q.is_brought)
    ∙ sym q.is
returns_do_one_thing way number (Some work) effect other (inl p) (inr q) = absurd (none_brought way work p.now q.fault p.is_brought q.is_refused)
returns_do_one_thing way number (Some work) effect other (inr p) (inl q) = absurd (none_brought way work q.now p.fault q.is_brought p.is_refused)
returns_do_one_thing way number (Some work) effect other (inr p) (inr q) =
    p.is
    ∙ ap (λ (fault : UndoFault). refused number (Some work) (undo_refusal fault) [])
    (one_return_fault way work p.fault q.fault p.is_refused q.is_refused)
    ∙ sym q.is

-- ---- looks

-- what a look at a cell tells
abbrev look_effect : Workspace → List ReportLine → List Store → Effect State
look_effect work lines stores = record { state = Some work; lines = lines; stores = stores; fetched = [] }

module _ (one : UncleanCellsBelowAreUnique) (look : Look) (name : List ℕ) (work : Workspace) where
  one_look : (library : LibraryParts) → IsLawfulLibrary library → seen library ≡ work.editing.library → (cell : ℕ)
      → cell < length work.editing.library.cells → (effect other : Effect State) → LooksAt look name work cell effect → LooksAt look name work cell other
      → effect ≡ other
  one_look library lawful is cell within effect other p q =
      let same = subst
      (λ (view : LibraryView). cell < length view.cells → Tells look view cell name p.lines p.stores → Tells look view cell name q.lines q.stores
      → (p.lines ≡ q.lines) × (p.stores ≡ q.stores))
      is
      (λ there. same_look library lawful cell there name one look p.lines q.lines p.stores q.stores)
      within p.tells q.tells in
      p.is
      ∙ ap (λ (lines : List ReportLine). look_effect work lines p.stores) same.0
      ∙ ap (λ (stores : List Store). look_effect work q.lines stores) same.1
      ∙ sym q.is

  -- where there may be no cell of the name
  of_name : (library : LibraryParts) → IsLawfulLibrary library → seen library ≡ work.editing.library → (number : ℕ) (found : Option ℕ)
      → cell_named work.editing.library name ≡ found → (effect other : Effect State)
      → MatchOption found (effect ≡ refused number (Some work) (no_cell name) []) (λ cell. LooksAt look name work cell effect)
      → MatchOption found (other ≡ refused number (Some work) (no_cell name) []) (λ cell. LooksAt look name work cell other)
      → effect ≡ other
  of_name library lawful is number None found effect other p q = p ∙ sym q
  of_name library lawful is number (Some cell) found effect other p q =
      one_look library lawful is cell (named_below work.editing.library name cell found) effect other p q

pub looks_do_one_thing : UncleanCellsBelowAreUnique → LookMeansOneEffect
looks_do_one_thing one look number None name effect other sees p q = p ∙ sym q
looks_do_one_thing one look number (Some work) name effect other sound p q =
    let (library, lawful, is) = sound.lawful in
    of_name one look name work library lawful is number (cell_named work.editing.library name) refl effect other p q
