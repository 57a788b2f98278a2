-- What `generate` does in each case.
use Rattle.extract_commands.proofs.Common.{◌≡◌, ◌<◌, ◌+◌, ◌∙◌, ℕ, [], ◌∷◌, length, map, Option, Some, None, inl, inr, refl, sym, ap, subst, arith}
use Rattle.extract_commands.proofs.Common.{length-append, unsigned_abs, Answer, AnswersAlone, Effect, IsLawfulLibrary, LibraryParts, seen}
use Rattle.extract_commands.proofs.Common.{count_seen, answers_refusal, refusal_line, Stack, Inverses, kept_versions, State, Workspace}
use Rattle.extract_commands.proofs.Common.{RunsExtracted, GeneratesStack, stack_cell, unless_refused}
use Rattle.std.specs.Prelude.{ℤ, pos, negsuc, ◌≤◌, IsTrue}
use Rattle.std.proofs.lemmas.Bool.Decides.{nat_tests}
use Rattle.std.proofs.lemmas.List.{length-map}
use Rattle.script_lines.specs.declared.limits.TheConstants.{MOST_GENERATED}
use Rattle.script_lines.specs.Arguments.{is_between}
use Rattle.layout_gen.specs.declared.limits.TheConstants.{MOST_TILES}
use Rattle.ext_model.specs.declared.tables.CellKey.{CellKey}
use Rattle.layout_gen.specs.CellLibrary.Additions.{kept_cell, names_with, with_all}
use Rattle.layout_gen.specs.CellLibrary.Libraries.{edits_of}
use Rattle.layout_gen.specs.declared.faults.GenerateFault.{GenerateFault}
use Rattle.layout_gen.specs.Generated.{CameAtOnce, IsGenerated}
use Rattle.layout_gen.specs.Refusals.{generate_fault}
use Rattle.workspace.specs.Caches.{Agrees, Records}
use Rattle.workspace.proofs.ArrivalLaws.{agrees_all, dirty_cells}
use Rattle.workspace.specs.LibraryAnswers.Refusals.{generate_refusal}
use Rattle.workspace.proofs.WorkspaceLaws.{workspace_of}
use Rattle.extract_commands.specs.steps.MadeStacks.{StackCame}

-- the number of rows is one of those that there may be
pub rows_between : (count : ℤ) → IsTrue (is_between (pos 1) MOST_GENERATED count) → (1 ≤ unsigned_abs count) × (unsigned_abs count ≤ MOST_TILES)
rows_between (pos n) is = (grind (arith, nat_tests, is), grind (arith, nat_tests, is))
rows_between (negsuc n) is = absurd (let no : ⊥ = cc in no)

-- ---- the cells

module _ (old new : LibraryParts) (records : Records) (n : ℕ) (lawful : IsLawfulLibrary old) (agrees : Agrees old records)
    (generated : IsGenerated (seen old) n (seen new)) (came : CameAtOnce old new) where
  -- the stack came
  pub stack_came : (current : Option CellKey) (log : Inverses) (key : CellKey) → kept_versions (seen new) log ≡ kept_versions (seen old) log
      → key.0 ≡ length old.contents + 2 → generate_fault (seen old) (edits_of old) ≡ None
      → StackCame n (workspace_of old current records log) (workspace_of new (Some key) records log) key.0
  stack_came current log key kept key_is accepted =
      let place : key.0 ≡ length (seen old).cells + 2 = key_is ∙ ap (λ (count : ℕ). count + 2) (sym (count_seen old)) in
      let dirty = dirty_cells old new records came.cells lawful came.next agrees in
      record {
        accepted = accepted;
        after = seen new;
        generated = generated;
        is = λ i. record {
          editing = record { library = seen new; edits = came.next.edits i; current = Some (place i) };
          dirty = λ cell. dirty cell i;
          versions = kept i;
        };
        place = place;
      }

  -- it is one of the cells
  pub stack_there : (key : CellKey) → key.0 ≡ length old.contents + 2 → key.0 < length new.contents
  stack_there key key_is =
      let kept = kept_cell (names_with (seen old) came.cells) in
      let long : length (seen new).cells ≡ length (with_all (seen old) came.cells).cells = λ i. length (came.after i).cells in
      omega
      (arith, key_is, count_seen old, count_seen new, long, length-append (seen old).cells (map kept came.cells), length-map came.cells kept, came.three)

  -- and the records that are kept agree with the library
  pub stack_agrees : Agrees new records
  stack_agrees = agrees_all old new records came.cells lawful came.next agrees came.after

-- ---- the answers

-- the stack was made, and this is done with it
pub stack_made : (budget number n : ℕ) (work now : Workspace) (cell : ℕ) (ran after : Workspace) (answer : Answer) → StackCame n work now cell
    → RunsExtracted (Stack n) budget number [] now cell
    (record { state = Some ran; lines = answer.lines.items; stores = answer.stores.items; fetched = [] })
    → after ≡ unless_refused answer.lines.items ran
    → AnswersAlone (GeneratesStack budget number n work) (Some after) answer
stack_made budget number n work now cell ran after answer came runs is =
    let effect_at : Workspace → Effect State = λ w. record { state = Some w; lines = answer.lines.items; stores = answer.stores.items; fetched = [] } in
    let here = subst (λ (c : ℕ). RunsExtracted (Stack n) budget number [] now c (effect_at ran)) came.place runs in
    inl (record {
      accepted = came.accepted;
      after = came.after;
      generated = came.generated;
      ran = effect_at ran;
      extracts = subst (λ (w : Workspace). RunsExtracted (Stack n) budget number [] w (stack_cell work) (effect_at ran)) came.is here;
      is = ap effect_at is;
    })

-- it is refused
pub stack_refused : (budget number n : ℕ) (work now : Workspace) (fault : GenerateFault) (answer : Answer)
    → generate_fault work.editing.library work.editing.edits ≡ Some fault → now ≡ work
    → answer.lines.items ≡ refusal_line number (generate_refusal fault) ∷ [] → answer.stores.items ≡ []
    → AnswersAlone (GeneratesStack budget number n work) (Some now) answer
stack_refused budget number n work now fault answer is_fault same lines stores =
    subst (λ (w : Workspace). AnswersAlone (GeneratesStack budget number n work) (Some w) answer) (sym same)
    (answers_refusal (GeneratesStack budget number n work) number (Some work) (generate_refusal fault) [] answer lines stores
    (inr (record { fault = fault; is_fault = is_fault; is = refl })))
