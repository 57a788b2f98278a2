-- Lines of commands, and what they make of what was read before them.
use Rattle.file_laws.proofs.Common.{◌≡◌, ℕ, Bool, true, false, List, [], ◌∷◌, ◌++◌, map, Option, Some, None, Result, Ok, refl, sym, ap, ◌∙◌, codes}
use Rattle.file_laws.proofs.Common.{if◌then◌else◌, text_of, and_then, CifFault, Draft, cif_in, parts_of}
use Rattle.std.specs.Prelude.{is_some}
use Rattle.std.proofs.lemmas.List.{map-append}
use Rattle.cif_forms.specs.Commands.{says}
use Rattle.cif_forms.specs.declared.commands.CifCommand.{CifCommand}
use Rattle.cif_forms.specs.declared.commands.CifCommand.TheVariants.{End}
use Rattle.cif_forms.specs.Written.{AreUnmarked, LooksPastLineFeeds, first_fault_of, is_unmarked_text, with_semicolon}
use Rattle.cif_forms.proofs.WrittenLaws.{says-end, says-line_feed}
use Rattle.cif_forms.proofs.WrittenTexts.{AreUnmarked-append, first_fault_of-fine, read-written-fine}
use Rattle.cif_reading.specs.declared.drafts.Opened.{Opened}
use Rattle.cif_reading.specs.declared.faults.CifFault.TheVariants.{Form}
use Rattle.cif_reading.specs.Drafts.{nothing_yet}
use Rattle.cif_reading.specs.Faults.{fault_in, lacks_semicolon, uses_what_is_left_out}
use Rattle.cif_reading.specs.Additions.{takes}
use Rattle.cif_reading.specs.CifTexts.{step, unless}
use Rattle.cif_reading.proofs.RefusedTexts.{cif_in-read}

-- The lines are commands without fault, each with its semicolon, and they make the one draft the other.
pub record Reads (lines : List (List ℕ)) (old new : Draft) : Type 0 where
  pub commands : List (List ℕ)
  pub are : lines ≡ map with_semicolon commands
  pub unmarked : AreUnmarked commands
  pub read : first_fault_of step old commands ≡ Ok new

-- no lines
pub reads_none : (draft : Draft) → Reads [] draft draft
reads_none draft = record { commands = []; are = refl; unmarked = tt; read = refl }

-- what a command without fault makes
step_fine : (ended : Bool) (found : Option CifFault) (old new : Draft) → ended ≡ false → found ≡ None
    → (if ended then Ok old else unless found new) ≡ Ok new
step_fine ended found old new goes_on fine =
    ap (λ (e : Bool). if e then Ok old else unless found new) goes_on ∙ ap (λ (f : Option CifFault). unless f new) fine

-- one command
pub reads_one : (bytes : List ℕ) (said : CifCommand) (old : Draft) → is_unmarked_text bytes ≡ true → says bytes ≡ said → old.ended ≡ false
    → fault_in old true said ≡ None → Reads (with_semicolon bytes ∷ []) old (takes old said)
reads_one bytes said old unmarked is goes_on fine = record {
  commands = bytes ∷ [];
  are = refl;
  unmarked = (unmarked, tt);
  read =
      ap (λ (found : Result Draft CifFault). and_then found (λ (next : Draft). Ok next))
      (ap (λ (c : CifCommand). if old.ended then Ok old else unless (fault_in old true c) (takes old c)) is
      ∙ step_fine old.ended (fault_in old true said) old (takes old said) goes_on fine);
}

-- some lines and more lines
pub reads_then : (one other : List (List ℕ)) (old middle new : Draft) → Reads one old middle → Reads other middle new → Reads (one ++ other) old new
reads_then one other old middle new first later = record {
  commands = first.commands ++ later.commands;
  are =
      ap (λ (l : List (List ℕ)). l ++ other) first.are ∙ ap (λ (l : List (List ℕ)). map with_semicolon first.commands ++ l) later.are
      ∙ sym (map-append with_semicolon first.commands later.commands);
  unmarked = AreUnmarked-append first.commands later.commands first.unmarked later.unmarked;
  read = first_fault_of-fine step old middle first.commands later.commands first.read ∙ later.read;
}

-- ---- whole texts

past_line_feeds : LooksPastLineFeeds step
past_line_feeds state bytes closed =
    ap (λ (said : CifCommand). if state.ended then Ok state else unless (fault_in state closed said) (takes state said)) (says-line_feed bytes)

-- an end may stand where no symbol is being defined
end_fine : (draft : Draft) → draft.opened ≡ None → fault_in draft false End ≡ None
unfolding uses_what_is_left_out lacks_semicolon
end_fine draft none = ap (λ (o : Option Opened). if is_some o then Some Form else None) none

-- so a text of such lines and an end says what they make
pub cif_of_lines : (lines : List (List ℕ)) (draft : Draft) → Reads lines nothing_yet draft → draft.opened ≡ None → draft.ended ≡ false
    → cif_in (text_of (lines ++ codes "E" ∷ [])) ≡ Ok (parts_of draft)
cif_of_lines lines draft reads none goes_on =
    let ended : Draft = record draft { ended = true } in
    let last : step draft (codes "E" ++ 10 ∷ []) false ≡ Ok ended =
    ap (λ (c : CifCommand). if draft.ended then Ok draft else unless (fault_in draft false c) (takes draft c)) (says-end (10 ∷ []))
    ∙ step_fine draft.ended (fault_in draft false End) draft ended goes_on (end_fine draft none) in
    ap (λ (l : List (List ℕ)). cif_in (text_of (l ++ codes "E" ∷ []))) reads.are
    ∙ (cif_in-read (text_of (map with_semicolon reads.commands ++ codes "E" ∷ [])) (parts_of draft)).1
    (record {
      draft = ended;
      fine = read-written-fine step past_line_feeds nothing_yet draft ended reads.commands reads.unmarked reads.read last;
      ended = refl;
      said = refl;
    })
