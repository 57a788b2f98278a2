-- A cell that was read comes to the walk, and a step over a name that some cell has.
use Rattle.cell_loading.proofs.Common.{◌≡◌, ◌⊎◌, inl, inr, ◌<◌, ◌≤◌, ◌+◌, ℕ, Bool, true, false, List, [], ◌∷◌, ◌++◌, length, length-append, sym, ap}
use Rattle.cell_loading.proofs.Common.{subst, ◌∙◌, arith, Ok, Option, length-map, map-append, All-push, All-same, is_plain_name, CallPlan}
use Rattle.cell_loading.proofs.Common.{told_after_call, Files, after_fetches, MOST_USES, CellBody, CellUse, CanBeAdded, IsLawfulLibrary}
use Rattle.cell_loading.proofs.Common.{LibraryParts, seen, LibraryView, Draft, Frame, AreBodiesOf, AreRead, children_of, is_among, names_in}
use Rattle.cell_loading.proofs.Common.{files_read, names_left, AreSoFar, GoesOnToBodies, MayFollow}
use Rattle.std.specs.Prelude.{◌==◌, map, IsTrue}
use Rattle.std.proofs.lemmas.Bool.{eqb-true}
use Rattle.std.proofs.lemmas.List.{nil_from_length}
use Rattle.session_model.proofs.EffectLaws.{fetches-append}
use Rattle.mag_text.specs.MagTexts.{HasAllOf}
use Rattle.cell_loading.specs.CellFiles.{ReadCell, cell_file, file_gives}
use Rattle.cell_loading.specs.steps.Walks.{AreFrames}
use Rattle.cell_loading.proofs.LeftLaws.{names_left-read, AreFrames-more}
use Rattle.cell_loading.proofs.ReadingLaws.{all_read, goes_on_by, goes_on_here, goes_on_past}
use Rattle.cell_loading.proofs.SoFarLaws.{so_far_end, so_far_passed, so_far_read, so_far_start}

abbrev Cells : Type 0
Cells = List (List ℕ × CellBody)

-- the frame of a cell that comes
abbrev pub new_frame : Cells → Frame
new_frame cells = record { cell = length cells; next = 0 }

module _ (view : LibraryView) (cells : Cells) (frames : List Frame) (name : List ℕ) (body : CellBody) (cells_after : Cells)
    (frames_after : List Frame) (cells_are : cells_after ≡ cells ++ (name, body) ∷ []) (frames_are : frames_after ≡ frames ++ new_frame cells ∷ [])
    (are : AreFrames (length cells) frames) where
  -- its names come first
  pub read_left : names_left cells_after frames_after ≡ children_of body.uses ++ names_left cells frames
  read_left = (λ i. names_left (cells_are i) (frames_are i)) ∙ names_left-read cells (name, body) frames are

  long : length cells_after ≡ length cells + 1
  long = ap length cells_are ∙ length-append cells ((name, body) ∷ [])

  pub read_pushed : length frames_after ≡ length frames + 1
  read_pushed = ap length frames_are ∙ length-append frames (new_frame cells ∷ [])

  pub read_frames : AreFrames (length cells_after) frames_after
  read_frames =
      let more = long in
      let old : AreFrames (length cells_after) frames = AreFrames-more (length cells) (length cells_after) frames (omega (arith, more)) are in
      let new : length cells < length cells_after = omega (arith, more) in
      All-same (λ (f : Frame). f.cell < length cells_after) frames_after (frames ++ new_frame cells ∷ []) frames_are
      (All-push (λ (f : Frame). f.cell < length cells_after) frames (new_frame cells) old new)

  pub read_few : length body.uses ≤ MOST_USES → length (names_left cells_after frames_after) ≤ length (names_left cells frames) + MOST_USES
  read_few few =
      let all : length (names_left cells_after frames_after) ≡ length (children_of body.uses) + length (names_left cells frames) =
      ap length read_left ∙ length-append (children_of body.uses) (names_left cells frames) in
      let own : length (children_of body.uses) ≡ length body.uses = length-map body.uses (λ (u : CellUse). u.cell) in
      omega (arith, all, own, few)

  pub read_so_far : AreSoFar view cells (name ∷ names_left cells frames) → is_among view cells name ≡ false → MayFollow view cells body
      → AreSoFar view cells_after (names_left cells_after frames_after)
  read_so_far so_far new follows =
      subst (λ (c : Cells). AreSoFar view c (names_left cells_after frames_after)) (sym cells_are)
      (subst (λ (left : List (List ℕ)). AreSoFar view (cells ++ (name, body) ∷ []) left) (sym read_left)
      (so_far_read view cells name (names_left cells frames) body so_far new follows))

  pub read_goes_on : (files : Files) (read : List ReadCell) (draft : Draft) → AreBodiesOf view.tech read cells → is_among view cells name ≡ false
      → file_gives files view read name ≡ Ok draft → HasAllOf view.tech draft body
      → GoesOnToBodies files view read (name ∷ names_left cells frames) cells_after (names_left cells_after frames_after)
  read_goes_on files read draft bodies new gives has =
      subst (λ (c : Cells). GoesOnToBodies files view read (name ∷ names_left cells frames) c (names_left cells_after frames_after)) (sym cells_are)
      (goes_on_by files view read cells name (names_left cells frames) (names_left cells_after frames_after) draft body bodies new gives has
      read_left)

-- the shelf was asked for the file of a cell that was read
pub asked_for_cell : (first old now : Option CallPlan) (cells cells_after : Cells) (name : List ℕ) (body : CellBody)
    → cells_after ≡ cells ++ (name, body) ∷ [] → now ≡ told_after_call old → old ≡ after_fetches first (files_read cells)
    → now ≡ after_fetches first (files_read cells_after)
asked_for_cell first old now cells cells_after name body cells_are once asked =
    let files_are : files_read (cells ++ (name, body) ∷ []) ≡ files_read cells ++ cell_file name ∷ [] =
    ap (map cell_file) (map-append (λ (cell : List ℕ × CellBody). cell.0) cells ((name, body) ∷ []))
    ∙ map-append cell_file (names_in cells) (name ∷ []) in
    once ∙ ap told_after_call asked ∙ sym (fetches-append first (files_read cells) (cell_file name ∷ []))
    ∙ ap (after_fetches first) (sym files_are ∙ ap files_read (sym cells_are))

-- a step that reads no file
pub stepped_so_far : (view : LibraryView) (cells : Cells) (left after : List (List ℕ))
    → (left ≡ after) ⊎ ((name : List ℕ) × (left ≡ name ∷ after) × (is_among view cells name ≡ true)) → AreSoFar view cells left
    → AreSoFar view cells after
stepped_so_far view cells left after (inl same) are = subst (AreSoFar view cells) same are
stepped_so_far view cells left after (inr past) are = so_far_passed view cells past.0 after (subst (AreSoFar view cells) past.1 are) past.2

pub stepped_goes_on : (files : Files) (view : LibraryView) (read : List ReadCell) (cells : Cells) (left after : List (List ℕ))
    → (left ≡ after) ⊎ ((name : List ℕ) × (left ≡ name ∷ after) × (is_among view cells name ≡ true)) → AreBodiesOf view.tech read cells
    → GoesOnToBodies files view read left cells after
stepped_goes_on files view read cells left after (inl same) are = goes_on_here files view read cells left after are same
stepped_goes_on files view read cells left after (inr past) are = goes_on_past files view read cells past.0 left after are past.1 past.2

-- ---- the loop

-- where no frame is left, no name is
pub none_left : (cells : Cells) (frames : List Frame) (count : ℕ) (empty : Bool) → empty ≡ (count == 0) → empty ≡ true → count ≡ length frames
    → names_left cells frames ≡ []
none_left cells frames count empty is holds long =
    ap (names_left cells) (nil_from_length frames (sym long ∙ eqb-true count 0 (sym is ∙ holds)))

-- before the first file
pub so_far_at_root : (library : LibraryParts) (root : List ℕ) → IsLawfulLibrary library → IsTrue (is_plain_name root)
    → (cells : Cells) (frames : List Frame)
    (name : List ℕ) → cells ≡ [] → frames ≡ [] → name ≡ root → AreSoFar (seen library) cells (name ∷ names_left cells frames)
so_far_at_root library root lawful plain cells frames name cells_are frames_are is =
    let left : name ∷ names_left cells frames ≡ root ∷ [] = λ i. is i ∷ names_left (cells_are i) (frames_are i) in
    subst (λ (c : Cells). AreSoFar (seen library) c (name ∷ names_left cells frames)) (sym cells_are)
    (subst (AreSoFar (seen library) []) (sym left) (so_far_start library root lawful plain))

-- the cells that were read when none is left
pub all_came : (view : LibraryView) (cells bodies : Cells) (left : List (List ℕ)) → left ≡ [] → bodies ≡ cells → AreSoFar view cells left
    → 0 < length cells
    → CanBeAdded view bodies
all_came view cells bodies left none is are some =
    subst (CanBeAdded view) (sym is) (so_far_end view cells (subst (AreSoFar view cells) none are) some)

pub all_are_read : (files : Files) (view : LibraryView) (root : List ℕ) (cells bodies : Cells) (left : List (List ℕ)) → left ≡ [] → bodies ≡ cells
    → GoesOnToBodies files view [] (root ∷ []) cells left → AreRead files view root bodies
all_are_read files view root cells bodies left none is here =
    subst (AreRead files view root) (sym is) (all_read files view root cells (subst (GoesOnToBodies files view [] (root ∷ []) cells) none here))
