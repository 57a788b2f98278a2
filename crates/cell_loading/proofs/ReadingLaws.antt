-- How reading goes on, where the files are told.
use Rattle.cell_loading.proofs.Common.{◌≡◌, ℕ, suc, true, false, List, [], ◌∷◌, ◌++◌, length, refl, sym, ap, subst, ◌∙◌, Option, Some, Result, Ok}
use Rattle.cell_loading.proofs.Common.{Err, list_any, bytes_eq, CallPlan, told_after_call, Files, StopsAsking, RawTech, CellBody, CellUse}
use Rattle.cell_loading.proofs.Common.{first_scale, LibraryView, names_of, Draft, LoadFault, AreBodiesOf, AreRead, children_of, is_among, names_in}
use Rattle.cell_loading.proofs.Common.{cell_files, with_name, GoesOnToBodies, files_read}
use Rattle.std.specs.Prelude.{map, IfOk, OnOk}
use Rattle.session_model.specs.declared.stops.Stop.{Stop}
use Rattle.session_model.specs.declared.stops.Stop.TheVariants.{Refused, Halted}
use Rattle.session_model.specs.FileTrees.{Reads, files_of}
use Rattle.session_model.specs.steps.Stops.{IfRefused}
use Rattle.session_model.proofs.FileTreeLaws.{goes_by, goes_past, goes_to_end, stops_asking_here}
use Rattle.mag_text.specs.MagTexts.{HasAllOf, mag_in}
use Rattle.cell_loading.specs.CellFiles.{ReadCell, cell_file, draft_gives, file_gives, read_gives, is_known, names_read, scale_of_first}
use Rattle.cell_loading.specs.Readings.{children_said}

abbrev Cells : Type 0
Cells = List (List ℕ × CellBody)

-- ---- bodies of what was read

names_same : (raw : RawTech) (read : List ReadCell) (cells : Cells) → AreBodiesOf raw read cells → names_read read ≡ names_in cells
names_same raw [] [] are = refl
names_same raw [] (body ∷ cells) are = absurd are
names_same raw (cell ∷ read) [] are = absurd are
names_same raw (cell ∷ read) (body ∷ cells) are = λ i. sym are.0 i ∷ names_same raw read cells are.2 i

-- the files of what was read are those of the cells
pub files_same : (view : LibraryView) (read : List ReadCell) (cells : Cells) → AreBodiesOf view.tech read cells
    → files_of (cell_files view) read ≡ files_read cells
files_same view read cells are = ap (map cell_file) (names_same view.tech read cells are)

pub count_same : (raw : RawTech) (read : List ReadCell) (cells : Cells) → AreBodiesOf raw read cells → length read ≡ length cells
count_same raw [] [] are = refl
count_same raw [] (body ∷ cells) are = absurd are
count_same raw (cell ∷ read) [] are = absurd are
count_same raw (cell ∷ read) (body ∷ cells) are = ap suc (count_same raw read cells are.2)

pub first_scale_same : (raw : RawTech) (read : List ReadCell) (cells : Cells) → AreBodiesOf raw read cells → scale_of_first read ≡ first_scale cells
first_scale_same raw [] [] are = refl
first_scale_same raw [] (body ∷ cells) are = absurd are
first_scale_same raw (cell ∷ read) [] are = absurd are
first_scale_same raw (cell ∷ read) (body ∷ cells) are = ap (λ (s : ℕ × ℕ). Some s) (sym are.1.scale_is)

one_more : (raw : RawTech) (read : List ReadCell) (cells : Cells) (name : List ℕ) (draft : Draft) (body : CellBody) → AreBodiesOf raw read cells
    → HasAllOf raw draft body
    → AreBodiesOf raw (read ++ (name, draft) ∷ []) (cells ++ (name, body) ∷ [])
one_more raw [] [] name draft body are has = (refl, has, tt)
one_more raw [] (other ∷ cells) name draft body are has = absurd are
one_more raw (cell ∷ read) [] name draft body are has = absurd are
one_more raw (cell ∷ read) (other ∷ cells) name draft body are has = (are.0, are.1, one_more raw read cells name draft body are.2 has)

known_same : (view : LibraryView) (read : List ReadCell) (cells : Cells) (name : List ℕ) → AreBodiesOf view.tech read cells
    → is_known view read name ≡ is_among view cells name
known_same view read cells name are =
    ap (λ (names : List (List ℕ)). list_any (bytes_eq name) (names_of view.cells ++ names)) (names_same view.tech read cells are)

-- ---- going on

-- nowhere
pub goes_on_here : (files : Files) (view : LibraryView) (read : List ReadCell) (cells : Cells) (left after : List (List ℕ))
    → AreBodiesOf view.tech read cells
    → left ≡ after → GoesOnToBodies files view read left cells after
goes_on_here files view read cells left after are same = record {
  read_after = read;
  are_bodies = are;
  leads = λ reading. subst (λ (names : List (List ℕ)). Reads (cell_files view) files read names reading) (sym same);
}

-- over a name that some cell has
pub goes_on_past : (files : Files) (view : LibraryView) (read : List ReadCell) (cells : Cells) (name : List ℕ) (left after : List (List ℕ))
    → AreBodiesOf view.tech read cells → left ≡ name ∷ after → is_among view cells name ≡ true → GoesOnToBodies files view read left cells after
goes_on_past files view read cells name left after are is known = record {
  read_after = read;
  are_bodies = are;
  leads = λ reading rest. subst (λ (names : List (List ℕ)). Reads (cell_files view) files read names reading) (sym is)
      (goes_past (cell_files view) files read name after (known_same view read cells name are ∙ known) reading rest);
}

-- by a file that was read
pub goes_on_by : (files : Files) (view : LibraryView) (read : List ReadCell) (cells : Cells) (name : List ℕ) (left after : List (List ℕ))
    (draft : Draft)
    (body : CellBody) → AreBodiesOf view.tech read cells → is_among view cells name ≡ false → file_gives files view read name ≡ Ok draft
    → HasAllOf view.tech draft body → after ≡ children_of body.uses ++ left
    → GoesOnToBodies files view read (name ∷ left) (cells ++ (name, body) ∷ []) after
goes_on_by files view read cells name left after draft body are new gives has is = record {
  read_after = read ++ (name, draft) ∷ [];
  are_bodies = one_more view.tech read cells name draft body are has;
  leads = λ reading rest.
      let said : after ≡ children_said draft ++ left = is ∙ ap (λ (uses : List CellUse). children_of uses ++ left) has.uses_are in
      goes_by (cell_files view) files read name (name, draft) left (known_same view read cells name are ∙ new) (ap (with_name name) gives) reading
      (subst (λ (names : List (List ℕ)). Reads (cell_files view) files (read ++ (name, draft) ∷ []) names reading) said rest);
}

-- and then on
pub goes_on_then : (files : Files) (view : LibraryView) (read : List ReadCell) (left middle after : List (List ℕ)) (some more : Cells)
    → (here : GoesOnToBodies files view read left some middle) → GoesOnToBodies files view here.read_after middle more after
    → GoesOnToBodies files view read left more after
goes_on_then files view read left middle after some more here on =
    record { read_after = on.read_after; are_bodies = on.are_bodies; leads = λ reading rest. here.leads reading (on.leads reading rest) }

-- ---- the ends

-- the file is refused
pub stops_here : (files : Files) (view : LibraryView) (read : List ReadCell) (cells : Cells) (name : List ℕ) (left : List (List ℕ))
    (old now : Option CallPlan) (told : LoadFault) → AreBodiesOf view.tech read cells → is_among view cells name ≡ false
    → file_gives files view read name ≡ Err told → now ≡ told_after_call old → StopsAsking (cell_files view) files read (name ∷ left) old now told
stops_here files view read cells name left old now told are new gives once =
    stops_asking_here (cell_files view) files read name left old now told (known_same view read cells name are ∙ new) (ap (with_name name) gives) once

-- nothing is left
pub all_read : (files : Files) (view : LibraryView) (root : List ℕ) (cells : Cells) → GoesOnToBodies files view [] (root ∷ []) cells []
    → AreRead files view root cells
all_read files view root cells here =
    record { read = here.read_after; reads = goes_to_end (cell_files view) files [] here.read_after (root ∷ []) here.leads; are_bodies = here.are_bodies }

-- ---- one file

-- what is given where the text has no fault of its own
pub body_given : (view : LibraryView) (read : List ReadCell) (file text : List ℕ) (draft : Draft) (body : CellBody) (result : Result CellBody (Stop LoadFault))
    → mag_in view.tech text ≡ Ok draft → HasAllOf view.tech draft body → IfOk result (λ kept. kept ≡ body)
    → OnOk result (draft_gives view read file text draft ≡ Ok draft)
    → IfOk result (λ kept. (said : Draft) × (read_gives view read file text (mag_in view.tech text) ≡ Ok said) × HasAllOf view.tech said kept)
body_given view read file text draft body (Ok kept) reads has same gives =
    (draft, ap (read_gives view read file text) reads ∙ gives, subst (HasAllOf view.tech draft) (sym same) has)
body_given view read file text draft body (Err told) reads has same gives = tt

-- what is told
pub body_refused : (view : LibraryView) (read : List ReadCell) (file text : List ℕ) (draft : Draft) (result : Result CellBody (Stop LoadFault))
    → mag_in view.tech text ≡ Ok draft → IfRefused result (λ told. draft_gives view read file text draft ≡ Err told)
    → IfRefused result (λ told. read_gives view read file text (mag_in view.tech text) ≡ Err told)
body_refused view read file text draft (Ok kept) reads gives = tt
body_refused view read file text draft (Err (Refused told)) reads gives = ap (read_gives view read file text) reads ∙ gives
body_refused view read file text draft (Err (Halted halt)) reads gives = tt
