-- The cell that a mag text says.
use Rattle.std.specs.Prelude.{◌≡◌, ◌⊎◌, ℕ, List, Result, Ok, Err}
use Rattle.text_scan.specs.Lines.{lines_of}
use Rattle.text_form.specs.declared.reading.At.{At}
use Rattle.text_form.specs.Folds.{last_number, first_fault_or, text_state}
use Rattle.text_form.specs.FirstFaults.{IsFirstFault}
use Rattle.tech_model.specs.declared.raw.RawTech.{RawTech}
use Rattle.cell_library.specs.LayoutModel.Places.{Place}
use Rattle.cell_library.specs.CellPaint.Paints.{layout_of}
use Rattle.cell_library.specs.CellBodies.declared.bodies.CellBody.{CellBody}
use Rattle.cell_library.specs.CellBodies.Bodies.{IsBody}
use Rattle.mag_text.specs.declared.faults.MagFault.{MagFault}
use Rattle.mag_text.specs.Drafts.{Draft, nothing_yet, step, finish}
use Rattle.mag_text.specs.Drawings.{painted_all}

-- what the text says, or its first faulty line with that line's first fault
unfoldable pub mag_in : RawTech → List ℕ → Result Draft (At MagFault)
mag_in raw text = text_state (step raw) finish nothing_yet (lines_of text)

-- The body has what was read: the uses, the labels and the scale, and the paint of the rectangles in their order.
pub record HasAllOf (raw : RawTech) (draft : Draft) (body : CellBody) : Type 0 where
  pub uses_are : body.uses ≡ draft.uses
  pub labels_are : body.labels ≡ draft.labels
  pub scale_is : body.scale ≡ draft.scale
  pub paint_is : (place : Place) → layout_of body.paint place ≡ painted_all raw draft.drawn place

-- The text has no fault, and the body has what it says, which is lawful.
pub record IsRead (raw : RawTech) (text : List ℕ) (body : CellBody) : Type 0 where
  pub draft : Draft
  pub reads : mag_in raw text ≡ Ok draft
  pub body_is : HasAllOf raw draft body
  pub lawful : IsBody raw body

-- The lines are without fault, but the last of them is read without the end of a cell, or there is none.
pub record HasNoEnd (raw : RawTech) (lines : List (List ℕ)) (at : At MagFault) : Type 0 where
  pub draft : Draft
  pub fine : first_fault_or (step raw) 1 nothing_yet lines ≡ Ok draft
  pub unended : finish draft ≡ Err at.fault
  pub numbered : at.line ≡ last_number lines

-- The lines are no mag text: one of them is the first faulty one, or they have no end.
abbrev pub IsRefusedText : RawTech → List (List ℕ) → At MagFault → Type 0
IsRefusedText raw lines at = IsFirstFault (step raw) 1 nothing_yet lines at ⊎ HasNoEnd raw lines at
