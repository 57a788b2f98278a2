-- What a circuit file spells, and where it is refused.
use Rattle.std.specs.Prelude.{◌≡◌, ◌⊎◌, ℕ, ℤ, List, [], ◌∷◌, filter_map, true, Option, Some, None, Ok}
use Rattle.finite_sets.specs.OneForOne.{AreOneForOne}
use Rattle.text_scan.specs.Lines.{lines_of}
use Rattle.text_form.specs.declared.reading.At.{At}
use Rattle.text_form.specs.Folds.{first_fault_or, last_number}
use Rattle.text_form.specs.FirstFaults.{IsFirstFault}
use Rattle.text_form.specs.SaidLines.{AreSaid}
use Rattle.ext_model.specs.declared.records.NodeRec.{NodeRec}
use Rattle.ext_model.specs.declared.arrays.ArrayUse.{ArrayUse}
use Rattle.ext_model.specs.declared.arrays.ArrayExt.{ArrayExt}
use Rattle.ext_reading.specs.declared.faults.ExtReadFault.{ExtReadFault}
use Rattle.ext_reading.specs.declared.faults.ExtReadFault.TheVariants.{NoHeader}
use Rattle.ext_reading.specs.declared.lines.HeaderLine.TheVariants.{Tech, Version, Classes}
use Rattle.ext_reading.specs.declared.lines.Version as lines
use Rattle.ext_reading.specs.declared.lines.UseLine.{UseLine}
use Rattle.ext_reading.specs.declared.lines.NodeLine.{NodeLine}
use Rattle.ext_reading.specs.declared.lines.FetLine.{FetLine}
use Rattle.ext_reading.specs.declared.lines.MergeLine.{MergeLine}
use Rattle.ext_reading.specs.declared.lines.ExtLine.{ExtLine}
use Rattle.ext_reading.specs.declared.lines.ExtLine.TheVariants.{Header, Use, Node, Fet, Merge}
use Rattle.ext_reading.specs.LineForms.{says}
use Rattle.ext_reading.specs.Ranges.{class_values_in, grid_in, six_in, measure_in, short_in, measures_in}
use Rattle.ext_reading.specs.Drafts.{Draft, nothing_yet, step, is_incomplete, fet_from, merge_from, range_in}
use Rattle.ext_reading.specs.ExtTexts.{outline_of}

-- the technology, the version or the values of the classes, where a line of the header says them
abbrev pub tech_said : ExtLine → Option (List ℕ)
tech_said (Header (Tech name)) = Some name
tech_said said = None

abbrev pub version_said : ExtLine → Option lines.Version
version_said (Header (Version version)) = Some version
version_said said = None

abbrev pub classes_said : ExtLine → Option (List (Option ℤ))
classes_said (Header (Classes values)) = Some values
classes_said said = None

-- the use that a line says, if it says one; a node, a transistor and a merge likewise
abbrev pub use_said : ExtLine → Option UseLine
use_said (Use line) = Some line
use_said said = None

abbrev pub node_said : ExtLine → Option NodeLine
node_said (Node line) = Some line
node_said said = None

abbrev pub fet_said : ExtLine → Option FetLine
fet_said (Fet line) = Some line
fet_said said = None

abbrev pub merge_said : ExtLine → Option MergeLine
merge_said (Merge line) = Some line
merge_said said = None

-- the use is the one of the line, each of whose numbers is in its range
pub record IsUseOf (line : UseLine) (used : ArrayUse) : Type 0 where
  pub cell : used.cell ≡ line.cell
  pub id : used.id ≡ line.name.id
  pub grid : grid_in line.name.grid ≡ Ok used.grid
  pub six : six_in line.six ≡ Ok used.six

-- the node is the one of the line, whatever other names it has
pub record IsNodeOf (line : NodeLine) (node : NodeRec) : Type 0 where
  pub name : node.name ≡ line.name
  pub cap : measure_in line.cap ≡ Ok node.cap
  pub x : short_in line.x ≡ Ok node.x
  pub y : short_in line.y ≡ Ok node.y
  pub kind : node.kind ≡ line.kind
  pub measures : measures_in line.measures ≡ Ok node.measures

-- The text is a circuit file and spells the record, but for the other names of its nodes. Each of its lines says something. The header says the
-- technology, the version and the values of the classes once each; and the record has the uses, the nodes, the transistors and the rows of
-- merges that the lines say, in their order. In version 2 the second path of a merge may be a range.
pub record IsSpelled (cell text : List ℕ) (ext : ArrayExt) : Type 0 where
  pub said : List ExtLine
  pub version : lines.Version
  pub values : List (Option ℤ)
  pub lines_are : AreSaid (λ number. says) 1 (lines_of text) said
  pub named : ext.cell ≡ cell
  pub tech_is : filter_map tech_said said ≡ ext.tech ∷ []
  pub version_is : filter_map version_said said ≡ version ∷ []
  pub values_are : filter_map classes_said said ≡ values ∷ []
  pub classes_are : class_values_in values ≡ Ok ext.classes
  pub uses_are : AreOneForOne IsUseOf (filter_map use_said said) ext.uses
  pub nodes_are : AreOneForOne IsNodeOf (filter_map node_said said) ext.nodes
  pub fets_are : AreOneForOne (λ line fet. fet_from line ≡ Ok fet) (filter_map fet_said said) ext.fets
  pub merges_are : AreOneForOne (λ line row. merge_from line (range_in (Some version) line.second) ≡ Ok row) (filter_map merge_said said) ext.merges

-- all lines are without fault, and yet they are no header: what is missing is missed at the last line
pub record LacksHeader (text : List ℕ) (at : At ExtReadFault) : Type 0 where
  pub draft : Draft
  pub fine : first_fault_or (step (outline_of (lines_of text))) 1 nothing_yet (lines_of text) ≡ Ok draft
  pub incomplete : is_incomplete draft.seen ≡ true
  pub numbered : at.line ≡ last_number (lines_of text)
  pub fault : at.fault ≡ NoHeader

-- The text is no circuit file: it has a first faulty line, and that line has this fault in what the lines before it say; or it has no header.
abbrev pub IsRefusedFile : List ℕ → At ExtReadFault → Type 0
IsRefusedFile text at = IsFirstFault (step (outline_of (lines_of text))) 1 nothing_yet (lines_of text) at ⊎ LacksHeader text at
