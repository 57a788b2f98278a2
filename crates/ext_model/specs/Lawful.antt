-- Which records of cells are lawful: those whose names and numbers a circuit file may have, and that name only what is there.
use Rattle.std.specs.Prelude.{◌≡◌, ◌⊎◌, ◌<◌, ◌≤◌, ◌<ℤ◌, ℕ, IsTrue, ℤ, List, ◌∷◌, length, All, sum_by}
use Rattle.std.specs.Int.{w32}
use Rattle.std.specs.Int.RustNames.{FitsSigned, unsigned_abs}
use Rattle.geo_core.specs.FiniteSets.Lists.{In, Distinct}
use Rattle.text_scan.specs.PlainNames.{is_plain_name}
use Rattle.geo_core.specs.declared.transforms.Transform.{Transform}
use Rattle.geo_core.specs.Images.{six_of}
use Rattle.ext_model.specs.declared.limits.TheConstants.{MOST_CLASSES, MEASURE_EDGE, LENGTHS_EDGE, ELEMENT_EDGE, FET_EDGE}
use Rattle.ext_model.specs.declared.records.UseRec.{UseRec}
use Rattle.ext_model.specs.declared.records.NodeRec.{NodeRec}
use Rattle.ext_model.specs.declared.records.TermRec.{TermRec}
use Rattle.ext_model.specs.declared.records.FetRec.{FetRec}
use Rattle.ext_model.specs.declared.records.MergeRec.{MergeRec}
use Rattle.ext_model.specs.declared.records.CellExt.{CellExt}
use Rattle.ext_model.specs.NodeNames.{is_word, is_node_name}
use Rattle.ext_model.specs.Paths.{path_text}
use Rattle.ext_model.specs.RecordNames.{names_of, node_names, element_names}

-- a capacitance, an area, a perimeter or a length of a size that a record may have
abbrev pub IsMeasure : ℤ → Type 0
IsMeasure number = unsigned_abs number < MEASURE_EDGE

-- an area and a perimeter for each of so many classes
pub record AreMeasures (classes : ℕ) (measures : List (ℤ × ℤ)) : Type 0 where
  pub count : length measures ≡ classes
  pub areas : All (λ measure. IsMeasure measure.0) measures
  pub perimeters : All (λ measure. IsMeasure measure.1) measures

-- The six numbers are those of an orientation and a displacement below the edge.
pub record IsPlacement (edge : ℕ) (six : List ℤ) : Type 0 where
  pub transform : Transform
  pub numbers : six_of transform ≡ six
  pub dx : unsigned_abs transform.dx < edge
  pub dy : unsigned_abs transform.dy < edge

pub record IsLawfulUse (element : UseRec) : Type 0 where
  pub cell : IsTrue (is_plain_name element.cell)
  pub id : IsTrue (is_node_name element.id)
  pub six : IsPlacement ELEMENT_EDGE element.six

pub record IsLawfulNode (classes : ℕ) (node : NodeRec) : Type 0 where
  pub names : All (λ name. IsTrue (is_node_name name)) (names_of node)
  pub kind : IsTrue (is_word node.kind)
  pub cap : IsMeasure node.cap
  pub x : FitsSigned w32 node.x
  pub y : FitsSigned w32 node.y
  pub measures : AreMeasures classes node.measures

-- The gate or terminal is a node of the record.
pub record IsLawfulTerm (ext : CellExt) (side : TermRec) : Type 0 where
  pub node : In side.node (node_names ext)
  pub length : IsMeasure side.length

pub record IsLawfulFet (ext : CellExt) (fet : FetRec) : Type 0 where
  pub kind : IsTrue (is_word fet.kind)
  pub substrate : IsTrue (is_word fet.substrate)
  pub x : FitsSigned w32 fet.x
  pub y : FitsSigned w32 fet.y
  pub x_below_edge : fet.x <ℤ FET_EDGE
  pub y_below_edge : fet.y <ℤ FET_EDGE
  pub area : IsMeasure fet.area
  pub perimeter : IsMeasure fet.perimeter
  pub gate : IsLawfulTerm ext fet.gate
  pub terminals : All (IsLawfulTerm ext) fet.terminals
  pub lengths : sum_by (λ side. unsigned_abs side.length) fet.terminals < LENGTHS_EDGE

-- The path begins with the name of an element of the record, and each of its names has the form of one.
pub record LeadsIntoElement (ext : CellExt) (path : List ℕ) : Type 0 where
  pub id : List ℕ
  pub ids : List (List ℕ)
  pub name : List ℕ
  pub text : path ≡ path_text (id ∷ ids) name
  pub element : In id (element_names ext)
  pub id_forms : All (λ word. IsTrue (is_node_name word)) ids
  pub name_form : IsTrue (is_node_name name)

-- The path is a name of a node of the record, or leads into an element.
abbrev pub IsPathIn : CellExt → List ℕ → Type 0
IsPathIn ext path = In path (node_names ext) ⊎ LeadsIntoElement ext path

pub record IsLawfulMerge (ext : CellExt) (merge : MergeRec) : Type 0 where
  pub first : IsPathIn ext merge.first
  pub second : IsPathIn ext merge.second
  pub cap : IsMeasure merge.cap
  pub measures : AreMeasures (length ext.classes) merge.measures

-- The record is lawful. The name of its own cell stands in no line of its file, and is free.
pub record IsLawful (ext : CellExt) : Type 0 where
  pub tech : IsTrue (is_word ext.tech)
  pub classes : length ext.classes ≤ MOST_CLASSES
  pub uses : All IsLawfulUse ext.uses
  pub nodes : All (IsLawfulNode (length ext.classes)) ext.nodes
  pub fets : All (IsLawfulFet ext) ext.fets
  pub merges : All (IsLawfulMerge ext) ext.merges
  pub node_names_differ : Distinct (node_names ext)
  pub element_names_differ : Distinct (element_names ext)
