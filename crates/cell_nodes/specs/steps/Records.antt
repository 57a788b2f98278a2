-- The record of a node that has its names.
use Rattle.std.specs.Prelude.{◌≡◌, ◌≢◌, ◌<◌, ◌≤◌, ℕ, ℤ, IsTrue, List, [], ◌∷◌, length, All, slice_index_or}
use Rattle.tech_model.specs.declared.raw.RawTech.{RawTech}
use Rattle.tech_model.specs.Types.{is_type}
use Rattle.ext_model.specs.declared.records.NodeRec.{NodeRec}
use Rattle.layout_model.specs.Technologies.{capacitance, rules_of}
use Rattle.measures.specs.Bounds.{IsSmallMeasure}
use Rattle.measures.specs.declared.tables.MeasureRow.{MeasureRow}
use Rattle.names.specs.declared.nodes.NamedNode.{NamedNode}

-- The record has the node's names, least place and type, these measures, and the capacitance that they give.
pub record IsRecordOf (raw : RawTech) (node : NamedNode) (measured : List (ℤ × ℤ)) (made : NodeRec) : Type 0 where
  pub names : made.name ∷ made.aliases ≡ node.names
  pub x : made.x ≡ node.least.x
  pub y : made.y ≡ node.least.y
  pub kind : made.kind ≡ (rules_of raw).word node.kind.0
  pub measures : made.measures ≡ measured
  pub cap : made.cap ≡ capacitance (rules_of raw).classes measured

-- The node has a type of the technology and a name, and its measures are a small pair for each class.
pub record IsMade (raw : RawTech) (node : NamedNode) (measured : List (ℤ × ℤ)) : Type 0 where
  pub kind : IsTrue (is_type raw node.kind.0)
  pub named : node.names ≢ []
  pub one_each : length measured ≡ length raw.classes
  pub small : All IsSmallMeasure measured

-- the measures of a group of tiles
abbrev pub row_at : List MeasureRow → ℕ → List (ℤ × ℤ)
row_at rows group = (slice_index_or rows group (record { pairs = [] })).pairs

-- There is a row for each node, and a record can be made of both.
pub record AreMade (raw : RawTech) (nodes : List NamedNode) (rows : List MeasureRow) : Type 0 where
  pub enough : length nodes ≤ length rows
  pub each : (k : ℕ) (node : NamedNode) → k < length nodes → IsMade raw (slice_index_or nodes k node) (row_at rows k)

-- There is a record for each node.
pub record AreRecordsOf (raw : RawTech) (nodes : List NamedNode) (rows : List MeasureRow) (made : List NodeRec) : Type 0 where
  pub one_each : length made ≡ length nodes
  pub each : (k : ℕ) (node : NamedNode) (rec : NodeRec) → k < length nodes
      → IsRecordOf raw (slice_index_or nodes k node) (row_at rows k) (slice_index_or made k rec)
