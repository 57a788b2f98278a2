-- The names of the nodes of a record, by kind and in the order of their bytes.
use Rattle.std.specs.Prelude.{◌≡◌, ℕ, Bool, true, false, not, if◌then◌else◌}
use Rattle.std.specs.Prelude.{Some, None, List, [], map, filter, length, slice_get, slice_index_or}
use Rattle.std.specs.Prelude.{IsPermutation, IsSorted}
use Rattle.std.specs.Ordering.{nat_cmp}
use Rattle.std.specs.Cmp.Lexicographic.{slice_cmp}
use Rattle.ext_model.specs.FiniteSets.Lists.{In}
use Rattle.ext_model.specs.declared.names.TheConstants.{GLOBAL_MARK}
use Rattle.ext_model.specs.declared.records.NodeRec.{NodeRec}
use Rattle.ext_model.specs.declared.records.CellExt.{CellExt}
use Rattle.ext_model.specs.NodeNames.{ends_in}
use Rattle.ext_model.specs.RecordNames.{names_of, node_names}
use Rattle.full_names.specs.declared.own_names.OwnName.{OwnName}
use Rattle.full_names.specs.declared.own_names.RecordNames.{RecordNames}

-- whether the name of a node is global, by its last byte
abbrev pub is_marked : List ℕ → Bool
is_marked name = ends_in GLOBAL_MARK name

-- whether the name is of the kind that is wanted
abbrev pub is_wanted : Bool → List ℕ → Bool
is_wanted global name = if global then is_marked name else not (is_marked name)

abbrev pub texts_of : List OwnName → List (List ℕ)
texts_of names = map (λ name. name.text.now) names

-- The name is one of the node of the record that it tells.
pub record IsOfNode (ext : CellExt) (name : OwnName) : Type 0 where
  pub node : NodeRec
  pub stands : slice_get ext.nodes name.node ≡ Some node
  pub named : In name.text.now (names_of node)

-- texts in the order of their bytes
abbrev pub AreInByteOrder : List (List ℕ) → Type 0
AreInByteOrder texts = IsSorted (slice_cmp nat_cmp) texts

-- The names are those of the record's nodes that are of the kind, in the order of their bytes.
pub record AreOwnNames (global : Bool) (ext : CellExt) (names : List OwnName) : Type 0 where
  pub moved : IsPermutation (filter (is_wanted global) (node_names ext)) (texts_of names)
  pub nodes : (name : OwnName) → In name names → IsOfNode ext name
  pub in_order : AreInByteOrder (texts_of names)

-- the names of a record that are not global
abbrev pub locals_of : List RecordNames → ℕ → List OwnName
locals_of records cell = elim (slice_get records cell) [ None ↦ [] | Some own ↦ own.locals.items ]

-- those that are
abbrev pub globals_of : List RecordNames → ℕ → List OwnName
globals_of records cell = elim (slice_get records cell) [ None ↦ [] | Some own ↦ own.globals.items ]

-- What is known of a record's names is true of it.
pub record AreRecordNames (ext : CellExt) (own : RecordNames) : Type 0 where
  pub locals : AreOwnNames false ext own.locals.items
  pub globals : AreOwnNames true ext own.globals.items

-- The names of the record with this number are known.
pub record HasOwnNames (records : List RecordNames) (cell : ℕ) (ext : CellExt) : Type 0 where
  pub own : RecordNames
  pub has : slice_get records cell ≡ Some own
  pub are : AreRecordNames ext own

-- whether the record is reached
abbrev pub is_reached : List Bool → ℕ → Bool
is_reached reached cell = slice_index_or reached cell false

-- The names of each record that is reached are known.
pub record AreAllNames (exts : List CellExt) (reached : List Bool) (records : List RecordNames) : Type 0 where
  pub long : length records ≡ length exts
  pub each : (cell : ℕ) (ext : CellExt) → slice_get exts cell ≡ Some ext → is_reached reached cell ≡ true → HasOwnNames records cell ext
