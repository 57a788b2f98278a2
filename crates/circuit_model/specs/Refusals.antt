-- Which fault keeps a tree of records from meaning a circuit.
use Rattle.std.specs.Prelude.{◌≡◌, ℕ, zero, suc, max, Bool, false, ◌==◌, nat_lt, if◌then◌else◌, Option, Some, None, List, [], ◌∷◌, map, length, find, sum_by}
use Rattle.std.specs.List.{flat_map, list_any}
use Rattle.std.specs.Option.{option_or}
use Rattle.std.specs.Str.{bytes_eq}
use Rattle.ext_model.specs.FiniteSets.First.{first_some}
use Rattle.ext_model.specs.declared.names.TheConstants.{SLASH}
use Rattle.ext_model.specs.declared.records.MergeRec.{MergeRec}
use Rattle.ext_model.specs.declared.records.CellExt.{CellExt}
use Rattle.ext_model.specs.declared.circuits.Circuit.{Circuit}
use Rattle.ext_model.specs.NodeNames.{slashes_in}
use Rattle.ext_model.specs.RecordNames.{node_names}
use Rattle.circuit_model.specs.declared.faults.FlatFault.{FlatFault}
use Rattle.circuit_model.specs.declared.faults.FlatFault.TheVariants.{NoCell, Cycle, TooMany, Classes, NoPath}
use Rattle.circuit_model.specs.declared.limits.CircuitLimit.{CircuitLimit}
use Rattle.circuit_model.specs.declared.limits.CircuitLimit.TheVariants.{Depth, Elements, Nodes, Names, Merges}
use Rattle.circuit_model.specs.declared.limits.TheConstants.{LONGEST_CHAIN, MOST_FLAT_ELEMENTS, MOST_NODES, MOST_NAME_BYTES, MOST_MERGES}
use Rattle.circuit_model.specs.Elements.{Element, ext_of, elements_of}
use Rattle.circuit_model.specs.FullNames.{full_names}
use Rattle.circuit_model.specs.FlatNodes.{is_among}
use Rattle.circuit_model.specs.Circuits.{IsMeaning}

-- the first fault of the things of a list, in their order
abbrev pub first_fault : {X : Type 0} → (X → Option FlatFault) → List X → Option FlatFault
first_fault fault_of xs = first_some fault_of xs

-- Depth first through the uses: the first whose cell has no record, or is one of the open cells, those that the use is itself at or
-- below. The number bounds how many more cells are opened.
unfoldable pub use_fault : ℕ → List CellExt → List (List ℕ) → CellExt → Option FlatFault
use_fault zero exts open_cells ext = None
use_fault (suc bound) exts open_cells ext =
    first_fault
    (λ used.
    elim (ext_of exts used.cell) [
      | None ↦ Some (NoCell used.cell)
      | Some child ↦ if is_among open_cells used.cell then Some (Cycle used.cell) else use_fault bound exts (used.cell ∷ open_cells) child
    ])
    ext.uses

-- the fault of the walk from the root; open cells differ, so that no chain of them has more than there are records
abbrev pub walk_fault : List CellExt → CellExt → Option FlatFault
walk_fault exts root = use_fault (suc (length exts)) exts (root.cell ∷ []) root

-- the greatest of the numbers
abbrev pub greatest : List ℕ → ℕ
greatest [] = 0
greatest (n ∷ ns) = max n (greatest ns)

-- how many cells the longest chain of uses has from a cell on, that cell among them
unfoldable pub chain_length : ℕ → List CellExt → CellExt → ℕ
chain_length zero exts ext = 0
chain_length (suc bound) exts ext =
    suc (greatest (map (λ used. elim (ext_of exts used.cell) [ None ↦ 0 | Some child ↦ chain_length bound exts child ]) ext.uses))

-- how many cells the longest chain of uses from the root has, the root among them
abbrev pub depth_of : List CellExt → CellExt → ℕ
depth_of exts root = chain_length (suc (length exts)) exts root

-- those of the names that have not been seen, each where it first stands
abbrev pub once : List (List ℕ) → List (List ℕ) → List (List ℕ)
once seen [] = []
once seen (name ∷ names) = if is_among seen name then once seen names else name ∷ once (name ∷ seen) names

-- how many bytes the full names of all nodes have, each name once
abbrev pub name_bytes : List Element → ℕ
name_bytes elements = sum_by length (once [] (flat_map full_names elements))

-- how many records of nodes the elements have
abbrev pub node_count : List Element → ℕ
node_count elements = sum_by (λ element. length element.ext.nodes) elements

-- how many records of merges the elements have
abbrev pub merge_count : List Element → ℕ
merge_count elements = sum_by (λ element. length element.ext.merges) elements

-- the fault where a number is past its limit
abbrev pub past : ℕ → CircuitLimit → ℕ → Option FlatFault
past most limit number = if nat_lt most number then Some (TooMany limit) else None

-- the first number that is past its limit
abbrev pub count_fault : List CellExt → CellExt → Option FlatFault
count_fault exts root =
    let elements = elements_of exts root in
    option_or (past LONGEST_CHAIN Depth (depth_of exts root))
    (option_or (past MOST_FLAT_ELEMENTS Elements (length elements))
    (option_or (past MOST_NODES Nodes (node_count elements))
    (option_or (past MOST_NAME_BYTES Names (name_bytes elements)) (past MOST_MERGES Merges (merge_count elements)))))

-- the record of the element has another number of classes than the root's
abbrev pub class_fault : CellExt → Element → Option FlatFault
class_fault root element = if length element.ext.classes == length root.classes then None else Some (Classes element.ext.cell)

-- what stands before the first slash of a path
abbrev pub before_slash : List ℕ → List ℕ
before_slash [] = []
before_slash (byte ∷ bytes) = if byte == SLASH then [] else byte ∷ before_slash bytes

-- what stands behind it
abbrev pub after_slash : List ℕ → List ℕ
after_slash [] = []
after_slash (byte ∷ bytes) = if byte == SLASH then bytes else after_slash bytes

-- The path leads from a cell to a node: all its names but the last lead through uses, and the last is a node's name there. The number
-- is that of its slashes.
unfoldable pub leads : ℕ → List CellExt → CellExt → List ℕ → Bool
leads zero exts ext path = is_among (node_names ext) path
leads (suc slashes) exts ext path =
    elim (find (λ used. bytes_eq used.id (before_slash path)) ext.uses) [
      | None ↦ false
      | Some used ↦ elim (ext_of exts used.cell) [ None ↦ false | Some child ↦ leads slashes exts child (after_slash path) ]
    ]

-- the path leads nowhere from the cell
abbrev pub path_fault : List CellExt → CellExt → List ℕ → Option FlatFault
path_fault exts ext path = if leads (slashes_in path) exts ext path then None else Some (NoPath ext.cell path)

abbrev pub merge_fault : List CellExt → CellExt → MergeRec → Option FlatFault
merge_fault exts ext merge = option_or (path_fault exts ext merge.first) (path_fault exts ext merge.second)

-- the first path of an element's merges that leads nowhere
abbrev pub element_fault : List CellExt → Element → Option FlatFault
element_fault exts element = first_fault (merge_fault exts element.ext) element.ext.merges

-- The fault that the records have at this root, where they have one: the first use that leads to no cell or back, then the first number
-- that is past its limit, then the first element whose classes differ from the root's, then the first path that leads to no node.
abbrev pub flat_fault : List CellExt → CellExt → Option FlatFault
flat_fault exts root =
    option_or (walk_fault exts root)
    (option_or (count_fault exts root)
    (option_or (first_fault (class_fault root) (elements_of exts root)) (first_fault (element_fault exts) (elements_of exts root))))

-- The records have no fault at this root, and the circuit is what they mean there.
pub record IsFlatOf (exts : List CellExt) (root : List ℕ) (circuit : Circuit) : Type 0 where
  pub top : CellExt
  pub found : ext_of exts root ≡ Some top
  pub sound : flat_fault exts top ≡ None
  pub meaning : IsMeaning exts top circuit

-- The records have this fault at this root.
pub record IsFlatFaultOf (exts : List CellExt) (root : List ℕ) (fault : FlatFault) : Type 0 where
  pub top : CellExt
  pub found : ext_of exts root ≡ Some top
  pub faulty : flat_fault exts top ≡ Some fault
