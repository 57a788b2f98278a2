-- Circuit files as they are written.
use Rattle.std.specs.Prelude.{◌≡◌, ◌<◌, nat_le, if◌then◌else◌, ℕ, ℤ, pos, ◌+ℤ◌, ◌-ℤ◌, List, [], ◌∷◌, ◌++◌, length, map, flat_map, codes}
use Rattle.std.specs.Prelude.{Option, Some, None}
use Rattle.text_scan.specs.Decimal.{decimal}
use Rattle.text_scan.specs.Written.{line_of, text_of}
use Rattle.geo_core.specs.declared.grids.Grid.{Grid}
use Rattle.ext_model.specs.declared.records.NodeRec.{NodeRec}
use Rattle.ext_model.specs.declared.records.TermRec.{TermRec}
use Rattle.ext_model.specs.declared.records.FetRec.{FetRec}
use Rattle.ext_model.specs.declared.arrays.ArrayUse.{ArrayUse}
use Rattle.ext_model.specs.declared.arrays.MergeRow.{MergeRow}
use Rattle.ext_model.specs.declared.arrays.ArrayExt.{ArrayExt}
use Rattle.ext_model.specs.declared.circuits.Circuit.{Circuit}
use Rattle.ext_model.specs.Plain.{before, behind, first_index}
use Rattle.ext_text.specs.declared.faults.ExtFault.{ExtFault}
use Rattle.ext_text.specs.declared.faults.ExtFault.TheVariants.{TooLong}
use Rattle.ext_text.specs.declared.limits.TheConstants.{LONGEST_TEXT}
use Rattle.ext_text.specs.NodeLines.{quoted, measure_words, node_words}

-- `tech NAME`, `timestamp 0`, `version V`, `style NAME`, `scale 1 1 1`, `resistclasses VALUE ..`: the version, the technology's name, and the
-- value of each class
abbrev pub header_words : List ℕ → List ℕ → List ℕ → List (List (List ℕ))
header_words version tech classes =
    (codes "tech" ∷ tech ∷ []) ∷ (codes "timestamp" ∷ codes "0" ∷ []) ∷ (codes "version" ∷ version ∷ []) ∷ (codes "style" ∷ tech ∷ [])
    ∷ (codes "scale" ∷ codes "1" ∷ codes "1" ∷ codes "1" ∷ []) ∷ (codes "resistclasses" ∷ map (λ value. decimal (pos value)) classes) ∷ []

-- `[LO:HI:SEP]`: the indices of a grid's columns, or of its rows, and their distance
abbrev pub span_text : ℤ → ℤ → ℤ → List ℕ
span_text lo hi sep = 91 ∷ (decimal lo ++ 58 ∷ (decimal hi ++ 58 ∷ (decimal sep ++ 93 ∷ [])))

-- the id of a use, and behind it its grid: `ID` or `ID[LO:HI:SEP][LO:HI:SEP]`
abbrev pub use_name : List ℕ → Option Grid → List ℕ
use_name id None = id
use_name id (Some grid) = id ++ (span_text grid.xlo grid.xhi grid.xsep ++ span_text grid.ylo grid.yhi grid.ysep)

-- `use CELL NAME a b c d e f`
abbrev pub use_words : ArrayUse → List (List ℕ)
use_words used = codes "use" ∷ used.cell ∷ use_name used.id used.grid ∷ map decimal used.six

-- `equiv "NAME" "ALIAS"`: the preferred name and another
abbrev pub equiv_words : List ℕ → List ℕ → List (List ℕ)
equiv_words name alias = codes "equiv" ∷ quoted name ∷ quoted alias ∷ []

-- the line of a node and those of its aliases
abbrev pub node_lines : NodeRec → List (List (List ℕ))
node_lines node = node_words node ∷ map (equiv_words node.name) node.aliases

-- the name of a node, a length, and 0 for the attributes
abbrev pub term_words : TermRec → List (List ℕ)
term_words side = quoted side.node ∷ decimal side.length ∷ codes "0" ∷ []

-- the point of a transistor and the far corner of its square
abbrev pub square_words : FetRec → List (List ℕ)
square_words fet = decimal fet.x ∷ decimal fet.y ∷ decimal (fet.x +ℤ pos 1) ∷ decimal (fet.y +ℤ pos 1) ∷ []

-- `fet KIND x y x+1 y+1 AREA PERIMETER "SUBSTRATE" "GATE" n 0 "TERMINAL" LENGTH 0 ..`
abbrev pub fet_words : FetRec → List (List ℕ)
fet_words fet =
    (codes "fet" ∷ fet.kind ∷ square_words fet)
    ++ (decimal fet.area ∷ decimal fet.perimeter ∷ quoted fet.substrate ∷ term_words fet.gate ++ flat_map term_words fet.terminals)

-- the path with a range of indices where it has one: `ID[LO:HI,J]/REST`
abbrev pub ranged : List ℕ → ℤ → ℤ → List ℕ
ranged path lo hi = before 91 path ++ 91 ∷ (decimal lo ++ 58 ∷ (decimal hi ++ 44 ∷ behind 44 (behind 91 path)))

-- the second path of so many merges: the path itself of one, and of more with the first index and the last
abbrev pub row_path : List ℕ → ℕ → List ℕ
row_path path count = if nat_le count 1 then path else ranged path (first_index path) (first_index path +ℤ pos count -ℤ pos 1)

-- `merge "PATH" "PATH" C a1 p1 .. aN pN`
abbrev pub merge_words : MergeRow → List (List ℕ)
merge_words row = codes "merge" ∷ quoted row.first ∷ quoted (row_path row.second row.count) ∷ decimal row.cap ∷ measure_words row.measures

-- the lines of a cell's file, which is of version 2: the header, and then its uses, nodes, transistors and merges
abbrev pub ext_lines : ArrayExt → List (List (List ℕ))
ext_lines ext =
    header_words (codes "2") ext.tech ext.classes
    ++ (map use_words ext.uses ++ (flat_map node_lines ext.nodes ++ (map fet_words ext.fets ++ map merge_words ext.merges)))

-- the lines of a flat file, which is of version 1: the header, and then the nodes and transistors
abbrev pub flat_lines : Circuit → List (List (List ℕ))
flat_lines circuit = header_words (codes "1") circuit.tech circuit.classes ++ (flat_map node_lines circuit.nodes ++ map fet_words circuit.fets)

-- the text of lines of words
unfoldable pub lines_text : List (List (List ℕ)) → List ℕ
lines_text lines = text_of (map line_of lines)

abbrev pub ext_text : ArrayExt → List ℕ
ext_text ext = lines_text (ext_lines ext)

abbrev pub flat_text : Circuit → List ℕ
flat_text circuit = lines_text (flat_lines circuit)

-- the fault of a text that is longer than a flat file may be
abbrev pub IsTooLong : ExtFault → List ℕ → Type 0
IsTooLong fault text = (fault ≡ TooLong) × (LONGEST_TEXT < length text)
