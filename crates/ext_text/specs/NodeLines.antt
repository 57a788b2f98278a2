-- The lines of nodes in circuit files.
use Rattle.std.specs.Prelude.{ℕ, ℤ, List, [], ◌∷◌, ◌++◌, flat_map, codes}
use Rattle.text_scan.specs.Decimal.{decimal}
use Rattle.text_scan.specs.Written.{line_of}
use Rattle.ext_model.specs.declared.records.NodeRec.{NodeRec}

-- a name between double quotes
abbrev pub quoted : List ℕ → List ℕ
quoted name = 34 ∷ name ++ 34 ∷ []

-- an area and a perimeter for each class
abbrev pub measure_words : List (ℤ × ℤ) → List (List ℕ)
measure_words measures = flat_map (λ measure. decimal measure.0 ∷ decimal measure.1 ∷ []) measures

-- `node "NAME" 0 C x y TYPE a1 p1 .. aN pN`: the preferred name, the resistance, which is always 0, the capacitance in attofarads, the
-- least place, the type there, and an area and a perimeter for each class
abbrev pub node_words : NodeRec → List (List ℕ)
node_words node =
    codes "node" ∷ quoted node.name ∷ codes "0" ∷ decimal node.cap ∷ decimal node.x ∷ decimal node.y ∷ node.kind ∷ measure_words node.measures

unfoldable pub node_line : NodeRec → List ℕ
node_line node = line_of (node_words node)
