-- The lines of nodes.
use Rattle.std.proofs.Common.{List, [], ◌∷◌, refl}
use Rattle.ext_model.specs.declared.records.NodeRec.{NodeRec}
use Rattle.line_answers.specs.LineEffects.{IsOfInside}
use Rattle.look_commands.specs.CommandNodes.{node_lines}

-- the lines of nodes are all replies
pub node_lines_inside : (nodes : List NodeRec) → IsOfInside (node_lines nodes)
node_lines_inside [] = record { present = refl; fits = refl }
node_lines_inside (node ∷ nodes) =
    let rest = node_lines_inside nodes in
    record { present = rest.present; fits = rest.fits }
