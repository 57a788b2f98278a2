use Rattle.flatten.proofs.Common.{List, map, sym, subst, All, NodeRec, FetRec, HasNames}
use Rattle.flatten.specs.steps.Spots.{HasFetNames}
use Rattle.flatten.proofs.SpotLaws.{has_node_names, has_fet_names}
use Rattle.flatten.proofs.spots.spots_in.Goals as goal

pub node_spots-requires-clause-has : goal.node_spots-requires-clause-has
node_spots-requires-clause-has c =
    let P : List NodeRec → Type 0 = λ nodes. HasNames c.args.names.now c.args.cell (map (λ node. node.name) nodes) in
    subst P (sym c.items.ensures) (has_node_names c.args.names.now c.args.cell c.args.ext.now c.requires.cell)

pub fet_spots-requires-clause-has : goal.fet_spots-requires-clause-has
fet_spots-requires-clause-has c =
    let P : List FetRec → Type 0 = All (HasFetNames c.args.names.now c.args.cell) in
    subst P (sym c.items-2.ensures) (has_fet_names c.args.names.now c.args.cell c.args.ext.now c.requires.names c.requires.cell)
