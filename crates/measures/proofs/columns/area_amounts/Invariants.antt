use Rattle.measures.proofs.Common.{◌≡◌, take, class_of, area_amounts}
use Rattle.measures.proofs.columns.area_amounts.Given as goal

abbrev pub invariant-loop-tile : goal.invariant-loop-tile
invariant-loop-tile l = l.amounts.items ≡ area_amounts (class_of l.class).contains (take l.tile-index l.tiles)
