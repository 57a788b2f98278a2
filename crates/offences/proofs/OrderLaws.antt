-- Tiles in the order of their parts.
use Rattle.offences.proofs.Common.{List, get_or, SetTile, AreInPartOrder}
use Rattle.std.specs.List.Sorted.{IsSortedByKey}
use Rattle.std.specs.Ordering.{nat_cmp}
use Rattle.std.proofs.lemmas.Cmp.{nat_cmp_total}
use Rattle.geo_core.proofs.FiniteSets.Orders.{IsSortedByKey-pairs, nat_cmp-not_less}

-- tiles that a sort by parts has put in order
pub sorted_by_part : (tiles : List SetTile) → IsSortedByKey (λ tile. tile.part) nat_cmp tiles → AreInPartOrder tiles
sorted_by_part tiles sorted i j d less inside =
    nat_cmp-not_less (get_or tiles j d).part (get_or tiles i d).part (IsSortedByKey-pairs
    (λ tile. tile.part) nat_cmp nat_cmp_total tiles sorted i j d less inside)
