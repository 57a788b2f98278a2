use Rattle.flood_nodes.proofs.Common.{◌≡◌, ◌+◌, ◌<◌, ◌≤◌, true, false, sym, subst, length, get_or, arith, nat_tests, get_or-take, get_or-drop}
use Rattle.flood_nodes.proofs.Common.{length-take, length-drop, RegionTile}
use Rattle.std.proofs.Common.{rules}
use Rattle.std.specs.Prelude.{nat_le}
use Rattle.std.proofs.lemmas.List.Sorted.{IsPartitionPoint-from_clause, IsPartitionedBy-leb}
use Rattle.flood_nodes.proofs.RunLaws.{rising_planes}
use Rattle.flood_nodes.proofs.sharing.tiles_up_to.Goals as goal

pub returns-clause-below : goal.returns-clause-below
returns-clause-below c = λ k d h.
    let tiles = c.args.tiles.now in
    let plane = c.args.plane in
    let point = IsPartitionPoint-from_clause (λ (tile : RegionTile). nat_le tile.plane plane) tiles c.partition_point.result
    c.partition_point.ensures.partitioned (IsPartitionedBy-leb (λ (tile : RegionTile). tile.plane) tiles plane (rising_planes tiles c.requires.by_plane))
    (λ a r f h. search rules) in
    let first : k < c.partition_point.result = omega (arith, length-take c.partition_point.result tiles, h) in
    let passes : nat_le (get_or tiles k d).plane plane ≡ true = point.0 k d (omega arith) first in
    let below : (get_or tiles k d).plane ≤ plane = grind (arith, nat_tests) in
    subst (λ (tile : RegionTile). tile.plane ≤ plane) (sym (get_or-take c.partition_point.result tiles k d first)) below

pub returns-clause-above : goal.returns-clause-above
returns-clause-above c = λ k d h.
    let tiles = c.args.tiles.now in
    let plane = c.args.plane in
    let count = c.partition_point.result in
    let point = IsPartitionPoint-from_clause (λ (tile : RegionTile). nat_le tile.plane plane) tiles count
    c.partition_point.ensures.partitioned (IsPartitionedBy-leb (λ (tile : RegionTile). tile.plane) tiles plane (rising_planes tiles c.requires.by_plane))
    (λ a r f h. search rules) in
    let last : count + k < length tiles = omega (arith, length-drop count tiles, h) in
    let fails : nat_le (get_or tiles (count + k) d).plane plane ≡ false = point.1 (count + k) d (omega arith) last in
    let above : plane < (get_or tiles (count + k) d).plane = grind (arith, nat_tests) in
    subst (λ (tile : RegionTile). plane < tile.plane) (sym (get_or-drop count tiles k d)) above
