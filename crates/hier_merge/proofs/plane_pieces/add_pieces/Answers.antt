use Rattle.hier_merge.proofs.Common.{◌≡◌, ◌<◌, ◌-◌, ℕ, List, length, map, take, drop, sym, ap, subst, ◌∙◌, arith, All, IsPermutation, length-map, In}
use Rattle.hier_merge.proofs.Common.{In-map_source, All-from_In, All-In, IsNear, PartTile, SetTile, TypedStack, HasMembers, StandForTiles}
use Rattle.hier_merge.proofs.Common.{NumberedTile, HasTiles, numbered_on, renumbered, tiles_on}
use Rattle.std.proofs.Common.{rules}
use Rattle.std.proofs.lemmas.List.Sorted.{IsPermutation-map, answers_always}
use Rattle.finite_sets.proofs.Places.{In-drop, In-take}
use Rattle.meeting_laws.specs.Offences.PartSets.{AreInPartOrder}
use Rattle.hier_merge.proofs.JoinedPieces.{pieces_moved, pieces_renumbered}
use Rattle.hier_merge.proofs.NumberedTiles.{has_tiles, near_numbered, sorted_numbered, without_numbers}
use Rattle.hier_merge.proofs.plane_pieces.add_pieces.Goals as goal

abbrev part_key : NumberedTile → ℕ
part_key entry = entry.tile.part

pub typed_stacks-requires-clause-near : goal.typed_stacks-requires-clause-near
typed_stacks-requires-clause-near c =
    let raw = c.args.tech.now in
    let plane = c.args.plane in
    let start = c.args.start in
    let tiles = c.args.tiles.now in
    let group = take (c.args.next - start) (drop start tiles) in
    let sorted = c.sort_by_cached_key.new.self.items in
    let moved = subst (λ (all : List NumberedTile). IsPermutation all sorted) c.in_ok-numbered.ensures c.sort_by_cached_key.ensures.permutation in
    let near : All (λ (tile : PartTile). IsNear tile.area) group = All-from_In (λ (tile : PartTile). IsNear tile.area) group (λ tile among.
    All-In (λ (t : PartTile). IsNear t.area) tiles tile c.requires.near
    (In-drop start tiles tile (In-take (c.args.next - start) (drop start tiles) tile among))) in
    subst (All (λ (tile : SetTile). IsNear tile.area))
    (sym (c.as_slice-3.ensures.value ∙ c.in_ok-here.ensures ∙ ap (map (λ (e : NumberedTile). e.tile)) c.as_slice.ensures.value))
    (near_numbered raw plane start group sorted near moved)

pub typed_stacks-requires-clause-ordered : goal.typed_stacks-requires-clause-ordered
typed_stacks-requires-clause-ordered c =
    subst AreInPartOrder (sym (c.as_slice-3.ensures.value ∙ c.in_ok-here.ensures ∙ ap (map (λ (e : NumberedTile). e.tile)) c.as_slice.ensures.value))
    (sorted_numbered c.sort_by_cached_key.new.self.items
    (c.in_ok-sort_by_cached_key.ensures.sorted part_key (answers_always _ _ _ (λ f a r g h. search rules))))

pub add_all-requires : goal.add_all-requires
add_all-requires c =
    let sorted = c.sort_by_cached_key.new.self.items in
    let found = c.in_ok-found.found.items in
    let here = c.as_slice-3.result.now in
    let numbers = c.as_slice-4.result.now in
    let as_many : length here ≡ length numbers =
    ap length (c.as_slice-3.ensures.value ∙ c.in_ok-here.ensures ∙ ap (map (λ (e : NumberedTile). e.tile)) c.as_slice.ensures.value)
    ∙ length-map sorted (λ (e : NumberedTile). e.tile)
    ∙ sym (length-map sorted (λ (e : NumberedTile). e.number))
    ∙ sym (ap length (c.as_slice-4.ensures.value ∙ c.in_ok-numbers.ensures ∙ ap (map (λ (e : NumberedTile). e.number)) c.as_slice-2.ensures.value)) in
    All-from_In (λ (stack : TypedStack). All (λ (member : ℕ). member < length numbers) stack.members) found (λ stack listed.
    All-from_In (λ (member : ℕ). member < length numbers) stack.members (λ member among.
    let within = (All-In (HasMembers here) found stack c.in_ok-found.ensures.members listed).within member among in
    omega (arith, within, as_many)))

pub returns : goal.returns
returns c =
    let raw = c.args.tech.now in
    let plane = c.args.plane in
    let start = c.args.start in
    let next = c.args.next in
    let tiles = c.args.tiles.now in
    let group = take (next - start) (drop start tiles) in
    let sorted = c.sort_by_cached_key.new.self.items in
    let found = c.in_ok-found.found.items in
    let here : List SetTile = map (λ (e : NumberedTile). e.tile) sorted in
    let numbers = c.as_slice-4.result.now in
    let moved = subst (λ (all : List NumberedTile). IsPermutation all sorted) c.in_ok-numbered.ensures c.sort_by_cached_key.ensures.permutation in
    let is_here = c.as_slice-3.ensures.value ∙ c.in_ok-here.ensures ∙ ap (map (λ (e : NumberedTile). e.tile)) c.as_slice.ensures.value in
    let are_numbers = c.as_slice-4.ensures.value ∙ c.in_ok-numbers.ensures ∙ ap (map (λ (e : NumberedTile). e.number)) c.as_slice-2.ensures.value in
    let stand = subst (λ (all : List SetTile). StandForTiles raw plane all found) is_here c.in_ok-found.ensures.stand in
    let members = subst (λ (all : List SetTile). All (HasMembers all) found) is_here c.in_ok-found.ensures.members in
    record {
      found = map (renumbered numbers) found;
      added = c.in_ok-add_all.ensures;
      are = pieces_renumbered raw plane (tiles_on raw plane group) numbers found
          (pieces_moved raw plane (tiles_on raw plane group) here found
          (subst (λ (all : List SetTile). IsPermutation all here) (without_numbers raw plane start group)
          (IsPermutation-map (λ (e : NumberedTile). e.tile) (numbered_on raw plane start group) sorted moved)) stand members);
      have = subst (λ (all : List ℕ). All (HasTiles tiles start next plane) (map (renumbered all) found)) (sym are_numbers)
          (All-from_In (HasTiles tiles start next plane) (map (renumbered (map (λ (e : NumberedTile). e.number) sorted)) found) (λ piece among.
          let source = In-map_source (renumbered (map (λ (e : NumberedTile). e.number) sorted)) piece found among in
          subst (HasTiles tiles start next plane) source.1.1
          (has_tiles raw plane tiles start next sorted source.0 moved (All-In (HasMembers here) found source.0 members source.1.0))));
    }
