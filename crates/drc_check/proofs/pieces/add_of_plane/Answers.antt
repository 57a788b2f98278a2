use Rattle.drc_check.proofs.Common.{◌≡◌, ◌++◌, List, sym, ap, subst, ◌∙◌, All, filter_map, All-from_In, Rect, Stack, PartSet, RawTech, set_in}
use Rattle.drc_check.proofs.Common.{stack_piece, tiles_of_plane, HasMembersIn}
use Rattle.std.specs.Prelude.{map}
use Rattle.finite_sets.proofs.Searches.{on_ok_both}
use Rattle.rect_overlays.specs.Stacks.{AreStacks}
use Rattle.drc_check.proofs.StackPieces.{areas_on, members_in, sets_on, stack_pieces, stack_pieces_lie}
use Rattle.drc_check.proofs.pieces.add_of_plane.Goals as goal

pub add_marked-requires-clause-members : goal.add_marked-requires-clause-members
add_marked-requires-clause-members c =
    let raw = c.args.tech.now in
    let tiles = c.args.tiles.now in
    let plane = c.args.plane in
    let stacks = c.in_ok-stacks.stacks.items in
    let are : AreStacks (areas_on plane tiles) stacks =
    subst (λ (areas : List Rect). AreStacks areas stacks) (c.as_slice.ensures.value ∙ c.in_ok-areas.ensures) c.in_ok-stacks.ensures in
    let sets : c.as_slice-2.result.now ≡ sets_on raw plane tiles =
    c.as_slice-2.ensures.value ∙ c.in_ok-sets.ensures ∙ ap (λ (r : RawTech). map (set_in r) (tiles_of_plane plane tiles)) c.raw.ensures.value in
    subst (λ (s : List PartSet). All (HasMembersIn s) c.as_slice-3.result.now) (sym sets)
    (subst (All (HasMembersIn (sets_on raw plane tiles))) (sym c.as_slice-3.ensures.value)
    (All-from_In (HasMembersIn (sets_on raw plane tiles)) stacks (λ stack among. members_in raw plane tiles stack (are.each stack among))))

pub returns : goal.returns
returns c =
    let raw = c.args.tech.now in
    let marks = c.args.marks.now in
    let tiles = c.args.tiles.now in
    let plane = c.args.plane in
    let old = c.args.pieces.now.items in
    let stacks = c.in_ok-stacks.stacks.items in
    let are : AreStacks (areas_on plane tiles) stacks =
    subst (λ (areas : List Rect). AreStacks areas stacks) (c.as_slice.ensures.value ∙ c.in_ok-areas.ensures) c.in_ok-stacks.ensures in
    let sets : c.as_slice-2.result.now ≡ sets_on raw plane tiles =
    c.as_slice-2.ensures.value ∙ c.in_ok-sets.ensures ∙ ap (λ (r : RawTech). map (set_in r) (tiles_of_plane plane tiles)) c.raw.ensures.value in
    on_ok_both c.add_marked.result (λ is also. record {
      found = filter_map (stack_piece raw marks plane (sets_on raw plane tiles)) stacks;
      is = is
          ∙ ap (λ (s : List PartSet). old ++ filter_map (stack_piece raw marks plane s) c.as_slice-3.result.now) sets
          ∙ ap (λ (s : List Stack). old ++ filter_map (stack_piece raw marks plane (sets_on raw plane tiles)) s) c.as_slice-3.ensures.value;
      are = stack_pieces raw plane tiles marks stacks are;
      lie = stack_pieces_lie raw plane tiles marks stacks are;
    }) c.add_marked.ensures c.add_marked.ensures
