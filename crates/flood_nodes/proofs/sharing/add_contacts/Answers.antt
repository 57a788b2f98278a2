-- The rectangles are those of the tiles, and places of the run fit.
use Rattle.flood_nodes.proofs.Common.{List, map, ◌++◌, ap, sym, ◌∙◌, subst, arith, All, AllPairs, length-map, Rect, AreDisjoint, IsNear, IsProper}
use Rattle.flood_nodes.proofs.Common.{Lists, In-get_or, RegionTile, Contact, IsSharedEdge, areas_of, shifted}
use Rattle.std.proofs.lemmas.List.Elements.{All-map}
use Rattle.flood_nodes.proofs.RunLaws.{areas_apart}
use Rattle.flood_nodes.proofs.sharing.add_contacts.Goals as goal

pub touching-requires-clause-proper : goal.touching-requires-clause-proper
touching-requires-clause-proper c =
    subst (λ (v : List Rect). All IsProper v) (sym (c.as_slice.ensures.value ∙ c.in_ok-areas.ensures))
    (All-map IsProper (λ (t : RegionTile). t.area) c.args.run.now c.requires.proper)

pub touching-requires-clause-near : goal.touching-requires-clause-near
touching-requires-clause-near c =
    subst (λ (v : List Rect). All IsNear v) (sym (c.as_slice.ensures.value ∙ c.in_ok-areas.ensures))
    (All-map IsNear (λ (t : RegionTile). t.area) c.args.run.now c.requires.near)

pub touching-requires-clause-disjoint : goal.touching-requires-clause-disjoint
touching-requires-clause-disjoint c =
    subst (λ (v : List Rect). AllPairs AreDisjoint v) (sym (c.as_slice.ensures.value ∙ c.in_ok-areas.ensures))
    (areas_apart c.args.run.now c.requires.apart)

pub push_contacts-requires : goal.push_contacts-requires
push_contacts-requires c = λ k d below.
    let contacts = c.as_slice-2.result.now in
    let run = c.args.run.now in
    let listed = subst (λ (v : List Contact). Lists (IsSharedEdge (areas_of run)) v) (sym c.as_slice-2.ensures.value)
    (subst (λ (v : List Rect). Lists (IsSharedEdge v) c.in_ok-found.found.items) (c.as_slice.ensures.value ∙ c.in_ok-areas.ensures) c.in_ok-found.ensures) in
    let is = listed.2 _ (In-get_or contacts k d below) in
    let order = is.in_order in
    let last = is.in_list in
    let long = length-map run (λ (t : RegionTile). t.area) in
    let fits = c.requires.fits in
    (omega (arith, order, last, long, fits), omega (arith, last, long, fits))

pub returns : goal.returns
returns c = record {
  contacts = c.in_ok-found.found.items;
  touching = subst (λ (v : List Rect). Lists (IsSharedEdge v) c.in_ok-found.found.items) (c.as_slice.ensures.value ∙ c.in_ok-areas.ensures)
      c.in_ok-found.ensures;
  shared = c.in_ok-push_contacts.ensures
      ∙ ap (λ (v : List Contact). c.args.contacts.now.items ++ map (shifted c.args.start) v) c.as_slice-2.ensures.value;
}
