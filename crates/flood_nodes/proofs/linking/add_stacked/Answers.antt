-- The tiles of the two planes are those that a contact may link, and their rectangles lie apart on each.
use Rattle.flood_nodes.proofs.Common.{◌<◌, List, ℕ, length, sym, ◌∙◌, ap, subst, All, AllPairs, Rect, AreDisjoint, IsNear, IsProper, areas_at}
use Rattle.flood_nodes.proofs.LinkLaws.{crossings_within, places_within, areas_proper, areas_near, areas_apart, overlaps_within, adds_stacked}
use Rattle.flood_nodes.proofs.linking.add_stacked.Goals as goal

pub reaching-requires-clause-within : goal.reaching-requires-clause-within
reaching-requires-clause-within c = crossings_within c.args.tech.now c.args.tiles.now c.args.crossings.now c.requires.crossings

pub reaching-requires-2-clause-within : goal.reaching-requires-2-clause-within
reaching-requires-2-clause-within c = crossings_within c.args.tech.now c.args.tiles.now c.args.crossings.now c.requires.crossings

pub areas_at-requires : goal.areas_at-requires
areas_at-requires c =
    subst (λ (v : List ℕ). All (λ (k : ℕ). k < length c.args.tiles.now) v) (sym c.as_slice.ensures.value)
    (places_within c.args.tech.now c.args.tiles.now c.args.low c.args.high _ c.requires.spread c.in_ok-lows.ensures)

pub areas_at-requires-2 : goal.areas_at-requires-2
areas_at-requires-2 c =
    subst (λ (v : List ℕ). All (λ (k : ℕ). k < length c.args.tiles.now) v) (sym c.as_slice-2.ensures.value)
    (places_within c.args.tech.now c.args.tiles.now c.args.high c.args.low _ c.requires.spread c.in_ok-highs.ensures)

pub overlaps-requires-clause-first_proper : goal.overlaps-requires-clause-first_proper
overlaps-requires-clause-first_proper c =
    subst (λ (v : List Rect). All IsProper v)
    (sym (c.as_slice-3.ensures.value ∙ c.in_ok-low_areas.ensures ∙ ap (areas_at c.args.tiles.now) c.as_slice.ensures.value))
    (areas_proper c.args.tech.now c.args.tiles.now c.args.low c.args.high _ c.requires.spread c.in_ok-lows.ensures)

pub overlaps-requires-clause-first_near : goal.overlaps-requires-clause-first_near
overlaps-requires-clause-first_near c =
    subst (λ (v : List Rect). All IsNear v)
    (sym (c.as_slice-3.ensures.value ∙ c.in_ok-low_areas.ensures ∙ ap (areas_at c.args.tiles.now) c.as_slice.ensures.value))
    (areas_near c.args.tech.now c.args.tiles.now c.args.low c.args.high _ c.requires.spread c.in_ok-lows.ensures)

pub overlaps-requires-clause-first_disjoint : goal.overlaps-requires-clause-first_disjoint
overlaps-requires-clause-first_disjoint c =
    subst (λ (v : List Rect). AllPairs AreDisjoint v)
    (sym (c.as_slice-3.ensures.value ∙ c.in_ok-low_areas.ensures ∙ ap (areas_at c.args.tiles.now) c.as_slice.ensures.value))
    (areas_apart c.args.tech.now c.args.tiles.now c.args.low c.args.high _ c.requires.spread c.in_ok-lows.ensures)

pub overlaps-requires-clause-second_proper : goal.overlaps-requires-clause-second_proper
overlaps-requires-clause-second_proper c =
    subst (λ (v : List Rect). All IsProper v)
    (sym (c.as_slice-4.ensures.value ∙ c.in_ok-high_areas.ensures ∙ ap (areas_at c.args.tiles.now) c.as_slice-2.ensures.value))
    (areas_proper c.args.tech.now c.args.tiles.now c.args.high c.args.low _ c.requires.spread c.in_ok-highs.ensures)

pub overlaps-requires-clause-second_near : goal.overlaps-requires-clause-second_near
overlaps-requires-clause-second_near c =
    subst (λ (v : List Rect). All IsNear v)
    (sym (c.as_slice-4.ensures.value ∙ c.in_ok-high_areas.ensures ∙ ap (areas_at c.args.tiles.now) c.as_slice-2.ensures.value))
    (areas_near c.args.tech.now c.args.tiles.now c.args.high c.args.low _ c.requires.spread c.in_ok-highs.ensures)

pub overlaps-requires-clause-second_disjoint : goal.overlaps-requires-clause-second_disjoint
overlaps-requires-clause-second_disjoint c =
    subst (λ (v : List Rect). AllPairs AreDisjoint v)
    (sym (c.as_slice-4.ensures.value ∙ c.in_ok-high_areas.ensures ∙ ap (areas_at c.args.tiles.now) c.as_slice-2.ensures.value))
    (areas_apart c.args.tech.now c.args.tiles.now c.args.high c.args.low _ c.requires.spread c.in_ok-highs.ensures)

pub push_placed-requires : goal.push_placed-requires
push_placed-requires c =
    let tiles = c.args.tiles.now in
    let found = rw (
      c.as_slice-3.ensures.value,
      c.in_ok-low_areas.ensures,
      c.as_slice.ensures.value,
      c.as_slice-4.ensures.value,
      c.in_ok-high_areas.ensures,
      c.as_slice-2.ensures.value,
    ) at c.in_ok-pairs.ensures in
    rw (c.as_slice-5.ensures.value, c.as_slice-6.ensures.value, c.as_slice-7.ensures.value) (overlaps_within tiles _ _ _ found)

pub returns : goal.returns
returns c =
    let tiles = c.args.tiles.now in
    let found = rw (
      c.as_slice-3.ensures.value,
      c.in_ok-low_areas.ensures,
      c.as_slice.ensures.value,
      c.as_slice-4.ensures.value,
      c.in_ok-high_areas.ensures,
      c.as_slice-2.ensures.value,
    ) at c.in_ok-pairs.ensures in
    let added = rw (c.as_slice-5.ensures.value, c.as_slice-6.ensures.value, c.as_slice-7.ensures.value) at c.in_ok-push_placed.ensures in
    adds_stacked c.args.tech.now tiles c.args.low c.args.high _ _ _ _ _ c.requires.well_formed c.requires.typed c.requires.above c.in_ok-lows.ensures
    c.in_ok-highs.ensures found added
