use Rattle.rect_trees.proofs.Common.{◌≡◌, map, ◌∙◌, ap, rules, Place, position_of}
use Rattle.std.proofs.Common.{pos}
use Rattle.std.proofs.lemmas.List.{take_all}
use Rattle.rect_trees.proofs.PlaceLaws.{places_within, places_same, places_moved}
use Rattle.rect_trees.proofs.places.in_bands.Goals as goal

pub offset_bounds-rects-position : goal.offset_bounds-rects-position
offset_bounds-rects-position c =
    let none : Place = record { band = 0; along = pos 0; position = 0 } in
    let within = places_within c.args.rects.now c.args.rising.now c.requires c.loop-rank.rank none c.loop-rank-test.true in
    search rules

pub bounds-rects-position : goal.bounds-rects-position
bounds-rects-position c = places_within c.args.rects.now c.args.rising.now c.requires c.loop-rank.rank _ c.loop-rank-test.true

pub returns : goal.returns
returns c =
    let rects = c.args.rects.now in
    let rising = c.args.rising.now in
    let all : map position_of c.loop-rank.places.items ≡ map position_of rising =
    c.loop-rank.invariant ∙ ap (map position_of) (take_all c.loop-rank.rank rising c.loop-rank-test.false) in
    places_moved rects c.loop-rank.places.items _ c.sort_unstable.ensures.permutation
    (places_same rects rising c.loop-rank.places.items all c.requires)
