use Rattle.element_tree.proofs.Common.{ℕ, ◌<◌, ◌+◌, ◌-◌, ◌++◌, List, length, get_or, sym, ◌∙◌, ap, subst, arith, rules, Branch, TreeElement}
use Rattle.element_tree.proofs.Common.{flats_below, HasRoom}
use Rattle.element_tree.specs.steps.Links.{links_of}
use Rattle.element_tree.proofs.Growth.{added_more, added_all, added_none, room_step, room_rank, room_below, row_long, length-row}
use Rattle.element_tree.proofs.Growth.{row_read, link_in, link_read}
use Rattle.element_tree.proofs.elements.+add_elements.Goals as goal

abbrev none : Branch
none = record { child = 0; step = 0; rank_step = 0 }

pub returns-then-levels-eq0-clause-added : goal.returns-then-levels-eq0-clause-added
returns-then-levels-eq0-clause-added t c =
    added_none c.args.exts.now c.args.branches.now c.args.levels c.args.number c.args.element.now c.args.elements.now.items c.if-levels-eq0.true

-- a use for each branch
fits : (t : ℕ) (c : goal.In-loop-at t) → c.loop-at.at < length c.items-uses.result.now
fits t c =
    let is = row_read _ _ _ _ _ _ _ _ _ c.requires.room c.index-exts-element.is c.items-uses.ensures c.index-branches-element.is c.items-row.ensures in
    let long = row_long _ _ _ _ _ _ _ c.requires.room is in
    omega (arith, long)

pub offset_bounds-uses-at : goal.offset_bounds-uses-at
offset_bounds-uses-at t c = let within = fits t c in search rules

pub bounds-uses-at : goal.bounds-uses-at
bounds-uses-at t c = fits t c

pub element_below-requires-clause-placed : goal.element_below-requires-clause-placed
element_below-requires-clause-placed t c =
    let here = link_in _ _ _ _ _ _ _ _ _ _ _ c.requires.room c.index-exts-element.is c.items-uses.ensures c.index-branches-element.is c.items-row.ensures
    c.loop-at-test.true c.index-uses-at.is none in
    c.requires.room.forest.placed _ _ c.requires.room.fits here

pub element_below-requires-clause-ranks : goal.element_below-requires-clause-ranks
element_below-requires-clause-ranks t c =
    let here = link_in _ _ _ _ _ _ _ _ _ _ _ c.requires.room c.index-exts-element.is c.items-uses.ensures c.index-branches-element.is c.items-row.ensures
    c.loop-at-test.true c.index-uses-at.is none in
    let rank = room_rank _ _ _ _ _ c.requires.room _ here in
    omega (arith, rank, c.requires.room.ranks)

pub overflow_add-step : goal.overflow_add-step
overflow_add-step t c =
    let here = link_in _ _ _ _ _ _ _ _ _ _ _ c.requires.room c.index-exts-element.is c.items-uses.ensures c.index-branches-element.is c.items-row.ensures
    c.loop-at-test.true c.index-uses-at.is none in
    let step = room_step _ _ _ _ _ c.requires.room _ here in
    omega (arith, step, c.requires.room.numbers)

pub add_elements-requires : goal.add_elements-requires
add_elements-requires t c =
    let here = link_in _ _ _ _ _ _ _ _ _ _ _ c.requires.room c.index-exts-element.is c.items-uses.ensures c.index-branches-element.is c.items-row.ensures
    c.loop-at-test.true c.index-uses-at.is none in
    let below = room_below _ _ _ _ _ c.requires.room (omega arith) _ here in
    let room = HasRoom c.args.exts.now c.args.branches.now (c.args.levels - 1)
    (c.args.number + (get_or c.items-row.result.now c.loop-at.at none).step) in
    (omega arith, subst room (sym c.in_ok-below.ensures.below) below)

pub loop-at-preserved : goal.loop-at-preserved
loop-at-preserved t c =
    let here = link_read _ _ _ _ _ _ _ _ _ _ _ c.requires.room c.index-exts-element.is c.items-uses.ensures c.index-branches-element.is c.items-row.ensures
    c.loop-at-test.true c.index-uses-at.is none in
    let behind : TreeElement → List TreeElement = flats_below (c.args.levels - 1) (links_of c.args.exts.now c.args.branches.now)
    (c.args.number + (get_or c.items-row.result.now c.loop-at.at none).step) in
    added_more c.args.exts.now c.args.branches.now (c.args.levels - 1) c.args.number c.args.element.now c.loop-at.at _ c.args.elements.now.items
    c.loop-at.elements.items c.add_elements.new.elements.items here c.loop-at.invariant
    (c.in_ok-add_elements.ensures.added ∙ ap (λ z. c.loop-at.elements.items ++ behind z) c.in_ok-below.ensures.below)

pub returns-clause-added : goal.returns-clause-added
returns-clause-added t c =
    let is = row_read _ _ _ _ _ _ _ _ _ c.requires.room c.index-exts-element.is c.items-uses.ensures c.index-branches-element.is c.items-row.ensures in
    let long = length-row _ _ _ _ _ _ _ c.requires.room is in
    added_all c.args.exts.now c.args.branches.now c.args.levels c.args.number c.args.element.now c.loop-at.at c.args.elements.now.items c.loop-at.elements.items
    (omega arith) (omega (arith, long)) c.loop-at.invariant
