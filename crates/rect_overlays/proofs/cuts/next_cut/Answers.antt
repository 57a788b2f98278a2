use Rattle.rect_overlays.proofs.Common.{◌∙◌, ◌<◌, length, sym, subst, Cut, goes_round_at, AllGoRound}
use Rattle.std.proofs.Common.{not, rules}
use Rattle.std.specs.Prelude.{Option, IfNone}
use Rattle.rect_overlays.proofs.Lists.{all_go_round, found_below, found_meets, found_is_partial}
use Rattle.rect_overlays.proofs.cuts.next_cut.Goals as goal

pub returns-in_err-partial-clause-none : goal.returns-in_err-partial-clause-none
returns-in_err-partial-clause-none c =
    let rects = c.args.rects.now in
    let area = c.args.area.now in
    let members = c.args.members.now in
    subst (λ (cut : Option Cut). IfNone cut (AllGoRound rects area members)) (sym c.from_residual.ensures)
    (all_go_round rects area members (sym c.first_partial.ensures ∙ c.in_err-partial.was))

pub bounds-rects-partial : goal.bounds-rects-partial
bounds-rects-partial c =
    found_below (λ member. not (goes_round_at c.args.rects.now c.args.area.now member)) c.args.members.now (length c.args.rects.now)
    c.in_ok-partial.partial c.requires.within (sym c.first_partial.ensures ∙ c.in_ok-partial.was)

pub offset_bounds-rects-partial : goal.offset_bounds-rects-partial
offset_bounds-rects-partial c =
    let below : c.in_ok-partial.partial < length c.args.rects.now =
    found_below (λ member. not (goes_round_at c.args.rects.now c.args.area.now member)) c.args.members.now (length c.args.rects.now)
    c.in_ok-partial.partial c.requires.within (sym c.first_partial.ensures ∙ c.in_ok-partial.was) in
    search (rules, below)

pub best_cut-requires-clause-meets : goal.best_cut-requires-clause-meets
best_cut-requires-clause-meets c =
    found_meets c.args.rects.now c.args.area.now c.args.members.now c.in_ok-partial.partial
    (sym c.first_partial.ensures ∙ c.in_ok-partial.was) c.requires.meet

pub best_cut-requires-clause-partial : goal.best_cut-requires-clause-partial
best_cut-requires-clause-partial c =
    found_is_partial c.args.rects.now c.args.area.now c.args.members.now c.in_ok-partial.partial
    (sym c.first_partial.ensures ∙ c.in_ok-partial.was)
