use Rattle.element_index.proofs.Common.{◌≡◌, false, ℤ, List, to_z, of_z, sym, ap, ◌∙◌, subst, int_lt, w64, to_z-of_z, list_all, range_with_len, Rect}
use Rattle.element_index.proofs.Common.{indices, MissesAll, IsMeeting, UseElements, names_in, raised, stands_where_found, stands_nowhere}
use Rattle.std.proofs.Common.{FitsSigned, rules}
use Rattle.element_index.proofs.SquareLaws.{kept_short}
use Rattle.element_index.proofs.BlockLaws.{kept_square}
use Rattle.element_index.proofs.RowLaws.{row_test, row-failed, no_row, row_missed, row_told}
use Rattle.element_index.proofs.known.KnownElements.has_row.Goals as goal

pub returns-in_default : goal.returns-in_default
returns-in_default c =
    let ids = c.self.inside.ids in
    let uses = c.self.inside.uses.items in
    let id = c.args.id.now in
    let lo = c.args.lo in
    let hi = c.args.hi in
    let j = c.args.j in
    let missing = no_row ids uses c.self.inside.strips c.self.invariant id lo hi j c.requires.lo_fits c.requires.hi_fits c.requires.j_fits
    c.requires.ordered (stands_nowhere ids id (sym c.in_default.ensures)) in
    sym (subst (λ (now : List UseElements). list_all (row_test (names_in now) id lo j) (range_with_len 0 (indices lo hi)) ≡ false) c.self.view_is
    (row-failed (names_in uses) id lo hi j missing))

pub returns-in-Some-some_meeting : goal.returns-in-Some-some_meeting
returns-in-Some-some_meeting c =
    let ids = c.self.inside.ids in
    let uses = c.self.inside.uses.items in
    let strips = c.self.inside.strips in
    let id = c.args.id.now in
    let lo = c.args.lo in
    let hi = c.args.hi in
    let j = c.args.j in
    let number = c.in-Some.number in
    let strip = c.in-Some-some_meeting.strip in
    let area =
    c.raised.ensures ∙ ap (λ (square : Rect). raised square number) (c.one_square.ensures ∙ kept_square lo j c.requires.lo_fits c.requires.j_fits) in
    let meeting = subst (λ (square : Rect). IsMeeting strips square strip) area c.in-Some-some_meeting.ensures.found in
    let told =
    row_told ids uses strips c.self.invariant id lo hi j c.requires.lo_fits c.requires.hi_fits c.requires.j_fits c.requires.ordered number
    (stands_where_found ids id number (sym c.in-Some.ensures)) strip meeting in
    let fits : FitsSigned w64 strip.xhi = search rules in
    ap (λ (z : ℤ). int_lt z (to_z w64 (of_z w64 strip.xhi))) (kept_short hi c.requires.hi_fits) ∙ ap (int_lt hi) (to_z-of_z w64 strip.xhi fits)
    ∙ subst (λ (now : List UseElements). int_lt hi strip.xhi ≡ list_all (row_test (names_in now) id lo j) (range_with_len 0 (indices lo hi)))
    c.self.view_is told

pub returns-in-None : goal.returns-in-None
returns-in-None c =
    let ids = c.self.inside.ids in
    let uses = c.self.inside.uses.items in
    let strips = c.self.inside.strips in
    let id = c.args.id.now in
    let lo = c.args.lo in
    let hi = c.args.hi in
    let j = c.args.j in
    let number = c.in-Some.number in
    let area =
    c.raised.ensures ∙ ap (λ (square : Rect). raised square number) (c.one_square.ensures ∙ kept_square lo j c.requires.lo_fits c.requires.j_fits) in
    let missed = subst (MissesAll strips) area c.in-None.ensures.none in
    let missing = row_missed ids uses strips c.self.invariant id lo hi j c.requires.lo_fits c.requires.hi_fits c.requires.j_fits
    c.requires.ordered number (stands_where_found ids id number (sym c.in-Some.ensures)) missed in
    sym (subst (λ (now : List UseElements). list_all (row_test (names_in now) id lo j) (range_with_len 0 (indices lo hi)) ≡ false) c.self.view_is
    (row-failed (names_in uses) id lo hi j missing))
