use Rattle.tile_plane.proofs.Common.{◌≡◌, true≢false, FitsSigned, w64, to_z, of_z, refl, sym, ◌∙◌, ap, subst, rules, to_z-of_z, tile_at, IsPut}
use Rattle.tile_plane.proofs.Common.{opposite, Side, with_stitch, along, end_of}
use Rattle.tile_plane.proofs.WalkLaws.{goes_on_or_last}
use Rattle.tile_plane.proofs.MendLaws.{mend_none, mend_begins, mend_taken, mend_ends, mend_falls, mend_last, mend_goes_on}
use Rattle.tile_plane.proofs.mends.mend_side.Goals as goal
use Rattle.tile_plane.proofs.mends.mend_side.Goals.{After-end-at-in-along}

-- where the walk has come to
come : (c : After-end-at-in-along) → to_z w64 (of_z w64 c.end-at-in-along.result) ≡ end_of (along c.args.side) c.get-tile.result.area
come c =
    let fits : FitsSigned w64 c.end-at-in-along.result = search rules in
    to_z-of_z w64 c.end-at-in-along.result fits ∙ c.end-at-in-along.ensures
    ∙ ap (λ (s : Side). end_of s c.get-tile.result.area) c.along-in-along-2.ensures

pub returns-then-is_last : goal.returns-then-is_last
returns-then-is_last c = mend_none _ _ _ _ c.requires.partition c.args.side c.requires.side (c.if-is_last.ensures.0 refl)

pub along-init : goal.along-init
along-init c =
    let fits : FitsSigned w64 c.end-at.result = search rules in
    rw (to_z-of_z w64 c.end-at.result fits, c.end-at.ensures, c.opposite.ensures, c.along-2.ensures)
    (mend_begins _ _ _ _ c.requires.partition c.args.side c.requires.side
    (goes_on_or_last c.args.side _ (λ last. true≢false (sym (c.if-is_last.ensures.1 last)))))

pub get-tile-requires : goal.get-tile-requires
get-tile-requires c =
    mend_taken _ _ _ _ c.requires.partition _ _ _ c.args.side c.requires.side c.along.invariant (c.along-test.ensures.0 refl)

pub set_stitch-requires : goal.set_stitch-requires
set_stitch-requires c =
    mend_taken _ _ _ _ c.requires.partition _ _ _ c.args.side c.requires.side c.along.invariant (c.along-test.ensures.0 refl)

pub returns-then-goes_past : goal.returns-then-goes_past
returns-then-goes_past c =
    mend_last _ _ _ _ c.requires.partition _ _ _ _ c.get-tile.ensures c.args.side c.requires.side c.along.invariant (c.along-test.ensures.0 refl)
    (c.if-goes_past.ensures.0 refl)

pub along-preserved : goal.along-preserved
along-preserved c =
    let put : IsPut c.along.next (with_stitch (opposite c.args.side) (tile_at c.along.store c.along.next) c.args.id) c.along.store c.set_stitch.new.store =
    subst (λ (s : Side). IsPut c.along.next (with_stitch s (tile_at c.along.store c.along.next) c.args.id) c.along.store c.set_stitch.new.store)
    c.opposite-in-along.ensures c.set_stitch.ensures in
    rw (come (goal.at.along-preserved c).After-end-at-in-along, c.stitch-next.ensures, c.along-in-along.ensures)
    (mend_goes_on _ _ _ _ c.requires.partition _ _ _ _ c.get-tile.ensures c.args.side c.set_stitch.new.store c.requires.side c.along.invariant
    (c.along-test.ensures.0 refl) (λ past. true≢false (sym (c.if-goes_past.ensures.1 past))) put)

pub along-smaller : goal.along-smaller
along-smaller c =
    rw (come (goal.at.along-smaller c).After-end-at-in-along)
    (mend_falls _ _ _ _ c.requires.partition _ _ _ _ c.get-tile.ensures c.args.side c.requires.side c.along.invariant (c.along-test.ensures.0 refl))

pub returns : goal.returns
returns c =
    mend_ends _ _ _ _ c.requires.partition _ _ _ c.args.side c.requires.side c.along.invariant (λ more. true≢false (sym (c.along-test.ensures.1 more)))
