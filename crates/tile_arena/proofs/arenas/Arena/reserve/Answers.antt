use Rattle.tile_arena.proofs.Common.{◌≡◌, refl, sym, ◌∙◌, arith}
use Rattle.tile_arena.specs.Arenas.{count_live}
use Rattle.std.proofs.lemmas.Result.{err_from_is_err_and}
use Rattle.tile_arena.proofs.LiveLaws.{len-live_from}
use Rattle.tile_arena.proofs.arenas.Arena.reserve.Goals as goal

pub returns-then-n-spare-clause-full : goal.returns-then-n-spare-clause-full
returns-then-n-spare-clause-full g c =
    let counted = c.self.invariant.counted in
    let total = c.self.invariant.total in
    let roomy = c.self.invariant.roomy in
    let bounded = c.self.invariant.bounded in
    let count : count_live c.args.self.now ≡ c.self.inside.live = rw (← c.self.view_is) (len-live_from 0 c.self.inside.slots.items ∙ sym counted) in
    (λ e. cc, λ more. absurd (omega arith))

pub returns-then-self-n-clause-full : goal.returns-then-self-n-clause-full
returns-then-self-n-clause-full g c =
    let counted = c.self.invariant.counted in
    let total = c.self.invariant.total in
    let roomy = c.self.invariant.roomy in
    let bounded = c.self.invariant.bounded in
    let count : count_live c.args.self.now ≡ c.self.inside.live = rw (← c.self.view_is) (len-live_from 0 c.self.inside.slots.items ∙ sym counted) in
    (λ _. omega arith, λ _. refl)

pub returns-in_err-add_blocks-clause-full : goal.returns-in_err-add_blocks-clause-full
returns-in_err-add_blocks-clause-full g c =
    let counted = c.self.invariant.counted in
    let total = c.self.invariant.total in
    let roomy = c.self.invariant.roomy in
    let bounded = c.self.invariant.bounded in
    let count : count_live c.args.self.now ≡ c.self.inside.live = rw (← c.self.view_is) (len-live_from 0 c.self.inside.slots.items ∙ sym counted) in
    let p = err_from_is_err_and c.from_residual.result c.from_residual.ensures.1 in
    let other = p.1 in
    (λ e. cc, λ more. absurd (omega arith))

pub returns-clause-full : goal.returns-clause-full
returns-clause-full g c =
    let counted = c.self.invariant.counted in
    let total = c.self.invariant.total in
    let roomy = c.self.invariant.roomy in
    let bounded = c.self.invariant.bounded in
    let count : count_live c.args.self.now ≡ c.self.inside.live = rw (← c.self.view_is) (len-live_from 0 c.self.inside.slots.items ∙ sym counted) in
    (λ e. cc, λ more. absurd (omega arith))
