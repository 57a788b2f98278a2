-- One tile more is tried.
use Rattle.flood_nodes.proofs.Common.{◌+◌, ℕ, sym, ◌∙◌, ap, subst, arith, Lists, Lists-iff, has_other_images, IsCrossing, tile_at}
use Rattle.std.proofs.Common.{Vec, Global}
use Rattle.flood_nodes.proofs.LinkLaws.{PassesBelow, passes_one_more, passes_no_more}
use Rattle.flood_nodes.proofs.linking.crossings.Goals as goal
use Rattle.flood_nodes.proofs.linking.crossings.Goals.{then-has_other_images+in_ok-push, else-has_other_images}

pub loop-place-preserved : goal.loop-place-preserved
loop-place-preserved c =
    let test = λ (k : ℕ). has_other_images c.args.tech.now (tile_at c.args.tiles.now k).kind.0 in
    let n = c.loop-place.place in
    elim c.if-has_other_images.branch [
      | then-has_other_images+in_ok-push w ↦ subst (Lists (PassesBelow test (n + 1))) (sym (ap (λ (v : Vec ℕ Global). v.items) w.places-is
          ∙ w.in_ok-push.ensures.items))
          (passes_one_more test n _ (sym c.has_other_images.ensures ∙ w.if-has_other_images.true) c.loop-place.invariant)
      | else-has_other_images w ↦ subst (Lists (PassesBelow test (n + 1))) (sym (ap (λ (v : Vec ℕ Global). v.items) w.places-is))
          (passes_no_more test n _ (sym c.has_other_images.ensures ∙ w.if-has_other_images.false) c.loop-place.invariant)
    ]

pub returns : goal.returns
returns c =
    let raw = c.args.tech.now in
    let tiles = c.args.tiles.now in
    let past = c.loop-place-test.false in
    let here = c.loop-place.auto in
    Lists-iff (PassesBelow (λ (k : ℕ). has_other_images raw (tile_at tiles k).kind.0) c.loop-place.place) (IsCrossing raw tiles) c.loop-place.places.items
    (λ k p. let less = p.0 in (omega (arith, less), p.1)) (λ k p. let less = p.0 in (omega (arith, less, past), p.1)) c.loop-place.invariant
