use Rattle.flatten.proofs.Common.{◌≡◌, ◌<◌, ◌+◌, ℕ, true, false, List, [], ◌∷◌, length, arith, sym, ◌∙◌, ap, subst, inl, inr, refl, length-append}
use Rattle.flatten.proofs.Common.{Some, slice_get, slice_get_read, same_Some, get_or_from_slice_get, slice_get-push_cases, CellExt, CellSpots}
use Rattle.flatten.proofs.Common.{AreSpotsIn, cell_at, element_at}
use Rattle.flatten.proofs.SpotLaws.{flat_here}
use Rattle.flatten.proofs.spots.cell_spots.Goals as goal

pub loop-cell-preserved : goal.loop-cell-preserved
loop-cell-preserved c =
    let spots = c.loop-cell.spots.items in
    let pushed = c.in_ok-push.ensures.items in
    let long = c.loop-cell.invariant.long in
    record {
      long = ap length pushed ∙ length-append spots (c.in_ok-spots_at.field-0 ∷ []) ∙ ap (λ n. n + 1) long;
      each = λ cell ext one at found reached. elim (slice_get-push_cases spots c.in_ok-spots_at.field-0 one cell
          (ap (λ (l : List CellSpots). slice_get l cell) (sym pushed) ∙ at)) [
            | inl was ↦ c.loop-cell.invariant.each cell ext one was found reached
            | inr now ↦
                (let here : cell ≡ c.loop-cell.cell = now.0 ∙ long in
                let within : c.loop-cell.cell < length c.in_ok-reached.reached.items =
                (let all = c.in_ok-reached.ensures.long in let same = ap length c.requires.exts in let inside = c.loop-cell-test.true in
                omega (arith, all, same, inside)) in
                let read : c.index.result.now ≡ true = same_Some c.index.result.now true
                (sym (slice_get_read c.in_ok-reached.reached.items
                (length c.in_ok-reached.reached.items) c.loop-cell.cell c.index.result.now refl within c.index.ensures)
                ∙ ap (slice_get c.in_ok-reached.reached.items) (sym here) ∙ reached) in
                let record_ : c.index-exts-cell.result ≡ ext = c.index-exts-cell.is
                ∙ get_or_from_slice_get c.args.exts.now c.loop-cell.cell ext c.index-exts-cell.result (ap (slice_get c.args.exts.now) (sym here) ∙ found) in
                let P : ℕ → Type 0 = λ k. AreSpotsIn c.args.names.now k ext one in
                let Q : CellExt → Type 0 = λ e. AreSpotsIn c.args.names.now c.loop-cell.cell e c.in_ok-spots_at.field-0 in
                let R : CellSpots → Type 0 = AreSpotsIn c.args.names.now c.loop-cell.cell ext in
                subst P (sym here) (subst R now.1 (subst Q record_ (c.in_ok-spots_at.ensures read))))
          ];
    }

pub returns : goal.returns
returns c =
    let names = c.args.names.now in
    let past = c.loop-cell-test.false in
    let upto = c.loop-cell.auto.cell-end in
    let exts : length c.args.exts.now ≡ length names.exts.now = ap length c.requires.exts in
    let long = c.loop-cell.invariant.long in
    record {
      long = omega (arith, past, upto, exts, long);
      each = λ number one inside at.
          (let here = flat_here names c.requires.names number inside in
          let found : slice_get names.exts.now (cell_at names number) ≡ Some (element_at names number).ext =
          ap (slice_get names.exts.now) here.cell ∙ here.of.found in
          c.loop-cell.invariant.each (cell_at names number) (element_at names number).ext one at
          (ap (λ (l : List CellExt). slice_get l (cell_at names number)) c.requires.exts ∙ found)
          (c.in_ok-reached.ensures.whole number inside));
    }
