use Rattle.run_plane.proofs.Common.{◌≡◌, ℤ, List, [], ◌∷◌, ◌++◌, map, take, get_or, append_assoc, sym, ◌∙◌, ap, rules, w64, pos, to_z-of_z}
use Rattle.run_plane.proofs.Common.{take_more, Piece, Run, piece_of}
use mir.Val.{to_z, of_z}
use Rattle.std.proofs.lemmas.List.{take_all, map-append}
use Rattle.run_plane.proofs.listings.push_runs.Goals as goal

abbrev no_run : Run
no_run = record { xlo = pos 0; xhi = pos 0; value = 0 }

pub loop-run-preserved : goal.loop-run-preserved
loop-run-preserved c =
    let runs = c.args.runs.now in
    let k = c.loop-run.run-index in
    let f = piece_of (to_z w64 (of_z w64 c.args.ylo)) (to_z w64 (of_z w64 c.args.yhi)) in
    let before = c.args.pieces.now.items in
    let pushed : c.push.new.self.items ≡ c.loop-run.pieces.items ++ f (get_or runs k no_run) ∷ [] = search rules in
    pushed ∙ ap (λ (v : List Piece). v ++ f (get_or runs k no_run) ∷ []) c.loop-run.invariant
    ∙ append_assoc before (map f (take k runs)) (f (get_or runs k no_run) ∷ [])
    ∙ ap (λ (v : List Piece). before ++ v) (sym (ap (map f) (take_more runs k no_run c.loop-run-test.true) ∙ map-append f (take k runs)
    (get_or runs k no_run ∷ [])))

pub returns : goal.returns
returns c =
    let runs = c.args.runs.now in
    let before = c.args.pieces.now.items in
    c.loop-run.invariant
    ∙ ap (λ (y : ℤ). before ++ map (piece_of y (to_z w64 (of_z w64 c.args.yhi))) (take c.loop-run.run-index runs)) (to_z-of_z w64 c.args.ylo c.ranges.ylo)
    ∙ ap (λ (y : ℤ). before ++ map (piece_of c.args.ylo y) (take c.loop-run.run-index runs)) (to_z-of_z w64 c.args.yhi c.ranges.yhi)
    ∙ ap (λ (v : List Run). before ++ map (piece_of c.args.ylo c.args.yhi) v) (take_all c.loop-run.run-index runs c.loop-run-test.false)
