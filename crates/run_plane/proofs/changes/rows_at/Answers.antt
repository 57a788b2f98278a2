use Rattle.run_plane.proofs.Common.{◌≡◌, ◌+◌, ℤ, pos, List, [], ◌∷◌, ◌++◌, take, get_or, refl, sym, subst, rules, take_more, Row, runs_from}
use Rattle.run_plane.proofs.Common.{AreRowsFor}
use Rattle.run_plane.proofs.BandLaws.{rows_for_push}
use Rattle.run_plane.proofs.SettingLaws.{plain_row}
use Rattle.run_plane.proofs.changes.rows_at.Goals as goal

pub loop-ylo-preserved : goal.loop-ylo-preserved
loop-ylo-preserved c =
    let rows = c.args.rows.now in
    let heights = c.args.heights.now in
    let k = c.loop-ylo.ylo-index in
    let height = get_or heights k (pos 0) in
    let row : Row = record { ylo = height; runs = c.of.result } in
    let runs : c.of.result ≡ runs_from [] rows height = search rules in
    let pushed = rows_for_push rows [] (take k heights) c.loop-ylo.found.items height row c.loop-ylo.invariant refl (plain_row rows row c.requires runs) in
    let items : c.push.new.self.items ≡ c.loop-ylo.found.items ++ row ∷ [] = search rules in
    subst (AreRowsFor rows [] (take (k + 1) heights)) (sym items)
    (subst (λ (done : List ℤ). AreRowsFor rows [] done (c.loop-ylo.found.items ++ row ∷ [])) (sym (take_more heights k (pos 0) c.loop-ylo-test.true)) pushed)
