use Rattle.run_plane.proofs.Common.{◌≡◌, ◌+◌, [], ◌∷◌, ◌++◌, take, get_or, ℕ, ℤ, sym, ◌∙◌, ap, subst, rules, Option, Some, MatchOption, int_min}
use Rattle.run_plane.proofs.Common.{int_max, Range, take_more, Spans, no_piece}
use Rattle.run_plane.proofs.SettingLaws.{spans_one, spans_more}
use Rattle.run_plane.proofs.changes.span_of.Goals as goal
use Rattle.run_plane.proofs.changes.span_of.Goals.{in-Some, in-None}

pub loop-piece-preserved : goal.loop-piece-preserved
loop-piece-preserved c =
    let pieces = c.args.pieces.now in
    let k = c.loop-piece.piece-index in
    let piece = get_or pieces k no_piece in
    let proper = c.requires.proper k no_piece c.loop-piece-test.true in
    let near = c.requires.near k no_piece c.loop-piece-test.true in
    let more = take_more pieces k no_piece c.loop-piece-test.true in
    let Holds : ℕ → Option (Range ℤ) → Type 0 = λ n span. MatchOption span (n ≡ 0) (λ found. Spans found (take n pieces)) in
    elim c.match-span.branch [
      | in-Some w ↦ (
          let old = w.in-Some.old in
          let is : c.match-span.span ≡ Some (record { start = int_min old.start piece.area.ylo; end = int_max old.end piece.area.yhi }) = search rules in
          let before : Spans old (take k pieces) = subst (Holds k) w.in-Some.is c.loop-piece.invariant in
          subst (Holds (k + 1)) (sym is) (subst (Spans _) (sym more) (spans_more old (take k pieces) piece near before)))
      | in-None w ↦ (
          let is : c.match-span.span ≡ Some (record { start = piece.area.ylo; end = piece.area.yhi }) = search rules in
          let first : k ≡ 0 = subst (Holds k) w.in-None.is c.loop-piece.invariant in
          let one : take (k + 1) pieces ≡ piece ∷ [] = more ∙ ap (λ (n : ℕ). take n pieces ++ piece ∷ []) first in
          subst (Holds (k + 1)) (sym is) (subst (Spans _) (sym one) (spans_one piece proper near)))
    ]
