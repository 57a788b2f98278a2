use Rattle.run_plane.proofs.Common.{◌≡◌, inl, inr, refl, sym, ◌∙◌, ap, subst, rules, List, [], ◌∷◌, ◌++◌, Run}
use Rattle.run_plane.specs.steps.Changes.{parts_before, parts_after, AreRunsWith}
use Rattle.run_plane.proofs.RunLaws.{IsMiddle, set_runs}
use Rattle.run_plane.proofs.runs.with_piece.Goals as goal
use Rattle.run_plane.proofs.runs.with_piece.Goals.{then-piece-ne0+in_ok-push, else-piece-ne0}

pub returns : goal.returns
returns c =
    let piece = c.args.piece.now in
    let runs = c.args.runs.now in
    let left = parts_before piece.area.xlo runs in
    let right = parts_after piece.area.xhi runs in
    let after_is : c.in_ok-after.after.items ≡ right = search rules in
    let P : List Run → Type 0 = λ found. AreRunsWith piece runs found in
    let with_middle : (middle : List Run) → IsMiddle piece middle → c.if-piece-ne0.changed.items ≡ left ++ middle → P c.append.new.self.items =
    λ middle is e. subst P (sym (c.in_ok-append.ensures.items ∙ ap (λ (v : List Run). v ++ c.in_ok-after.after.items) e
    ∙ ap (λ (v : List Run). (left ++ middle) ++ v) after_is))
    (set_runs piece runs middle c.requires.proper c.requires.near c.requires.ordered is) in
    elim c.if-piece-ne0.branch [
      | then-piece-ne0+in_ok-push w ↦ with_middle (record { xlo = piece.area.xlo; xhi = piece.area.xhi; value = piece.value } ∷ [])
          (inr (w.if-piece-ne0.true, refl)) (search rules)
      | else-piece-ne0 w ↦ with_middle [] (inl (w.if-piece-ne0.false, refl)) (search rules)
    ]
