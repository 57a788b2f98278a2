use Rattle.cell_tree.proofs.Common.{◌≡◌, ℕ, List, inl, inr, arith, ap, sym, ◌∙◌, cases_eq, same_Some, slice_get_within, UseBody}
use Rattle.std.specs.Prelude.{slice_get}
use Rattle.cell_tree.proofs.SizeLaws.{body_at}
use Rattle.cell_tree.proofs.use_tables.UseTable.has_child.Goals as goal

pub loop-k-preserved : goal.loop-k-preserved
loop-k-preserved c j entry below stands same =
    let at = body_at c.args.self.now.entries c.loop-k.k c.body.result.now c.body.ensures in
    elim (cases_eq j c.loop-k.k) [
      | inl here ↦
          let found : (at.0, c.body.result.now) ≡ entry = same_Some _ _ (sym at.1 ∙ ap (slice_get c.args.self.now.entries) (sym here) ∙ stands) in
          c.if-body-child.false (ap (λ (e : List ℕ × UseBody). e.1.child.0) found ∙ same)
      | inr before ↦ c.loop-k.invariant j entry (omega (arith, below, before)) stands same
    ]

pub returns : goal.returns
returns c = (
  (λ never. absurd (cc)),
  (λ has. absurd (c.loop-k.invariant has.k has.entry
      (omega (arith, slice_get_within c.args.self.now.entries has.k has.entry has.stands, c.loop-k-test.false, c.len-k-end.ensures)) has.stands has.same)),
)
