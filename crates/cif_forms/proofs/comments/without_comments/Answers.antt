use Rattle.cif_forms.proofs.Common.{◌++◌, append-nil, get_or, sym, ap, ◌∙◌, arith, at_start, shown_from}
use Rattle.std.proofs.Math.ListN.{drop_of_length-le}
use Rattle.cif_forms.specs.Comments.{without_comments}
use Rattle.cif_forms.proofs.CommentLaws.{depth-behind, shown-more}
use Rattle.cif_forms.proofs.comments.without_comments.Goals as goal

pub returns : goal.returns
unfolding without_comments
returns c =
    let out = c.loop-byte.out.items in
    let done = drop_of_length-le c.args.text.now {i = c.loop-byte.byte-index} c.loop-byte-test.false in
    sym (append-nil out) ∙ (ap (λ rest. out ++ shown_from c.loop-byte.scan rest) (sym done) ∙ c.loop-byte.invariant.rest)

pub loop-byte-preserved : goal.loop-byte-preserved
loop-byte-preserved c =
    let text = c.args.text.now in
    let scan = c.loop-byte.scan in
    let i = c.loop-byte.byte-index in
    record {
      depth = omega (arith, ap (λ next. next.depth) c.behind-scan.ensures, depth-behind scan (get_or text i 0), c.loop-byte.invariant.depth);
      rest = shown-more text c.loop-byte.out.items c.push.new.self.items (shown_from at_start text) i c.shown.result scan c.behind-scan.result
          c.loop-byte-test.true c.in_ok-push.ensures.items c.shown.ensures c.behind-scan.ensures c.loop-byte.invariant.rest;
    }
