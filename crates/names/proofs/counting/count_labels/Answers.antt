use Rattle.names.proofs.Common.{ap, subst, arith, nat_cmp, option_map, slice_cmp, get, is_at, get_or_read, Label, Attachment, no_label, text_at}
use Rattle.names.proofs.Common.{region_found, IsCounted}
use Rattle.std.specs.Map.{lookup}
use Rattle.names.proofs.CountingLaws.{counted_none, counted_nowhere, counted_one, counted_all}
use Rattle.names.proofs.counting.count_labels.Goals as goal
use Rattle.names.proofs.counting.count_labels.Goals.{in-None, in-Some+in_ok-region-in-Some}

pub loop-index-init : goal.loop-index-init
loop-index-init c = counted_none (text_at c.args.labels.now) (region_found c.args.found.now) (get (slice_cmp nat_cmp) c.new-firsts.result)
    c.in_ok-named.named.items c.new-pairs.result.items
    (λ text. ap (lookup (is_at (slice_cmp nat_cmp text))) c.new-firsts.ensures.empty) c.in_ok-named.ensures.items c.new-pairs.ensures.items

pub loop-index-preserved : goal.loop-index-preserved
loop-index-preserved c =
    let texts = text_at c.args.labels.now in
    let founds = region_found c.args.found.now in
    let n = c.loop-index.index in
    elim c.match-found-index.branch [
      | in-None w ↦ rw (w.firsts-is, w.pairs-is) (counted_nowhere texts founds n (get (slice_cmp nat_cmp) c.loop-index.firsts) c.loop-index.named.items
          c.push.new.self.items c.loop-index.pairs.items (ap (option_map (λ (a : Attachment). a.region)) w.in-None.is)
          (rw w.region-is at c.in_ok-push.ensures.items) c.loop-index.invariant)
      | in-Some+in_ok-region-in-Some w ↦
          let label = c.index-labels-index.result in
          let region = w.in-Some.attachment.region in
          let old = get (slice_cmp nat_cmp) c.loop-index.firsts in
          let now = get (slice_cmp nat_cmp) w.count_label.new.firsts in
          let counts : IsCounted (texts n) region old now c.loop-index.pairs.items w.count_label.new.pairs.items w.in_ok-region-in-Some.region =
          subst (λ (v : Label). IsCounted v.text region old now c.loop-index.pairs.items w.count_label.new.pairs.items w.in_ok-region-in-Some.region)
          (get_or_read c.args.labels.now n label c.loop-index-test.true c.index-labels-index.is no_label) w.in_ok-region-in-Some.ensures in
          rw (w.firsts-is, w.pairs-is) (counted_one texts founds n region old now c.loop-index.named.items c.push.new.self.items c.loop-index.pairs.items
          w.count_label.new.pairs.items w.in_ok-region-in-Some.region (ap (option_map (λ (a : Attachment). a.region)) w.in-Some.is) counts
          (rw w.region-is at c.in_ok-push.ensures.items) c.loop-index.invariant)
    ]

pub returns : goal.returns
returns c =
    let past = c.loop-index-test.false in
    let here = c.loop-index.auto.index-end in
    counted_all (text_at c.args.labels.now) (region_found c.args.found.now) c.loop-index.index _ (get (slice_cmp nat_cmp) c.loop-index.firsts)
    c.loop-index.named.items c.loop-index.pairs.items (omega (arith, past, here)) c.loop-index.invariant
