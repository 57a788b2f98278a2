use Rattle.names.proofs.Common.{◌≡◌, ◌++◌, ◌∷◌, [], List, ℕ, ◌∙◌, ap, arith, get_or_read, Label, no_label, text_at, key_at}
use Rattle.std.proofs.lemmas.Bool.{not_from_true, not_from_false}
use Rattle.names.proofs.TextLists.{IsLeftBelow, texts_by, texts_none, texts_same, texts_more, none_from_test, some_from_test}
use Rattle.names.proofs.nodes.unattached.Goals as goal
use Rattle.names.proofs.nodes.unattached.Goals.{then-is_none+in_ok-copy+in_ok-push, else-is_none}

pub loop-index-init : goal.loop-index-init
loop-index-init c = texts_none c.args.labels.now c.args.named.now _ c.new-texts.ensures.items

pub loop-index-preserved : goal.loop-index-preserved
loop-index-preserved c =
    let labels = c.args.labels.now in
    let named = c.args.named.now in
    let n = c.loop-index.index in
    let texts = c.loop-index.texts.items in
    let label = c.index-labels-index.result in
    let text : label.text ≡ text_at labels n =
    ap (λ (v : Label). v.text) (get_or_read labels n label c.loop-index-test.true c.index-labels-index.is no_label) in
    elim c.if-is_none.branch [
      | then-is_none+in_ok-copy+in_ok-push w ↦
          let none = none_from_test (key_at named n) (c.is_none.ensures ∙ not_from_true c.is_none.result w.if-is_none.true) in
          rw w.texts-is (texts_more labels named n texts w.push.new.self.items none
          (w.in_ok-push.ensures.items ∙ ap (λ (v : List ℕ). texts ++ v ∷ []) (w.in_ok-copy.ensures ∙ text)) c.loop-index.invariant)
      | else-is_none w ↦
          let some = some_from_test (key_at named n) (c.is_none.ensures ∙ not_from_false c.is_none.result w.if-is_none.false) in
          rw w.texts-is (texts_same labels named n some.0 texts some.1 c.loop-index.invariant)
    ]

pub returns : goal.returns
returns c =
    let named = c.args.named.now in
    let n = c.loop-index.index in
    let past = c.loop-index-test.false in
    let here = c.loop-index.auto.index-end in
    texts_by c.args.labels.now (IsLeftBelow named n) _ c.loop-index.texts.items
    (λ k left. let less = left.0 in (omega (arith, less, here), left.1)) (λ k left. let less = left.0 in (omega (arith, less, past), left.1))
    c.loop-index.invariant
