use Rattle.full_names.proofs.Common.{◌+◌, List, Vec, Global, get_or, sym, subst, ap, ◌∙◌, false≢true, slice_get-get_or, GlobalName, EndsWith}
use Rattle.full_names.proofs.GlobalLaws.{AreOnceBelow, once_none, once_again, once_new, once_all}
use Rattle.full_names.proofs.Lookups.{no_global}
use Rattle.full_names.proofs.globals.each_once.Goals as goal
use Rattle.full_names.proofs.globals.each_once.Goals.{then-not-ends_with+in_ok-push, else-not-ends_with}

pub loop-name-init : goal.loop-name-init
loop-name-init c = once_none c.args.found.now c.new-names.result.items c.new-names.ensures.items

pub loop-name-preserved : goal.loop-name-preserved
loop-name-preserved c =
    let found = c.args.found.now in
    let k = c.loop-name.name-index in
    let name : GlobalName = get_or found k no_global in
    let here = slice_get-get_or found k no_global c.loop-name-test.true in
    let names = c.loop-name.names.items in
    let slice = c.as_slice.ensures.value in
    elim c.if-not-ends_with.branch [
      | then-not-ends_with+in_ok-push w ↦
          once_new found c.requires.in_order c.requires.long k name here names c.loop-name.invariant
          (λ ends. false≢true (sym w.if-not-ends_with.true
          ∙ c.ends_with.ensures.1 (subst (λ (l : List GlobalName). EndsWith l name.text.now) (sym slice) ends)))
          c.if-not-ends_with.names.items
          (ap (λ (v : Vec GlobalName Global). v.items) w.names-is ∙ w.in_ok-push.ensures.items)
      | else-not-ends_with w ↦
          subst (AreOnceBelow found (k + 1)) (sym (ap (λ (v : Vec GlobalName Global). v.items) w.names-is))
          (once_again found c.requires.in_order c.requires.long k name here names c.loop-name.invariant
          (subst (λ (l : List GlobalName). EndsWith l name.text.now) slice (c.ends_with.ensures.0 w.if-not-ends_with.false)))
    ]

pub returns : goal.returns
returns c = once_all c.args.found.now c.loop-name.name-index c.loop-name.names.items c.loop-name-test.false c.loop-name.invariant
